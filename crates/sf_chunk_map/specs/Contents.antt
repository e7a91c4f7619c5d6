-- Stored contents and their parts (after VLDB 2008; parts are our own).
use Rattle.std.specs.Prelude.{ℕ, ◌+◌, ◌≤◌, List, length, take, drop}
use Rattle.sf_types.specs.declared.limits.TheConstants.{CONTENT_BYTES, OBJECT_BYTES}
use Rattle.sf_types.specs.Values.Marks.{Marked}
use Rattle.sf_types.specs.Space.Cuts.{stored_bytes}

-- A stored content: its birth and its bytes.
pub record StoredContent : Type 0 where
  pub birth : ℕ
  pub bytes : List ℕ

-- A content has 1 to CONTENT_BYTES bytes.
pub record IsContent (content : StoredContent) : Type 0 where
  pub some : 1 ≤ length content.bytes
  pub most : length content.bytes ≤ CONTENT_BYTES

-- A part of a stored content: so many of its bytes from an index on, counted from 0.
pub record ContentPart : Type 0 where
  pub content : StoredContent
  pub from : ℕ
  pub len : ℕ

-- A part has a byte, and lies in its content.
pub record IsPart (part : ContentPart) : Type 0 where
  pub some : 1 ≤ part.len
  pub within : part.from + part.len ≤ length part.content.bytes

-- So many items of a list from an index on, counted from 0.
abbrev pub window : {X : Type 0} → ℕ → ℕ → List X → List X
window from len items = take len (drop from items)

-- The bytes of a part, marked as stored.
abbrev pub bytes_of_part : ContentPart → List Marked
bytes_of_part part = window part.from part.len (stored_bytes part.content.birth part.content.bytes)

-- A window has a byte and lies in bytes of an object.
pub record IsWindow (from len : ℕ) (bytes : List ℕ) : Type 0 where
  pub some : 1 ≤ len
  pub within : from + len ≤ length bytes
  pub most : length bytes ≤ OBJECT_BYTES
