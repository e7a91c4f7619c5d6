-- What is known of the cuts of a flush, and the blocks that they want (our own, after the deduplication of VLDB 2008).
use Rattle.std.specs.Prelude.{ℕ, ◌+◌, Bool, false, not, ◌&&◌, List, [], ◌∷◌, length, sum_by, is_some, is_none, Option, None, if◌then◌else◌}
use Rattle.std.specs.Option.{option_map_or}
use Rattle.sf_types.specs.Space.Contents.{blocks_of}
use Rattle.sf_types.specs.Space.Cuts.{Cut}
use Rattle.sf_dedup.specs.Contents.{Contents, birth_with, with_content}
use Rattle.sf_stock.specs.Stocks.{Stocked, shared_birth}
use Rattle.sf_store_half.specs.declared.cut_notes.CutNote.{CutNote}

-- A cut by its bytes, and whether it is sharing.
abbrev pub cut_of : List ℕ → Bool → Cut
cut_of bytes is_sharing = record { bytes = bytes; is_sharing = is_sharing }

-- The birth of the shared content of a cut's bytes, where the cut is sharing and there is one.
abbrev pub stocked_birth : List Stocked → Cut → Option ℕ
stocked_birth stocked cut = if cut.is_sharing then shared_birth stocked cut.bytes else None

-- Whether a cut is sharing, and one of those contents has its bytes.
abbrev pub has_equal : Contents → Cut → Bool
has_equal firsts cut = cut.is_sharing && is_some (birth_with firsts cut.bytes)

-- What is known of a cut, by the contents of the sharing cuts that were first before it.
abbrev pub note_of : List Stocked → Contents → Cut → CutNote
note_of stocked firsts cut = record {
  found = stocked_birth stocked cut;
  is_first = not (has_equal firsts cut);
  blocks = blocks_of (length cut.bytes);
}

-- These contents with that of a cut, under its number in the flush, where it is sharing and the first.
abbrev pub with_first : Contents → ℕ → Cut → Contents
with_first firsts at cut = if cut.is_sharing && is_none (birth_with firsts cut.bytes) then with_content firsts at cut.bytes else firsts

-- What is known of cuts, in their order. The first of them has this number.
abbrev pub notes_from : List Stocked → Contents → ℕ → List Cut → List CutNote
notes_from stocked firsts at [] = []
notes_from stocked firsts at (cut ∷ cuts) = note_of stocked firsts cut ∷ notes_from stocked (with_first firsts at cut) (at + 1) cuts

-- Whether a cut is found among the births that are reached.
abbrev pub is_found_among : (ℕ → Bool) → CutNote → Bool
is_found_among reached note = option_map_or reached note.found false

-- The blocks that a cut wants: none where it is found, or an equal one stands before it.
abbrev pub blocks_for : (ℕ → Bool) → CutNote → ℕ
blocks_for reached note = if not (is_found_among reached note) && note.is_first then note.blocks else 0

-- The blocks that cuts want.
abbrev pub blocks_for_all : (ℕ → Bool) → List CutNote → ℕ
blocks_for_all reached notes = sum_by (blocks_for reached) notes
