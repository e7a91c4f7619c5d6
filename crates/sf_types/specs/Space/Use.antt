-- How many blocks are in use (our own).
use Rattle.std.specs.Prelude.{ℕ, ◌+◌, ◌-◌, List, length, sum_by, slice_get, Option}
use Rattle.std.specs.Option.{option_map_or}
use Rattle.sf_types.specs.Table.Parts.{Content, Session, Table}
use Rattle.sf_types.specs.Space.Contents.{blocks_of}
use Rattle.sf_types.specs.Space.Reach.{reach}

-- Birth b is the b-th content that was given out.
abbrev pub content_of : List Content → ℕ → Option Content
content_of contents birth = slice_get contents (birth - 1)

-- The blocks of a birth's content.
abbrev pub blocks_of_birth : List Content → ℕ → ℕ
blocks_of_birth contents birth = option_map_or (λ x. blocks_of (length x.bytes)) (content_of contents birth) 0

-- The blocks of the contents of some births.
abbrev pub blocks_of_births : List Content → List ℕ → ℕ
blocks_of_births contents births = sum_by (blocks_of_birth contents) births

-- The blocks of a session's standing promise.
abbrev pub promised_blocks : Session → ℕ
promised_blocks p = option_map_or (λ q. q.blocks) p.promise 0

-- The blocks of all births in reach, and those of all standing promises.
abbrev pub use_of : Table → ℕ
use_of t = blocks_of_births t.contents (reach t) + sum_by promised_blocks t.sessions

-- The capacity less the use. So blocks that wait to be released count as free.
abbrev pub free_of : Table → ℕ
free_of t = t.options.capacity - use_of t
