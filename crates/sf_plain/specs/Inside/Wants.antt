-- The blocks that cuts want, one cut after another (our own).
use Rattle.std.specs.Prelude.{ℕ, ◌||◌, List, length, if◌then◌else◌}
use Rattle.std.specs.List.{list_any}
use Rattle.sf_types.specs.Table.Parts.{Content}
use Rattle.sf_types.specs.Space.Contents.{blocks_of}
use Rattle.sf_types.specs.Space.Cuts.{Cut}
use Rattle.sf_types.specs.Space.Promises.{is_found, is_equal_sharing}

-- The blocks that a cut wants behind some others: none where it is found, or repeats one of them.
abbrev pub blocks_behind : List Content → List ℕ → List Cut → Cut → ℕ
blocks_behind contents reached earlier cut =
    if is_found contents reached cut || list_any (is_equal_sharing cut) earlier then 0 else blocks_of (length cut.bytes)
