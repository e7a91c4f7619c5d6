-- The transcript of a play (our own).
use Rattle.std.specs.Prelude.{ℕ, ◌-◌, List, map, length}
use Rattle.sf_types.specs.declared.call.Call.{Call}
use Rattle.sf_types.specs.declared.options.Options.{Options}
use Rattle.sf_types.specs.declared.place.Place.{Place}
use Rattle.sf_types.specs.Table.Parts.{Table}
use Rattle.sf_types.specs.Table.Versions.{commit_count}
use Rattle.sf_types.specs.Space.Placings.{Placed, all_blocks}
use Rattle.sf_types.specs.Space.Grants.{maximal_runs}
use Rattle.sf_types.specs.Orders.RowEnds.{row_ends_of}
use Rattle.sf_types.specs.Orders.Transcripts.{whole_transcript, place_of_birth, all_replies}
use Rattle.sf_types.specs.Play.Turns.{Stage, Turn, play_end, play_order}

-- A birth's place as a transcript writes it: with its content's length and digest, and with its blocks in their order as
-- maximal runs.
abbrev pub written_place : Table → Placed → Place
written_place t x = place_of_birth t x.birth (maximal_runs x.blocks)

-- All places of a stage as a transcript writes them.
abbrev pub written_places : Stage → List Place
written_places x = map (written_place x.table) x.space.places

-- The transcript of a play of a script with its schedule: its order, the replies of its history, the places at its end, the
-- capacity less their blocks, and the rows and the number of commits at its end.
abbrev pub play_transcript : Options → List (List Call) → List Turn → List ℕ
play_transcript options calls schedule =
    let end = play_end options calls schedule in
    whole_transcript (play_order options calls schedule) (all_replies options (length calls) end.history) (written_places end)
    (options.capacity - length (all_blocks end.space.places)) (row_ends_of end.table) (commit_count end.table)
