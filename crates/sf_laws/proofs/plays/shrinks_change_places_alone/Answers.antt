use Rattle.std.proofs.Common.{◌-◌, List, map, length, ap}
use Rattle.sf_types.specs.declared.history.Entry.{Entry}
use Rattle.sf_types.specs.declared.history.Token.{Token}
use Rattle.sf_types.specs.Table.Versions.{commit_count}
use Rattle.sf_types.specs.Orders.RowEnds.{row_ends_of}
use Rattle.sf_types.specs.Orders.Transcripts.{all_replies}
use Rattle.sf_types.specs.Play.Turns.{start_of, enough_rounds}
use Rattle.sf_laws.proofs.PlayLemmas.{start_plays}
use Rattle.sf_laws.proofs.ShrinkLemmas.{alike_same, shrinks_alike, play_alike, as_many_placed}
use Rattle.sf_laws.proofs.plays.shrinks_change_places_alone.Goals as goal

pub returns-clause-turns_history : goal.returns-clause-turns_history
returns-clause-turns_history c options calls turns without of =
    let p = start_of options calls in
    let start = start_plays options calls without in
    (shrinks_alike options calls p p turns start start of (alike_same p)).history

pub returns-clause-turns_table : goal.returns-clause-turns_table
returns-clause-turns_table c options calls turns without of =
    let p = start_of options calls in
    let start = start_plays options calls without in
    (shrinks_alike options calls p p turns start start of (alike_same p)).table

pub returns-clause-order : goal.returns-clause-order
returns-clause-order c options calls schedule without of = ap (λ (es : List Entry). map {B = Token} (λ e. e.token) es) (play_alike options calls schedule (enough_rounds calls) without of).history

pub returns-clause-replies : goal.returns-clause-replies
returns-clause-replies c options calls schedule without of = ap (all_replies options (length calls)) (play_alike options calls schedule (enough_rounds calls) without of).history

pub returns-clause-rows : goal.returns-clause-rows
returns-clause-rows c options calls schedule without of = ap row_ends_of (play_alike options calls schedule (enough_rounds calls) without of).table

pub returns-clause-commits : goal.returns-clause-commits
returns-clause-commits c options calls schedule without of = ap commit_count (play_alike options calls schedule (enough_rounds calls) without of).table

pub returns-clause-free : goal.returns-clause-free
returns-clause-free c options calls schedule without of = ap (λ n. options.capacity - n) (as_many_placed options calls schedule (enough_rounds calls) without of)
