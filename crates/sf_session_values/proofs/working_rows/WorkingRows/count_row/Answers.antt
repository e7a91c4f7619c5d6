use Rattle.std.proofs.Common.{◌≡◌, ◌+◌, List, ℕ, Some, refl, sym, ap, subst, ◌∙◌}
use Rattle.std.specs.Option.{option_copied}
use Rattle.sf_types.specs.Inside.NameMaps.{NameMap, get, with_entry}
use Rattle.sf_types.specs.Rooms.{Roomy}
use Rattle.sf_chunk_map.specs.Inside.Counts.{count_at}
use Rattle.sf_session_values.specs.declared.working.Working.{Working}
use Rattle.sf_session_values.specs.Inside.Counting.{AreCounted, times, workings}
use Rattle.sf_session_values.proofs.CountingLemmas.{counted_now, same_workings}
use Rattle.sf_session_values.proofs.working_rows.WorkingRows.count_row.Goals as goal

pub invariant_of-self-2 : goal.invariant_of-self-2
invariant_of-self-2 c =
    let rows = c.self.inside.rows.held in
    let name = c.in-Row.row in
    let entry = c.in-Some.entry.now in
    let there : get rows name ≡ Some entry = sym c.get.ensures ∙ ap option_copied c.in-Some.is in
    counted_now rows c.exchange.new.self.held c.self.inside.counts c.raise.new.self name entry c.len-count.ensures.rising
    (subst (AreCounted rows c.self.inside.counts) c.in-Row.is c.self.invariant) there
    (λ b. c.in_ok-raise.ensures.ok b ∙ ap (λ (bs : List ℕ). count_at c.self.inside.counts b + times b bs) (c.as_slice.ensures.births ∙ c.in_ok-births.ensures))
    (c.exchange.ensures.held entry there ∙ ap (λ (bs : List ℕ). with_entry rows name (record { working = entry.working; births = bs })) c.in_ok-births.ensures)

pub returns : goal.returns
returns c =
    let rows = c.self.inside.rows.held in
    let name = c.in-Row.row in
    let entry = c.in-Some.entry.now in
    let there : get rows name ≡ Some entry = sym c.get.ensures ∙ ap option_copied c.in-Some.is in
    let same = same_workings rows name entry (record { working = entry.working; births = c.in_ok-births.births }) c.len-count.ensures.rising there refl in
    ap {B = Roomy (NameMap Working)} (λ (m : NameMap Working). record { held = m; spare = c.exchange.new.self.spare }) (ap workings (c.exchange.ensures.held entry there) ∙ same)
    ∙ ap {B = Roomy (NameMap Working)} (λ (n : ℕ). record { held = workings rows; spare = n }) c.exchange.ensures.spare
    ∙ c.self.view_is
