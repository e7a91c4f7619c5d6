use Rattle.std.proofs.Common.{Option, List, ℕ, sym, ap, subst, ◌∙◌}
use Rattle.std.specs.Option.{option_copied}
use Rattle.sf_types.specs.Inside.Births.{rising_births}
use Rattle.sf_types.specs.Inside.NameMaps.{without_entry}
use Rattle.sf_chunk_map.specs.Inside.Counts.{Counts}
use Rattle.sf_session_values.specs.Inside.Counting.{AreCounted, AreNumbers, births_of_own_rows, counted_births, workings_beside}
use Rattle.sf_session_values.proofs.CountingLemmas.{counted_beside, listed_numbers, rows_but}
use Rattle.sf_session_values.proofs.working_rows.WorkingRows.own_births.Goals as goal
use Rattle.sf_session_values.proofs.working_rows.WorkingRows.own_births.Goals.{in-Some, in_default-except}

pub returns : goal.returns
returns c =
    let rows = c.self.inside.rows.held in
    let except = option_copied c.args.except in
    let are = subst (AreCounted rows c.self.inside.counts) c.in-None.is c.self.invariant in
    let numbers : AreNumbers c.match-except.counts (counted_births (rows_but except rows)) = elim c.match-except.branch [
      | in-Some w ↦
          subst (λ (x : Option (List ℕ)). AreNumbers c.match-except.counts (counted_births (rows_but x rows))) (sym (ap option_copied w.in-Some.is))
          (subst (λ (m : Counts). AreNumbers m (counted_births (without_entry rows w.in-Some.row.now))) (sym w.counts-is)
          (w.uncount.ensures))
      | in_default-except w ↦
          subst (λ (x : Option (List ℕ)). AreNumbers c.match-except.counts (counted_births (rows_but x rows))) (sym (ap option_copied w.in_default-except.is))
          (subst (λ (m : Counts). AreNumbers m (counted_births rows)) (sym (w.counts-is ∙ c.in_ok-counts.ensures)) are.numbers)
    ] in
    c.in_ok-births.ensures.births
    ∙ listed_numbers c.match-except.counts (counted_births (rows_but except rows)) c.in_ok-births.ensures.ordered numbers
    ∙ ap rising_births (counted_beside except rows c.self.inside.counts c.len-count.ensures.rising are)
    ∙ ap (λ v. rising_births (births_of_own_rows (workings_beside except v.held))) c.self.view_is
