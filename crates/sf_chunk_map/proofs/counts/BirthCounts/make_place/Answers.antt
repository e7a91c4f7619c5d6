use Rattle.std.proofs.Common.{◌≡◌, ℕ, Some}
use Rattle.sf_chunk_map.specs.Inside.Counts.{found_at, count_at, HasPlace}
use Rattle.sf_chunk_map.proofs.counts.BirthCounts.make_place.Goals as goal
use Rattle.std.proofs.Common.{Option, None, Some, ap, sym, subst, ◌∙◌}
use Rattle.std.specs.Prelude.{IsSome, unwrap_or}
use Rattle.sf_chunk_map.specs.Inside.Counts.{Counts}
use Rattle.sf_chunk_map.proofs.CountLemmas.{after_update, placed, still_placed}

pub returns-in_ok-insert-in-None-clause-counts : goal.returns-in_ok-insert-in-None-clause-counts
returns-in_ok-insert-in-None-clause-counts c = λ b.
    let none : found_at c.self.inside.counts.entries c.args.birth ≡ None = ap (λ (m : Counts). found_at m c.args.birth) c.self.view_is ∙ (sym c.found.ensures ∙ c.in-None.is) in
    ap (λ (o : Option ℕ). unwrap_or o 0) (after_update c.self.inside.counts.entries c.insert.new.self.entries c.args.birth (Some 0) c.in_ok-insert-in-None.ensures.updates.0 b)
    ∙ placed (found_at c.self.inside.counts.entries) c.args.birth b none
    ∙ ap (λ (m : Counts). count_at m b) c.self.view_is

pub returns-in_ok-insert-in-None-clause-places : goal.returns-in_ok-insert-in-None-clause-places
returns-in_ok-insert-in-None-clause-places c = λ b has.
    subst IsSome (sym (after_update c.self.inside.counts.entries c.insert.new.self.entries c.args.birth (Some 0) c.in_ok-insert-in-None.ensures.updates.0 b))
    (still_placed (found_at c.self.inside.counts.entries) c.args.birth b 0 (subst (λ (m : Counts). HasPlace m b) (sym c.self.view_is) has))
