use Rattle.std.proofs.Common.{◌≡◌, ◌+◌, ℕ, Option, Some, cond, ap, ◌∙◌, arith}
use Rattle.std.specs.Prelude.{◌==◌, unwrap_or}
use Rattle.sf_chunk_map.specs.Inside.Counts.{Counts, count_at, found_at}
use Rattle.sf_chunk_map.proofs.CountLemmas.{after_update, raised}
use Rattle.sf_session_values.proofs.row_counts.RowCounts.raise_one.Goals as goal

pub returns-clause-ok : goal.returns-clause-ok
returns-clause-ok c = λ b.
    let number : count_at c.self.inside.counts.entries c.args.birth ≡ c.unwrap_or-number.result = ap (λ (m : Counts). count_at m c.args.birth) c.self.view_is ∙ grind (arith, c.found.ensures, c.unwrap_or-number.ensures) in
    let more : c.in-Some.more ≡ c.unwrap_or-number.result + 1 = grind (arith, c.checked_add.ensures, c.in-Some.is) in
    ap (λ (o : Option ℕ). unwrap_or o 0) (after_update c.self.inside.counts.entries c.insert.new.self.entries c.args.birth (Some c.in-Some.more) c.in_ok-insert.ensures.updates.0 b)
    ∙ ap (λ (n : ℕ). unwrap_or (cond (c.args.birth == b) (Some n) (found_at c.self.inside.counts.entries b)) 0) more
    ∙ raised (found_at c.self.inside.counts.entries) c.args.birth b c.unwrap_or-number.result 1 number
    ∙ ap (λ (m : Counts). count_at m b + cond (c.args.birth == b) 1 0) c.self.view_is
