use Rattle.std.proofs.Common.{◌≡◌, ◌+◌, ℕ, Option, None, cond, ap, ◌∙◌, arith}
use Rattle.std.specs.Prelude.{◌==◌, unwrap_or}
use Rattle.sf_chunk_map.specs.Inside.Counts.{Counts, count_at, found_at}
use Rattle.sf_chunk_map.proofs.CountLemmas.{after_update, taken_out}
use Rattle.sf_session_values.proofs.row_counts.RowCounts.lower_one.Goals as goal

pub returns-else-number-gt1 : goal.returns-else-number-gt1
returns-else-number-gt1 c = λ b.
    let all : count_at c.self.inside.counts.entries c.args.birth ≡ 1 = ap (λ (m : Counts). count_at m c.args.birth) c.self.view_is ∙ grind (arith, c.requires, c.found.ensures, c.unwrap_or-number.ensures, c.if-number-gt1.false) in
    ap (λ (o : Option ℕ). unwrap_or o 0 + cond (c.args.birth == b) 1 0) (after_update c.self.inside.counts.entries c.remove.new.self.entries c.args.birth None c.remove.ensures.updates.0 b)
    ∙ taken_out (found_at c.self.inside.counts.entries) c.args.birth b 1 all
    ∙ ap (λ (m : Counts). count_at m b) c.self.view_is
