use Rattle.std.proofs.Common.{◌≡◌, ◌+◌, ◌==◌, ℕ, cond}
use Rattle.sf_chunk_map.specs.Inside.Counts.{found_at, count_at}
use Rattle.sf_chunk_map.proofs.counts.BirthCounts.lower.Goals as goal
use Rattle.std.proofs.Common.{Option, None, ap, ◌∙◌, arith}
use Rattle.std.specs.Prelude.{unwrap_or}
use Rattle.sf_chunk_map.specs.Inside.Counts.{Counts}
use Rattle.sf_chunk_map.proofs.CountLemmas.{after_update, taken_out}

pub returns-else-count-bytes : goal.returns-else-count-bytes
returns-else-count-bytes c = λ b.
    let all : count_at c.self.inside.counts.entries c.args.birth ≡ c.args.bytes = ap (λ (m : Counts). count_at m c.args.birth) c.self.view_is ∙ grind (arith, c.requires, c.found.ensures, c.unwrap_or-count.ensures, c.if-count-bytes.false) in
    ap (λ (o : Option ℕ). unwrap_or o 0 + cond (c.args.birth == b) c.args.bytes 0) (after_update c.self.inside.counts.entries c.remove.new.self.entries c.args.birth None c.remove.ensures.updates.0 b)
    ∙ taken_out (found_at c.self.inside.counts.entries) c.args.birth b c.args.bytes all
    ∙ ap (λ (m : Counts). count_at m b) c.self.view_is
