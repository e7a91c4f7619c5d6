use Rattle.std.proofs.Common.{sym, subst}
use Rattle.sf_dispensers.specs.Inside.{IsGathering}
use Rattle.sf_dispensers.proofs.gathering.Gathering.clear_bits.Goals as goal

pub invariant_of-self : goal.invariant_of-self
invariant_of-self g c =
    subst (λ s. IsGathering g.N.Named.space g.N.Named.options s c.self.inside.runs c.self.inside.last_run c.self.inside.block_count c.self.inside.wanted_blocks) (sym c.look-found_word.ensures.seat) c.self.invariant
