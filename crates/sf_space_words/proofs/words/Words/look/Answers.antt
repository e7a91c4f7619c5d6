use Rattle.std.proofs.Common.{◌∙◌, ◌<◌, ap, sym, arith}
use Rattle.sf_space_words.specs.Blocks.{word_count}
use Rattle.sf_space_words.proofs.LookLemmas.{looks}
use Rattle.sf_space_words.proofs.words.Words.look.Goals as goal

pub load-requires : goal.load-requires
load-requires c =
    let within : c.args.word < word_count c.self.inside.table.shared.key = let h = c.requires.word in let e = ap (λ w. word_count w.capacity) c.self.view_is in omega arith in (
      ap (λ s. s.id) c.seat.view_is ∙ (c.requires.words.0 ∙ sym (ap (λ w. w.id) c.self.view_is)),
      (let a = c.self.invariant.same in let b = c.self.invariant.whole in omega arith),
      looks _ _ _ _ _ within,
    )
