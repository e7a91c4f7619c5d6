use Rattle.std.proofs.Common.{sym, arith, ◌<◌}
use Rattle.std.proofs.lemmas.List.{take-replicate, length-replicate}
use Rattle.sf_types.specs.Values.Marks.{fresh_byte}
use Rattle.sf_value_tests.proofs.piece_tree.LettersUnit.front.Goals as goal

pub returns : goal.returns
returns c =
    let letters = c.args.self.now in
    let within : c.args.n < letters.count = rw (length-replicate letters.count (fresh_byte letters.letter)) at c.requires.within in
    sym (take-replicate c.args.n letters.count (fresh_byte letters.letter) (omega arith))
