use Rattle.std.proofs.Common.{sym}
use Rattle.std.proofs.lemmas.List.{drop-replicate}
use Rattle.sf_types.specs.Values.Marks.{fresh_byte}
use Rattle.sf_value_tests.proofs.piece_tree.LettersUnit.back.Goals as goal

pub returns : goal.returns
returns c =
    let letters = c.args.self.now in
    sym (drop-replicate c.args.n letters.count (fresh_byte letters.letter))
