use Rattle.std.proofs.Common.{◌+◌, ◌<◌, length, sym, ◌∙◌, arith}
use Rattle.sf_piece_tree.specs.Contents.{joined_content}
use Rattle.sf_piece_tree.proofs.CutLemmas.{no_cut_within}
use Rattle.sf_piece_tree.proofs.parts.split.Goals as goal

pub returns-in-Err-clause-free : goal.returns-in-Err-clause-free
returns-in-Err-clause-free g c = λ first second cut.
    let before = c.take_out-before.result.0.units in
    let unit = c.take_out-before.result.1.value.unit in
    let at_is = cut.at_is in
    let more : length (joined_content g.P.Unit.content before) < length (joined_content g.P.Unit.content first) = omega (arith, at_is) in
    let less : length (joined_content g.P.Unit.content first) < length (joined_content g.P.Unit.content before) + length (g.P.Unit.content unit) = omega (arith, at_is) in
    absurd (no_cut_within g.P.Unit.content first second before unit c.take_out-before.result.2.units (sym cut.units_are ∙ c.take_out-before.ensures.units) more less)
