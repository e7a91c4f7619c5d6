use Rattle.std.proofs.Common.{◌≡◌, [], length, drop, sym, ap, ◌∙◌, arith}
use Rattle.std.proofs.lemmas.Bool.{eqb-true, eqb-false}
use Rattle.std.proofs.lemmas.List.{take_rest, drop_all}
use Rattle.sf_script.specs.Lines.{lines_of}
use Rattle.sf_script.proofs.LineLemmas.{no_line, ended_line, open_line}
use Rattle.sf_script.proofs.lines.first_line.Goals as goal

pub returns-then-is_empty-clause-lines : goal.returns-then-is_empty-clause-lines
returns-then-is_empty-clause-lines c = no_line c.args.text.now (eqb-true _ _ (sym c.is_empty.ensures ∙ c.if-is_empty.true))

pub returns-then-place-text-clause-lines : goal.returns-then-place-text-clause-lines
returns-then-place-text-clause-lines c =
    rw take_rest (ended_line c.args.text.now c.place_of-place.result c.place_of-place.ensures.place (omega arith))

pub returns-else-place-text-clause-lines : goal.returns-else-place-text-clause-lines
returns-else-place-text-clause-lines c =
    let none : lines_of (drop (length c.args.text.now) c.args.text.now) ≡ lines_of [] = ap lines_of (drop_all _ c.args.text.now (omega arith)) in
    rw (take_rest, none) (open_line c.args.text.now c.place_of-place.result c.place_of-place.ensures.place (omega arith) (omega (arith, eqb-false _ _ (sym c.is_empty.ensures ∙ c.if-is_empty.false))))
