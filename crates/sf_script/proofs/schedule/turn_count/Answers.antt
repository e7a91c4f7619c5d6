use Rattle.std.proofs.Common.{length, ap, arith}
use Rattle.std.proofs.lemmas.List.{length-append}
use Rattle.sf_script.specs.declared.turn.Turn.{Turn}
use Rattle.sf_script.proofs.TurnLemmas.{turns_cut, turns_end, at_most_one, fewer}
use Rattle.sf_script.proofs.schedule.turn_count.Goals as goal

pub loop-word-smaller : goal.loop-word-smaller
loop-word-smaller c = fewer c.loop-word.rest.now _ _ c.in-Some.ensures

pub loop-word-preserved : goal.loop-word-preserved
loop-word-preserved c =
    let cut = ap (length {A = Turn}) (turns_cut c.args.sessions c.loop-word.rest.now _ _ c.in-Some.ensures) in
    record {
      counted = omega (arith, simp length-append at cut);
      within = omega (arith, fewer c.loop-word.rest.now _ _ c.in-Some.ensures, at_most_one c.args.sessions c.in-Some.word.now);
    }

pub returns : goal.returns
returns c =
    let last = ap (length {A = Turn}) (turns_end c.args.sessions c.loop-word.rest.now c.in_default.ensures) in
    omega (arith, last)
