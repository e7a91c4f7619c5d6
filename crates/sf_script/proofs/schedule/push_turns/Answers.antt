use Rattle.std.proofs.Common.{[], ◌∷◌, ◌++◌, List, ap, ◌∙◌, sym}
use Rattle.std.proofs.lemmas.List.{append_assoc}
use Rattle.sf_script.specs.declared.turn.Turn.{Turn}
use Rattle.sf_script.specs.Schedules.{turns_of}
use Rattle.sf_script_calls.specs.Words.{parts_of}
use Rattle.sf_script.proofs.TurnLemmas.{turns_cut, turns_end, fewer}
use Rattle.sf_script.proofs.schedule.push_turns.Goals as goal

pub loop-word-smaller : goal.loop-word-smaller
loop-word-smaller c = fewer c.loop-word.rest.now _ _ c.in-Some.ensures

pub loop-word-preserved : goal.loop-word-preserved
loop-word-preserved c =
    let cut = ap (λ (ts : List Turn). c.loop-word.turns.items ++ ts) (turns_cut c.args.sessions c.loop-word.rest.now _ _ c.in-Some.ensures) in
    ap (λ (ts : List Turn). ts ++ turns_of c.args.sessions (parts_of c.in-Some.after.now)) c.in_ok-push_turn.ensures ∙ append_assoc c.loop-word.turns.items (turns_of c.args.sessions (c.in-Some.word.now ∷ [])) (turns_of c.args.sessions (parts_of c.in-Some.after.now)) ∙ sym cut ∙ c.loop-word.invariant

pub returns : goal.returns
returns c =
    let last = ap (λ (ts : List Turn). c.loop-word.turns.items ++ ts) (turns_end c.args.sessions c.loop-word.rest.now c.in_default.ensures) in
    rw (← (sym last ∙ c.loop-word.invariant)) c.push_turn-2.ensures
