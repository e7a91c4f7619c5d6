use Rattle.std.proofs.Common.{◌≡◌, ◌∙◌, ◌+◌, ◌^◌, ◌<◌, List, Option, Some, None, true≢false, refl, sym, ap, subst, arith, length, set}
use Rattle.std.specs.Prelude.{slice_get, IsSome}
use mathlib.Core.Logic.{dite}
use native.Mathlib.Decide.{ℕ_discrete, dec_le}
use Rattle.sf_types.specs.declared.run.Run.{Run}
use Rattle.sf_dispensers.specs.Inside.{GainsRun, Touches}
use Rattle.sf_dispensers.proofs.RunTimesLemmas.{gains_read, run_there, within_there}
use Rattle.sf_dispensers.proofs.neighbours.join_run.Goals as goal

pub returns-in-Some-clause-joined : goal.returns-in-Some-clause-joined
returns-in-Some-clause-joined c =
    let is = ap (λ v. v.items) c.loop-at.invariant.same in
    let within : c.loop-at.at < length c.loop-at.runs.items = let test = c.loop-at-test.true in let len = c.len-at-end.ensures in let same = ap (λ (l : List Run). length l) is in omega arith in
    subst (λ (l : List Run). GainsRun l (set c.loop-at.runs.items c.loop-at.at c.in-Some.both) c.args.run) is (gains_read c.loop-at.runs.items c.loop-at.at c.index.result.now c.args.run c.in-Some.both within c.index.ensures c.in-Some.ensures.both)

pub loop-at-init : goal.loop-at-init
loop-at-init c = record { same = refl; none = λ at other less there touch. absurd (omega arith) }

none_some : (found : Option Run) → IsSome found → ((run : Run) → found ≡ Some run → ⊥) → ⊥
none_some None some not = absurd (true≢false (sym some))
none_some (Some run) some not = not run refl

pub loop-at-preserved : goal.loop-at-preserved
loop-at-preserved c = record {
  same = c.loop-at.invariant.same;
  none = λ at other less there touch. dite (ℕ_discrete at c.loop-at.at)
      (λ here.
      let runs_same = ap (λ v. v.items) c.loop-at.invariant.same in
      let there_now : slice_get c.loop-at.runs.items c.loop-at.at ≡ Some other = (λ i. slice_get (runs_same i) (sym here i)) ∙ there in
      let is : c.index.result.now ≡ other = run_there c.loop-at.runs.items c.loop-at.at c.index.result.now other c.index.ensures there_now in
      dite (dec_le (2 ^ 32) (other.blocks + c.args.run.blocks))
      (λ many. many)
      (λ few. absurd (none_some c.joint_run.result (c.joint_run.ensures.some (subst (λ r. Touches r c.args.run) (sym is) touch) (let blocks = ap (λ r. r.blocks) is in omega arith)) c.in_default.not-Some)))
      (λ before. c.loop-at.invariant.none at other (omega arith) there touch);
}

pub returns-clause-none : goal.returns-clause-none
returns-clause-none c = λ _ at other there touch.
    let within = within_there c.args.runs.now.items at other there in
    let test = c.loop-at-test.false in
    let len = c.len-at-end.ensures in c.loop-at.invariant.none at other (omega arith) there touch
