use Rattle.std.proofs.Common.{◌++◌, ◌∷◌, [], List, ◌∙◌, ap, sym, subst}
use Rattle.std.specs.VecDeque.Iter.{deque_iter_rest}
use Rattle.sf_retention.specs.declared.retention.Pair.{Pair}
use Rattle.sf_retention.specs.Notes.{due_pairs}
use Rattle.sf_retention.proofs.NoteLemmas.{IsInOrder, later_due, next_due, rising_rest, all_listed, no_notes}
use Rattle.sf_retention.proofs.retention.Retention.due.Goals as goal
use Rattle.sf_retention.proofs.retention.Retention.due.Goals.{in-None, in-Some+then-note-floor}

pub loop-note-init : goal.loop-note-init
loop-note-init c =
    let all = ap deque_iter_rest c.into_iter-note-iterator.ensures.into_iter_gives ∙ c.iter-note-items.ensures.rest in
    record {
      due = ap (λ (ps : List Pair). ps ++ due_pairs (deque_iter_rest c.into_iter-note-iterator.result) c.args.floor) c.new-pairs.ensures
          ∙ ap (λ notes. due_pairs notes c.args.floor) all ∙ ap (λ v. due_pairs v.held c.args.floor) c.self.view_is;
      rising = subst IsInOrder (sym all) c.self.invariant;
    }

pub loop-note-preserved : goal.loop-note-preserved
loop-note-preserved c =
    let all = deque_iter_rest c.loop-note.note-iterator in
    let rest = deque_iter_rest c.next.new.self in
    let note = c.in-Some.note.now in
    let pair = ap (λ row. record { name = row; from = note.from }) c.in_ok-copy.ensures in
    record {
      due = ap (λ (ps : List Pair). ps ++ due_pairs rest c.args.floor) (c.in_ok-push.ensures.ok ∙ ap (λ (p : Pair). c.loop-note.pairs ++ p ∷ []) pair)
          ∙ next_due all rest note c.args.floor c.loop-note.pairs (due_pairs c.args.self.now.held c.args.floor) c.in-Some.ensures.steps c.if-note-floor.false c.loop-note.invariant.due;
      rising = rising_rest all rest note c.in-Some.ensures.steps c.loop-note.invariant.rising;
    }

pub returns : goal.returns
returns c =
    let all = deque_iter_rest c.loop-note.note-iterator in
    let rest = deque_iter_rest c.next.new.self in
    all_listed (due_pairs all c.args.floor) c.loop-note.pairs (due_pairs c.args.self.now.held c.args.floor)
    (elim c.match-next.branch [
      | in-None w ↦ ap (λ notes. due_pairs notes c.args.floor) (no_notes all (w.in-None.ensures.steps.0))
      | in-Some+then-note-floor w ↦ later_due all rest w.in-Some.note.now c.args.floor w.in-Some.ensures.steps c.loop-note.invariant.rising w.if-note-floor.true
    ])
    c.loop-note.invariant.due
