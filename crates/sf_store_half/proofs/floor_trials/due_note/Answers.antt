use Rattle.std.proofs.Common.{◌≡◌, true, false, cond, Option, Some, None, sym, ap, ◌∙◌, arith}
use Rattle.std.specs.Prelude.{nat_le}
use Rattle.std.proofs.lemmas.Bool.Decides.{nat_tests}
use Rattle.sf_retention.specs.declared.retention.Pair.{Pair}
use Rattle.sf_retention.specs.Notes.{pair_of}
use Rattle.sf_store_half.proofs.DueLemmas.{due_at, in_order, pair_if_due}
use Rattle.sf_store_half.proofs.floor_trials.due_note.Goals as goal
use Rattle.sf_store_half.proofs.floor_trials.due_note.Goals.{in_default-via-in-Some+else-note-floor, in_default-via-in_default}

pub returns-in-Some : goal.returns-in-Some
returns-in-Some c =
    let notes = c.args.notes.now.held in
    let note = c.in-Some.note.now in
    let low = c.if-note-floor.true in
    let due : nat_le note.until c.args.floor ≡ true = grind (arith, nat_tests, low) in
    sym (due_at notes c.args.floor c.args.at (in_order notes c.get.ensures.rising)
    ∙ ap (pair_if_due c.args.floor) (sym c.in-Some.ensures.note)
    ∙ ap (λ t. cond {A = Option Pair} t (Some (pair_of note)) None) due)

pub returns-in_default : goal.returns-in_default
returns-in_default c =
    let notes = c.args.notes.now.held in
    sym (due_at notes c.args.floor c.args.at (in_order notes c.get.ensures.rising)
    ∙ elim c.in_default.branch [
      | in_default-via-in-Some+else-note-floor w ↦
          let note = w.in-Some.note.now in
          let high = w.if-note-floor.false in
          let late : nat_le note.until c.args.floor ≡ false = grind (arith, nat_tests, high) in
          ap (pair_if_due c.args.floor) (sym w.in-Some.ensures.note) ∙ ap (λ t. cond {A = Option Pair} t (Some (pair_of note)) None) late
      | in_default-via-in_default w ↦ ap (pair_if_due c.args.floor) (sym w.in_default.ensures.note)
    ])
