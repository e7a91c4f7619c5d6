use Rattle.std.proofs.Common.{◌∷◌, ◌++◌, ◌+◌, ◌∙◌, List, [], drop, ap, sym, append_assoc}
use Rattle.std.proofs.lemmas.List.{append-nil}
use Rattle.sf_types.specs.Table.Parts.{Rows}
use Rattle.sf_retention.specs.declared.retention.Note.{Note}
use Rattle.sf_store_half.specs.Inside.Commits.{displaced_notes}
use Rattle.sf_store_half.proofs.PlanLemmas.{displaced_first, next_change, no_change}
use Rattle.sf_store_half.proofs.commits.displaced_notes.Goals as goal

pub loop-change-preserved : goal.loop-change-preserved
loop-change-preserved c =
    let rows = c.args.changes.now in
    let at = c.loop-change.at in
    let t = c.args.versions.now.held in
    let rest = displaced_notes t (drop (at + 1) rows) in
    let own = displaced_notes t (c.in-Some.change.now ∷ []) in
    ap (λ (xs : List Note). xs ++ rest) c.in_ok-note_displaced.ensures
    ∙ append_assoc c.loop-change.notes own rest
    ∙ ap (λ (xs : List Note). c.loop-change.notes ++ xs) (sym (displaced_first t c.in-Some.change.now (drop (at + 1) rows)))
    ∙ ap (λ (xs : Rows). c.loop-change.notes ++ displaced_notes t xs) (sym (next_change rows at c.in-Some.change.now (sym c.in-Some.ensures)))
    ∙ c.loop-change.invariant

pub returns : goal.returns
returns c =
    let notes = c.loop-change.notes in
    sym (append-nil notes)
    ∙ ap (λ (xs : Rows). notes ++ displaced_notes c.args.versions.now.held xs) (sym (no_change c.args.changes.now c.loop-change.at (sym c.in_default.ensures)))
    ∙ c.loop-change.invariant
