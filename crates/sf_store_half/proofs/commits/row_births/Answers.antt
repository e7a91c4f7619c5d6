use Rattle.std.proofs.Common.{◌∷◌, ◌++◌, ◌+◌, ◌∙◌, List, [], drop, ap, sym, append_assoc}
use Rattle.std.proofs.lemmas.List.{append-nil}
use Rattle.sf_types.specs.Table.Parts.{Rows}
use Rattle.sf_store_half.specs.declared.commits.RowBirths.{RowBirths}
use Rattle.sf_store_half.specs.Inside.Commits.{row_births}
use Rattle.sf_store_half.proofs.PlanLemmas.{next_change, no_change}
use Rattle.sf_store_half.proofs.commits.row_births.Goals as goal

pub loop-change-preserved : goal.loop-change-preserved
loop-change-preserved c =
    let rows = c.args.changes.now in
    let at = c.loop-change.at in
    let rest = row_births (drop (at + 1) rows) in
    ap (λ (xs : List RowBirths). xs ++ rest) (c.in_ok-push.ensures.ok ∙ ap (λ (x : RowBirths). c.loop-change.held ++ x ∷ []) c.in_ok-births_of.ensures)
    ∙ append_assoc c.loop-change.held _ rest
    ∙ ap (λ (xs : Rows). c.loop-change.held ++ row_births xs) (sym (next_change rows at c.in-Some.change.now (sym c.in-Some.ensures)))
    ∙ c.loop-change.invariant

pub returns : goal.returns
returns c =
    let held = c.loop-change.held in
    sym (append-nil held)
    ∙ ap (λ (xs : Rows). held ++ row_births xs) (sym (no_change c.args.changes.now c.loop-change.at (sym c.in_default.ensures)))
    ∙ c.loop-change.invariant
