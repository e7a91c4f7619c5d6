use Rattle.std.proofs.Common.{◌≡◌, ◌+◌, sym, ap, ◌∙◌, take, ◌++◌, ◌∷◌, [], List}
use Rattle.std.specs.Prelude.{unwrap_or}
use Rattle.std.proofs.lemmas.List.{take_more}
use Rattle.sf_types.specs.Inside.NameMaps.{get}
use Rattle.sf_types.specs.Table.Parts.{Rows}
use Rattle.sf_types.specs.Table.Versions.{value_or_absent, last_change}
use Rattle.sf_plain_table.proofs.CommitLemmas.{value_after_more}
use Rattle.sf_plain_table.proofs.versions.value_after.Goals as goal

pub loop-rows-preserved : goal.loop-rows-preserved
loop-rows-preserved c =
    let cs = c.args.commits.now in
    let row = c.args.row.now in
    let at = c.loop-rows.rows-index in
    let item = c.rows-item.result in
    let next : take (at + 1) cs ≡ take at cs ++ item ∷ [] = take_more cs at item c.loop-rows-test.true ∙ ap (λ (x : Rows). take at cs ++ x ∷ []) (sym c.rows-item.is) in
    c.value_over-value.ensures
    ∙ ap (unwrap_or (get item row)) c.loop-rows.invariant
    ∙ sym (value_after_more (take at cs) item row)
    ∙ ap (λ (xs : List Rows). value_or_absent (last_change xs row)) (sym next)
