use Rattle.std.proofs.Common.{◌≡◌, List, map, subst, ap, ◌∙◌}
use Rattle.std.specs.List.Sorted.{IsStrictlySortedBy}
use Rattle.std.specs.Map.{keys_of}
use Rattle.std.specs.Map.Iter.{deref_pair}
use Rattle.std.proofs.lemmas.Result.{IfOk-weaker}
use Rattle.sf_types.specs.declared.row_end.RowEnd.{RowEnd}
use Rattle.sf_types.specs.Values.Names.{name_cmp}
use Rattle.sf_types.specs.Orders.RowEnds.{row_ends, row_ends_of}
use Rattle.sf_types.specs.Halves.Asks.{Half}
use Rattle.sf_types.specs.Halves.Flushes.{table_of_half}
use Rattle.sf_store_half.specs.Fields.{Fields, Keeps}
use Rattle.sf_store_half.proofs.ReadLemmas.{rows_by_half}
use Rattle.sf_store_half.proofs.store_half.StoreHalf.rows.Goals as goal

pub returns : goal.returns
returns c =
    let f = c.args.self.now in
    let rising : IsStrictlySortedBy name_cmp (keys_of f.versions.rows) = subst (λ (x : Fields). IsStrictlySortedBy name_cmp (keys_of x.versions.rows)) c.self.view_is c.len-rising.ensures.rising in
    IfOk-weaker c.row_ends.result _ (λ (rows : List RowEnd). (h : Half) → Keeps f h → rows ≡ row_ends_of (table_of_half h))
    (λ rows is h keeps. is ∙ ap row_ends (ap (map deref_pair) c.as_slice.ensures.value ∙ c.in_ok-rows.ensures ∙ rows_by_half f h keeps rising)) c.row_ends.ensures
