use Rattle.std.proofs.Common.{[], ◌∙◌, ap, sym, subst}
use Rattle.std.specs.Map.{keys_of}
use Rattle.std.specs.List.Sorted.{IsStrictlySortedBy}
use Rattle.sf_types.specs.Values.Names.{name_cmp}
use Rattle.sf_types.specs.Table.Parts.{Rows}
use Rattle.sf_session_values.specs.Inside.Sharing.{rows_by, NoneShared}
use Rattle.sf_session_values.proofs.OwnEntryLemmas.{rows_by-owned, none_shared}
use Rattle.sf_session_values.proofs.working.RestoredRows.of.Goals as goal

pub of-requires : goal.of-requires
of-requires c = subst (λ (rows : Rows). IsStrictlySortedBy name_cmp (keys_of rows)) (sym c.into_vec.ensures.changes) c.into_vec.ensures.rising

pub invariant_of-result : goal.invariant_of-result
invariant_of-result c = subst NoneShared (sym c.in_ok-rows.ensures) (none_shared c.into_vec.result.items)

pub returns : goal.returns
returns c =
    ap (rows_by []) c.in_ok-rows.ensures
    ∙ rows_by-owned c.into_vec.result.items
    ∙ c.into_vec.ensures.changes
    ∙ c.in_ok-copy.ensures
