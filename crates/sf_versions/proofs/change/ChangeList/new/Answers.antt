use Rattle.std.proofs.Common.{sym, subst}
use Rattle.std.specs.Map.{keys_of}
use Rattle.std.specs.List.Sorted.{IsStrictlySortedBy}
use Rattle.sf_types.specs.Values.Names.{name_cmp}
use Rattle.sf_types.specs.Table.Parts.{Rows}
use Rattle.sf_versions.proofs.AddedLemmas.{no_names}
use Rattle.sf_versions.proofs.change.ChangeList.new.Goals as goal

pub invariant_of-result : goal.invariant_of-result
invariant_of-result c = subst (λ (es : Rows). IsStrictlySortedBy name_cmp (keys_of es)) (sym c.new.ensures.items) no_names
