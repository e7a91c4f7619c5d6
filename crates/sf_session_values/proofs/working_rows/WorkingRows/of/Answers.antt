use Rattle.std.proofs.Common.{sym, ap, subst, ◌∙◌}
use Rattle.std.specs.Map.{keys_of}
use Rattle.std.specs.List.Sorted.{IsStrictlySortedBy}
use Rattle.sf_types.specs.Values.Names.{name_cmp}
use Rattle.sf_types.specs.Inside.NameMaps.{NameMap}
use Rattle.sf_session_values.specs.declared.working_rows.WorkingRow.{WorkingRow}
use Rattle.sf_session_values.specs.Inside.Counting.{AreNumbers, counted_births, workings}
use Rattle.sf_session_values.proofs.CountingLemmas.{changes_counted, keys_changed, workings_changed}
use Rattle.sf_session_values.proofs.working_rows.WorkingRows.of.Goals as goal

pub from_entries-requires : goal.from_entries-requires
from_entries-requires c =
    subst (IsStrictlySortedBy name_cmp) (sym (ap keys_of c.in_ok-entries.ensures.entries ∙ keys_changed c.args.changes.items)) c.requires

pub invariant_of-result : goal.invariant_of-result
invariant_of-result c =
    changes_counted c.args.changes.items c.from_entries.result.held c.in_ok-entries.counts (c.from_entries.ensures ∙ c.in_ok-entries.ensures.entries)
    (subst (λ (m : NameMap WorkingRow). AreNumbers c.in_ok-entries.counts (counted_births m)) (sym c.from_entries.ensures) c.in_ok-entries.ensures.numbers)

pub returns : goal.returns
returns c = ap workings (c.from_entries.ensures ∙ c.in_ok-entries.ensures.entries) ∙ workings_changed c.args.changes.items
