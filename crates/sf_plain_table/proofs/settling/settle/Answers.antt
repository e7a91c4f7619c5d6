use Rattle.std.proofs.Common.{List, ℕ, sym, ap, subst, ◌∙◌}
use Rattle.std.specs.Map.{keys_of}
use Rattle.std.specs.List.Sorted.{IsStrictlySortedBy}
use Rattle.sf_types.specs.Table.Parts.{Rows}
use Rattle.sf_types.specs.Values.Names.{name_cmp}
use Rattle.sf_plain_table.proofs.CutLemmas.{settled_keys}
use Rattle.sf_plain_table.proofs.settling.settle.Goals as goal

pub map_of-requires : goal.map_of-requires
map_of-requires c =
    subst (λ (ks : List (List ℕ)). IsStrictlySortedBy name_cmp ks)
    (sym (ap (λ (rows : Rows). keys_of rows) c.in_ok-entries.ensures.settled ∙ settled_keys c.args.rows.now c.args.births.now))
    c.in_ok-entries.ensures.ordered
