use Rattle.std.proofs.Common.{◌≡◌, ℕ, List, Option, sym, subst}
use Rattle.std.specs.Prelude.{All}
use Rattle.std.specs.declared.cmp.Ordering.TheVariants.{Less}
use Rattle.sf_types.specs.Values.Marks.{Value}
use Rattle.std.specs.Map.{keys_of}
use Rattle.std.specs.List.Sorted.{IsStrictlySortedBy}
use Rattle.sf_types.specs.Values.Names.{name_cmp}
use Rattle.sf_types.specs.Table.Parts.{Rows}
use Rattle.sf_versions.proofs.AddedLemmas.{names_pushed}
use Rattle.sf_versions.proofs.change.ChangeList.push.Goals as goal

pub invariant_of-self-2 : goal.invariant_of-self-2
invariant_of-self-2 c =
    subst (λ (es : Rows). IsStrictlySortedBy name_cmp (keys_of es)) (sym c.in_ok-push.ensures.items)
    (names_pushed c.self.inside.changes.items c.args.change c.self.invariant (subst (λ (es : Rows). All (λ (other : List ℕ × Option Value). name_cmp other.0 c.args.change.0 ≡ Less) es) (sym c.self.view_is) c.requires))
