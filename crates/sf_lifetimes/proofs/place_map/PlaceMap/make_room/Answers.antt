use Rattle.std.proofs.Common.{◌∙◌, ap, sym, subst, rules, arith}
use Rattle.std.specs.Ordering.{nat_cmp}
use Rattle.std.specs.FinMap as fin
use Rattle.std.specs.Prelude.{ℕ, List}
use Rattle.sf_lifetimes.specs.declared.counted.Counted.{Counted}
use Rattle.sf_lifetimes.specs.Inside.Counts.{IsCounted}
use Rattle.sf_lifetimes.proofs.place_map.PlaceMap.make_room.Goals as goal

pub invariant_of-self : goal.invariant_of-self
invariant_of-self c = subst (λ (es : List (ℕ × Counted)). IsCounted (fin.from_entries es) c.self.inside.live) (sym c.make_room.ensures.held) c.self.invariant

pub returns : goal.returns
returns c = record {
  done = search rules;
  held = ap (λ (es : List (ℕ × Counted)). fin.from_entries {R = nat_cmp} es) c.make_room.ensures.held ∙ ap (λ v. v.held) c.self.view_is;
  room = search rules;
  kept = omega (arith, c.make_room.ensures.kept, ap (λ v. v.spare) c.self.view_is);
}
