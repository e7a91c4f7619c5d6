use Rattle.std.proofs.Common.{◌∙◌, ap, rules, arith, List, ℕ}
use Rattle.std.specs.FinMap as fin
use Rattle.sf_types.specs.declared.holder.Holder.{Holder}
use Rattle.sf_types.specs.Inside.Holders.{holder_cmp}
use Rattle.sf_lifetimes.proofs.holding_map.HoldingMap.make_room.Goals as goal

pub returns : goal.returns
returns c = record {
  done = search rules;
  held = ap (λ (es : List (Holder × List ℕ)). fin.from_entries {R = holder_cmp} es) c.make_room.ensures.held ∙ ap (λ v. v.held) c.self.view_is;
  room = search rules;
  kept = omega (arith, c.make_room.ensures.kept, ap (λ v. v.spare) c.self.view_is);
}
