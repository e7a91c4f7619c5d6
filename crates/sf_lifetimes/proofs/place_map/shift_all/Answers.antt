use Rattle.std.proofs.Common.{◌≡◌, ◌∙◌, ◌++◌, [], ◌∷◌, ℕ, List, sym, subst, rules}
use Rattle.std.specs.Prelude.{◌==◌, IsSome}
use Rattle.std.specs.Ordering.{nat_cmp}
use Rattle.std.proofs.lemmas.List.Elements.{All-pop, All-weaker}
use Rattle.sf_room_map.specs.Entries.{value_for}
use Rattle.sf_shrink.specs.declared.shifts.Shift.{Shift}
use Rattle.sf_lifetimes.specs.declared.counted.Counted.{Counted}
use Rattle.sf_lifetimes.proofs.ShiftLemmas.{shift_more, still_placed}
use Rattle.sf_lifetimes.proofs.place_map.shift_all.Goals as goal

pub loop-shift-preserved : goal.loop-shift-preserved
loop-shift-preserved c =
    let cur = c.loop-shift.entries.held in
    let next = c.shift_one.new.entries.held in
    let rest = c.pop.new.self.items in
    let s = c.in-Some.shift in
    let has : List (ℕ × Counted) → Shift → Type 0 = λ es r. IsSome (value_for nat_cmp es r.birth) in
    record {
      changed = λ q.
          let is : c.loop-shift.rest.items ≡ rest ++ s ∷ [] = search rules in
          shift_more rest c.loop-shift.rest.items c.args.shifts.items s q (value_for nat_cmp cur q) (value_for nat_cmp next q) (value_for nat_cmp c.args.entries.now.held q) is (c.shift_one.ensures.changed q) (c.loop-shift.invariant.changed q);
      placed = All-weaker (has cur) (has next) (λ r found. subst IsSome (sym (c.shift_one.ensures.changed r.birth)) (still_placed (r.birth == s.birth) s.to (value_for nat_cmp cur r.birth) found)) rest
          (All-pop (has cur) c.loop-shift.rest.items rest c.pop.result c.pop.ensures.items c.loop-shift.invariant.placed).0;
      spare = c.shift_one.ensures.spare ∙ c.loop-shift.invariant.spare;
    }
