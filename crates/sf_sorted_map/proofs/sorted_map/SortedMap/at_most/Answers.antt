use Rattle.std.proofs.Common.{◌≤◌, ◌-◌, ◌∙◌, ap, sym, subst, arith}
use Rattle.std.specs.Prelude.{slice_get}
use Rattle.sf_sorted_map.specs.UpTo.{entry_up_to}
use Rattle.sf_sorted_map.specs.Inside.Places.{IsFound, IsGap}
use Rattle.sf_sorted_map.proofs.PlaceLemmas.{found_up_to, gap_up_to, none_below_gap}
use Rattle.sf_sorted_map.proofs.sorted_map.SortedMap.at_most.Goals as goal

pub returns-in-Ok : goal.returns-in-Ok
returns-in-Ok g c =
    let order = g.K.Ord.cmp in
    let key = c.args.key.now in
    let at = c.in-Ok.at in
    let found = subst (λ es. IsFound order es key at) c.deref.ensures.value c.in-Ok.ensures.found in
    c.entry.ensures ∙ ap (λ v. slice_get v.held at) (sym c.self.view_is)
    ∙ sym (found_up_to order c.self.inside.entries.items key at found)
    ∙ ap (λ v. entry_up_to order v.held key) c.self.view_is

pub returns-in-Err-eq0 : goal.returns-in-Err-eq0
returns-in-Err-eq0 g c =
    let order = g.K.Ord.cmp in
    let key = c.args.key.now in
    let gap = subst (λ es. IsGap order es key c.in-Err-eq0.field-0) c.deref.ensures.value c.in-Err-eq0.ensures.gap in
    sym (none_below_gap order c.self.inside.entries.items key (subst (IsGap order c.self.inside.entries.items key) {x = c.in-Err-eq0.field-0} {y = 0} (omega (arith, c.in-Err-eq0.field-0-is, c.in-Err-eq0.field-0-test)) gap))
    ∙ ap (λ v. entry_up_to order v.held key) c.self.view_is

pub returns-in-Err : goal.returns-in-Err
returns-in-Err g c =
    let order = g.K.Ord.cmp in
    let key = c.args.key.now in
    let at = c.in-Err.at in
    let gap = subst (λ es. IsGap order es key at) c.deref.ensures.value c.in-Err.ensures.gap in
    let later : 1 ≤ at = omega (arith, c.in-Err.at-is) in
    c.entry-in-Err.ensures ∙ ap (λ v. slice_get v.held (at - 1)) (sym c.self.view_is)
    ∙ sym (gap_up_to order c.self.inside.entries.items key at later gap)
    ∙ ap (λ v. entry_up_to order v.held key) c.self.view_is
