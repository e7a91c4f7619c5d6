-- The order of slots (our own).
use Rattle.std.specs.Ordering.{nat_cmp, ordering_then}
use Rattle.std.specs.Cmp.{IsTotalOrder, on_total, then_total, nat_cmp_total}
use Rattle.std.specs.declared.cmp.Ordering.{Ordering}
use Rattle.std.proofs.lemmas.Map.Lookups.{exact_pairs, exact_unsigned}
use Rattle.std.specs.FinMap.{IsAntisymmetric}
use Rattle.sf_row_locks.specs.declared.slot.Slot.{Slot}

-- By session, and then by number.
abbrev pub slot_cmp : Slot → Slot → Ordering
slot_cmp a b = ordering_then (nat_cmp a.session b.session) (nat_cmp a.at b.at)

pub slot_cmp_total : IsTotalOrder slot_cmp
slot_cmp_total = then_total (on_total (λ (a : Slot). a.session) nat_cmp_total) (on_total (λ (a : Slot). a.at) nat_cmp_total)

-- Slots that compare as equal are one.
pub slots_exact : IsAntisymmetric slot_cmp
slots_exact a b tie =
    let pairs = exact_pairs nat_cmp nat_cmp exact_unsigned exact_unsigned (a.session, a.at) (b.session, b.at) tie in
    λ i. record { session = (pairs i).0; at = (pairs i).1 }
