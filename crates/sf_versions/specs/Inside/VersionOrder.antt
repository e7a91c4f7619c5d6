-- The order of the places of versions (our own).
use Rattle.std.specs.Ordering.{nat_cmp, ordering_then}
use Rattle.std.specs.Cmp.{IsTotalOrder, on_total, then_total, nat_cmp_total}
use Rattle.std.specs.declared.cmp.Ordering.{Ordering}
use Rattle.std.proofs.lemmas.Map.Lookups.{exact_pairs, exact_unsigned}
use Rattle.std.specs.FinMap.{IsAntisymmetric}
use Rattle.sf_versions.specs.declared.key.VersionKey.{VersionKey}

-- By row, and then by rank.
abbrev pub key_cmp : VersionKey → VersionKey → Ordering
key_cmp a b = ordering_then (nat_cmp a.row b.row) (nat_cmp a.rank b.rank)

pub key_cmp_total : IsTotalOrder key_cmp
key_cmp_total = then_total (on_total (λ (a : VersionKey). a.row) nat_cmp_total) (on_total (λ (a : VersionKey). a.rank) nat_cmp_total)

-- Places that compare as equal are one.
pub keys_exact : IsAntisymmetric key_cmp
keys_exact a b tie =
    let pairs = exact_pairs nat_cmp nat_cmp exact_unsigned exact_unsigned (a.row, a.rank) (b.row, b.rank) tie in
    λ i. record { row = (pairs i).0; rank = (pairs i).1 }
