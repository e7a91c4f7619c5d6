use Rattle.std.proofs.Common.{◌∙◌, ap}
use Rattle.std.proofs.lemmas.List.Sorted.{searched}
use Rattle.sf_lifetimes.specs.Ledgers.{has_birth}
use Rattle.sf_lifetimes.proofs.CountLemmas.{rising_le}
use Rattle.sf_types.specs.Inside.Births.{IsRising}
use Rattle.std.proofs.Common.{subst, sym}
use Rattle.sf_store_half.proofs.HasBirthLemmas.{found_by_search}
use Rattle.sf_store_half.proofs.trials.has_birth.Goals as goal

pub returns : goal.returns
returns c =
    let births = c.as_slice.result.now in
    let rising : IsRising births = subst IsRising (sym c.as_slice.ensures.births) c.as_slice.ensures.rising in
    c.is_ok.ensures.value
    ∙ found_by_search births c.args.birth c.binary_search.result (searched births c.args.birth c.binary_search.result c.binary_search.ensures.position (rising_le births rising))
    ∙ ap (λ bs. has_birth bs c.args.birth) c.as_slice.ensures.births
