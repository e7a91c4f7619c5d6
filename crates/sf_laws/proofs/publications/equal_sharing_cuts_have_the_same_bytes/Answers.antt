use Rattle.std.proofs.Common.{◌≡◌, true, refl}
use Rattle.std.specs.Prelude.{bytes_eq}
use Rattle.std.proofs.lemmas.Slice.Eq.{bytes_eq-Decides}
use Rattle.sf_types.specs.Space.Cuts.{Cut}
use Rattle.sf_types.specs.Space.Promises.{is_equal_sharing}
use Rattle.sf_laws.proofs.WantedLemmas.{sharing_pair}
use Rattle.sf_laws.proofs.publications.equal_sharing_cuts_have_the_same_bytes.Goals as goal

equal_from : (cut other : Cut) → cut.is_sharing ≡ true → other.is_sharing ≡ true → bytes_eq cut.bytes other.bytes ≡ true → is_equal_sharing cut other ≡ true
equal_from cut other first second same = rw (first, second, same) refl

pub returns : goal.returns
returns c = record { law = λ cut other. (sharing_pair cut other, λ parts. equal_from cut other parts.0 parts.1 ((bytes_eq-Decides cut.bytes other.bytes).1 parts.2)) }
