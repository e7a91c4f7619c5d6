-- Numbers and digests are written out by the words of std and of hex, which have to be opened.
use Rattle.std.proofs.Common.{refl}
use Rattle.std.specs.Fmt.{digits}
use Rattle.hex.specs.Hex.{encode_with}
use Rattle.sf_laws.proofs.text_examples.texts_of_refusals.Goals as goal

pub returns-clause-space : goal.returns-clause-space
unfolding digits encode_with
returns-clause-space c = refl
