-- Numbers and digests are written out by the words of std and of hex, which have to be opened.
use Rattle.std.proofs.Common.{refl}
use Rattle.std.specs.Fmt.{digits}
use Rattle.hex.specs.Hex.{encode_with}
use Rattle.sf_laws.proofs.text_examples.a_whole_transcript.Goals as goal

pub returns : goal.returns
unfolding digits encode_with
returns c = record { text = refl }
