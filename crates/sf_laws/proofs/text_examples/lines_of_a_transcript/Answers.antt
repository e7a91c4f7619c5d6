-- Numbers and digests are written out by the words of std and of hex, which have to be opened.
use Rattle.std.proofs.Common.{refl}
use Rattle.std.specs.Fmt.{digits}
use Rattle.hex.specs.Hex.{encode_with}
use Rattle.sf_laws.proofs.text_examples.lines_of_a_transcript.Goals as goal

pub returns-clause-order : goal.returns-clause-order
unfolding digits encode_with
returns-clause-order c = refl

pub returns-clause-reply : goal.returns-clause-reply
unfolding digits encode_with
returns-clause-reply c = refl

pub returns-clause-replies : goal.returns-clause-replies
unfolding digits encode_with
returns-clause-replies c = refl

pub returns-clause-place : goal.returns-clause-place
unfolding digits encode_with
returns-clause-place c = refl

pub returns-clause-row : goal.returns-clause-row
unfolding digits encode_with
returns-clause-row c = refl
