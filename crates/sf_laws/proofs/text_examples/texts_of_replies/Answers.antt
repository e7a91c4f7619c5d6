-- Numbers and digests are written out by the words of std and of hex, which have to be opened.
use Rattle.std.proofs.Common.{refl}
use Rattle.std.specs.Fmt.{digits}
use Rattle.hex.specs.Hex.{encode_with}
use Rattle.sf_laws.proofs.text_examples.texts_of_replies.Goals as goal

pub returns-clause-number : goal.returns-clause-number
unfolding digits encode_with
returns-clause-number c = refl

pub returns-clause-none : goal.returns-clause-none
unfolding digits encode_with
returns-clause-none c = refl

pub returns-clause-bytes : goal.returns-clause-bytes
unfolding digits encode_with
returns-clause-bytes c = refl

pub returns-clause-most : goal.returns-clause-most
unfolding digits encode_with
returns-clause-most c = refl

pub returns-clause-committed : goal.returns-clause-committed
unfolding digits encode_with
returns-clause-committed c = refl
