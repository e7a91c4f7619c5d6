-- The words of the reasons (our own).
use Rattle.std.specs.Prelude.{ℕ, List, codes}
use Rattle.sf_script.specs.declared.fault.Reason.{Reason}
use Rattle.sf_script.specs.declared.fault.Reason.TheVariants.{Size, Bytes, Place, Session, Form, Limit, Short}

-- The word of a reason.
abbrev pub word_of : Reason → List ℕ
word_of Size = codes "size"
word_of Bytes = codes "bytes"
word_of Place = codes "place"
word_of Session = codes "session"
word_of Form = codes "form"
word_of Limit = codes "limit"
word_of Short = codes "short"
