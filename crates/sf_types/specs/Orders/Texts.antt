-- The text of each reply (our own; the digest is that of FIPS 180-4).
use Rattle.std.specs.Prelude.{ℕ, Bool, true, false, nat_le, List, [], ◌++◌, length, codes, if◌then◌else◌}
use Rattle.std.specs.Fmt.{decimal}
use Rattle.hex.specs.Hex.{encode_lower}
use Rattle.sha2.specs.Sha256.{sha256}
use Rattle.sf_types.specs.declared.reply.Fault.{Fault}
use Rattle.sf_types.specs.declared.reply.Fault.TheVariants as fault
use Rattle.sf_types.specs.declared.reply.Reply.{Reply}
use Rattle.sf_types.specs.declared.reply.Reply.TheVariants as reply

-- The words of a refusal, up to what it tells. Each number is this project's choice, after Oracle's.
abbrev pub fault_words : Fault → List ℕ
fault_words fault.UnknownLocator = codes "unknown-locator"
fault_words fault.TooManyLocators = codes "too-many-locators"
fault_words fault.Lost = codes "lost"
fault_words fault.ReadOnly = codes "read-only"
fault_words fault.SpansTransactions = codes "spans-transactions 22990"
fault_words fault.RowNotLocked = codes "row-not-locked 22920"
fault_words fault.NoSuchRow = codes "no-such-row"
fault_words fault.Duplicate = codes "duplicate 1"
fault_words fault.Busy = codes "busy 54"
fault_words fault.ArgOutOfRange = codes "out-of-range 21560"
fault_words fault.NoData = codes "no-data 1403"
fault_words fault.TrimPastEnd = codes "trim-past-end 22926"
fault_words fault.SourcePastEnd = codes "source-past-end 22994"
fault_words fault.TooLong = codes "too-long"
fault_words fault.TooOld = codes "too-old 22924"
fault_words fault.FutureCommit = codes "future-commit"
fault_words fault.TooManySavepoints = codes "too-many-savepoints"
fault_words fault.NoSavepoint = codes "no-savepoint"
fault_words (fault.NoSpace wanted free) = codes "no-space 1691"

-- What a refusal tells beside its words: for want of space, the blocks that were wanted and those that were free.
abbrev pub fault_numbers : Fault → List ℕ
fault_numbers (fault.NoSpace wanted free) = codes " wanted " ++ decimal wanted ++ codes " free " ++ decimal free
fault_numbers _ = []

-- The text of a refusal: its words, and what it tells.
abbrev pub fault_text : Fault → List ℕ
fault_text f = fault_words f ++ fault_numbers f

-- Up to 128 bytes stand as hex digits. Of more, the text has their number and their digest.
abbrev pub bytes_text : List ℕ → List ℕ
bytes_text bytes =
    if nat_le (length bytes) 128
    then codes "x" ++ encode_lower bytes
    else codes "bytes " ++ decimal (length bytes) ++ codes " " ++ encode_lower (sha256 bytes)

-- The text of a comparison.
abbrev pub equal_text : Bool → List ℕ
equal_text true = codes "equal"
equal_text false = codes "differ"

-- The text of a reply, without a line feed.
abbrev pub text_of_reply : Reply → List ℕ
text_of_reply reply.Done = codes "ok"
text_of_reply (reply.Number n) = decimal n
text_of_reply (reply.Bytes bytes) = bytes_text bytes
text_of_reply (reply.Equal same) = equal_text same
text_of_reply (reply.Committed n) = codes "commit " ++ decimal n
text_of_reply reply.Ended = codes "end"
text_of_reply (reply.Refused f) = codes "refused " ++ fault_text f
