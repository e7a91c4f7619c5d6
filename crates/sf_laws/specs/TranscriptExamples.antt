-- Histories whose transcripts are worked out (our own).
use Rattle.std.specs.Prelude.{ℕ, List, [], ◌∷◌, ◌++◌, codes}
use Rattle.sf_types.specs.declared.call.Call.{Call}
use Rattle.sf_types.specs.declared.call.Call.TheVariants as call
use Rattle.sf_types.specs.declared.history.Entry.{Entry}
use Rattle.hex.specs.Hex.{encode_lower}
use Rattle.sha2.specs.Sha256.{sha256}
use Rattle.sf_laws.specs.Histories.{calls, flushes}

-- The first path: an object of three bytes is made, read and committed.
abbrev pub first_calls : List Call
first_calls =
    call.Insert (codes "a")
    ∷ call.Lock (codes "p") (codes "a")
    ∷ call.WriteAppend (codes "p") (codes "abc")
    ∷ call.Length (codes "p")
    ∷ call.Read (codes "p") 3 1
    ∷ call.Commit
    ∷ []

-- The commit is due: its promise stands before it.
abbrev pub first_history : List Entry
first_history =
    calls (
    call.Insert (codes "a")
    ∷ call.Lock (codes "p") (codes "a")
    ∷ call.WriteAppend (codes "p") (codes "abc")
    ∷ call.Length (codes "p")
    ∷ call.Read (codes "p") 3 1
    ∷ [])
    ++ flushes call.Commit
    ++ calls (call.End ∷ [])

-- The digest of the object's three bytes, in hex.
abbrev sum_of_abc : List ℕ
sum_of_abc = encode_lower (sha256 (codes "abc"))

-- The lines of the first path's transcript up to the digest of its content: the commit's promise is marked in the order.
abbrev pub first_lines : List ℕ
first_lines =
    codes "transcript 1" ++ 10
    ∷ codes "order 1 1 1 1 1 1+ 1 1" ++ 10
    ∷ codes "1.1 ok" ++ 10
    ∷ codes "1.2 ok" ++ 10
    ∷ codes "1.3 ok" ++ 10
    ∷ codes "1.4 3" ++ 10
    ∷ codes "1.5 x616263" ++ 10
    ∷ codes "1.6 commit 1" ++ 10
    ∷ codes "1.7 end" ++ 10
    ∷ codes "place 1 3 "

-- The whole transcript: the content stands in the first block, and the object of the row a has three bytes. A digest
-- doesn't unfold; all else is written out.
abbrev pub first_transcript : List ℕ
first_transcript =
    first_lines ++ sum_of_abc ++ codes " 0+1" ++ 10
    ∷ codes "free 1023" ++ 10
    ∷ codes "row a 3 " ++ sum_of_abc ++ 10
    ∷ codes "now 1" ++ 10 ∷ []
