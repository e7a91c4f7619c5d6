-- How a call is printed (our own).
use Rattle.std.specs.Prelude.{ℕ, Bool, true, false, ◌&&◌, ◌==◌, nat_le, List, [], ◌∷◌, ◌++◌, length, take, map, if◌then◌else◌, codes}
use Rattle.std.specs.Fmt.{decimal}
use Rattle.std.specs.List.{list_all, flat_map}
use Rattle.hex.specs.Hex.{encode_lower}
use Rattle.sf_types.specs.declared.call.Call.{Call}
use Rattle.sf_types.specs.declared.call.Call.TheVariants as calls
use Rattle.sf_script_calls.specs.Payloads.{is_text_byte}

-- Words, each after one space.
abbrev pub spaced : List (List ℕ) → List ℕ
spaced words = flat_map (λ word. 32 ∷ word) words

-- Whether all bytes are the same.
abbrev pub are_equal_bytes : List ℕ → Bool
are_equal_bytes [] = true
are_equal_bytes (byte ∷ bytes) = list_all (λ other. other == byte) bytes

-- At least 3 equal bytes are printed as their number and the byte, else bytes that a text may hold as a text, and any
-- others in hex digits.
unfoldable pub printed_payload : List ℕ → List ℕ
printed_payload bytes =
    if nat_le 3 (length bytes) && are_equal_bytes bytes then decimal (length bytes) ++ codes "*x" ++ encode_lower (take 1 bytes)
    else if list_all is_text_byte bytes then codes "\"" ++ bytes ++ codes "\""
    else codes "x" ++ encode_lower bytes

-- What is printed of a call: its word, names and words behind it, numbers, and a payload where it has one.
pub record CallText : Type 0 where
  pub word : List ℕ
  pub names : List (List ℕ)
  pub numbers : List ℕ
  pub payloads : List (List ℕ)

-- A call without a payload.
abbrev pub plain : List ℕ → List (List ℕ) → List ℕ → CallText
plain word names numbers = record { word = word; names = names; numbers = numbers; payloads = [] }

-- A call with a payload.
abbrev pub with_payload : List ℕ → List (List ℕ) → List ℕ → List ℕ → CallText
with_payload word names numbers bytes = record { word = word; names = names; numbers = numbers; payloads = bytes ∷ [] }

-- `on` or `off`
abbrev pub on_or_off : Bool → List ℕ
on_or_off true = codes "on"
on_or_off false = codes "off"

-- What is printed of each call. No script has an End.
abbrev pub call_text : Call → CallText
call_text (calls.Insert row) = plain (codes "insert") (row ∷ []) []
call_text (calls.Delete row) = plain (codes "delete") (row ∷ []) []
call_text (calls.Lock to row) = plain (codes "lock") (to ∷ row ∷ []) []
call_text (calls.Select to row) = plain (codes "select") (to ∷ row ∷ []) []
call_text (calls.SelectAsOf to row commit) = plain (codes "asof") (to ∷ row ∷ []) (commit ∷ [])
call_text (calls.Assign to from) = plain (codes "assign") (to ∷ from ∷ []) []
call_text (calls.Free at) = plain (codes "free") (at ∷ []) []
call_text (calls.Length at) = plain (codes "length") (at ∷ []) []
call_text (calls.Read at amount offset) = plain (codes "read") (at ∷ []) (amount ∷ offset ∷ [])
call_text (calls.Instr at pattern offset) = with_payload (codes "instr") (at ∷ []) (offset ∷ []) pattern
call_text (calls.Compare left right amount left_offset right_offset) = plain (codes "compare") (left ∷ right ∷ []) (amount ∷ left_offset ∷ right_offset ∷ [])
call_text (calls.Write at offset bytes) = with_payload (codes "write") (at ∷ []) (offset ∷ []) bytes
call_text (calls.WriteAppend at bytes) = with_payload (codes "writeappend") (at ∷ []) [] bytes
call_text (calls.Append at from) = plain (codes "append") (at ∷ from ∷ []) []
call_text (calls.Copy at from amount to_offset from_offset) = plain (codes "copy") (at ∷ from ∷ []) (amount ∷ to_offset ∷ from_offset ∷ [])
call_text (calls.Erase at amount offset) = plain (codes "erase") (at ∷ []) (amount ∷ offset ∷ [])
call_text (calls.Trim at size) = plain (codes "trim") (at ∷ []) (size ∷ [])
call_text (calls.FragInsert at offset bytes) = with_payload (codes "fraginsert") (at ∷ []) (offset ∷ []) bytes
call_text (calls.FragDelete at amount offset) = plain (codes "fragdelete") (at ∷ []) (amount ∷ offset ∷ [])
call_text (calls.FragMove at amount from_offset to_offset) = plain (codes "fragmove") (at ∷ []) (amount ∷ from_offset ∷ to_offset ∷ [])
call_text (calls.FragReplace at old_amount offset bytes) = with_payload (codes "fragreplace") (at ∷ []) (old_amount ∷ offset ∷ []) bytes
call_text (calls.SetOptions at share) = plain (codes "setoptions") (at ∷ codes "dedup" ∷ on_or_off share ∷ []) []
call_text (calls.Savepoint name) = plain (codes "savepoint") (name ∷ []) []
call_text (calls.RollbackTo name) = plain (codes "rollback") (codes "to" ∷ name ∷ []) []
call_text calls.Commit = plain (codes "commit") [] []
call_text calls.Rollback = plain (codes "rollback") [] []
call_text calls.End = plain [] [] []

-- A call's text behind its session: each part after one space.
unfoldable pub printed_text : CallText → List ℕ
printed_text text = spaced (text.word ∷ []) ++ spaced text.names ++ spaced (map decimal text.numbers) ++ spaced (map printed_payload text.payloads)

-- A call's line: its session, a colon, and the call.
unfoldable pub printed_call : ℕ → Call → List ℕ
printed_call session call = decimal session ++ codes ":" ++ printed_text (call_text call) ++ 10 ∷ []
