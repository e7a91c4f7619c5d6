-- What holds of zero bytes and of fresh bytes holds of each byte of an edit's result where it holds of the bytes before.
use Rattle.std.proofs.Common.{ℕ, ◌+◌, ◌-◌, Bool, true, false, cond, List, ◌++◌, length, take, drop, replicate}
use Rattle.std.specs.Prelude.{nat_le, nat_lt}
use Rattle.std.specs.List.{AllByRecursion as Each}
use Rattle.sf_types.specs.declared.call.Call.{Call}
use Rattle.sf_types.specs.declared.call.Call.TheVariants as call
use Rattle.sf_types.specs.Values.Marks.{Marked, zero_byte, fresh_byte, fresh_bytes}
use Rattle.sf_types.specs.Values.Edits as edits
use Rattle.sf_types.specs.Calls.WritingCalls.{result_bytes}
use Rattle.sf_laws.proofs.EachLemmas.{each-append, each-take, each-drop, each-replicate, each-map, each_of_any}

-- It holds of bytes that no content holds.
pub record OfUnstored (M : Marked → Type 0) : Type 0 where
  pub of_zero : M zero_byte
  pub of_fresh : (b : ℕ) → M (fresh_byte b)

pub of_buffer : (M : Marked → Type 0) → OfUnstored M → (bytes : List ℕ) → Each M (fresh_bytes bytes)
of_buffer M un bytes = each-map M fresh_byte bytes (each_of_any (λ b. M (fresh_byte b)) bytes un.of_fresh)

part_holds : (M : Marked → Type 0) (v : List Marked) (amount offset : ℕ) → Each M v → Each M (edits.part v amount offset)
part_holds M v amount offset all = each-take M amount (drop (offset - 1) v) (each-drop M (offset - 1) v all)

three : (M : Marked → Type 0) (a b c : List Marked) → Each M a → Each M b → Each M c → Each M (a ++ b ++ c)
three M a b c x y z = each-append M (a ++ b) c (each-append M a b x y) z

four : (M : Marked → Type 0) (a b c d : List Marked) → Each M a → Each M b → Each M c → Each M d → Each M (a ++ b ++ c ++ d)
four M a b c d w x y z = each-append M (a ++ b ++ c) d (three M a b c w x y) z

put_holds : (M : Marked → Type 0) → OfUnstored M → (v : List Marked) (offset : ℕ) (items : List Marked) → Each M v → Each M items → Each M (edits.put zero_byte v offset items)
put_holds M un v offset items all new =
    let long = edits.with_padding zero_byte v (offset - 1) in
    let padded : Each M long = each-append M v (replicate (offset - 1 - length v) zero_byte) all (each-replicate M (offset - 1 - length v) zero_byte un.of_zero) in
    three M (take (offset - 1) long) items (drop (offset - 1 + length items) long) (each-take M (offset - 1) long padded) new (each-drop M (offset - 1 + length items) long padded)

between : (M : Marked → Type 0) (v : List Marked) (m n : ℕ) (items : List Marked) → Each M v → Each M items → Each M (take m v ++ items ++ drop n v)
between M v m n items all new = three M (take m v) items (drop n v) (each-take M m v all) new (each-drop M n v all)

if_holds : (M : Marked → Type 0) (b : Bool) (x y : List Marked) → Each M x → Each M y → Each M (cond b x y)
if_holds M true x y a b = a
if_holds M false x y a b = b

move_holds : (M : Marked → Type 0) (v : List Marked) (amount from to : ℕ) → Each M v → Each M (edits.move v amount from to)
move_holds M v amount from to all =
    if_holds M (nat_lt to from) (edits.move_front v amount from to) (cond (nat_le to (from + amount)) v (edits.move_back v amount from to))
    (four M (take (to - 1) v) (edits.part v amount from) (edits.part v (from - to) to) (drop (from - 1 + amount) v) (each-take M (to - 1) v all) (part_holds M v amount from all) (part_holds M v (from - to) to all) (each-drop M (from - 1 + amount) v all))
    (if_holds M (nat_le to (from + amount)) v (edits.move_back v amount from to) all
    (four M (take (from - 1) v) (edits.part v (to - (from + amount)) (from + amount)) (edits.part v amount from) (drop (to - 1) v) (each-take M (from - 1) v all) (part_holds M v (to - (from + amount)) (from + amount) all) (part_holds M v amount from all) (each-drop M (to - 1) v all)))

pub edited_holds : (M : Marked → Type 0) → OfUnstored M → (c : Call) (v source : List Marked) → Each M v → Each M source → Each M (result_bytes c v source)
edited_holds M un (call.Write at offset buffer) v source all other = put_holds M un v offset (fresh_bytes buffer) all (of_buffer M un buffer)
edited_holds M un (call.WriteAppend at buffer) v source all other = each-append M v (fresh_bytes buffer) all (of_buffer M un buffer)
edited_holds M un (call.Append at from) v source all other = each-append M v source all other
edited_holds M un (call.Copy at from amount to_offset from_offset) v source all other =
    put_holds M un v to_offset (edits.part source amount from_offset) all (part_holds M source amount from_offset other)
edited_holds M un (call.Erase at amount offset) v source all other =
    between M v (offset - 1) (offset - 1 + amount) (replicate (edits.erased_count v amount offset) zero_byte) all (each-replicate M (edits.erased_count v amount offset) zero_byte un.of_zero)
edited_holds M un (call.Trim at new_size) v source all other = each-take M new_size v all
edited_holds M un (call.FragInsert at offset buffer) v source all other = between M v (offset - 1) (offset - 1) (fresh_bytes buffer) all (of_buffer M un buffer)
edited_holds M un (call.FragDelete at amount offset) v source all other =
    each-append M (take (offset - 1) v) (drop (offset - 1 + amount) v) (each-take M (offset - 1) v all) (each-drop M (offset - 1 + amount) v all)
edited_holds M un (call.FragMove at amount from_offset to_offset) v source all other = move_holds M v amount from_offset to_offset all
edited_holds M un (call.FragReplace at old_amount offset buffer) v source all other = between M v (offset - 1) (offset - 1 + old_amount) (fresh_bytes buffer) all (of_buffer M un buffer)
edited_holds M un _ v source all other = all
