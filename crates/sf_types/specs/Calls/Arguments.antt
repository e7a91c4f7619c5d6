-- How the arguments of a call are refused (after the DBMS_LOB reference; the ranges of the fragment calls, of INSTR and of
-- COMPARE, and the order of refusals are our own). `size` is the length of the value that the call works on, and `source`
-- that of the source of Append and Copy.
use Rattle.std.specs.Prelude.{ℕ, ◌+◌, ◌-◌, ◌==◌, Bool, ◌&&◌, ◌||◌, nat_lt, min, List, [], ◌∷◌, length}
use Rattle.sf_types.specs.declared.call.Call.{Call}
use Rattle.sf_types.specs.declared.call.Call.TheVariants as call
use Rattle.sf_types.specs.declared.reply.Fault.{Fault}
use Rattle.sf_types.specs.declared.reply.Fault.TheVariants as fault
use Rattle.sf_types.specs.declared.limits.TheConstants.{BUFFER_BYTES, OBJECT_BYTES}

-- An amount that is read is out of range where it is 0 or more than a buffer holds.
abbrev pub is_read_out_of_range : ℕ → ℕ → Bool
is_read_out_of_range amount offset = amount == 0 || nat_lt BUFFER_BYTES amount || offset == 0

-- A buffer or a pattern is out of range where it is empty or longer than a buffer may be.
abbrev pub is_buffer_out_of_range : List ℕ → Bool
is_buffer_out_of_range buffer = length buffer == 0 || nat_lt BUFFER_BYTES (length buffer)

-- A part is out of range where it is empty, begins at 0 or ends past the end.
abbrev pub is_part_out_of_range : ℕ → ℕ → ℕ → Bool
is_part_out_of_range amount offset size =
    amount == 0 || offset == 0 || nat_lt size (offset - 1 + amount)

-- An offset before a byte of a value or behind its last one is out of range where it is 0 or greater.
abbrev pub is_target_out_of_range : ℕ → ℕ → Bool
is_target_out_of_range offset size = offset == 0 || nat_lt (size + 1) offset

-- How many bytes Copy takes from its source: the amount, or what the source has from its offset.
abbrev pub copied_count : ℕ → ℕ → ℕ → ℕ
copied_count amount offset source = min amount (source - (offset - 1))

-- Whether an object of so many bytes is too long.
abbrev pub is_too_long : ℕ → Bool
is_too_long size = nat_lt OBJECT_BYTES size

-- Read: the amount or the offset is out of range, then the offset is past the end.
abbrev pub read_arguments : ℕ → ℕ → ℕ → List (Bool × Fault)
read_arguments amount offset size =
    (is_read_out_of_range amount offset, fault.ArgOutOfRange) ∷ (nat_lt size offset, fault.NoData) ∷ []

-- Instr: the pattern or the offset is out of range.
abbrev pub instr_arguments : List ℕ → ℕ → List (Bool × Fault)
instr_arguments pattern offset = (is_buffer_out_of_range pattern || offset == 0, fault.ArgOutOfRange) ∷ []

-- Compare: the amount or an offset is 0.
abbrev pub compare_arguments : ℕ → ℕ → ℕ → List (Bool × Fault)
compare_arguments amount left_offset right_offset =
    (amount == 0 || left_offset == 0 || right_offset == 0, fault.ArgOutOfRange) ∷ []

-- Write: the buffer or the offset is out of range, then the object would be too long.
abbrev pub write_arguments : ℕ → List ℕ → List (Bool × Fault)
write_arguments offset buffer =
    (is_buffer_out_of_range buffer || offset == 0, fault.ArgOutOfRange)
    ∷ (is_too_long (offset - 1 + length buffer), fault.TooLong)
    ∷ []

-- WriteAppend: the buffer is out of range, then the object would be too long.
abbrev pub write_append_arguments : List ℕ → ℕ → List (Bool × Fault)
write_append_arguments buffer size =
    (is_buffer_out_of_range buffer, fault.ArgOutOfRange) ∷ (is_too_long (size + length buffer), fault.TooLong) ∷ []

-- Append: the object would be too long.
abbrev pub append_arguments : ℕ → ℕ → List (Bool × Fault)
append_arguments size source = (is_too_long (size + source), fault.TooLong) ∷ []

-- Copy: the amount or an offset is 0, then the source's offset is past its end, then the object would be too long.
abbrev pub copy_arguments : ℕ → ℕ → ℕ → ℕ → List (Bool × Fault)
copy_arguments amount to_offset from_offset source =
    (amount == 0 || to_offset == 0 || from_offset == 0, fault.ArgOutOfRange)
    ∷ (nat_lt source from_offset, fault.SourcePastEnd)
    ∷ (is_too_long (to_offset - 1 + copied_count amount from_offset source), fault.TooLong)
    ∷ []

-- Erase: the amount or the offset is 0.
abbrev pub erase_arguments : ℕ → ℕ → List (Bool × Fault)
erase_arguments amount offset = (amount == 0 || offset == 0, fault.ArgOutOfRange) ∷ []

-- Trim: a value that isn't empty is shorter than the new length. An empty value is trimmed to every length.
abbrev pub trim_arguments : ℕ → ℕ → List (Bool × Fault)
trim_arguments new_size size = (nat_lt 0 size && nat_lt size new_size, fault.TrimPastEnd) ∷ []

-- FragInsert: the buffer or the offset is out of range, then the object would be too long.
abbrev pub insert_arguments : ℕ → List ℕ → ℕ → List (Bool × Fault)
insert_arguments offset buffer size =
    (is_buffer_out_of_range buffer || is_target_out_of_range offset size, fault.ArgOutOfRange)
    ∷ (is_too_long (size + length buffer), fault.TooLong)
    ∷ []

-- FragDelete: the part is out of range.
abbrev pub delete_arguments : ℕ → ℕ → ℕ → List (Bool × Fault)
delete_arguments amount offset size = (is_part_out_of_range amount offset size, fault.ArgOutOfRange) ∷ []

-- FragMove: the part or the offset to which it goes is out of range.
abbrev pub move_arguments : ℕ → ℕ → ℕ → ℕ → List (Bool × Fault)
move_arguments amount from_offset to_offset size =
    (is_part_out_of_range amount from_offset size || is_target_out_of_range to_offset size, fault.ArgOutOfRange) ∷ []

-- FragReplace: the buffer or the part is out of range, then the object would be too long.
abbrev pub replace_arguments : ℕ → ℕ → List ℕ → ℕ → List (Bool × Fault)
replace_arguments old_amount offset buffer size =
    (is_buffer_out_of_range buffer || is_part_out_of_range old_amount offset size, fault.ArgOutOfRange)
    ∷ (is_too_long (size - old_amount + length buffer), fault.TooLong)
    ∷ []

-- The refusals of each call's arguments, in their order. The other calls have none.
abbrev pub argument_refusals : Call → ℕ → ℕ → List (Bool × Fault)
argument_refusals (call.Read at amount offset) size source = read_arguments amount offset size
argument_refusals (call.Instr at pattern offset) size source = instr_arguments pattern offset
argument_refusals (call.Compare left right amount left_offset right_offset) size source =
    compare_arguments amount left_offset right_offset
argument_refusals (call.Write at offset buffer) size source = write_arguments offset buffer
argument_refusals (call.WriteAppend at buffer) size source = write_append_arguments buffer size
argument_refusals (call.Append at from) size source = append_arguments size source
argument_refusals (call.Copy at from amount to_offset from_offset) size source =
    copy_arguments amount to_offset from_offset source
argument_refusals (call.Erase at amount offset) size source = erase_arguments amount offset
argument_refusals (call.Trim at new_size) size source = trim_arguments new_size size
argument_refusals (call.FragInsert at offset buffer) size source = insert_arguments offset buffer size
argument_refusals (call.FragDelete at amount offset) size source = delete_arguments amount offset size
argument_refusals (call.FragMove at amount from_offset to_offset) size source =
    move_arguments amount from_offset to_offset size
argument_refusals (call.FragReplace at old_amount offset buffer) size source =
    replace_arguments old_amount offset buffer size
argument_refusals _ size source = []
