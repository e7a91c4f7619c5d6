-- A capacity that is enough for a script's payloads (our own). What is said of it here is not proved yet.
use Rattle.std.specs.Prelude.{◌≡◌, ℕ, ◌+◌, ◌≤◌, Bool, true, false, List, map, length, sum, flat_map, Contains, is_some, if◌then◌else◌}
use Rattle.std.specs.List.{list_any}
use Rattle.sf_types.specs.declared.call.Call.{Call}
use Rattle.sf_types.specs.declared.call.Call.TheVariants as call
use Rattle.sf_types.specs.declared.options.Options.{Options}
use Rattle.sf_types.specs.declared.history.Token.{Token}
use Rattle.sf_types.specs.declared.reply.Fault.TheVariants as fault
use Rattle.sf_types.specs.declared.reply.Reply.TheVariants.{Refused}
use Rattle.sf_types.specs.Limits.{IsInRange}
use Rattle.sf_types.specs.Calls.WritingCalls.{written_name}
use Rattle.sf_types.specs.Space.Contents.{blocks_of}
use Rattle.sf_types.specs.Orders.Histories.{IsWhole}
use Rattle.sf_types.specs.Orders.Transcripts.{all_replies}

-- The payload of a writing call: the length of its buffer, 0 for calls without one.
abbrev pub payload_of : Call → ℕ
payload_of (call.Write at offset buffer) = length buffer
payload_of (call.WriteAppend at buffer) = length buffer
payload_of (call.FragInsert at offset buffer) = length buffer
payload_of (call.FragReplace at old_amount offset buffer) = length buffer
payload_of _ = 0

-- The blocks that a writing call may need at most.
abbrev pub need_of : Call → ℕ
need_of c = if is_some (written_name c) then blocks_of (payload_of c) + 3 else 0

-- Append, Copy and RollbackTo may bring fresh bytes a second time.
abbrev pub may_repeat : Call → Bool
may_repeat (call.Append at from) = true
may_repeat (call.Copy at from amount to_offset from_offset) = true
may_repeat (call.RollbackTo name) = true
may_repeat _ = false

-- In a script without such calls, whose needs are at most the capacity together, no reply is a refusal for want of
-- space, whatever the order.
abbrev pub EnoughSpace : Options → List (List Call) → Type 0
EnoughSpace options calls =
    IsInRange options
    → list_any may_repeat (flat_map (λ own. own) calls) ≡ false
    → sum (map need_of (flat_map (λ own. own) calls)) ≤ options.capacity
    → (order : List Token) (whole : IsWhole options calls order) (wanted free : ℕ)
    → Contains (flat_map (λ own. own) (all_replies options (length calls) whole.history)) (Refused (fault.NoSpace wanted free))
    → ⊥
