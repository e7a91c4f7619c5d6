-- What a store keeps for due calls, by sessions (our own).
use Rattle.std.specs.Prelude.{ℕ, ◌-◌, List, [], None, slice_get, unwrap_or}
use Rattle.sf_plain_store.specs.declared.due_calls.DueCall.{DueCall}

-- What is kept for a session without a due call.
abbrev pub no_due_call : DueCall
no_due_call = record { flush = None; blocks = record { held = []; spare = 0 } }

-- What is kept for session s.
abbrev pub due_call_of : List DueCall → ℕ → DueCall
due_call_of due_calls s = unwrap_or (slice_get due_calls (s - 1)) no_due_call
