-- Scripts that are being read (our own).
use Rattle.std.specs.Prelude.{◌≡◌, ℕ, ◌≤◌, length}
use Rattle.sf_script.specs.declared.limits.TheConstants.{SCRIPT_CALLS, SCRIPT_PAYLOAD_BYTES, SCRIPT_TURNS}
use Rattle.sf_script.specs.Parts.{ScriptParts, IsScript, call_count, payload_bytes}

-- A script with the number of its calls and of their payload bytes, which are within the limits. So are its turns.
pub record IsDraft (parts : ScriptParts) (count bytes : ℕ) : Type 0 where
  pub script : IsScript parts
  pub calls : count ≡ call_count parts.calls
  pub payloads : bytes ≡ payload_bytes parts.calls
  pub few : count ≤ SCRIPT_CALLS
  pub small : bytes ≤ SCRIPT_PAYLOAD_BYTES
  pub short : length parts.turns ≤ SCRIPT_TURNS
