use Rattle.std.proofs.Common.{◌≡◌, ◌++◌, true, length}
use Rattle.std.specs.List.{list_all}
use Rattle.sf_script_calls.specs.Payloads.{is_hex_digit, hex_bytes}
use Rattle.sf_script_calls.proofs.hex_digits.hex_bytes.Given as goal

abbrev pub invariant-loop-rest : goal.invariant-loop-rest
invariant-loop-rest l = (l.bytes.items ++ hex_bytes l.rest ≡ hex_bytes l.digits) × (list_all is_hex_digit l.rest ≡ true)

abbrev pub decreases-loop-rest : goal.decreases-loop-rest
decreases-loop-rest l = length l.rest
