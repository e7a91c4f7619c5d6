use Rattle.sf_script_calls.proofs.HexLemmas.{length-hex_bytes}
use Rattle.sf_script_calls.proofs.hex_digits.HexDigits.byte_count.Goals as goal

pub returns : goal.returns
returns c = length-hex_bytes c.args.self.digits.now
