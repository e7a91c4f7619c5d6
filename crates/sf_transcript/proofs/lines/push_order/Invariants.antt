use Rattle.std.proofs.Common.{◌≡◌, ◌++◌, take}
use Rattle.std.specs.Prelude.{codes}
use Rattle.std.specs.List.{flat_map}
use Rattle.sf_types.specs.Orders.Transcripts.{token_text}
use Rattle.sf_transcript.proofs.lines.push_order.Given as goal

abbrev pub invariant-loop-token : goal.invariant-loop-token
invariant-loop-token l = l.text.items ≡ (l.fn.text.items ++ codes "order") ++ flat_map token_text (take l.token-index l.order)
