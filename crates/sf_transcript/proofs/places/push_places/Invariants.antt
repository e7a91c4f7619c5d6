use Rattle.std.proofs.Common.{◌≡◌, ◌++◌, take}
use Rattle.std.specs.List.{flat_map}
use Rattle.sf_types.specs.Orders.Transcripts.{place_line}
use Rattle.sf_transcript.proofs.places.push_places.Given as goal

abbrev pub invariant-loop-place : goal.invariant-loop-place
invariant-loop-place l = l.text.items ≡ l.fn.text.items ++ flat_map place_line (take l.place-index l.places)
