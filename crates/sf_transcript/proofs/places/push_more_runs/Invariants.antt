use Rattle.std.proofs.Common.{◌≡◌, ◌++◌, take}
use Rattle.std.specs.Prelude.{codes}
use Rattle.std.specs.List.{flat_map}
use Rattle.sf_types.specs.Orders.Transcripts.{run_text}
use Rattle.sf_transcript.proofs.places.push_more_runs.Given as goal

abbrev pub invariant-loop-run : goal.invariant-loop-run
invariant-loop-run l = l.text.items ≡ l.fn.text.items ++ flat_map (λ run. codes "," ++ run_text run) (take l.run-index l.runs)
