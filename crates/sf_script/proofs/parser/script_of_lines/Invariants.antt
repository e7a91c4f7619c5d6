use Rattle.std.proofs.Common.{◌≡◌, ◌+◌, ◌≤◌, length}
use Rattle.sf_script.specs.declared.reading.Reading.TheVariants as reads
use Rattle.sf_script.specs.Lines.{lines_of}
use Rattle.sf_script.specs.Scripts.{script_from}
use Rattle.sf_script.proofs.parser.script_of_lines.Given as goal

abbrev pub invariant-loop-line : goal.invariant-loop-line
invariant-loop-line l =
    (script_from l.number l.reading (lines_of l.rest) ≡ script_from 1 reads.Nothing (lines_of l.bytes)) × (l.number + length l.rest ≤ length l.bytes + 1)

abbrev pub decreases-loop-line : goal.decreases-loop-line
decreases-loop-line l = length l.rest
