use Rattle.std.proofs.Common.{◌∙◌, arith, ap, sym, length}
use Rattle.sf_dedup.specs.Prints.{print_of}
use Rattle.sf_stock.specs.Inside.Keeps.{copied_if}
use Rattle.sf_stock.proofs.JoinLemmas.{few_runs}
use Rattle.sf_stock.proofs.new_content.NewContent.new.Goals as goal

pub invariant_of-result : goal.invariant_of-result
invariant_of-result c = record {
  printed = c.requires.print ∙ ap print_of (sym c.in_ok-copy.ensures);
  copied = c.in_ok-shared.ensures ∙ ap (copied_if c.args.is_shared) (sym c.in_ok-copy.ensures);
  maximal = c.in_ok-runs.ensures.runs;
  few = omega (arith, few_runs c.in_ok-runs.runs c.in_ok-runs.ensures.runs, ap length c.in_ok-runs.ensures.blocks, c.requires.few);
}
