use Rattle.std.proofs.Common.{◌≡◌, ◌++◌, drop}
use Rattle.sf_types.specs.Space.Publications.{births_for, contents_after}
use Rattle.sf_plain.proofs.gifts.give_births.Given as goal

abbrev pub invariant-loop-cut : goal.invariant-loop-cut
invariant-loop-cut l = record {
  births : l.births.items ++ births_for l.contents.items l.reached.items (drop l.cut-index l.of) ≡ births_for l.initial.contents.items l.initial.reached.items l.of;
  contents : contents_after l.contents.items l.reached.items (drop l.cut-index l.of) ≡ contents_after l.initial.contents.items l.initial.reached.items l.of;
}
