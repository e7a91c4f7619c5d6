use Rattle.std.proofs.Common.{◌≡◌, ◌++◌, length}
use Rattle.std.specs.Prelude.{replicate}
use Rattle.sf_types.specs.Space.Cuts.{contents_of_value}
use Rattle.sf_own_part.proofs.cuts.Cuts.add_value.Given as goal

abbrev pub invariant-loop-content : goal.invariant-loop-content
invariant-loop-content l =
    (l.self.contents ++ l.content-iterator.rest.items ≡ l.initial.self.contents ++ contents_of_value l.fn.value)
    × (l.self.choices ++ replicate (length l.content-iterator.rest.items) l.value.choice ≡ l.initial.self.choices ++ replicate (length (contents_of_value l.fn.value)) l.fn.value.choice)
