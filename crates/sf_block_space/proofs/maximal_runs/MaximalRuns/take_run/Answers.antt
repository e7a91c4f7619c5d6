use Rattle.std.proofs.Common.{◌≡◌, ◌+◌, ◌-◌, ◌≤◌, ◌<◌, ◌^◌, Some, ap, refl, sym, subst, set, length, rules, arith}
use Rattle.std.specs.Prelude.{slice_get, vec_capacity, vec_len}
use Rattle.std.proofs.lemmas.List.{append-nil, length-set}
use Rattle.sf_types.specs.declared.run.Run.{Run}
use Rattle.sf_types.specs.Space.BlockRuns.{blocks_in_run, front_of, rest_of}
use Rattle.sf_block_space.specs.Free.{AreOut}
use Rattle.sf_block_space.specs.Inside.{IsNext}
use Rattle.sf_block_space.proofs.ChoiceLemmas.{taken-whole, taken-front}
use Rattle.sf_block_space.proofs.TakeLemmas.{taken-changes, taken-size}
use Rattle.sf_block_space.proofs.OrderLemmas.{run-fits}
use Rattle.sf_block_space.proofs.maximal_runs.MaximalRuns.take_run.Goals as goal

pub returns-then-from-n-clause-taken : goal.returns-then-from-n-clause-taken
returns-then-from-n-clause-taken c =
    rw (← c.self.view_is)
    (taken-whole c.self.inside.runs.items c.remove.new.self.items c.args.n c.next_offset-at.result c.index-run.result.now c.remove.result
    (subst (λ v. (next : Run) → slice_get v.held.runs c.next_offset-at.result ≡ Some next → IsNext v.held.runs c.args.n c.next_offset-at.result next) (sym c.self.view_is) c.next_offset-at.ensures.next) (search rules) c.index-run.ensures (search rules) c.remove.ensures.value c.remove.ensures.items)

pub invariant_of-self : goal.invariant_of-self
invariant_of-self c =
    let took = taken-whole c.self.inside.runs.items c.remove.new.self.items c.args.n c.next_offset-at.result c.index-run.result.now c.remove.result
    (subst (λ v. (next : Run) → slice_get v.held.runs c.next_offset-at.result ≡ Some next → IsNext v.held.runs c.args.n c.next_offset-at.result next) (sym c.self.view_is) c.next_offset-at.ensures.next) (search rules) c.index-run.ensures (search rules) c.remove.ensures.value c.remove.ensures.items in
    (taken-changes c.self.inside.capacity c.self.inside.runs.items c.args.n c.remove.result c.remove.new.self.items c.self.invariant took).order

pub returns-then-from-n-clause-size : goal.returns-then-from-n-clause-size
returns-then-from-n-clause-size c =
    let took = taken-whole c.self.inside.runs.items c.remove.new.self.items c.args.n c.next_offset-at.result c.index-run.result.now c.remove.result
    (subst (λ v. (next : Run) → slice_get v.held.runs c.next_offset-at.result ≡ Some next → IsNext v.held.runs c.args.n c.next_offset-at.result next) (sym c.self.view_is) c.next_offset-at.ensures.next) (search rules) c.index-run.ensures (search rules) c.remove.ensures.value c.remove.ensures.items in
    taken-size c.self.inside.capacity c.self.inside.runs.items c.args.n c.remove.result c.remove.new.self.items c.self.invariant c.requires.amount took

pub returns-then-from-n-clause-handed : goal.returns-then-from-n-clause-handed
returns-then-from-n-clause-handed c =
    let took = taken-whole c.self.inside.runs.items c.remove.new.self.items c.args.n c.next_offset-at.result c.index-run.result.now c.remove.result
    (subst (λ v. (next : Run) → slice_get v.held.runs c.next_offset-at.result ≡ Some next → IsNext v.held.runs c.args.n c.next_offset-at.result next) (sym c.self.view_is) c.next_offset-at.ensures.next) (search rules) c.index-run.ensures (search rules) c.remove.ensures.value c.remove.ensures.items in
    let changes = taken-changes c.self.inside.capacity c.self.inside.runs.items c.args.n c.remove.result c.remove.new.self.items c.self.invariant took in
    rw (← c.self.view_is)
    (record {
      capacity = refl;
      order = changes.order;
      left = changes.gains;
      out = subst (AreOut _) (sym (append-nil (blocks_in_run c.remove.result))) changes.out;
      fewer = changes.size;
      room = grind arith;
    })

pub overflow_cast-taken : goal.overflow_cast-taken
overflow_cast-taken c =
    omega (arith, c.if-from-n.false, c.from.ensures, run-fits c.self.inside.capacity c.self.inside.runs.items c.next_offset-at.result c.index-run.result.now c.self.invariant (search rules) (search rules) c.index-run.ensures)

pub overflow_add-run : goal.overflow_add-run
overflow_add-run c =
    omega (arith, c.if-from-n.false, c.from.ensures, run-fits c.self.inside.capacity c.self.inside.runs.items c.next_offset-at.result c.index-run.result.now c.self.invariant (search rules) (search rules) c.index-run.ensures)

pub returns-clause-taken : goal.returns-clause-taken
returns-clause-taken c =
    let run = c.index-run.result.now in
    let at = c.next_offset-at.result in
    rw (← c.self.view_is)
    (taken-front c.self.inside.runs.items (set c.self.inside.runs.items at (rest_of run c.args.n)) c.args.n at run (front_of run c.args.n)
    (subst (λ v. (next : Run) → slice_get v.held.runs c.next_offset-at.result ≡ Some next → IsNext v.held.runs c.args.n c.next_offset-at.result next) (sym c.self.view_is) c.next_offset-at.ensures.next) (search rules) c.index-run.ensures (search rules) refl refl)

pub invariant_of-self-2 : goal.invariant_of-self-2
invariant_of-self-2 c =
    let run = c.index-run.result.now in
    let at = c.next_offset-at.result in
    let left = set c.self.inside.runs.items at (rest_of run c.args.n) in
    let took = taken-front c.self.inside.runs.items left c.args.n at run (front_of run c.args.n) (subst (λ v. (next : Run) → slice_get v.held.runs c.next_offset-at.result ≡ Some next → IsNext v.held.runs c.args.n c.next_offset-at.result next) (sym c.self.view_is) c.next_offset-at.ensures.next) (search rules) c.index-run.ensures (search rules) refl refl in
    (taken-changes c.self.inside.capacity c.self.inside.runs.items c.args.n (front_of run c.args.n) left c.self.invariant took).order

pub returns-clause-handed : goal.returns-clause-handed
returns-clause-handed c =
    let run = c.index-run.result.now in
    let at = c.next_offset-at.result in
    let left = set c.self.inside.runs.items at (rest_of run c.args.n) in
    let took = taken-front c.self.inside.runs.items left c.args.n at run (front_of run c.args.n) (subst (λ v. (next : Run) → slice_get v.held.runs c.next_offset-at.result ≡ Some next → IsNext v.held.runs c.args.n c.next_offset-at.result next) (sym c.self.view_is) c.next_offset-at.ensures.next) (search rules) c.index-run.ensures (search rules) refl refl in
    let changes = taken-changes c.self.inside.capacity c.self.inside.runs.items c.args.n (front_of run c.args.n) left c.self.invariant took in
    rw (← c.self.view_is)
    (record {
      capacity = refl;
      order = changes.order;
      left = changes.gains;
      out = subst (AreOut _) (sym (append-nil (blocks_in_run (front_of run c.args.n)))) changes.out;
      fewer = changes.size;
      room = ap (λ k. vec_capacity c.self.inside.runs - vec_len c.self.inside.runs + k) (length-set c.self.inside.runs.items at (rest_of run c.args.n));
    })
