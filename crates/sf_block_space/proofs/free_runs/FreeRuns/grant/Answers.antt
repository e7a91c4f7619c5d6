use Rattle.std.proofs.Common.{◌-◌, ◌∷◌, [], List, length, ap, sym, subst, append_assoc, arith}
use Rattle.std.proofs.lemmas.List.{append-nil, length-append}
use Rattle.std.proofs.lemmas.List.FromFn.{length-range_with_len}
use Rattle.std.proofs.lemmas.Grind.{flat_map-append}
use Rattle.sf_types.specs.declared.run.Run.{Run}
use Rattle.sf_types.specs.Space.BlockRuns.{blocks_in, blocks_in_run}
use Rattle.sf_block_space.specs.Inside.{IsGrant}
use Rattle.sf_block_space.specs.Inside.{HandsOut, IsRoomFor}
use Rattle.sf_block_space.proofs.GrantLemmas.{grant-step, room-step}
use Rattle.sf_block_space.proofs.GrantRunLemmas.{grant-runs}
use Rattle.sf_block_space.proofs.OutLemmas.{hands-more}
use Rattle.sf_block_space.proofs.free_runs.FreeRuns.grant.Goals as goal

pub loop-rest-preserved : goal.loop-rest-preserved
loop-rest-preserved c =
    let old = c.loop-rest.invariant in
    let run = c.take_run-run.result in
    let took = c.take_run-run.ensures in
    let space = c.loop-rest.self-inside.runs in
    let left = c.take_run-run.new.self in
    let held = c.loop-rest.granted.held in
    let rest = c.loop-rest.rest in
    let pushed = c.push_within.ensures.items in
    let same = c.from-rest.ensures in
    let single = length-append (blocks_in_run run) [] in
    let size = length-range_with_len run.first run.blocks in
    record {
      handed = subst (HandsOut c.self.inside.runs left) (sym pushed) (hands-more c.self.inside.runs space left held run old.handed took.handed);
      enough = omega (arith, old.enough, took.handed.left.count, took.size, same, single, size);
      completes = λ more grant.
          rw (pushed, append_assoc held (run ∷ []) more)
          (old.completes (run ∷ more) (grant-step space.held.runs rest run left.held.runs more (omega (arith, c.loop-rest-test.true)) took.taken (subst (λ k. IsGrant left.held.runs (rest - k) more) same grant)));
      count = omega (
        arith,
        old.count,
        took.size,
        same,
        single,
        size,
        ap (λ (xs : List Run). length (blocks_in xs)) pushed,
        ap length (flat_map-append blocks_in_run held (run ∷ [])),
        length-append (blocks_in held) (blocks_in (run ∷ [])),
      );
      free = omega (arith, old.free, took.handed.left.count, c.from.ensures, single, size);
      spare = subst (λ k. IsRoomFor left.held.runs (rest - k) c.push_within.new.self.spare) (sym same)
          (room-step space.held.runs rest c.loop-rest.granted.spare run left.held.runs c.push_within.new.self.spare old.spare took.taken took.size.0 took.size.1 (omega (arith, c.push_within.ensures.spare)));
    }

pub returns-clause-granted : goal.returns-clause-granted
returns-clause-granted c =
    let all = c.loop-rest.invariant.completes [] (omega (arith, c.loop-rest-test.false)) in
    rw (← append-nil c.loop-rest.granted.held, ← c.self.view_is) (grant-runs _ _ _ _ c.room_for.ensures.order all)
