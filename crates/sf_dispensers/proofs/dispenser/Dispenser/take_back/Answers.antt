use Rattle.std.proofs.Common.{◌∙◌, length, get_or, refl, ap, sym, arith, vec_len, true≢false}
use Rattle.std.specs.Prelude.{vec_capacity}
use Rattle.std.proofs.lemmas.List.{take_all, drop_all}
use Rattle.sf_types.specs.Space.BlockRuns.{blocks_in, blocks_in_run}
use Rattle.sf_types.proofs.RunLemmas.{no_run}
use Rattle.sf_space_words.specs.Blocks.{times}
use Rattle.sf_space_words.proofs.TimesLemmas.{times-append, times-without_blocks}
use Rattle.sf_dispensers.proofs.RunTimesLemmas.{take_times, drop_times}
use Rattle.sf_dispensers.proofs.dispenser.Dispenser.take_back.Goals as goal
use Rattle.sf_dispensers.proofs.dispenser.Dispenser.take_back.Goals.{then-not-keep_run, else-not-keep_run}

pub loop-run-init : goal.loop-run-init
loop-run-init g c =
    let merged = c.merge.ensures.seat in
    let own = c.self.invariant in
    let other = c.reservation.invariant in record {
      id = ap (λ s. s.id) merged ∙ own.id;
      capacity = ap (λ s. s.capacity) merged ∙ own.capacity;
      blocks = λ b.
          let blocks_is = ap (λ s. times b s.blocks) merged in
          let both = times-append b c.self.inside.seat.blocks c.reservation.inside.seat.blocks in
          let one = own.just b in
          let two = other.just b in
          let runs = ap (λ l. times b (blocks_in l)) c.as_slice-run-items.ensures in omega arith;
      room = refl;
      len = omega arith;
      kept = λ fits b. omega arith;
    }

pub release_run-requires-clause-blocks : goal.release_run-requires-clause-blocks
release_run-requires-clause-blocks g c = λ b.
    let i = c.loop-run.invariant.blocks b in
    let rest = drop_times b c.as_slice-run-items.result.now c.loop-run.run-index c.loop-run-test.true in omega arith

pub loop-run-preserved : goal.loop-run-preserved
loop-run-preserved g c =
    let i = c.loop-run.invariant in
    let runs = c.as_slice-run-items.result.now in
    let k = c.loop-run.run-index in
    let lt = c.loop-run-test.true in
    let run = get_or runs k no_run in
    let room = i.room in
    let len = i.len in
    let longer = c.keep_run.ensures.len in
    elim c.if-not-keep_run.branch [
      | then-not-keep_run w ↦
          let inside = w.self-inside-is in
          let released = w.release_run.ensures in
          let same = w.if-not-keep_run.ensures.kept in
          let len_is = ap (λ s. vec_len s.runs) inside in record {
            id = ap (λ s. s.seat.id) inside ∙ (ap (λ s. s.id) released ∙ i.id);
            capacity = ap (λ s. s.seat.capacity) inside ∙ (ap (λ s. s.capacity) released ∙ i.capacity);
            blocks = λ b.
                let seat_is = ap (λ s. times b s.seat.blocks) inside in
                let list_is = ap (λ s. times b (blocks_in s.runs.items)) inside in
                let list_same = ap (λ l. times b (blocks_in l)) same in
                let released_is = ap (λ s. times b s.blocks) released in
                let blocks = i.blocks b in
                let rest = drop_times b runs k lt in
                let once = c.is_sound.ensures.once b in
                let left = times-without_blocks (blocks_in_run run) b c.loop-run.self-inside.seat.blocks (omega arith) (omega arith) in omega arith;
            room = ap (λ s. vec_capacity s.runs) inside ∙ (c.keep_run.ensures.capacity ∙ i.room);
            len = omega arith;
            kept = λ fits b. absurd (true≢false (sym (w.if-not-keep_run.ensures.room (omega arith))));
          }
      | else-not-keep_run w ↦
          let inside = w.self-inside-is in
          let gains = w.if-not-keep_run.ensures.kept in
          let len_is = ap (λ s. vec_len s.runs) inside in record {
            id = ap (λ s. s.seat.id) inside ∙ i.id;
            capacity = ap (λ s. s.seat.capacity) inside ∙ i.capacity;
            blocks = λ b.
                let seat_is = ap (λ s. times b s.seat.blocks) inside in
                let list_is = ap (λ s. times b (blocks_in s.runs.items)) inside in
                let gain = gains.blocks b in
                let blocks = i.blocks b in
                let rest = drop_times b runs k lt in omega arith;
            room = ap (λ s. vec_capacity s.runs) inside ∙ (c.keep_run.ensures.capacity ∙ i.room);
            len = omega arith;
            kept = λ fits b.
                let list_is = ap (λ s. times b (blocks_in s.runs.items)) inside in
                let gain = gains.blocks b in
                let before = i.kept fits b in
                let next = take_times b runs k lt in omega arith;
          }
    ]

pub returns : goal.returns
returns g c = λ fits b.
    let i = c.loop-run.invariant in
    let test = c.loop-run-test.false in
    let runs_is = c.as_slice-run-items.ensures ∙ c.reservation.view_is in
    let runs_length = ap length runs_is in
    let spare_is = ap (λ v. v.spare) c.self.view_is in
    let kept = i.kept (omega arith) b in
    let all = ap (λ l. times b (blocks_in l)) (take_all c.loop-run.run-index c.as_slice-run-items.result.now test ∙ runs_is) in
    let held = ap (λ v. times b (blocks_in v.held)) c.self.view_is in omega arith

pub invariant_of-self : goal.invariant_of-self
invariant_of-self g c =
    let i = c.loop-run.invariant in
    let test = c.loop-run-test.false in record {
      id = i.id;
      capacity = i.capacity;
      just = λ b. let blocks = i.blocks b in let none = ap (λ l. times b (blocks_in l)) (drop_all c.loop-run.run-index c.as_slice-run-items.result.now test) in omega arith;
    }
