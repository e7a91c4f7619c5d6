use Rattle.std.proofs.Common.{ℕ, ◌∙◌, ◌++◌, ◌∷◌, [], List, ap, sym, subst, arith}
use Rattle.sf_types.specs.declared.run.Run.{Run}
use Rattle.sf_dispensers.specs.Seats.{IsJust}
use Rattle.sf_dispensers.proofs.SeatRunLemmas.{just_gain}
use Rattle.sf_dispensers.proofs.gathering.Gathering.gain.Goals as goal

pub invariant_of-self : goal.invariant_of-self
invariant_of-self g c =
    let before = c.self.invariant in
    let merged = c.merge.ensures.seat in
    let gains = c.append_run.ensures.blocks in
    let runs : List Run = c.self.inside.runs.held ++ c.self.inside.last_run ∷ [] in
    let more : List Run = c.append_run.new.runs.held ++ c.append_run.new.last ∷ [] in
    let blocks = c.from.ensures in
    let count = gains.count in
    let total = before.total in
    let few = c.requires.few in
    let room = c.requires.room in
    let spare = c.append_run.ensures.spare in
    let count_is = ap (λ v. v.block_count) c.self.view_is in
    let wanted_is = ap (λ v. v.wanted_blocks) c.self.view_is in
    let room_is = ap (λ v. v.room) c.self.view_is in record {
      own = record {
        id = ap (λ s. s.id) merged ∙ before.own.id;
        capacity = ap (λ s. s.capacity) merged ∙ before.own.capacity;
        just = subst (λ (l : List ℕ). IsJust l more) (sym (ap (λ s. s.blocks) merged)) (just_gain c.self.inside.seat.blocks c.args.part.blocks runs more c.args.run before.own.just c.requires.part.just gains);
      };
      total = omega arith;
      few = omega arith;
      room = omega arith;
    }
