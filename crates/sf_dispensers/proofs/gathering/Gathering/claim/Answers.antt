use Rattle.std.proofs.Common.{ℕ, ◌∙◌, ◌++◌, ◌∷◌, [], List, ap, sym, subst, arith}
use Rattle.sf_types.specs.declared.run.Run.{Run}
use Rattle.sf_dispensers.specs.Seats.{IsJust}
use Rattle.sf_dispensers.proofs.BitLemmas.{ones_claimed}
use Rattle.sf_dispensers.proofs.SeatRunLemmas.{just_mask}
use Rattle.sf_dispensers.proofs.gathering.Gathering.claim.Goals as goal

pub overflow_add-self : goal.overflow_add-self
overflow_add-self g c =
    let fewer = ones_claimed c.args.mask c.claim-claimed_bits.new.seat.found_word c.claim-claimed_bits.result c.ranges.mask.fits c.claim-claimed_bits.ensures.answer in
    let most = c.requires.few in
    let same = c.make_room.ensures.same in
    let same_count = ap (λ v. v.block_count) same in
    let same_wanted = ap (λ v. v.wanted_blocks) same in
    let claimed = c.from.ensures in
    let count_is = ap (λ v. v.block_count) c.self.view_is in
    let wanted_is = ap (λ v. v.wanted_blocks) c.self.view_is in
    let fits = c.self.ranges in omega arith

pub invariant_of-self : goal.invariant_of-self
invariant_of-self g c =
    let before = c.self.invariant in
    let claim = c.claim-claimed_bits.ensures.seat in
    let gains = c.append_mask.ensures.blocks in
    let runs : List Run = c.self.inside.runs.held ++ c.self.inside.last_run ∷ [] in
    let more : List Run = c.append_mask.new.runs.held ++ c.append_mask.new.last ∷ [] in
    let fewer = ones_claimed c.args.mask c.claim-claimed_bits.new.seat.found_word c.claim-claimed_bits.result c.ranges.mask.fits c.claim-claimed_bits.ensures.answer in
    let most = c.requires.few in
    let same = c.make_room.ensures.same in
    let same_count = ap (λ v. v.block_count) same in
    let same_wanted = ap (λ v. v.wanted_blocks) same in
    let claimed = c.from.ensures in
    let count = gains.count in
    let total = before.total in
    let room = c.in_ok-make_room.ensures.room in
    let spare = c.append_mask.ensures.spare in
    let count_is = ap (λ v. v.block_count) c.self.view_is in
    let wanted_is = ap (λ v. v.wanted_blocks) c.self.view_is in
    let room_is = ap (λ v. v.room) c.self.view_is in record {
      own = record {
        id = ap (λ s. s.id) claim ∙ before.own.id;
        capacity = ap (λ s. s.capacity) claim ∙ before.own.capacity;
        just = subst (λ (l : List ℕ). IsJust l more) (sym (ap (λ s. s.blocks) claim)) (just_mask c.self.inside.seat.blocks runs more c.args.word c.claim-claimed_bits.result before.own.just gains);
      };
      total = omega arith;
      few = omega arith;
      room = omega arith;
    }
