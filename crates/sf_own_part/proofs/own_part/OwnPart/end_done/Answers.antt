use Rattle.std.proofs.Common.{sym, ap, subst, ◌∙◌}
use Rattle.sf_types.specs.declared.call.Call.TheVariants as call
use Rattle.sf_types.specs.Halves.Asks.{after_done}
use Rattle.sf_own_part.specs.Ends.{IsPrepared, IsKnown}
use Rattle.sf_own_part.proofs.CallLemmas.{lock_room, select_room, restored_end, other_done, done_reply}
use Rattle.sf_own_part.proofs.own_part.OwnPart.end_done.Goals as goal

pub lock-requires-clause-limit : goal.lock-requires-clause-limit
lock-requires-clause-limit c = lock_room c.args.self.now.held c.in-Lock.to c.in-Lock.row (subst (λ call. IsKnown c.args.self.now.held call → ⊥) c.in-Lock.is c.requires.known)

pub select-requires-clause-limit : goal.select-requires-clause-limit
select-requires-clause-limit c = select_room c.args.self.now.held c.in-Select.to c.in-Select.row (subst (λ call. IsKnown c.args.self.now.held call → ⊥) c.in-Select.is c.requires.known)

pub returns-in-Restored-clause-own : goal.returns-in-Restored-clause-own
returns-in-Restored-clause-own c =
    let o = c.args.self.now.held in
    let name = c.in-RollbackTo.name in
    let open_ = subst (λ call. IsKnown o call → ⊥) c.in-RollbackTo.is c.requires.known in
    let prepared_ = subst (λ p. IsPrepared o (call.RollbackTo name) p) c.in-Restored.is (subst (λ call. IsPrepared o call c.args.prepared) c.in-RollbackTo.is c.requires.prepared) in
    restored_end o name c.roll_back_to.new.self.held c.in-Restored.rows open_ prepared_ c.roll_back_to.ensures
    ∙ ap (λ call. (after_done o call).0) (sym c.in-RollbackTo.is)

pub returns : goal.returns
returns c = record { own = other_done c.args.self.now.held c.args.call c.in_default.not-Insert c.in_default.not-Delete c.in_default.not-Lock c.in_default.not-Select c.in_default.not-RollbackTo c.in_default.not-Rollback; reply = done_reply c.args.self.now.held c.args.call }
