use Rattle.std.proofs.Common.{ap, subst, ◌∙◌}
use Rattle.sf_own_part.specs.Ends.{IsKnown}
use Rattle.sf_own_part.proofs.CallLemmas.{lock_room, select_room, select_as_of_room, given_written}
use Rattle.sf_own_part.proofs.own_part.OwnPart.end_given.Goals as goal

pub end_lock_held-requires-clause-limit : goal.end_lock_held-requires-clause-limit
end_lock_held-requires-clause-limit c = lock_room c.args.self.now.held c.in-Lock.to c.in-Lock.row (subst (λ call. IsKnown c.args.self.now.held call → ⊥) c.in-Lock.is c.requires.known)

pub select-requires-clause-limit : goal.select-requires-clause-limit
select-requires-clause-limit c = select_room c.args.self.now.held c.in-Select.to c.in-Select.row (subst (λ call. IsKnown c.args.self.now.held call → ⊥) c.in-Select.is c.requires.known)

pub select_as_of-requires-clause-limit : goal.select_as_of-requires-clause-limit
select_as_of-requires-clause-limit c = select_as_of_room c.args.self.now.held c.in-SelectAsOf.to c.in-SelectAsOf.row c.in-SelectAsOf.commit (subst (λ call. IsKnown c.args.self.now.held call → ⊥) c.in-SelectAsOf.is c.requires.known)

pub returns-in_default : goal.returns-in_default
returns-in_default c =
    let o = c.args.self.now.held in
    let given = given_written o c.args.call c.args.map c.in_default.not-Delete c.in_default.not-Lock c.in_default.not-Select c.in_default.not-SelectAsOf in
    record {
      own = c.end_write-reply.ensures.own ∙ ap (λ done. done.0) given;
      reply = c.end_write-reply.ensures.reply ∙ ap (λ done. done.1) given;
    }
