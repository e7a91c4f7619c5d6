use Rattle.std.proofs.Common.{Bool, subst, ap, ◌∙◌}
use Rattle.sf_types.specs.Halves.Asks.{Half}
use Rattle.sf_store_half.specs.Fields.{Keeps}
use Rattle.sf_store_half.specs.HalfMoves.{field_at}
use Rattle.sf_store_half.specs.Inside.Answered.{kept_as}
use Rattle.sf_store_half.proofs.SetLemmas.{noted_is}
use Rattle.sf_store_half.proofs.store_half.StoreHalf.note.Goals as goal

pub returns-clause-kept : goal.returns-clause-kept
returns-clause-kept c h keeps =
    let s = c.args.session in
    let births = c.args.births in
    subst (λ (x : Half). Keeps c.settle.new.self x)
    (ap (λ (b : Bool). kept_as h s births b c.has_ended-has_ended.result) c.is_open-is_open.ensures
    ∙ ap (λ (b : Bool). kept_as h s births (field_at c.args.self.now s).is_open b) c.has_ended-has_ended.ensures
    ∙ noted_is c.args.self.now h s births keeps)
    (c.in_ok-settle.ensures.kept h keeps)
