use Rattle.std.proofs.Common.{◌≡◌, true, ap, sym, subst, ◌∙◌}
use Rattle.std.specs.Prelude.{is_some}
use Rattle.sf_types.specs.declared.call.Call.TheVariants as call
use Rattle.sf_types.specs.declared.reply.Fault.TheVariants as fault
use Rattle.sf_types.specs.Table.Sessions.{is_busy, with_lock}
use Rattle.sf_types.specs.Halves.Asks.{Half, row_answer, with_kept_births, with_kept_births_open}
use Rattle.sf_types.specs.Halves.Asks as rule
use Rattle.sf_store_half.specs.Fields.{Keeps}
use Rattle.sf_store_half.proofs.KeptRowLemmas.{holds_now}
use Rattle.sf_store_half.proofs.SettledLemmas.{has_session}
use Rattle.sf_store_half.proofs.RowAnswerLemmas.{answered_by, insert_there, insert_done}
use Rattle.sf_store_half.proofs.store_half.StoreHalf.answer_insert.Goals as goal

pub returns-then-is_present : goal.returns-then-is_present
returns-then-is_present c =
    let s = c.args.session in
    let row = c.args.row.now in
    let births = c.args.births in
    answered_by c.args.self.now c.answer_known-then-is_present.new.self (λ h. (with_kept_births h s births, rule.Refused fault.Duplicate)) (λ h. row_answer (with_kept_births h s births) s (call.Insert row) c.args.kept)
    c.answer_known-then-is_present.result c.answer_known-then-is_present.ensures
    (λ h keeps. insert_there h s births row c.args.kept (sym (ap (λ m. is_busy m s row) keeps.locks) ∙ sym c.is_busy.ensures ∙ c.if-is_busy.false)
    (ap is_some (sym (holds_now c.args.self.now h row keeps)) ∙ sym c.is_present.ensures ∙ c.if-is_present.true))

pub returns : goal.returns
returns c =
    let s = c.args.session in
    let row = c.args.row.now in
    let births = c.args.births in
    let after : (h : Half) → Keeps c.args.self.now h → row_answer (with_kept_births h s births) s (call.Insert row) c.args.kept ≡ (record (with_kept_births_open h s c.args.kept true) { locks = with_lock h.locks s row }, rule.Done) =
    λ h keeps. insert_done h s births row c.args.kept (has_session c.args.self.now h s keeps c.requires.session) (sym (ap (λ m. is_busy m s row) keeps.locks) ∙ sym c.is_busy.ensures ∙ c.if-is_busy.false)
    (ap is_some (sym (holds_now c.args.self.now h row keeps)) ∙ sym c.is_present.ensures ∙ c.if-is_present.false) in
    record {
      kept = λ h keeps. subst (λ (x : Half × rule.Answer). Keeps c.lock_row.new.self x.0) (sym (after h keeps)) (c.in_ok-lock_row.ensures.kept h keeps);
      answer = λ h keeps. ap (λ (x : Half × rule.Answer). x.1) (after h keeps);
      repacked = c.in_ok-lock_row.ensures.repacked;
      err = tt;
    }
