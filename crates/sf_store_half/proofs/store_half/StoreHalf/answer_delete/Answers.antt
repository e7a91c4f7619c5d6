use Rattle.std.proofs.Common.{◌≡◌, true, ap, sym, subst, ◌∙◌}
use Rattle.sf_types.specs.declared.call.Call.TheVariants as call
use Rattle.sf_types.specs.declared.reply.Fault.TheVariants as fault
use Rattle.sf_types.specs.Table.Sessions.{is_busy, with_lock}
use Rattle.sf_types.specs.Halves.Asks.{Half, row_answer, with_kept_births, with_kept_births_open}
use Rattle.sf_types.specs.Halves.Asks as rule
use Rattle.sf_versions.specs.RowChanges.{last_value}
use Rattle.sf_versions.specs.VersionTables.{versions_of}
use Rattle.sf_store_half.specs.Fields.{Keeps}
use Rattle.sf_store_half.proofs.KeptRowLemmas.{holds_now}
use Rattle.sf_store_half.proofs.SettledLemmas.{has_session}
use Rattle.sf_store_half.proofs.RowAnswerLemmas.{answered_by, delete_none, delete_done, twice_none, twice_some}
use Rattle.sf_store_half.proofs.store_half.StoreHalf.answer_delete.Goals as goal

pub returns-in_default : goal.returns-in_default
returns-in_default c =
    let s = c.args.session in
    let row = c.args.row.now in
    let births = c.args.births in
    answered_by c.args.self.now c.answer_known-in_default.new.self (λ h. (with_kept_births h s births, rule.Refused fault.NoSuchRow)) (λ h. row_answer (with_kept_births h s births) s (call.Delete row) c.args.kept)
    c.answer_known-in_default.result c.answer_known-in_default.ensures
    (λ h keeps. delete_none h s births row c.args.kept (sym (ap (λ m. is_busy m s row) keeps.locks) ∙ sym c.is_busy.ensures ∙ c.if-is_busy.false)
    (sym (holds_now c.args.self.now h row keeps) ∙ twice_none (last_value (versions_of c.args.self.now.versions.rows row)) (sym c.in_ok-found.ensures ∙ c.in_default.is)))

pub returns : goal.returns
returns c =
    let s = c.args.session in
    let row = c.args.row.now in
    let births = c.args.births in
    let two = twice_some (last_value (versions_of c.args.self.now.versions.rows row)) c.in-Some.map c.in-Some.twin (sym c.in_ok-found.ensures ∙ c.in-Some.is) in
    let after : (h : Half) → Keeps c.args.self.now h → row_answer (with_kept_births h s births) s (call.Delete row) c.args.kept ≡ (record (with_kept_births_open h s c.args.kept true) { locks = with_lock h.locks s row }, rule.Given c.in-Some.map) =
    λ h keeps. delete_done h s births row c.args.kept c.in-Some.map (has_session c.args.self.now h s keeps c.requires.session) (sym (ap (λ m. is_busy m s row) keeps.locks) ∙ sym c.is_busy.ensures ∙ c.if-is_busy.false)
    (sym (holds_now c.args.self.now h row keeps) ∙ two.0) in
    record {
      kept = λ h keeps. subst (λ (x : Half × rule.Answer). Keeps c.lock_row.new.self x.0) (sym (after h keeps)) (c.in_ok-lock_row.ensures.kept h keeps);
      answer = λ h keeps. (ap (λ (x : Half × rule.Answer). x.1) (after h keeps), two.1);
      repacked = c.in_ok-lock_row.ensures.repacked;
      err = tt;
    }
