use Rattle.std.proofs.Common.{◌≡◌, true, ap, sym, subst, ◌∙◌}
use Rattle.std.specs.Prelude.{nat_lt}
use Rattle.std.specs.Option.{option_map}
use Rattle.sf_types.specs.declared.call.Call.TheVariants as call
use Rattle.sf_types.specs.declared.reply.Fault.TheVariants as fault
use Rattle.sf_types.specs.Values.Marks.{Value}
use Rattle.sf_types.specs.Table.Versions.{value_or_absent}
use Rattle.sf_types.specs.Halves.Asks.{Half, births_with, row_answer, with_kept_births, with_kept_births_open}
use Rattle.sf_types.specs.Halves.Asks as rule
use Rattle.sf_stock.specs.Stocks.{is_stocked}
use Rattle.sf_versions.specs.RowChanges.{change_up_to}
use Rattle.sf_versions.specs.VersionTables.{versions_of}
use Rattle.sf_store_half.specs.Fields.{Fields}
use Rattle.sf_store_half.specs.Inside.Answered.{OfValue, answer_given}
use Rattle.sf_store_half.specs.contracts.store_half.StoreHalf.{the_view}
use Rattle.sf_store_half.proofs.KeptRowLemmas.{earlier_stocked, held_at}
use Rattle.sf_types.proofs.NumberLemmas.{not_less}
use Rattle.sf_store_half.proofs.RowAnswerLemmas.{answered_by, as_of_future, as_of_old, as_of_given, first_of_twice}
use Rattle.sf_store_half.proofs.store_half.StoreHalf.answer_as_of.Goals as goal

pub returns-then-is_future : goal.returns-then-is_future
returns-then-is_future c =
    let s = c.args.session in
    let to = c.args._to.now in
    let row = c.args.row.now in
    let n = c.args.commit in
    let births = c.args.births in
    let kept = c.args.kept in
    answered_by c.args.self.now c.answer_known.new.self (λ h. (with_kept_births h s births, rule.Refused fault.FutureCommit)) (λ h. row_answer (with_kept_births h s births) s (call.SelectAsOf to row n) kept)
    c.answer_known.result c.answer_known.ensures
    (λ h keeps. as_of_future h s births to row kept n (ap (λ k. nat_lt k n) (sym keeps.now) ∙ sym c.is_future.ensures ∙ c.if-is_future.true))

pub returns-then-is_old : goal.returns-then-is_old
returns-then-is_old c =
    let s = c.args.session in
    let to = c.args._to.now in
    let row = c.args.row.now in
    let n = c.args.commit in
    let births = c.args.births in
    let kept = c.args.kept in
    answered_by c.args.self.now c.answer_known-then-is_old.new.self (λ h. (with_kept_births h s births, rule.Refused fault.TooOld)) (λ h. row_answer (with_kept_births h s births) s (call.SelectAsOf to row n) kept)
    c.answer_known-then-is_old.result c.answer_known-then-is_old.ensures
    (λ h keeps. as_of_old h s births to row kept n (ap (λ k. nat_lt k n) (sym keeps.now) ∙ sym c.is_future.ensures ∙ c.if-is_future.false)
    (ap (λ k. nat_lt n k) (sym keeps.floor) ∙ sym c.is_old.ensures ∙ c.if-is_old.true))

pub give-requires-clause-named : goal.give-requires-clause-named
give-requires-clause-named c =
    let row = c.args.row.now in
    let n = c.args.commit in
    let named = earlier_stocked (the_view c.self.inside) c.self.invariant.half row n c.self.invariant.keeps c.next_birth-sound.ensures.sound in
    let there = subst (λ (x : Fields). OfValue (λ b. is_stocked x.stock.stocked b ≡ true) (value_or_absent (change_up_to (versions_of x.versions.rows row) n))) c.self.view_is named in
    subst (OfValue (λ b. is_stocked c.args.self.now.stock.stocked b ≡ true))
    (sym (ap (option_map {T = Value × Value} (λ v. v.0)) c.in_ok-found.ensures ∙ first_of_twice (value_or_absent (change_up_to (versions_of c.args.self.now.versions.rows row) n)))) there

pub returns : goal.returns
returns c =
    let s = c.args.session in
    let to = c.args._to.now in
    let row = c.args.row.now in
    let n = c.args.commit in
    let births = c.args.births in
    let kept = c.args.kept in
    let found = option_map {T = Value × Value} (λ v. v.0) c.in_ok-found.found in
    answered_by c.args.self.now c.give.new.self (λ h. answer_given (with_kept_births h s births) s kept found) (λ h. row_answer (with_kept_births h s births) s (call.SelectAsOf to row n) kept)
    c.give.result c.give.ensures
    (λ h keeps.
    let old = ap (λ k. nat_lt n k) (sym keeps.floor) ∙ sym c.is_old.ensures ∙ c.if-is_old.false in
    as_of_given h s births to row kept n (ap (λ k. nat_lt k n) (sym keeps.now) ∙ sym c.is_future.ensures ∙ c.if-is_future.false) old
    ∙ ap (answer_given (with_kept_births h s births) s kept)
    (sym (held_at c.args.self.now h row n keeps (not_less n h.floor old)) ∙ sym (ap (option_map {T = Value × Value} (λ v. v.0)) c.in_ok-found.ensures ∙ first_of_twice (value_or_absent (change_up_to (versions_of c.args.self.now.versions.rows row) n)))))
