use Rattle.std.proofs.Common.{◌≡◌, true, ap, sym, subst, ◌∙◌}
use Rattle.std.specs.Option.{option_map}
use Rattle.sf_types.specs.Values.Marks.{Value}
use Rattle.sf_types.specs.Table.Versions.{last_change, value_or_absent}
use Rattle.sf_types.specs.Halves.Asks.{with_kept_births}
use Rattle.sf_stock.specs.Stocks.{is_stocked}
use Rattle.sf_versions.specs.RowChanges.{last_value}
use Rattle.sf_versions.specs.VersionTables.{versions_of}
use Rattle.sf_store_half.specs.Fields.{Fields}
use Rattle.sf_store_half.specs.Inside.Answered.{OfValue, answer_given}
use Rattle.sf_store_half.specs.contracts.store_half.StoreHalf.{the_view}
use Rattle.sf_store_half.proofs.KeptRowLemmas.{current_stocked, holds_now}
use Rattle.sf_store_half.proofs.RowAnswerLemmas.{answered_by, first_of_twice}
use Rattle.sf_store_half.proofs.store_half.StoreHalf.answer_select.Goals as goal

pub give-requires-clause-named : goal.give-requires-clause-named
give-requires-clause-named c =
    let row = c.args.row.now in
    let f = the_view c.self.inside in
    let named = current_stocked f c.self.invariant.half row c.self.invariant.keeps c.next_birth-sound.ensures.sound in
    let there = subst (λ (x : Fields). OfValue (λ b. is_stocked x.stock.stocked b ≡ true) (last_value (versions_of x.versions.rows row))) c.self.view_is named in
    subst (OfValue (λ b. is_stocked c.args.self.now.stock.stocked b ≡ true))
    (sym (ap (option_map {T = Value × Value} (λ v. v.0)) c.in_ok-found.ensures ∙ first_of_twice (last_value (versions_of c.args.self.now.versions.rows row)))) there

pub returns : goal.returns
returns c =
    let s = c.args.session in
    let row = c.args.row.now in
    let births = c.args.births in
    let kept = c.args.kept in
    let found = option_map {T = Value × Value} (λ v. v.0) c.in_ok-found.found in
    answered_by c.args.self.now c.give.new.self (λ h. answer_given (with_kept_births h s births) s kept found) (λ h. answer_given (with_kept_births h s births) s kept (value_or_absent (last_change h.commits row)))
    c.give.result c.give.ensures
    (λ h keeps. ap (answer_given (with_kept_births h s births) s kept)
    (sym (holds_now c.args.self.now h row keeps) ∙ sym (ap (option_map {T = Value × Value} (λ v. v.0)) c.in_ok-found.ensures ∙ first_of_twice (last_value (versions_of c.args.self.now.versions.rows row)))))
