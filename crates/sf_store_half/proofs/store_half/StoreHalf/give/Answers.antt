use Rattle.std.proofs.Common.{◌≡◌, ℕ, List, Option, Some, true, ap, sym, subst, ◌∙◌}
use Rattle.std.specs.Prelude.{All}
use Rattle.std.specs.Option.{option_map}
use Rattle.sf_types.specs.Values.Marks.{Value}
use Rattle.sf_types.specs.Halves.Asks.{Half, births_with, row_answer, with_kept_births, with_kept_births_open}
use Rattle.sf_types.specs.Halves.Asks as rule
use Rattle.sf_stock.specs.Stocks.{is_stocked}
use Rattle.sf_store_half.specs.Fields.{Keeps}
use Rattle.sf_store_half.specs.Inside.Answered.{OfValue, answer_given, twice}
use Rattle.sf_store_half.proofs.KeptRowLemmas.{with_stocked}
use Rattle.sf_store_half.proofs.SettledLemmas.{has_session}
use Rattle.sf_store_half.proofs.RowAnswerLemmas.{given_some, twice_some}
use Rattle.sf_store_half.proofs.store_half.StoreHalf.give.Goals as goal

pub note-requires-clause-births : goal.note-requires-clause-births
note-requires-clause-births c =
    let P : ℕ → Type 0 = λ b. is_stocked c.args.self.now.stock.stocked b ≡ true in
    let named : OfValue P (Some c.in-Some.map) = subst (λ (o : Option (Value × Value)). OfValue P (option_map {T = Value × Value} (λ v. v.0) o)) c.in-Some.is c.requires.named in
    subst (All P) (sym c.in_ok-all.ensures) (with_stocked P c.args.kept c.in-Some.map c.requires.kept named)

pub returns : goal.returns
returns c =
    let s = c.args.session in
    let births = c.args.births in
    let kept = c.args.kept in
    let same : twice (Some c.in-Some.map) ≡ Some (c.in-Some.map, c.in-Some.twin) = subst (λ (o : Option (Value × Value)). twice (option_map {T = Value × Value} (λ v. v.0) o) ≡ o) c.in-Some.is c.requires.two in
    let two = twice_some (Some c.in-Some.map) c.in-Some.map c.in-Some.twin same in
    let after : (h : Half) → Keeps c.args.self.now h → answer_given (with_kept_births h s births) s kept (option_map {T = Value × Value} (λ v. v.0) c.args.found) ≡ (with_kept_births h s (births_with kept c.in-Some.map), rule.Given c.in-Some.map) =
    λ h keeps.
    ap (λ (o : Option (Value × Value)). answer_given (with_kept_births h s births) s kept (option_map {T = Value × Value} (λ v. v.0) o)) c.in-Some.is
    ∙ given_some h s births kept c.in-Some.map (has_session c.args.self.now h s keeps c.requires.session) in
    record {
      kept = λ h keeps. subst (λ (x : Half × rule.Answer). Keeps c.note.new.self x.0) (sym (after h keeps))
          (subst (λ (bs : List ℕ). Keeps c.note.new.self (with_kept_births h s bs)) c.in_ok-all.ensures (c.in_ok-note.ensures.kept h keeps));
      answer = λ h keeps. (ap (λ (x : Half × rule.Answer). x.1) (after h keeps), two.1);
      repacked = c.in_ok-note.ensures.repacked;
      err = tt;
    }
