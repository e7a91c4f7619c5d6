-- Answers to row calls whose row the store looks up.
use Rattle.std.proofs.Common.{◌≡◌, ℕ, Bool, true, false, not, List, [], ◌∷◌, Option, Some, None, refl, sym, ap, ◌∙◌, length, take}
use Rattle.std.specs.Prelude.{nat_lt, Result, ◌==◌, is_none, is_some, unwrap_or}
use Rattle.std.specs.Option.{option_map, option_map_or}
use Rattle.sf_types.specs.declared.call.Call.TheVariants as call
use Rattle.sf_types.specs.declared.reply.Fault.TheVariants as fault
use Rattle.sf_types.specs.Inside.NameMaps.{NameMap, get}
use Rattle.sf_types.specs.Values.Marks.{Value, empty_value}
use Rattle.sf_types.specs.Table.Sessions.{is_busy, with_lock}
use Rattle.sf_types.specs.Table.Versions.{last_change, value_or_absent}
use Rattle.sf_types.specs.Calls.Refusals.{first_refusal}
use Rattle.sf_types.specs.Halves.Asks.{Half, answer_or, births_with, row_answer, with_kept_births, with_kept_births_open}
use Rattle.sf_types.specs.Halves.Asks as rule
use Rattle.sf_versions.specs.declared.asks.Answer.{Answer}
use Rattle.sf_store_half.specs.Fields.{Fields, Keeps, is_session}
use Rattle.sf_store_half.specs.Inside.Answered.{IsAnswered, answer_given, twice}
use Rattle.sf_store_half.proofs.AnswerLemmas.{kept_by, answer_by, replaced}

pub answered_by : {E : Type 0} (before after : Fields) (step other : Half → Half × rule.Answer) (result : Result Answer E) → IsAnswered before after step result → ((h : Half) → Keeps before h → other h ≡ step h) → IsAnswered before after other result
answered_by before after step other result answered same = record {
  kept = kept_by before after step other result answered same;
  answer = answer_by before after step other result answered same;
  repacked = answered.repacked;
  err = answered.err;
}

abbrev held_now : Half → List ℕ → Option Value
held_now h row = value_or_absent (last_change h.commits row)

abbrev locked : Half → ℕ → List ℕ → List ℕ → Half
locked h s row kept = record (with_kept_births_open h s kept true) { locks = with_lock h.locks s row }

module _ (h : Half) (s : ℕ) (births : List ℕ) (row kept : List ℕ) where
  abbrev noted : Half
  noted = with_kept_births h s births

  locked_after : (a : rule.Answer) → is_session h s ≡ true → ◌≡◌ {A = Half × rule.Answer} (locked noted s row kept, a) (locked h s row kept, a)
  locked_after a is = replaced (λ put k. (record h { sessions = put (record k { births = kept; is_open = true }); locks = with_lock h.locks s row }, a)) h s births is

  pub insert_busy : is_busy h.locks s row ≡ true → row_answer noted s (call.Insert row) kept ≡ (noted, rule.Refused fault.Busy)
  insert_busy busy = ap (λ b. answer_or (first_refusal ((b, fault.Busy) ∷ (is_some (held_now h row), fault.Duplicate) ∷ [])) noted (locked noted s row kept, rule.Done)) busy

  pub insert_there : is_busy h.locks s row ≡ false → is_some (held_now h row) ≡ true → row_answer noted s (call.Insert row) kept ≡ (noted, rule.Refused fault.Duplicate)
  insert_there busy there =
      ap (λ b. answer_or (first_refusal ((b, fault.Busy) ∷ (is_some (held_now h row), fault.Duplicate) ∷ [])) noted (locked noted s row kept, rule.Done)) busy
      ∙ ap (λ b. answer_or (first_refusal ((false, fault.Busy) ∷ (b, fault.Duplicate) ∷ [])) noted (locked noted s row kept, rule.Done)) there

  pub insert_done : is_session h s ≡ true → is_busy h.locks s row ≡ false → is_some (held_now h row) ≡ false → row_answer noted s (call.Insert row) kept ≡ (locked h s row kept, rule.Done)
  insert_done is busy there =
      ap (λ b. answer_or (first_refusal ((b, fault.Busy) ∷ (is_some (held_now h row), fault.Duplicate) ∷ [])) noted (locked noted s row kept, rule.Done)) busy
      ∙ ap (λ b. answer_or (first_refusal ((false, fault.Busy) ∷ (b, fault.Duplicate) ∷ [])) noted (locked noted s row kept, rule.Done)) there
      ∙ locked_after rule.Done is

  abbrev deleted : Bool → Option Value → Half × rule.Answer
  deleted busy value = answer_or (first_refusal ((busy, fault.Busy) ∷ (is_none value, fault.NoSuchRow) ∷ [])) noted (locked noted s row kept, rule.Given (unwrap_or value empty_value))

  pub delete_busy : is_busy h.locks s row ≡ true → row_answer noted s (call.Delete row) kept ≡ (noted, rule.Refused fault.Busy)
  delete_busy busy = ap (λ b. deleted b (held_now h row)) busy

  pub delete_none : is_busy h.locks s row ≡ false → held_now h row ≡ None → row_answer noted s (call.Delete row) kept ≡ (noted, rule.Refused fault.NoSuchRow)
  delete_none busy none = ap (λ b. deleted b (held_now h row)) busy ∙ ap (deleted false) none

  pub delete_done : (v : Value) → is_session h s ≡ true → is_busy h.locks s row ≡ false → held_now h row ≡ Some v → row_answer noted s (call.Delete row) kept ≡ (locked h s row kept, rule.Given v)
  delete_done v is busy there = ap (λ b. deleted b (held_now h row)) busy ∙ ap (deleted false) there ∙ locked_after (rule.Given v) is

-- ---- a row that is locked and given
module _ (h : Half) (s : ℕ) (births : List ℕ) (to row kept : List ℕ) where
  abbrev taken : Bool → Option Value → Half × rule.Answer
  taken busy value =
      let given = unwrap_or value empty_value in
      answer_or (first_refusal ((busy, fault.Busy) ∷ (is_none value, fault.NoSuchRow) ∷ [])) (with_kept_births h s births) (locked (with_kept_births h s births) s row (births_with kept given), rule.Given given)

  pub lock_busy : is_busy h.locks s row ≡ true → row_answer (with_kept_births h s births) s (call.Lock to row) kept ≡ (with_kept_births h s births, rule.Refused fault.Busy)
  lock_busy busy = ap (λ b. taken b (held_now h row)) busy

  pub lock_none : is_busy h.locks s row ≡ false → held_now h row ≡ None → row_answer (with_kept_births h s births) s (call.Lock to row) kept ≡ (with_kept_births h s births, rule.Refused fault.NoSuchRow)
  lock_none busy none = ap (λ b. taken b (held_now h row)) busy ∙ ap (taken false) none

  pub lock_done : (v : Value) → is_session h s ≡ true → is_busy h.locks s row ≡ false → held_now h row ≡ Some v → row_answer (with_kept_births h s births) s (call.Lock to row) kept ≡ (locked h s row (births_with kept v), rule.Given v)
  lock_done v is busy there = ap (λ b. taken b (held_now h row)) busy ∙ ap (taken false) there ∙ locked_after h s births row (births_with kept v) (rule.Given v) is

-- ---- a value that is given
module _ (h : Half) (s : ℕ) (births kept : List ℕ) where
  pub given_none : answer_given (with_kept_births h s births) s kept None ≡ (with_kept_births h s births, rule.Refused fault.NoSuchRow)
  given_none = refl

  pub given_some : (v : Value) → is_session h s ≡ true → answer_given (with_kept_births h s births) s kept (Some v) ≡ (with_kept_births h s (births_with kept v), rule.Given v)
  given_some v is = replaced (λ put k. (record h { sessions = put (record k { births = births_with kept v }) }, rule.Given v)) h s births is

-- ---- what a row held
module _ (h : Half) (s : ℕ) (births : List ℕ) (to row kept : List ℕ) (n : ℕ) where
  abbrev earlier : Bool → Bool → Half × rule.Answer
  earlier future old =
      let value = value_or_absent (last_change (take n h.commits) row) in
      let given = unwrap_or value empty_value in
      answer_or (first_refusal ((future, fault.FutureCommit) ∷ (old, fault.TooOld) ∷ (is_none value, fault.NoSuchRow) ∷ [])) (with_kept_births h s births) (with_kept_births (with_kept_births h s births) s (births_with kept given), rule.Given given)

  pub as_of_future : nat_lt (length h.commits) n ≡ true → row_answer (with_kept_births h s births) s (call.SelectAsOf to row n) kept ≡ (with_kept_births h s births, rule.Refused fault.FutureCommit)
  as_of_future future = ap (λ b. earlier b (nat_lt n h.floor)) future

  pub as_of_old : nat_lt (length h.commits) n ≡ false → nat_lt n h.floor ≡ true → row_answer (with_kept_births h s births) s (call.SelectAsOf to row n) kept ≡ (with_kept_births h s births, rule.Refused fault.TooOld)
  as_of_old future old = ap (λ b. earlier b (nat_lt n h.floor)) future ∙ ap (earlier false) old

  pub as_of_given : nat_lt (length h.commits) n ≡ false → nat_lt n h.floor ≡ false → row_answer (with_kept_births h s births) s (call.SelectAsOf to row n) kept ≡ answer_given (with_kept_births h s births) s kept (value_or_absent (last_change (take n h.commits) row))
  as_of_given future old = ap (λ b. earlier b (nat_lt n h.floor)) future ∙ ap (earlier false) old

-- whether another session holds a lock
pub busy_is : (locks : NameMap ℕ) (s : ℕ) (row : List ℕ) (o : Option ℕ) → get locks row ≡ o → option_map_or (λ holder. not (holder == s)) o false ≡ is_busy locks s row
busy_is locks s row o is = ap (λ (x : Option ℕ). option_map_or (λ holder. not (holder == s)) x false) (sym is)

-- ---- a value twice
pub twice_none : (x : Option Value) → twice x ≡ None → x ≡ None
twice_none None is = refl
twice_none (Some v) is = absurd cc

pub twice_some : (x : Option Value) (first twin : Value) → twice x ≡ Some (first, twin) → (x ≡ Some first) × (twin ≡ first)
twice_some None first twin is = absurd cc
twice_some (Some v) first twin is =
    let one : v ≡ first = ap (λ (o : Option (Value × Value)). option_map_or {U = Value} (λ p. p.0) o v) is in
    let other : v ≡ twin = ap (λ (o : Option (Value × Value)). option_map_or {U = Value} (λ p. p.1) o v) is in
    (ap (λ (x : Value). Some x) one, sym other ∙ one)

pub first_of_twice : (x : Option Value) → option_map {T = Value × Value} (λ v. v.0) (twice x) ≡ x
first_of_twice None = refl
first_of_twice (Some v) = refl
