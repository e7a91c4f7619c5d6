-- What the answers to calls that flush nothing keep (our own).
use Rattle.std.specs.Prelude.{◌≡◌, ℕ, Bool, List, [], ◌∷◌, All, Option, is_none, unwrap_or, Result, IfOk, OnOk, OnErr}
use Rattle.std.specs.Option.{option_map, option_map_or}
use Rattle.sf_types.specs.declared.reply.Fault.TheVariants as fault
use Rattle.sf_types.specs.Values.Marks.{Value, births_in, empty_value}
use Rattle.sf_types.specs.Space.BlockRuns.{blocks_in}
use Rattle.sf_types.specs.Calls.Refusals.{first_refusal}
use Rattle.sf_types.specs.Halves.Asks.{Half, answer_or, births_with, kept_at, with_kept, with_kept_births}
use Rattle.sf_types.specs.Halves.Asks as rule
use Rattle.sf_versions.specs.declared.asks.Answer.{Answer}
use Rattle.sf_versions.specs.Asks.{IsAnswer}
use Rattle.sf_store_half.specs.Fields.{Fields, Keeps}
use Rattle.sf_store_half.specs.HalfMoves.{IsRepacked, blocks_left_over, new_places}
use Rattle.sf_store_half.specs.declared.store_half.Published.{Published}

-- The half where session s holds these births, and its transaction is open and it has ended, or not.
abbrev pub kept_as : Half → ℕ → List ℕ → Bool → Bool → Half
kept_as h s births is_open has_ended = with_kept h s (record (kept_at h s) { births = births; is_open = is_open; has_ended = has_ended })

-- An answer is that of a step of the half, and the fields keep the half after the step. After want of memory nothing has changed.
pub record IsAnswered {E : Type 0} (before after : Fields) (step : Half → Half × rule.Answer) (result : Result Answer E) : Type 0 where
  pub kept : OnOk result ((h : Half) → Keeps before h → Keeps after (step h).0)
  pub answer : IfOk result (λ answer. (h : Half) → Keeps before h → IsAnswer answer (step h).1)
  pub repacked : OnOk result (IsRepacked before.stock after.stock [])
  pub err : OnErr result (after ≡ before)

-- The answer that gives a session what a row holds, where it is present, and else refuses.
abbrev pub answer_given : Half → ℕ → List ℕ → Option Value → Half × rule.Answer
answer_given h s births value =
    let given = unwrap_or value empty_value in
    answer_or (first_refusal ((is_none value, fault.NoSuchRow) ∷ [])) h (with_kept_births h s (births_with births given), rule.Given given)

-- A value twice, where there is one.
abbrev pub twice : Option Value → Option (Value × Value)
twice value = option_map {U = Value × Value} (λ v. (v, v)) value

-- What holds of each birth of a value, where there is one.
abbrev pub OfValue : (ℕ → Type 0) → Option Value → Type 0
OfValue P value = All P (option_map_or births_in value [])

-- A call was published in some blocks: the fields keep the half after the step, with the new contents placed in order, and those
-- blocks are left that none of them takes. After want of memory nothing has changed.
pub record IsPublished {E : Type 0} (before after : Fields) (step : Half → Half × rule.Answer) (blocks : List ℕ) (result : Result Published E) : Type 0 where
  pub kept : OnOk result ((h : Half) → Keeps before h → Keeps after (step h).0)
  pub answer : IfOk result (λ published. (h : Half) → Keeps before h → IsAnswer published.answer (step h).1)
  pub repacked : OnOk result ((h : Half) → Keeps before h → IsRepacked before.stock after.stock (new_places h (step h).0 blocks))
  pub unused : IfOk result (λ published. (h : Half) → Keeps before h → blocks_in published.unused.held ≡ blocks_left_over h (step h).0 blocks)
  pub err : OnErr result (after ≡ before)
