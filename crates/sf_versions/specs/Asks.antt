-- What a session asks of the store and what it is answered, as the rules' words for it (our own).
use Rattle.std.specs.Prelude.{◌≡◌, ℕ, List, [], ◌∷◌}
use Rattle.sf_types.specs.declared.options.Choice.{Choice}
use Rattle.sf_types.specs.declared.options.Options.{Options}
use Rattle.sf_types.specs.Space.Cuts.{Cut, is_sharing, cuts}
use Rattle.sf_types.specs.Space.Reach.{session_births}
use Rattle.sf_types.specs.Halves.Own.{Own}
use Rattle.sf_types.specs.Halves.Asks.{Request, kept_births, request_of}
use Rattle.sf_types.specs.Halves.Asks as rule
use Rattle.sf_types.specs.Halves.Flushes.{own_flush}
use Rattle.sf_types.specs.Halves.Flushes as rule_of_promises
use Rattle.sf_versions.specs.declared.asks.Answer.{Answer}
use Rattle.sf_versions.specs.declared.asks.Answer.TheVariants as answer
use Rattle.sf_versions.specs.declared.asks.Ask.{Ask}
use Rattle.sf_versions.specs.declared.asks.Batch.{Batch}
use Rattle.sf_versions.specs.declared.asks.Flush.{Flush}
use Rattle.sf_versions.specs.declared.asks.Part.{Part}
use Rattle.sf_versions.specs.declared.asks.Part.TheVariants as part
use Rattle.sf_versions.specs.declared.asks.Verdict.{Verdict}
use Rattle.sf_versions.specs.declared.asks.Verdict.TheVariants as verdict

-- The rules' request that a part is.
abbrev pub request_of_part : Part → Request
request_of_part (part.Known fault) = rule.Known fault
request_of_part part.Working = rule.Working
request_of_part part.Current = rule.Current
request_of_part (part.Unlock names) = rule.Unlock names
request_of_part (part.Commit changes) = rule.Commits changes
request_of_part part.Rollback = rule.RollsBack
request_of_part part.End = rule.Ends
request_of_part (part.Settle map) = rule.Settles map

-- An answer is the rules' answer. A value is answered twice, so that the session can keep it in two places.
abbrev pub IsAnswer : Answer → rule.Answer → Type 0
IsAnswer (answer.Refused fault) told = told ≡ rule.Refused fault
IsAnswer answer.Done told = told ≡ rule.Done
IsAnswer (answer.Value map twin) told = (told ≡ rule.Given map) × (twin ≡ map)
IsAnswer (answer.Committed number) told = told ≡ rule.Committed number
IsAnswer answer.Ended told = told ≡ rule.Ended

-- The rules' verdict that a verdict is.
abbrev pub rule_of_verdict : Verdict → rule_of_promises.Verdict
rule_of_verdict (verdict.Granted blocks) = rule_of_promises.Granted blocks
rule_of_verdict (verdict.NoSpace wanted free) = rule_of_promises.NoSpace wanted free

-- An ask is that of its call, by a session's own part.
pub record IsAsk (o : Own) (ask : Ask) : Type 0 where
  pub part : request_of_part ask.part ≡ request_of o ask.call
  pub kept : ask.kept ≡ kept_births o ask.call

-- A batch has the births that a session holds whose own part is this.
abbrev pub HasBirths : Own → Batch → Type 0
HasBirths o batch = batch.births ≡ session_births o.part

-- The cuts that contents are, each with the choice of its value, in a store with these options.
abbrev pub cuts_with : Options → List (List ℕ) → List Choice → List Cut
cuts_with options (bytes ∷ contents) (choice ∷ choices) =
    record { bytes = bytes; is_sharing = is_sharing options choice } ∷ cuts_with options contents choices
cuts_with options _ _ = []

-- A flush is that of its due call, by a session's own part: the call's ask, and the cuts of what the call flushes.
pub record IsFlush (options : Options) (o : Own) (flush : Flush) : Type 0 where
  pub ask : IsAsk o flush.ask
  pub cuts_are : cuts_with options flush.contents flush.choices ≡ cuts options (own_flush o flush.ask.call)
