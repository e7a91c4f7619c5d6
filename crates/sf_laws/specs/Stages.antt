-- What holds of a store between two turns of a play (our own, after VLDB 2008).
use Rattle.std.specs.Prelude.{◌≡◌, ◌⊎◌, ℕ, false, IsTrue, IsPermutation, List, [], ◌++◌, length, flat_map, Option, Some, None}
use Rattle.std.specs.List.{range_with_len}
use Rattle.std.specs.Option.{IfSome}
use Rattle.sf_types.specs.declared.call.Call.{Call}
use Rattle.sf_types.specs.declared.options.Options.{Options}
use Rattle.sf_types.specs.Inside.Births.{IsRising}
use Rattle.sf_types.specs.Table.Parts.{Promise, Table, opening_table}
use Rattle.sf_types.specs.Table.Sessions.{has_session, session_of}
use Rattle.sf_types.specs.Space.Placings.{IsSafe, all_blocks}
use Rattle.sf_types.specs.Orders.Histories.{IsLegalHistory, history_table}
use Rattle.sf_types.specs.Halves.Own.{own_of, AreLocal}
use Rattle.sf_types.specs.Play.Blocks.{Space, collected_by}
use Rattle.sf_types.specs.Play.Turns.{Stage}

-- All blocks of a space: those of its places, the parked ones, the free ones, and those that sessions have collected.
abbrev pub blocks_of_space : Space → List ℕ
blocks_of_space space = all_blocks space.places ++ space.parked ++ space.free ++ flat_map (λ blocks. blocks) space.collected

-- A session without a promise has collected nothing. One with a promise has collected nothing yet, or exactly as many blocks
-- as were promised.
abbrev pub HasCollected : Option Promise → List ℕ → Type 0
HasCollected None blocks = blocks ≡ []
HasCollected (Some promise) blocks = (blocks ≡ []) ⊎ (length blocks ≡ promise.blocks)

-- A store is sound between two turns where its history is legal and its table is the one after it, its placing is safe, each
-- block below the capacity stands in exactly one of the places, the parked, the free and the collected blocks, each session
-- has a list of collected blocks, which has as many as its promise allows, and the free blocks rise.
pub record IsSoundStage (options : Options) (sessions : ℕ) (x : Stage) : Type 0 where
  pub legal : IsLegalHistory (opening_table options sessions) x.history
  pub table : x.table ≡ history_table options sessions x.history
  pub safe : IsSafe x.table x.space.places
  pub blocks : IsPermutation (range_with_len 0 options.capacity) (blocks_of_space x.space)
  pub lists : length x.space.collected ≡ sessions
  pub collected : (s : ℕ) → IsTrue (has_session x.table s) → HasCollected (session_of x.table s).promise (collected_by x.space s)
  pub rising : IsRising x.space.free

-- Session s is at a call behind calls that are local one after the other. Where a promise of the session stands, it stands for
-- this call, and no call is before it.
pub record IsAtCall (t : Table) (s : ℕ) (locals : List Call) (c : Call) : Type 0 where
  pub session : IsTrue (has_session t s)
  pub goes_on : (session_of t s).has_ended ≡ false
  pub local : AreLocal t.options.gather (own_of t s) locals
  pub standing : IfSome (session_of t s).promise (λ promise. (locals ≡ []) × (c ≡ promise.call))
