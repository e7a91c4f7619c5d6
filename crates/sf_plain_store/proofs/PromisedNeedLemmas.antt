-- What the need of a core with a promise tells.
use Rattle.std.proofs.Common.{◌≡◌, ◌⊎◌, inl, inr, ℕ, Bool, true, false, cond, List, [], Option, Some, None, refl, sym, ap, subst, ◌∙◌}
use Rattle.std.specs.Prelude.{◌==◌}
use Rattle.std.specs.Option.{option_map_or}
use Rattle.sf_types.specs.declared.call.Call.{Call}
use Rattle.sf_types.specs.Table.Parts.{Promise}
use Rattle.sf_types.specs.Halves.Own.{is_event, own_due}
use Rattle.sf_types.proofs.NumberLemmas.{same_number}
use Rattle.sf_session.specs.declared.need.Need.{Need}
use Rattle.sf_session.specs.declared.need.Need.TheVariants as need
use Rattle.sf_session.specs.declared.phase.Phase.{Phase}
use Rattle.sf_session.specs.declared.phase.Phase.TheVariants.{Unpromised, Promised, Collected}
use Rattle.sf_session.specs.Cores.{CoreView, need_of, need_of_call}
use Rattle.sf_session.specs.AtHome.{IsPromised}
use Rattle.sf_session.proofs.NeedLemmas.{collect_need}
use Rattle.sf_plain_store.specs.Stores.{collected_count}

-- A promise of the table for the call that stands, with these blocks.
pub record HasBlocksOf (o : Option Promise) (core : CoreView) (c : Call) (blocks : ℕ) : Type 0 where
  pub promise : Promise
  pub is : o ≡ Some promise
  pub call : promise.call ≡ c
  pub none : core.pending ≡ []
  pub size : promise.blocks ≡ blocks

abbrev need_where : CoreView → Bool → Option Call → Phase → Need
need_where core ended standing phase = cond ended need.Ended (option_map_or (need_of_call core.gather core.own phase) standing need.Idle)

-- a promise of this phase
held : (core : CoreView) (c : Call) (o : Option Promise) (phase : Phase) (n : ℕ) → (phase ≡ Promised n) ⊎ (phase ≡ Collected n) → IsPromised o core.pending (Some c) phase → HasBlocksOf o core c n
held core c None Unpromised n (inl is) has = absurd cc
held core c None Unpromised n (inr is) has = absurd cc
held core c None (Promised m) n is has = absurd has
held core c None (Collected m) n is has = absurd has
held core c (Some q) Unpromised n is has = absurd has
held core c (Some q) (Promised m) n (inl is) has = let same : m ≡ n = cc in record { promise = q; is = refl; call = has.1; none = has.0; size = has.2 ∙ same }
held core c (Some q) (Promised m) n (inr is) has = absurd cc
held core c (Some q) (Collected m) n (inl is) has = absurd cc
held core c (Some q) (Collected m) n (inr is) has = let same : m ≡ n = cc in record { promise = q; is = refl; call = has.1; none = has.0; size = has.2 ∙ same }

-- a publication has as many blocks as were collected
pub publishes : (o : Option Promise) (core : CoreView) (c : Call) → core.standing ≡ Some c → need_of core ≡ need.Publish → IsPromised o core.pending core.standing core.phase → HasBlocksOf o core c (collected_count core.phase)
publishes o core c standing e has =
    by_phase core.own.part.has_ended core.phase refl (ap (λ (d : Option Call). need_where core core.own.part.has_ended d core.phase) (sym standing) ∙ e)
    (subst (λ (d : Option Call). IsPromised o core.pending d core.phase) standing has)
  where
    by_tests : (due event : Bool) → cond due need.Reserve (cond event need.Event need.Local) ≡ need.Publish → ⊥
    by_tests true event is = absurd cc
    by_tests false true is = absurd cc
    by_tests false false is = absurd cc

    by_blocks : (zero : Bool) (n : ℕ) → (n == 0) ≡ zero → cond zero need.Publish (need.Collect n) ≡ need.Publish → n ≡ 0
    by_blocks true n same is = same_number n 0 same
    by_blocks false n same is = absurd cc

    by_phase : (ended : Bool) (phase : Phase) → core.phase ≡ phase → need_where core ended (Some c) phase ≡ need.Publish → IsPromised o core.pending (Some c) phase → HasBlocksOf o core c (collected_count phase)
    by_phase true phase p is has = absurd cc
    by_phase false Unpromised p is has = absurd (by_tests (own_due core.gather core.own c) (is_event c) is)
    by_phase false (Promised n) p is has = held core c o (Promised n) 0 (inl (ap Promised (by_blocks (n == 0) n refl is))) has
    by_phase false (Collected n) p is has = held core c o (Collected n) n (inr refl) has

-- What a core tells that collects so many blocks.
pub record Collects (o : Option Promise) (core : CoreView) (c : Call) (blocks : ℕ) : Type 0 where
  pub has : HasBlocksOf o core c blocks
  pub some : (blocks == 0) ≡ false
  pub phase : core.phase ≡ Promised blocks
  pub goes_on : core.own.part.has_ended ≡ false

pub collects : (o : Option Promise) (core : CoreView) (c : Call) (blocks : ℕ) → core.standing ≡ Some c → need_of core ≡ need.Collect blocks → IsPromised o core.pending core.standing core.phase → Collects o core c blocks
collects o core c blocks standing e has =
    let is = collect_need core blocks e in
    record {
      has = held core c o core.phase blocks (inl is.phase) (subst (λ (d : Option Call). IsPromised o core.pending d core.phase) standing has);
      some = by_blocks (blocks == 0) (
          ap (λ (p : Phase). need_of_call core.gather core.own p c) (sym is.phase)
          ∙ ap (λ b. cond b need.Ended (need_of_call core.gather core.own core.phase c)) (sym is.goes_on)
          ∙ ap (λ (d : Option Call). need_where core core.own.part.has_ended d core.phase) (sym standing)
          ∙ e);
      phase = is.phase;
      goes_on = is.goes_on;
    }
  where
    by_blocks : (zero : Bool) → cond zero need.Publish (need.Collect blocks) ≡ need.Collect blocks → zero ≡ false
    by_blocks true is = absurd cc
    by_blocks false is = refl
