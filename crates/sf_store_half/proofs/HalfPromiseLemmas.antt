-- What was decided on a promise by the fields is what the half decides.
use Rattle.std.proofs.Common.{◌≡◌, ℕ, zero, suc, ◌+◌, ◌-◌, ◌≤◌, ◌<◌, Bool, true, false, cond, List, [], ◌∷◌, length, Option, Some, None, ◌⊎◌, inl, inr, refl, sym, ap, subst, ◌∙◌, arith}
use Rattle.std.specs.Prelude.{All, find, nat_le, unwrap_or}
use Rattle.std.specs.List.{last_or, range_with_len}
use Rattle.std.proofs.lemmas.Bool.{cases_lt}
use Rattle.sf_types.specs.declared.call.Call.{Call}
use Rattle.sf_types.specs.Table.Parts.{Promise}
use Rattle.sf_types.specs.Space.Cuts.{Cut}
use Rattle.sf_types.specs.Space.Promises.{found_births}
use Rattle.sf_types.specs.Halves.Asks.{Half, Kept, kept_at, with_kept, with_kept_births}
use Rattle.sf_types.specs.Halves.Flushes.{Granted, NoSpace, half_at, half_candidates, half_free, half_promise, half_promise_at, half_reach, half_wanted_blocks, table_of_half}
use Rattle.sf_laws.proofs.LeastFloorLemmas.{end-is}
use Rattle.sf_types.specs.declared.holder.Holder.TheVariants as holder
use Rattle.sf_types.proofs.NumberLemmas.{at_most}
use Rattle.sf_store_half.specs.Inside.Fields.{AreKept}
use Rattle.sf_stock.specs.Stocks.{IsSound, is_stocked, with_holder}
use Rattle.sf_versions.specs.declared.asks.Flush.{Flush}
use Rattle.sf_store_half.specs.declared.cut_notes.CutNote.{CutNote}
use Rattle.sf_store_half.specs.declared.decisions.Decision.{Decision}
use Rattle.sf_store_half.specs.declared.decisions.Decision.TheVariants as decision
use Rattle.sf_store_half.specs.declared.decisions.Grant.{Grant}
use Rattle.sf_store_half.specs.Fields.{Fields, Keeps, is_session}
use Rattle.sf_store_half.specs.HalfMoves.{AreStocked, HasField, cuts_in}
use Rattle.sf_store_half.specs.Inside.CutNotes.{notes_from}
use Rattle.sf_store_half.specs.Inside.Promises.{CanCarryOut, IsDecided, IsGranted, IsRefused, fits_at_floor, free_at, half_decided, half_granted, last_tried_floor, verdict_of, wanted_at}
use Rattle.sf_store_half.proofs.AnswerLemmas.{set_twice}
use Rattle.sf_store_half.proofs.FoundBirthLemmas.{found_stocked, found_where_tried}
use Rattle.sf_store_half.proofs.HeldLemmas.{kept_with}
use Rattle.sf_store_half.proofs.SettledLemmas.{has_session}
use Rattle.sf_store_half.proofs.TriedCutLemmas.{free_where_tried, wanted_where_tried}

-- ---- the first number that passes a test
find_from : (test : ℕ → Bool) (low count at : ℕ) → low ≤ at → at < low + count → test at ≡ true → ((g : ℕ) → low ≤ g → g < at → test g ≡ false) → find test (range_with_len low count) ≡ Some at
find_from test low zero at from below passes least = absurd (omega (arith, from, below))
find_from test low (suc count) at from below passes least =
    choose (cases_lt low at) (λ later. find_from test (low + 1) count at (omega (arith, later)) (omega (arith, below)) passes (λ g past less. least g (omega (arith, past)) less))
  where
    choose : (low < at) ⊎ (at ≤ low) → (low < at → find test (range_with_len (low + 1) count) ≡ Some at) → cond {A = Option ℕ} (test low) (Some low) (find test (range_with_len (low + 1) count)) ≡ Some at
    choose (inl later) rest =
        ap (λ t. cond {A = Option ℕ} t (Some low) (find test (range_with_len (low + 1) count))) (least low (omega arith) later) ∙ rest later
    choose (inr first) rest =
        let same : low ≡ at = omega (arith, from, first) in
        ap (λ t. cond {A = Option ℕ} t (Some low) (find test (range_with_len (low + 1) count))) (ap test same ∙ passes) ∙ ap (λ (n : ℕ). Some n) same

find_none : (test : ℕ → Bool) (low count : ℕ) → ((g : ℕ) → low ≤ g → g < low + count → test g ≡ false) → find test (range_with_len low count) ≡ None
find_none test low zero fails = refl
find_none test low (suc count) fails =
    ap (λ t. cond {A = Option ℕ} t (Some low) (find test (range_with_len (low + 1) count))) (fails low (omega arith) (omega arith))
    ∙ find_none test (low + 1) count (λ g past less. fails g (omega (arith, past)) (omega (arith, less)))

abbrev candidates : Bool → ℕ → ℕ → List ℕ
candidates max now floor = cond {A = List ℕ} max (range_with_len floor (now + 1 - floor)) (floor ∷ [])

granted_among : (test : ℕ → Bool) (max : Bool) (now floor at : ℕ) → floor ≤ at → at ≤ now → (max ≡ false → at ≡ floor) → test at ≡ true → ((g : ℕ) → floor ≤ g → g < at → test g ≡ false) → find test (candidates max now floor) ≡ Some at
granted_among test true now floor at low high alone passes least = find_from test floor (now + 1 - floor) at low (omega (arith, low, high)) passes least
granted_among test false now floor at low high alone passes least =
    let same : at ≡ floor = alone refl in
    ap (λ t. cond {A = Option ℕ} t (Some floor) None) (ap test (sym same) ∙ passes) ∙ ap (λ (n : ℕ). Some n) (sym same)

none_among : (test : ℕ → Bool) (max : Bool) (now floor : ℕ) → ((g : ℕ) → floor ≤ g → g ≤ cond {A = ℕ} max now floor → test g ≡ false) → find test (candidates max now floor) ≡ None
none_among test true now floor fails = find_none test floor (now + 1 - floor) (λ g low less. fails g low (omega (arith, low, less)))
none_among test false now floor fails = ap (λ t. cond {A = Option ℕ} t (Some floor) None) (fails floor (omega arith) (omega arith))

-- ---- a promise of a session that holds other births
module _ (f : Fields) (h : Half) (s : ℕ) (births : List ℕ) (call : Call) (cuts : List Cut) (keeps : Keeps f h) (within : f.floor ≤ f.versions.now) (is : is_session h s ≡ true) (sound : IsSound f.stock)
    (brought : All (λ b. is_stocked f.stock.stocked b ≡ true) births) where
  abbrev held : Half
  held = with_kept_births h s births

  abbrev notes : List CutNote
  notes = notes_from f.stock.stocked [] 0 cuts

  abbrev fits : ℕ → Bool
  fits g = nat_le (half_wanted_blocks held cuts g) (half_free (half_at held g))

  wanted_same : (g : ℕ) → f.floor ≤ g → g ≤ f.versions.now → wanted_at f s births notes g ≡ half_wanted_blocks held cuts g
  wanted_same g low high =
      let at = keeps.floor in
      let now = keeps.now in
      wanted_where_tried f h g s births cuts keeps (omega (arith, at, low)) (omega (arith, now, high)) is sound brought

  free_same : (g : ℕ) → f.floor ≤ g → g ≤ f.versions.now → free_at f s births g ≡ half_free (half_at held g)
  free_same g low high =
      let at = keeps.floor in
      let now = keeps.now in
      sym (free_where_tried f h g s births keeps (omega (arith, at, low)) (omega (arith, now, high)) is sound brought)

  fits_same : (g : ℕ) → f.floor ≤ g → g ≤ f.versions.now → fits g ≡ fits_at_floor f s births notes g
  fits_same g low high = sym (ap (λ n. nat_le n (free_at f s births g)) (wanted_same g low high) ∙ ap (nat_le (half_wanted_blocks held cuts g)) (free_same g low high))

  last_same : cond {A = ℕ} h.options.max (length h.commits) h.floor ≡ last_tried_floor f
  last_same =
      ap (λ (o : _). cond {A = ℕ} o.max (length h.commits) h.floor) (sym keeps.options)
      ∙ ap (λ n. cond {A = ℕ} f.options.max n h.floor) (sym keeps.now)
      ∙ ap (cond {A = ℕ} f.options.max f.versions.now) (sym keeps.floor)

  last_within : last_tried_floor f ≤ f.versions.now
  last_within = by_option f.options.max
    where
      by_option : (t : Bool) → cond {A = ℕ} t f.versions.now f.floor ≤ f.versions.now
      by_option true = omega arith
      by_option false = within

  last_from : f.floor ≤ last_tried_floor f
  last_from = by_option f.options.max
    where
      by_option : (t : Bool) → f.floor ≤ cond {A = ℕ} t f.versions.now f.floor
      by_option true = within
      by_option false = omega arith

  -- what is kept of the session, where its births are replaced first
  kept_same : (p : Promise) (floor : ℕ) → with_kept (half_at held floor) s (record (kept_at held s) { promise = Some p }) ≡ with_kept (half_at h floor) s (record (kept_at h s) { births = births; promise = Some p })
  kept_same p floor =
      ap (λ (k : Kept). with_kept (half_at held floor) s (record k { promise = Some p })) (kept_with h s (record (kept_at h s) { births = births }) is)
      ∙ ap (λ (ks : List Kept). record (half_at h floor) { sessions = ks }) (set_twice h.sessions (s - 1) (record (kept_at h s) { births = births }) (record (kept_at h s) { births = births; promise = Some p }))

  granted_same : (grant : Grant) → IsGranted f s births notes grant → half_promise held s call cuts ≡ (half_granted h s births call grant, Granted grant.wanted)
  granted_same grant is_granted =
      let at = keeps.floor in
      let now = keeps.now in
      let candidate = is_granted.candidate in
      let low : f.floor ≤ grant.floor = candidate.low in
      let high : grant.floor ≤ f.versions.now = candidate.high in
      let chosen : find fits (half_candidates held) ≡ Some grant.floor =
      granted_among fits h.options.max (length h.commits) h.floor grant.floor (omega (arith, at, low)) (omega (arith, now, high))
      (λ never. candidate.alone (ap (λ (o : _). o.max) keeps.options ∙ never) ∙ keeps.floor)
      (fits_same grant.floor low high ∙ is_granted.fits)
      (λ g past less. fits_same g (omega (arith, at, past)) (omega (arith, less, high)) ∙ candidate.least g (omega (arith, at, past)) less) in
      let wanted : half_wanted_blocks held cuts grant.floor ≡ grant.wanted = sym (is_granted.wanted ∙ wanted_same grant.floor low high) in
      let found = is_granted.found ∙ found_where_tried f h grant.floor s births keeps (omega (arith, at, low)) (omega (arith, now, high)) is sound brought cuts in
      ap (half_promise_at held s call cuts) chosen
      ∙ ap (λ n. (with_kept (half_at held grant.floor) s (record (kept_at held s) { promise = Some (record { call = call; blocks = n; births = found_births h.contents (half_reach (half_at held grant.floor)) cuts }) }), Granted n)) wanted
      ∙ ap (λ bs. (with_kept (half_at held grant.floor) s (record (kept_at held s) { promise = Some (record { call = call; blocks = grant.wanted; births = bs }) }), Granted grant.wanted)) (sym found)
      ∙ ap (λ (x : Half). (x, Granted grant.wanted)) (kept_same (record { call = call; blocks = grant.wanted; births = grant.found }) grant.floor)

  refused_same : (wanted free : ℕ) → IsRefused f s births notes wanted free → half_promise held s call cuts ≡ (held, NoSpace wanted free)
  refused_same wanted free refused =
      let at = keeps.floor in
      let now = keeps.now in
      let none : find fits (half_candidates held) ≡ None =
      none_among fits h.options.max (length h.commits) h.floor
      (λ g low high.
      let up : g ≤ last_tried_floor f = omega (arith, high, last_same) in
      fits_same g (omega (arith, at, low)) (omega (arith, up, last_within)) ∙ refused.none g (omega (arith, at, low)) up) in
      let last : unwrap_or (last_or None (half_candidates held)) held.floor ≡ last_tried_floor f = end-is h.options.max (table_of_half h) (omega (arith, at, now, within)) ∙ last_same in
      ap (half_promise_at held s call cuts) none
      ∙ ap (λ g. (held, NoSpace (half_wanted_blocks held cuts g) (half_free (half_at held g)))) last
      ∙ ap (λ n. (held, NoSpace n (half_free (half_at held (last_tried_floor f))))) (sym (refused.wanted_there ∙ wanted_same (last_tried_floor f) last_from last_within))
      ∙ ap (λ n. (held, NoSpace wanted n)) (sym (refused.free_there ∙ free_same (last_tried_floor f) last_from last_within))

  decided_same : (x : Decision) → IsDecided f s births notes x → half_promise held s call cuts ≡ (half_decided h s births call x, verdict_of x)
  decided_same (decision.Granted grant) decided = granted_same grant decided
  decided_same (decision.NoSpace wanted free) decided = refused_same wanted free decided

-- what was decided can be carried out
can_carry_out : (f : Fields) (promised s : ℕ) (births : List ℕ) (cuts : List Cut) (x : Decision) → AreKept f promised → IsDecided f s births (notes_from f.stock.stocked [] 0 cuts) x → CanCarryOut f s births x
can_carry_out f promised s births cuts (decision.Granted grant) kept decided = record {
  low = decided.candidate.low;
  high = decided.candidate.high;
  due = decided.due;
  found = subst (All (λ b. is_stocked (with_holder f.stock (holder.Session s) births).stocked b ≡ true)) (sym decided.found) (found_stocked f s grant.floor births cuts);
  fits =
      let n = wanted_at f s births (notes_from f.stock.stocked [] 0 cuts) grant.floor in
      let few = at_most n (free_at f s births grant.floor) decided.fits in
      omega (arith, few, decided.wanted, kept.count, kept.few);
}
can_carry_out f promised s births cuts (decision.NoSpace wanted free) kept decided = tt

-- ---- of a store's half, seen as its fields
module _ (own f : Fields) (promised s : ℕ) (births : List ℕ) (flush : Flush) (cuts : List CutNote) (x : Decision) (view : own ≡ f) (kept : AreKept own promised)
    (noted : cuts ≡ notes_from own.stock.stocked [] 0 (cuts_in own.options flush)) (decided : IsDecided f s births cuts x) where
  decided_here : IsDecided f s births (notes_from f.stock.stocked [] 0 (cuts_in f.options flush)) x
  decided_here = subst (λ (xs : List CutNote). IsDecided f s births xs x) (noted ∙ ap (λ (y : Fields). notes_from y.stock.stocked [] 0 (cuts_in y.options flush)) view) decided

  pub carried_out : CanCarryOut f s births x
  carried_out = can_carry_out f promised s births (cuts_in f.options flush) x (subst (λ (y : Fields). AreKept y promised) view kept) decided_here

  pub promise_by_view : (h : Half) → IsSound own.stock → Keeps f h → HasField f s → AreStocked f births
      → half_promise (with_kept_births h s births) s flush.ask.call (cuts_in f.options flush) ≡ (half_decided h s births flush.ask.call x, verdict_of x)
  promise_by_view h sound keeps has brought =
      decided_same f h s births flush.ask.call (cuts_in f.options flush) keeps (subst (λ (y : Fields). y.floor ≤ y.versions.now) view kept.reached) (has_session f h s keeps has)
      (subst (λ (y : Fields). IsSound y.stock) view sound) brought x decided_here
