-- What a plan of a publication's cuts is by the rules, and the births that are settled by it.
use Rattle.std.proofs.Common.{◌≡◌, ℕ, suc, ◌+◌, ◌-◌, Bool, true, false, cond, List, [], ◌∷◌, ◌++◌, length, map, drop, Option, None, Some, refl, sym, ap, subst, ◌∙◌, arith}
use Rattle.std.specs.Prelude.{◌==◌, ◌||◌, find, is_some, sum_by, unwrap_or}
use Rattle.std.specs.List.{AllByRecursion as Each, range_with_len}
use Rattle.std.specs.Option.{option_map}
use Rattle.std.proofs.lemmas.List.{append-nil, take_all}
use Rattle.std.proofs.lemmas.List.Elements.{recursion_from_All}
use Rattle.sf_types.specs.declared.options.Options.{Options}
use Rattle.sf_types.specs.Values.Marks.{Value, births_in}
use Rattle.sf_types.specs.Space.BlockRuns.{blocks_in}
use Rattle.sf_types.specs.Space.Cuts.{Cut, contents_of_value, cuts, cuts_of_value, is_sharing, segments_of, settle_value, stored_bytes_from}
use Rattle.sf_types.specs.Space.Publications.{contents_after}
use Rattle.sf_types.specs.Space.Use.{blocks_of_births, content_of}
use Rattle.sf_types.specs.Halves.Asks.{Half, births_with}
use Rattle.sf_types.specs.Halves.Flushes.{half_births_for, half_reach, with_half_contents}
use Rattle.sf_types.specs.Play.Blocks.{places_of_new}
use Rattle.sf_types.proofs.NumberLemmas.{own_number}
use Rattle.sf_laws.proofs.EachLemmas.{each_right, each-append, each-map}
use Rattle.sf_laws.proofs.GivenBirthLemmas.{reached_after}
use Rattle.sf_laws.proofs.ReachLemmas.{OfBirth, each-births_in, each-rising, each_from_births_in, each_from_rising, unstored_birth}
use Rattle.sf_laws.proofs.SettleLemmas.{OfStored, Paired, settled_value_holds}
use Rattle.sf_laws.proofs.SettledBirthLemmas.{from_given, from_value}
use Rattle.sf_laws.proofs.StretchLemmas.{IsContentSize, contents-sizes}
use Rattle.sf_lifetimes.specs.Ledgers.{has_birth}
use Rattle.sf_stock.specs.Stocks.{IsSound, Stocked, births_of, is_stocked, places_of, shared_birth, is_shared_with}
use Rattle.sf_stock.proofs.SinceLemmas.{stocked-append}
use Rattle.sf_store_half.specs.Fields.{Fields, Keeps}
use Rattle.sf_store_half.specs.HalfMoves.{AreEnough, ArePlaceable, births_between, new_places}
use Rattle.sf_store_half.specs.Inside.CutNotes.{stocked_birth}
use Rattle.sf_store_half.specs.Inside.Plans.{AreNewPlaces, IsPlan, Planned, planned_all, planned_birth, planned_births, planned_by, planned_with, stocked_cut, stocked_from, unplanned}
use Rattle.sf_store_half.specs.declared.plans.Plan.{Plan}
use Rattle.sf_store_half.proofs.GrownLemmas.{AreCut, Grown, IsKnown, OfSize, births_are, grown_all, grown_by, known_all, places_are, same_behind, taken_blocks, taken_wanted, weight, weights_are}
use Rattle.sf_store_half.proofs.PlaceableLemmas.{are_new_places, free_at_first, length_stocked}
use Rattle.sf_store_half.proofs.PublishedLemmas.{known_first}
use Rattle.sf_store_half.proofs.StockReachLemmas.{holds_itself}

-- ---- the sizes of cuts
pub value_sizes : (options : Options) (v : Value) → Each (λ cut. OfSize cut.bytes) (cuts_of_value options v)
value_sizes options v = each-map (λ cut. OfSize cut.bytes) _ (contents_of_value v) (recursion_from_All IsContentSize (contents_of_value v) (contents-sizes (segments_of v.bytes)))

pub row_sizes : (options : Options) (rows : List (List ℕ × Option Value)) → Each (λ cut. OfSize cut.bytes) (cuts options rows)
row_sizes options [] = tt
row_sizes options ((name, None) ∷ rows) = row_sizes options rows
row_sizes options ((name, Some v) ∷ rows) = each-append (λ cut. OfSize cut.bytes) (cuts_of_value options v) (cuts options rows) (value_sizes options v) (row_sizes options rows)

-- ---- a plan of cuts by the rules
module _ (f : Fields) (blocks : List ℕ) (of : List Cut) (plan : Plan) (planned : planned_by f.stock plan ≡ planned_all (unplanned f.stock blocks) of) where
  abbrev first : Planned
  first = unplanned f.stock blocks

  abbrev new : List Stocked
  new = stocked_from f.stock.next plan.news.items

  pub stocked_planned : f.stock.stocked ++ new ≡ (planned_all first of).stocked
  stocked_planned = ap (λ (p : Planned). p.stocked) planned

  pub next_planned : IsPlan f.stock plan → f.stock.next + length plan.news.items ≡ (planned_all first of).next
  next_planned are = sym are.next ∙ ap (λ (p : Planned). p.next) planned

  module _ (sizes : Each (λ cut. OfSize cut.bytes) of) where
    grown : Grown first (planned_all first of) (taken_blocks first of)
    grown = grown_all first of sizes

    new_is : grown.new ≡ new
    new_is = same_behind f.stock.stocked grown.new new (sym grown.stocked ∙ sym stocked_planned)

    new_cut : AreCut f.stock.stocked f.stock.next blocks new
    new_cut = subst (AreCut f.stock.stocked f.stock.next blocks) new_is grown.cut

    pub left_planned : blocks_in plan.left.held ≡ drop (sum_by weight new) blocks
    left_planned = ap (λ (p : Planned). p.blocks) planned ∙ grown.rest ∙ ap (λ (xs : List Stocked). drop (sum_by weight xs) blocks) new_is

    pub placeable : IsSound f.stock → f.stock.left ≡ [] → ArePlaceable f blocks → AreEnough f of (length blocks) → AreNewPlaces f.stock plan.news.items
    placeable sound none are enough =
        let h = enough.0 in
        let keeps = enough.1 in
        are_new_places f.stock plan.news.items blocks (free_at_first f.stock blocks sound none are.below are.once are.apart) new_cut
        (omega (arith, enough.2, taken_wanted first h.contents (half_reach h) of (known_first f h blocks keeps sound), grown.taken_are, ap (sum_by weight) new_is))

    -- what the rules say of it
    module _ (h : Half) (keeps : Keeps f h) (sound : IsSound f.stock) where
      known : IsKnown (planned_all first of) (contents_after h.contents (half_reach h) of) (reached_after h.contents (half_reach h) of)
      known = known_all first h.contents (half_reach h) of (known_first f h blocks keeps sound)

      known_new : Each (λ x. content_of (contents_after h.contents (half_reach h) of) x.birth ≡ Some x.content) new
      known_new =
          each_right (λ (x : Stocked). content_of (contents_after h.contents (half_reach h) of) x.birth ≡ Some x.content) f.stock.stocked new
          (subst (Each (λ (x : Stocked). content_of (contents_after h.contents (half_reach h) of) x.birth ≡ Some x.content)) (sym stocked_planned) known.contents)

      count : IsPlan f.stock plan → length new ≡ length (contents_after h.contents (half_reach h) of) - length h.contents
      count are = omega (arith, length_stocked f.stock.next plan.news.items, next_planned are, known.next, keeps.next)

      range : IsPlan f.stock plan → range_with_len f.stock.next (length new) ≡ births_between h (with_half_contents h of)
      range are = (λ i. range_with_len (keeps.next i) (count are i))

      pub births_planned : planned_births first of ≡ half_births_for h of
      births_planned = births_are first h.contents (half_reach h) of (known_first f h blocks keeps sound)

      pub places_planned : IsPlan f.stock plan → places_of new ≡ new_places h (with_half_contents h of) blocks
      places_planned are =
          places_are (contents_after h.contents (half_reach h) of) f.stock.stocked f.stock.next blocks new new_cut known_new
          ∙ ap (λ (bs : List ℕ). places_of_new (contents_after h.contents (half_reach h) of) bs blocks) (range are)

      pub rest_planned : IsPlan f.stock plan → blocks_in plan.left.held ≡ drop (blocks_of_births (contents_after h.contents (half_reach h) of) (births_between h (with_half_contents h of))) blocks
      rest_planned are =
          left_planned
          ∙ ap (λ (n : ℕ). drop n blocks)
          (sym (weights_are (contents_after h.contents (half_reach h) of) f.stock.stocked f.stock.next blocks new new_cut known_new)
          ∙ ap (blocks_of_births (contents_after h.contents (half_reach h) of)) (range are))

      births_new : (n : ℕ) (front : List Stocked) (bs : List ℕ) (xs : List Stocked) → AreCut front n bs xs → births_of xs ≡ range_with_len n (length xs)
      births_new n front bs [] cut = refl
      births_new n front bs (x ∷ xs) cut = (λ i. cut.0.birth i ∷ births_new (n + 1) (front ++ x ∷ []) (drop (weight x) bs) xs cut.1 i)

      -- what holds of the births of the cuts holds of the new ones
      pub new_where : (P : ℕ → Type 0) → IsPlan f.stock plan → Each P (planned_births first of) → Each (λ x. P x.birth) new
      new_where P are all =
          from_births P new
          (subst (Each P) (sym (births_new f.stock.next f.stock.stocked blocks new new_cut ∙ range are))
          (from_given P h.contents (half_reach h) of (subst (Each P) births_planned all)))
        where
          from_births : (P : ℕ → Type 0) (xs : List Stocked) → Each P (births_of xs) → Each (λ x. P x.birth) xs
          from_births P [] all = tt
          from_births P (x ∷ xs) all = (all.0, from_births P xs all.1)

-- ---- the births of cuts have places once these are contents
found_there : (xs : List Stocked) (bytes : List ℕ) (b : ℕ) → shared_birth xs bytes ≡ Some b → is_stocked xs b ≡ true
found_there [] bytes b is = absurd cc
found_there (x ∷ xs) bytes b is =
    elim (is_shared_with bytes x) as (λ t. option_map {U = ℕ} (λ (y : Stocked). y.birth) (cond t (Some x) (find (is_shared_with bytes) xs)) ≡ Some b → ((b == x.birth) || is_stocked xs b) ≡ true) [
      | true ↦ λ here. let same : x.birth ≡ b = cc in ap (λ n. (b == n) || is_stocked xs b) same ∙ ap (λ t. t || is_stocked xs b) (own_number b)
      | false ↦ λ later. either (b == x.birth) (is_stocked xs b) (found_there xs bytes b later)
    ] is
  where
    either : (t u : Bool) → u ≡ true → (t || u) ≡ true
    either true u is = refl
    either false u is = is

front_stocked : (xs ys : List Stocked) (b : ℕ) → is_stocked xs b ≡ true → is_stocked (xs ++ ys) b ≡ true
front_stocked xs ys b is = stocked-append xs ys b ∙ ap (λ t. t || is_stocked ys b) is

stays_stocked : (p : Planned) (of : List Cut) (b : ℕ) → is_stocked p.stocked b ≡ true → is_stocked (planned_all p of).stocked b ≡ true
stays_stocked p [] b is = is
stays_stocked p (cut ∷ of) b is =
    stays_stocked (planned_with p cut) of b
    (elim (is_some (stocked_birth p.stocked cut)) as (λ t. is_stocked (cond t p (grown_by p cut)).stocked b ≡ true) [
      | true ↦ is
      | false ↦ front_stocked p.stocked (stocked_cut p.next p.blocks cut ∷ []) b is
    ])

one_stocked : (p : Planned) (cut : Cut) → is_stocked (planned_with p cut).stocked (planned_birth p cut) ≡ true
one_stocked p cut =
    elim (stocked_birth p.stocked cut) as (λ o. stocked_birth p.stocked cut ≡ o → is_stocked (cond (is_some o) p (grown_by p cut)).stocked (unwrap_or o p.next) ≡ true) [
      | None ↦ λ _. stocked-append p.stocked (stocked_cut p.next p.blocks cut ∷ []) p.next ∙ last (is_stocked p.stocked p.next) (p.next == p.next) (own_number p.next)
      | Some b ↦ λ is. sharing cut.is_sharing b is
    ] refl
  where
    last : (t u : Bool) → u ≡ true → (t || (u || false)) ≡ true
    last true u is = refl
    last false true is = refl
    last false false is = is

    sharing : (s : Bool) (b : ℕ) → cond s (shared_birth p.stocked cut.bytes) None ≡ Some b → is_stocked p.stocked b ≡ true
    sharing true b is = found_there p.stocked cut.bytes b is
    sharing false b is = absurd cc

pub births_stocked : (p : Planned) (of : List Cut) → Each (λ b. is_stocked (planned_all p of).stocked b ≡ true) (planned_births p of)
births_stocked p [] = tt
births_stocked p (cut ∷ of) = (stays_stocked (planned_with p cut) of (planned_birth p cut) (one_stocked p cut), births_stocked (planned_with p cut) of)

-- ---- the births of a settled value
stored_each : (P : ℕ → Type 0) (b at : ℕ) (bytes : List ℕ) → P b → Each (OfBirth P) (stored_bytes_from b at bytes)
stored_each P b at [] is = tt
stored_each P b at (x ∷ bytes) is = (is, stored_each P b (at + 1) bytes is)

paired_each : (P : ℕ → Type 0) (contents : List (List ℕ)) (births : List ℕ) → Each P births → Paired (OfStored (OfBirth P)) contents births
paired_each P [] births all = tt
paired_each P (bytes ∷ contents) [] all = tt
paired_each P (bytes ∷ contents) (b ∷ births) all = (stored_each P b 0 bytes all.0, paired_each P contents births all.1)

pub settled_where : (P : ℕ → Type 0) (v : Value) (births : List ℕ) → Each P (births_in v) → Each P births → Each P (births_in (settle_value v births))
settled_where P v births own all =
    each-births_in P (settle_value v births)
    (settled_value_holds (OfBirth P) (unstored_birth P) v births (each_from_births_in P v own) (paired_each P (contents_of_value v) births all))

-- the births by which a value is settled are among its own, and so among those of a session that has it
pub settled_among : (kept : List ℕ) (v : Value) (births : List ℕ) → length births ≡ length (contents_of_value v) → Each (λ b. has_birth (births_with kept (settle_value v births)) b ≡ true) births
settled_among kept v births count =
    let all = births_with kept (settle_value v births) in
    let P : ℕ → Type 0 = λ b. has_birth all b ≡ true in
    let own : Each P (births_in (settle_value v births)) = each_right P kept (births_in (settle_value v births)) (each_from_rising P (kept ++ births_in (settle_value v births)) (holds_itself all)) in
    subst (Each P) (take_all (length (contents_of_value v)) births (omega (arith, count)))
    (from_value P v births (omega (arith, count)) (each_from_births_in P (settle_value v births) own))

pub with_where : (P : ℕ → Type 0) (kept : List ℕ) (v : Value) → Each P kept → Each P (births_in v) → Each P (births_with kept v)
with_where P kept v first own = each-rising P (kept ++ births_in v) (each-append P kept (births_in v) first own)

-- ---- the cuts of one value
pub cuts_alone : (options : Options) (v : Value) → cuts options (([], Some v) ∷ []) ≡ cuts_of_value options v
cuts_alone options v = append-nil (cuts_of_value options v)

pub bytes_of_cuts : (options : Options) (v : Value) → map (λ (cut : Cut). cut.bytes) (cuts_of_value options v) ≡ contents_of_value v
bytes_of_cuts options v = go (contents_of_value v)
  where
    go : (cs : List (List ℕ)) → map (λ (cut : Cut). cut.bytes) (map (λ bytes. record { bytes = bytes; is_sharing = is_sharing options v.choice }) cs) ≡ cs
    go [] = refl
    go (c ∷ cs) = ap (λ (ds : List (List ℕ)). c ∷ ds) (go cs)

pub births_count : (p : Planned) (of : List Cut) → length (planned_births p of) ≡ length of
births_count p [] = refl
births_count p (cut ∷ of) = ap (λ n. suc n) (births_count (planned_with p cut) of)
