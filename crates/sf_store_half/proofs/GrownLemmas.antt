-- Cuts that become contents by a plan, and by the rules.
use Rattle.std.proofs.Common.{◌≡◌, ℕ, zero, suc, ◌+◌, ◌-◌, ◌≤◌, Bool, true, false, cond, List, [], ◌∷◌, ◌++◌, length, take, drop, Option, Some, None, refl, sym, ap, subst, ◌∙◌, append_assoc, arith}
use Rattle.std.specs.Prelude.{◌&&◌, ◌||◌, bytes_eq, find, is_some, slice_get, sum_by, unwrap_or}
use Rattle.std.specs.List.{AllByRecursion as Each, list_any, range_with_len}
use Rattle.std.specs.Option.{option_map, option_map_or, option_or}
use Rattle.std.specs.Cmp.Lexicographic.{nat_list_eq_equiv, same_text}
use Rattle.std.proofs.lemmas.List.{append-nil, drop-drop, length-append, map-append}
use Rattle.std.proofs.lemmas.List.Sums.{sum_by-cons}
use Rattle.sf_types.specs.declared.limits.TheConstants.{CONTENT_BYTES}
use Rattle.sf_types.specs.Table.Parts.{Content}
use Rattle.sf_types.specs.Space.Contents.{blocks_of}
use Rattle.sf_types.specs.Space.Cuts.{Cut}
use Rattle.sf_types.specs.Space.Promises.{found_birth, is_equal_sharing, is_found, is_shared_as, new_cuts, wanted_blocks}
use Rattle.sf_types.specs.Space.Publications.{birth_for, births_for, content_of_cut, contents_after, contents_with, reached_with}
use Rattle.sf_types.specs.Space.Use.{blocks_of_birth, blocks_of_births, content_of}
use Rattle.sf_types.specs.Play.Blocks.{places_of_new}
use Rattle.sf_types.proofs.BoolLemmas.{both_first, both_second}
use Rattle.sf_types.proofs.ListLemmas.{get_last}
use Rattle.sf_laws.proofs.EachLemmas.{each_weaker, each-append}
use Rattle.sf_laws.proofs.GivenBirthLemmas.{reached_after}
use Rattle.sf_stock.specs.Stocks.{Stocked, births_of, places_of, shared_birth}
use Rattle.sf_store_half.specs.Inside.CutNotes.{stocked_birth}
use Rattle.sf_store_half.specs.Inside.Plans.{Planned, planned_all, planned_birth, planned_births, planned_with, stocked_cut}
use Rattle.sf_store_half.proofs.CutPlanLemmas.{found_behind}
use Rattle.sf_store_half.proofs.StockLemmas.{found_by_births}

-- what is planned is known to the rules: its births are those that are reached, each with its content
pub record IsKnown (p : Planned) (cs : List Content) (bs : List ℕ) : Type 0 where
  pub births : births_of p.stocked ≡ bs
  pub contents : Each (λ x. content_of cs x.birth ≡ Some x.content) p.stocked
  pub next : p.next ≡ length cs + 1

pub found_known : (p : Planned) (cs : List Content) (bs : List ℕ) (cut : Cut) → IsKnown p cs bs → stocked_birth p.stocked cut ≡ found_birth cs bs cut
found_known p cs bs cut known =
    ap (λ (o : Option ℕ). cond cut.is_sharing o None) (found_by_births cs cut.bytes p.stocked known.contents ∙ ap (find (is_shared_as cs cut.bytes)) known.births)

pub get_first : {X : Type 0} (xs ys : List X) (k : ℕ) (x : X) → slice_get xs k ≡ Some x → slice_get (xs ++ ys) k ≡ Some x
get_first [] ys k x is = absurd cc
get_first (y ∷ xs) ys zero x is = is
get_first (y ∷ xs) ys (suc k) x is = get_first xs ys k x is

-- what stands after a cut that isn't found
abbrev pub grown_by : Planned → Cut → Planned
grown_by p cut = record { stocked = p.stocked ++ stocked_cut p.next p.blocks cut ∷ []; next = p.next + 1; blocks = drop (blocks_of (length cut.bytes)) p.blocks }

known_new : (p : Planned) (cs : List Content) (bs : List ℕ) (cut : Cut) → IsKnown p cs bs → IsKnown (grown_by p cut) (cs ++ content_of_cut cut ∷ []) (bs ++ (length cs + 1) ∷ [])
known_new p cs bs cut known =
    let x = stocked_cut p.next p.blocks cut in
    let y = content_of_cut cut in
    let index : length cs + 1 - 1 ≡ length cs = omega arith in
    let own : content_of (cs ++ y ∷ []) p.next ≡ Some y = ap (content_of (cs ++ y ∷ [])) known.next ∙ ap (slice_get (cs ++ y ∷ [])) index ∙ get_last cs y in
    record {
      births = map-append (λ (z : Stocked). z.birth) p.stocked (x ∷ []) ∙ (λ i. known.births i ++ known.next i ∷ []);
      contents =
          each-append (λ (z : Stocked). content_of (cs ++ y ∷ []) z.birth ≡ Some z.content) p.stocked (x ∷ [])
          (each_weaker (λ (z : Stocked). content_of cs z.birth ≡ Some z.content) (λ z. content_of (cs ++ y ∷ []) z.birth ≡ Some z.content) p.stocked (λ z is. get_first cs (y ∷ []) (z.birth - 1) z.content is) known.contents)
          (own, tt);
      next = omega (arith, known.next, length-append cs (y ∷ []));
    }

pub known_with : (p : Planned) (cs : List Content) (bs : List ℕ) (cut : Cut) → IsKnown p cs bs → IsKnown (planned_with p cut) (contents_with cs bs cut) (reached_with cs bs cut)
known_with p cs bs cut known =
    subst (λ (o : Option ℕ). IsKnown (cond (is_some o) p (grown_by p cut)) (contents_with cs bs cut) (reached_with cs bs cut)) (sym (found_known p cs bs cut known))
    (elim (is_found cs bs cut) as (λ t. IsKnown (cond t p (grown_by p cut)) (cond t cs (cs ++ content_of_cut cut ∷ [])) (cond t bs (bs ++ (length cs + 1) ∷ []))) [ true ↦ known | false ↦ known_new p cs bs cut known ])

pub births_are : (p : Planned) (cs : List Content) (bs : List ℕ) (cuts : List Cut) → IsKnown p cs bs → planned_births p cuts ≡ births_for cs bs cuts
births_are p cs bs [] known = refl
births_are p cs bs (cut ∷ cuts) known =
    let own : planned_birth p cut ≡ birth_for cs bs cut = (λ i. unwrap_or (found_known p cs bs cut known i) (known.next i)) in
    let rest = births_are (planned_with p cut) (contents_with cs bs cut) (reached_with cs bs cut) cuts (known_with p cs bs cut known) in
    (λ i. own i ∷ rest i)

pub known_all : (p : Planned) (cs : List Content) (bs : List ℕ) (cuts : List Cut) → IsKnown p cs bs → IsKnown (planned_all p cuts) (contents_after cs bs cuts) (reached_after cs bs cuts)
known_all p cs bs [] known = known
known_all p cs bs (cut ∷ cuts) known = known_all (planned_with p cut) (contents_with cs bs cut) (reached_with cs bs cut) cuts (known_with p cs bs cut known)

-- ---- births that are cut from blocks, one after the other
abbrev pub weight : Stocked → ℕ
weight x = blocks_of (length x.content.bytes)

abbrev pub OfSize : List ℕ → Type 0
OfSize bytes = (1 ≤ length bytes) × (length bytes ≤ CONTENT_BYTES)

pub record IsCutAs (front : List Stocked) (next : ℕ) (blocks : List ℕ) (x : Stocked) : Type 0 where
  pub birth : x.birth ≡ next
  pub blocks_are : x.blocks ≡ take (weight x) blocks
  pub apart : x.content.is_shared ≡ true → shared_birth front x.content.bytes ≡ None
  pub size : OfSize x.content.bytes

abbrev pub AreCut : List Stocked → ℕ → List ℕ → List Stocked → Type 0
AreCut front next blocks [] = Unit {0}
AreCut front next blocks (x ∷ xs) = IsCutAs front next blocks x × AreCut (front ++ x ∷ []) (next + 1) (drop (weight x) blocks) xs

-- the blocks that cuts take
abbrev pub taken_blocks : Planned → List Cut → ℕ
taken_blocks p [] = 0
taken_blocks p (cut ∷ cuts) = cond (is_some (stocked_birth p.stocked cut)) 0 (blocks_of (length cut.bytes)) + taken_blocks (planned_with p cut) cuts

pub record Grown (p q : Planned) (taken : ℕ) : Type 0 where
  pub new : List Stocked
  pub stocked : q.stocked ≡ p.stocked ++ new
  pub cut : AreCut p.stocked p.next p.blocks new
  pub next : q.next ≡ p.next + length new
  pub rest : q.blocks ≡ drop (sum_by weight new) p.blocks
  pub taken_are : sum_by weight new ≡ taken

grown_none : (p : Planned) → Grown p p 0
grown_none p = record { new = []; stocked = sym (append-nil p.stocked); cut = tt; next = omega arith; rest = refl; taken_are = refl }

grown_one : (p q : Planned) (cut : Cut) (taken : ℕ) → stocked_birth p.stocked cut ≡ None → OfSize cut.bytes → Grown (grown_by p cut) q taken → Grown p q (blocks_of (length cut.bytes) + taken)
grown_one p q cut taken none size g =
    let x = stocked_cut p.next p.blocks cut in
    let k = blocks_of (length cut.bytes) in
    record {
      new = x ∷ g.new;
      stocked = g.stocked ∙ append_assoc p.stocked (x ∷ []) g.new;
      cut = (record { birth = refl; blocks_are = refl; apart = λ shares. ap (λ t. cond {A = Option ℕ} t (shared_birth p.stocked cut.bytes) None) (sym shares) ∙ none; size = size }, g.cut);
      next = omega (arith, g.next);
      rest = g.rest ∙ drop-drop (sum_by weight g.new) k p.blocks ∙ ap (λ (n : ℕ). drop n p.blocks) (sym (sum_by-cons weight x g.new));
      taken_are = omega (arith, g.taken_are, sum_by-cons weight x g.new);
    }

nothing_more : (n : ℕ) → n ≡ 0 + n
nothing_more n = omega arith

pub grown_all : (p : Planned) (cuts : List Cut) → Each (λ cut. OfSize cut.bytes) cuts → Grown p (planned_all p cuts) (taken_blocks p cuts)
grown_all p [] sizes = grown_none p
grown_all p (cut ∷ cuts) sizes =
    elim (stocked_birth p.stocked cut) as (λ o. stocked_birth p.stocked cut ≡ o
    → Grown (cond (is_some o) p (grown_by p cut)) (planned_all (cond (is_some o) p (grown_by p cut)) cuts) (taken_blocks (cond (is_some o) p (grown_by p cut)) cuts)
    → Grown p (planned_all (cond (is_some o) p (grown_by p cut)) cuts) (cond (is_some o) 0 (blocks_of (length cut.bytes)) + taken_blocks (cond (is_some o) p (grown_by p cut)) cuts)) [
      | Some b ↦ λ is rest. subst (Grown p (planned_all p cuts)) (nothing_more (taken_blocks p cuts)) rest
      | None ↦ λ is rest. grown_one p (planned_all (grown_by p cut) cuts) cut (taken_blocks (grown_by p cut) cuts) is sizes.0 rest
    ] refl (grown_all (planned_with p cut) cuts sizes.1)

-- ---- the blocks that are taken are those that cuts want
abbrev Finds : List Content → List ℕ → List Cut → Planned → Type 0
Finds cs bs earlier p = (cut : Cut) → is_some (stocked_birth p.stocked cut) ≡ (is_found cs bs cut || list_any (is_equal_sharing cut) earlier)

some_either : (a b : Option ℕ) → is_some (option_or a b) ≡ (is_some a || is_some b)
some_either (Some a) b = refl
some_either None b = refl

alone : (x : Stocked) (bytes : List ℕ) → is_some (shared_birth (x ∷ []) bytes) ≡ (x.content.is_shared && bytes_eq x.content.bytes bytes)
alone x bytes = elim (x.content.is_shared && bytes_eq x.content.bytes bytes) as (λ t. is_some (option_map {U = ℕ} (λ (y : Stocked). y.birth) (cond t (Some x) None)) ≡ t) [ true ↦ refl | false ↦ refl ]

found_grown : (p : Planned) (own cut : Cut) → is_some (stocked_birth (grown_by p own).stocked cut) ≡ (is_some (stocked_birth p.stocked cut) || is_equal_sharing cut own)
found_grown p own cut =
    let x = stocked_cut p.next p.blocks own in
    elim cut.is_sharing as (λ s. is_some (cond s (shared_birth (p.stocked ++ x ∷ []) cut.bytes) None) ≡ (is_some (cond s (shared_birth p.stocked cut.bytes) None) || (s && own.is_sharing && bytes_eq cut.bytes own.bytes))) [
      | true ↦
          ap (λ (o : Option ℕ). is_some o) (found_behind p.stocked (x ∷ []) cut.bytes)
          ∙ some_either (shared_birth p.stocked cut.bytes) (shared_birth (x ∷ []) cut.bytes)
          ∙ ap (λ t. is_some (shared_birth p.stocked cut.bytes) || t) (alone x cut.bytes ∙ ap (λ t. own.is_sharing && t) (nat_list_eq_equiv.symm own.bytes cut.bytes))
      | false ↦ refl
    ]

-- equal sharing cuts are found alike
alike : (p : Planned) (own cut : Cut) → is_equal_sharing cut own ≡ true → stocked_birth p.stocked cut ≡ stocked_birth p.stocked own
alike p own cut is =
    let first : (cut.is_sharing && own.is_sharing) ≡ true = both_first (cut.is_sharing && own.is_sharing) (bytes_eq cut.bytes own.bytes) (regroup cut.is_sharing own.is_sharing (bytes_eq cut.bytes own.bytes) is) in
    let equal : bytes_eq cut.bytes own.bytes ≡ true = both_second (cut.is_sharing && own.is_sharing) (bytes_eq cut.bytes own.bytes) (regroup cut.is_sharing own.is_sharing (bytes_eq cut.bytes own.bytes) is) in
    let bytes : cut.bytes ≡ own.bytes = same_text cut.bytes own.bytes (sym equal) in
    ap (λ t. cond {A = Option ℕ} t (shared_birth p.stocked cut.bytes) None) (both_first cut.is_sharing own.is_sharing first ∙ sym (both_second cut.is_sharing own.is_sharing first))
    ∙ ap (λ (ys : List ℕ). cond {A = Option ℕ} own.is_sharing (shared_birth p.stocked ys) None) bytes
  where
    regroup : (a b c : Bool) → (a && b && c) ≡ true → ((a && b) && c) ≡ true
    regroup true true true is = refl
    regroup true true false is = is
    regroup true false c is = is
    regroup false b c is = is

finds_with : (cs : List Content) (bs : List ℕ) (earlier : List Cut) (p : Planned) (own : Cut) → Finds cs bs earlier p → Finds cs bs (own ∷ earlier) (planned_with p own)
finds_with cs bs earlier p own finds cut = go (stocked_birth p.stocked own) refl
  where
    turned : (a b d : Bool) → ((a || b) || d) ≡ (a || (d || b))
    turned true b d = refl
    turned false true true = refl
    turned false true false = refl
    turned false false true = refl
    turned false false false = refl

    stays : (e a : Bool) → (e ≡ true → a ≡ true) → a ≡ (a || e)
    stays true a is = is refl ∙ sym (ap (λ t. t || true) (is refl))
    stays false true is = refl
    stays false false is = refl

    go : (o : Option ℕ) → stocked_birth p.stocked own ≡ o → is_some (stocked_birth (cond (is_some o) p (grown_by p own)).stocked cut) ≡ (is_found cs bs cut || (is_equal_sharing cut own || list_any (is_equal_sharing cut) earlier))
    go (Some b) is =
        stays (is_equal_sharing cut own) (is_some (stocked_birth p.stocked cut)) (λ same. ap (λ (o : Option ℕ). is_some o) (alike p own cut same ∙ is))
        ∙ ap (λ t. t || is_equal_sharing cut own) (finds cut)
        ∙ turned (is_found cs bs cut) (list_any (is_equal_sharing cut) earlier) (is_equal_sharing cut own)
    go None is =
        found_grown p own cut
        ∙ ap (λ t. t || is_equal_sharing cut own) (finds cut)
        ∙ turned (is_found cs bs cut) (list_any (is_equal_sharing cut) earlier) (is_equal_sharing cut own)

taken_from : (cs : List Content) (bs : List ℕ) (earlier : List Cut) (p : Planned) (cuts : List Cut) → Finds cs bs earlier p → taken_blocks p cuts ≡ sum_by (λ (cut : Cut). blocks_of (length cut.bytes)) (new_cuts cs bs earlier cuts)
taken_from cs bs earlier p [] finds = refl
taken_from cs bs earlier p (cut ∷ cuts) finds =
    ap (λ n. cond (is_some (stocked_birth p.stocked cut)) 0 (blocks_of (length cut.bytes)) + n) (taken_from cs bs (cut ∷ earlier) (planned_with p cut) cuts (finds_with cs bs earlier p cut finds))
    ∙ ap (λ t. cond t 0 (blocks_of (length cut.bytes)) + sum_by cut_blocks more) (finds cut)
    ∙ one (is_found cs bs cut || list_any (is_equal_sharing cut) earlier)
  where
    cut_blocks : Cut → ℕ
    cut_blocks = λ c. blocks_of (length c.bytes)

    more : List Cut
    more = new_cuts cs bs (cut ∷ earlier) cuts

    one : (t : Bool) → cond t 0 (blocks_of (length cut.bytes)) + sum_by cut_blocks more ≡ sum_by cut_blocks (cond t more (cut ∷ more))
    one true = sym (nothing_more (sum_by cut_blocks more))
    one false = sym (sum_by-cons cut_blocks cut more)

pub taken_wanted : (p : Planned) (cs : List Content) (bs : List ℕ) (cuts : List Cut) → IsKnown p cs bs → taken_blocks p cuts ≡ wanted_blocks cs bs cuts
taken_wanted p cs bs cuts known = taken_from cs bs [] p cuts (λ cut. ap (λ (o : Option ℕ). is_some o) (found_known p cs bs cut known) ∙ last (is_found cs bs cut))
  where
    last : (a : Bool) → a ≡ (a || false)
    last true = refl
    last false = refl

-- ---- the places of births that are cut are those of the rules
weight_is : (cs : List Content) (n : ℕ) (x : Stocked) → x.birth ≡ n → content_of cs x.birth ≡ Some x.content → blocks_of_birth cs n ≡ weight x
weight_is cs n x birth known = ap (blocks_of_birth cs) (sym birth) ∙ ap (λ o. option_map_or (λ (c : Content). blocks_of (length c.bytes)) o 0) known

pub places_are : (cs : List Content) (front : List Stocked) (n : ℕ) (blocks : List ℕ) (new : List Stocked) → AreCut front n blocks new → Each (λ x. content_of cs x.birth ≡ Some x.content) new → places_of new ≡ places_of_new cs (range_with_len n (length new)) blocks
places_are cs front n blocks [] cut known = refl
places_are cs front n blocks (x ∷ new) cut known =
    let same = weight_is cs n x cut.0.birth known.0 in
    let rest = places_are cs (front ++ x ∷ []) (n + 1) (drop (weight x) blocks) new cut.1 known.1 in
    (λ i. record { birth = cut.0.birth i; blocks = cut.0.blocks_are i } ∷ rest i)
    ∙ ap (λ (k : ℕ). record { birth = n; blocks = take k blocks } ∷ places_of_new cs (range_with_len (n + 1) (length new)) (drop k blocks)) (sym same)

pub weights_are : (cs : List Content) (front : List Stocked) (n : ℕ) (blocks : List ℕ) (new : List Stocked) → AreCut front n blocks new → Each (λ x. content_of cs x.birth ≡ Some x.content) new → blocks_of_births cs (range_with_len n (length new)) ≡ sum_by weight new
weights_are cs front n blocks [] cut known = refl
weights_are cs front n blocks (x ∷ new) cut known =
    omega (
      arith,
      sum_by-cons (blocks_of_birth cs) n (range_with_len (n + 1) (length new)),
      sum_by-cons weight x new,
      weight_is cs n x cut.0.birth known.0,
      weights_are cs (front ++ x ∷ []) (n + 1) (drop (weight x) blocks) new cut.1 known.1,
    )

-- what stands behind the same front is the same
pub same_behind : {X : Type 0} (xs ys zs : List X) → xs ++ ys ≡ xs ++ zs → ys ≡ zs
same_behind [] ys zs is = is
same_behind (x ∷ xs) ys zs is = same_behind xs ys zs cc
