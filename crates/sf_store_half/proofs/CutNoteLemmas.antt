-- What is known of cuts, and the blocks that they want.
use Rattle.std.proofs.Common.{◌≡◌, ℕ, ◌+◌, ◌≤◌, Bool, true, false, cond, List, [], ◌∷◌, Some, None, Less, Equal, Greater, refl, sym, ap, ◌∙◌, arith}
use Rattle.std.specs.Prelude.{not, ◌&&◌, ◌||◌, bytes_eq, find, is_some, is_none, sum_by, length}
use Rattle.std.specs.List.{list_any}
use Rattle.std.specs.Option.{option_map, option_map_or}
use Rattle.std.specs.Ordering.{nat_cmp, is_eq, match_ordering, eq_by_cmp}
use Rattle.std.specs.Cmp.{nat_cmp_total, nat_cmp_is}
use Rattle.std.specs.Cmp.Lexicographic.{nat_list_eq_equiv, same_text}
use Rattle.std.proofs.lemmas.List.Sums.{sum_by-cons}
use Rattle.std.specs.FinMap.{nat_cmp-IsAntisymmetric}
use Rattle.sf_types.specs.Table.Parts.{Content}
use Rattle.sf_types.specs.Space.Contents.{blocks_of}
use Rattle.sf_types.specs.Space.Cuts.{Cut}
use Rattle.sf_types.specs.Space.Promises.{is_found, is_equal_sharing, new_cuts, wanted_blocks}
use Rattle.sf_room_map.specs.Entries.{with_value}
use Rattle.sf_room_map.proofs.EntryLemmas.{with_other}
use Rattle.sf_dedup.specs.Contents.{Contents, birth_with, content_at, with_content}
use Rattle.sf_stock.specs.Stocks.{Stocked}
use Rattle.sf_store_half.specs.Inside.CutNotes.{stocked_birth, has_equal, note_of, with_first, notes_from, blocks_for, blocks_for_all}

-- whether some content has these bytes
abbrev has_bytes : Contents → List ℕ → Bool
has_bytes firsts bytes = list_any (λ e. bytes_eq e.1 bytes) firsts

found_is_there : (firsts : Contents) (bytes : List ℕ) → is_some (birth_with firsts bytes) ≡ has_bytes firsts bytes
found_is_there [] bytes = refl
found_is_there (e ∷ firsts) bytes =
    elim (bytes_eq e.1 bytes) as (λ t. is_some (option_map (λ (x : ℕ × List ℕ). x.0) (cond t (Some e) (find (λ x. bytes_eq x.1 bytes) firsts))) ≡ (t || has_bytes firsts bytes)) [
      | true ↦ refl
      | false ↦ found_is_there firsts bytes
    ]

either_way : (a b c : Bool) → (a || (b || c)) ≡ (b || (a || c))
either_way true true c = refl
either_way true false c = refl
either_way false b c = refl

there_with : (firsts : Contents) (at : ℕ) (own bytes : List ℕ) → content_at firsts at ≡ None → has_bytes (with_content firsts at own) bytes ≡ (bytes_eq own bytes || has_bytes firsts bytes)
there_with [] at own bytes none = refl
there_with (e ∷ firsts) at own bytes none =
    elim (nat_cmp at e.0) as (λ r. cond (is_eq r) (Some e.1) (content_at firsts at) ≡ None
    → has_bytes (match_ordering r ((at, own) ∷ e ∷ firsts) ((e.0, own) ∷ firsts) (e ∷ with_value nat_cmp firsts at own)) bytes ≡ (bytes_eq own bytes || (bytes_eq e.1 bytes || has_bytes firsts bytes))) [
      | Less ↦ λ _. refl
      | Equal ↦ λ bad. absurd cc
      | Greater ↦ λ left. ap (λ t. bytes_eq e.1 bytes || t) (there_with firsts at own bytes left) ∙ either_way (bytes_eq e.1 bytes) (bytes_eq own bytes) (has_bytes firsts bytes)
    ] none

shared_factor : (s c e r : Bool) → ((s && c && e) || (s && r)) ≡ (s && ((c && e) || r))
shared_factor true c e r = refl
shared_factor false c e r = refl

-- once the content of a sharing cut is put where there is none of its bytes, it is there
kept_or_put : (firsts : Contents) (at : ℕ) (own bytes : List ℕ) → content_at firsts at ≡ None
    → has_bytes (cond (is_none (birth_with firsts own)) (with_content firsts at own) firsts) bytes ≡ (bytes_eq own bytes || has_bytes firsts bytes)
kept_or_put firsts at own bytes none =
    elim (birth_with firsts own) as (λ r. birth_with firsts own ≡ r → has_bytes (cond (is_none r) (with_content firsts at own) firsts) bytes ≡ (bytes_eq own bytes || has_bytes firsts bytes)) [
      | None ↦ λ _. there_with firsts at own bytes none
      | Some b ↦ λ is.
          let there : has_bytes firsts own ≡ true = sym (found_is_there firsts own) ∙ ap is_some is in
          elim (bytes_eq own bytes) as (λ t. bytes_eq own bytes ≡ t → has_bytes firsts bytes ≡ (t || has_bytes firsts bytes)) [
            | true ↦ λ same. ap (has_bytes firsts) (sym (same_text own bytes (sym same))) ∙ there
            | false ↦ λ _. refl
          ] refl
    ] refl

-- past a number there is still nothing once a content was put there
pub fresh_with_first : (firsts : Contents) (at : ℕ) (cut : Cut) (k : ℕ) → ((n : ℕ) → at ≤ n → content_at firsts n ≡ None) → at + 1 ≤ k → content_at (with_first firsts at cut) k ≡ None
fresh_with_first firsts at cut k fresh past =
    elim (cut.is_sharing && is_none (birth_with firsts cut.bytes)) as (λ t. content_at (cond t (with_content firsts at cut.bytes) firsts) k ≡ None) [
      | true ↦
          let apart : eq_by_cmp nat_cmp k at ≡ false = ap is_eq (sym (nat_cmp_is k at Greater (omega (arith, past)))) in
          with_other nat_cmp nat_cmp_total nat_cmp-IsAntisymmetric firsts at cut.bytes k apart ∙ fresh k (omega (arith, past))
      | false ↦ fresh k (omega (arith, past))
    ]

-- whether an equal sharing cut is among some cuts
abbrev is_among_equals : List Cut → List ℕ → Bool
is_among_equals earlier bytes = list_any (λ c. c.is_sharing && bytes_eq c.bytes bytes) earlier

equals_are : (cut : Cut) (earlier : List Cut) → list_any (is_equal_sharing cut) earlier ≡ (cut.is_sharing && is_among_equals earlier cut.bytes)
equals_are cut [] = elim (cut.is_sharing) as (λ t. false ≡ (t && false)) [ true ↦ refl | false ↦ refl ]
equals_are cut (c ∷ earlier) =
    ap (λ t. is_equal_sharing cut c || t) (equals_are cut earlier)
    ∙ ap (λ t. (cut.is_sharing && c.is_sharing && t) || (cut.is_sharing && is_among_equals earlier cut.bytes)) (nat_list_eq_equiv.symm cut.bytes c.bytes)
    ∙ shared_factor cut.is_sharing c.is_sharing (bytes_eq c.bytes cut.bytes) (is_among_equals earlier cut.bytes)

-- the contents of the first sharing cuts are those of the sharing cuts
abbrev AreFirsts : Contents → List Cut → Type 0
AreFirsts firsts earlier = (bytes : List ℕ) → has_bytes firsts bytes ≡ is_among_equals earlier bytes

firsts_with : (firsts : Contents) (earlier : List Cut) (at : ℕ) (cut : Cut) → content_at firsts at ≡ None → AreFirsts firsts earlier → AreFirsts (with_first firsts at cut) (cut ∷ earlier)
firsts_with firsts earlier at cut none are bytes =
    elim cut.is_sharing as (λ s. has_bytes (cond (s && is_none (birth_with firsts cut.bytes)) (with_content firsts at cut.bytes) firsts) bytes ≡ ((s && bytes_eq cut.bytes bytes) || is_among_equals earlier bytes)) [
      | true ↦ kept_or_put firsts at cut.bytes bytes none ∙ ap (λ t. bytes_eq cut.bytes bytes || t) (are bytes)
      | false ↦ are bytes
    ]

module _ (reached : ℕ → Bool) (stocked : List Stocked) (contents : List Content) (reach : List ℕ)
    (found : (cut : Cut) → is_found contents reach cut ≡ option_map_or reached (stocked_birth stocked cut) false) where
  one_wanted : (f e : Bool) (n rest : ℕ) (cut : Cut) (cuts : List Cut) → blocks_of (length cut.bytes) ≡ n → sum_by (λ (c : Cut). blocks_of (length c.bytes)) cuts ≡ rest
      → cond (not f && not e) n 0 + rest ≡ sum_by (λ (c : Cut). blocks_of (length c.bytes)) (cond (f || e) cuts (cut ∷ cuts))
  one_wanted true e n rest cut cuts own others = omega (arith, others)
  one_wanted false true n rest cut cuts own others = omega (arith, others)
  one_wanted false false n rest cut cuts own others = omega (arith, own, others, sum_by-cons (λ (c : Cut). blocks_of (length c.bytes)) cut cuts)

  pub wanted_from : (firsts : Contents) (earlier : List Cut) (at : ℕ) (cuts : List Cut) → AreFirsts firsts earlier → ((n : ℕ) → at ≤ n → content_at firsts n ≡ None)
      → blocks_for_all reached (notes_from stocked firsts at cuts) ≡ sum_by (λ (c : Cut). blocks_of (length c.bytes)) (new_cuts contents reach earlier cuts)
  wanted_from firsts earlier at [] are fresh = refl
  wanted_from firsts earlier at (cut ∷ cuts) are fresh =
      let more = new_cuts contents reach (cut ∷ earlier) cuts in
      let n = blocks_of (length cut.bytes) in
      let rest = notes_from stocked (with_first firsts at cut) (at + 1) cuts in
      let equal : has_equal firsts cut ≡ list_any (is_equal_sharing cut) earlier =
      ap (λ t. cut.is_sharing && t) (found_is_there firsts cut.bytes ∙ are cut.bytes) ∙ sym (equals_are cut earlier) in
      let later : blocks_for_all reached rest ≡ sum_by (λ (c : Cut). blocks_of (length c.bytes)) more =
      wanted_from (with_first firsts at cut) (cut ∷ earlier) (at + 1) cuts (firsts_with firsts earlier at cut (fresh at (omega arith)) are) (λ k past. fresh_with_first firsts at cut k fresh past) in
      sum_by-cons (blocks_for reached) (note_of stocked firsts cut) rest
      ∙ ap (λ t. cond (not t && not (has_equal firsts cut)) n 0 + blocks_for_all reached rest) (sym (found cut))
      ∙ ap (λ t. cond (not (is_found contents reach cut) && not t) n 0 + blocks_for_all reached rest) equal
      ∙ one_wanted (is_found contents reach cut) (list_any (is_equal_sharing cut) earlier) n (blocks_for_all reached rest) cut more refl (sym later)

  -- the blocks that cuts want are told by what is known of them and by the births that are reached
  pub wanted_is : (cuts : List Cut) → blocks_for_all reached (notes_from stocked [] 0 cuts) ≡ wanted_blocks contents reach cuts
  wanted_is cuts = wanted_from [] [] 0 cuts (λ bytes. refl) (λ n _. refl)
