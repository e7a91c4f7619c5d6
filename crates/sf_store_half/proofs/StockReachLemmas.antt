-- The births of a stock are those in reach of the half that the fields keep.
use Rattle.std.proofs.Common.{◌≡◌, ℕ, Bool, true, false, List, [], ◌∷◌, ◌++◌, refl, sym, ap, subst, ◌∙◌}
use Rattle.std.specs.Prelude.{flat_map, ◌==◌, ◌||◌}
use Rattle.std.specs.List.{AllByRecursion as Each}
use Rattle.std.proofs.lemmas.List.Elements.{recursion_from_All}
use Rattle.sf_types.specs.declared.holder.Holder.{Holder}
use Rattle.sf_types.specs.Space.Reach.{version_holdings}
use Rattle.sf_types.specs.Halves.Asks.{Half}
use Rattle.sf_types.specs.Halves.Flushes.{half_reach, kept_holdings, table_of_half}
use Rattle.sf_types.proofs.NumberLemmas.{own_number}
use Rattle.sf_laws.proofs.SumLemmas.{rising_rises}
use Rattle.sf_lifetimes.specs.Ledgers.{Holdings, has_birth, held_by, is_live}
use Rattle.sf_lifetimes.proofs.LedgerLemmas.{is_at}
use Rattle.sf_stock.specs.Stocks.{Stocked, IsSound, births_of, is_stocked}
use Rattle.sf_stock.proofs.LeaveLemmas.{same_rising}
use Rattle.sf_types.specs.Inside.Births.{IsRising}
use Rattle.sf_versions.specs.VersionTables.{AreCommits}
use Rattle.sf_store_half.specs.Fields.{Fields, Keeps, held_in}
use Rattle.sf_store_half.proofs.HeldReachLemmas.{each_reached, each_held}
use Rattle.sf_store_half.proofs.LiveLemmas.{none_holds, holder_live}

-- two tests of which each holds where the other does are one
pub both_ways : (a b : Bool) → (a ≡ true → b ≡ true) → (b ≡ true → a ≡ true) → a ≡ b
both_ways true b to from = sym (to refl)
both_ways false true to from = from refl
both_ways false false to from = refl

-- what holds of each birth of a list
pub holds_itself : (bs : List ℕ) → Each (λ b. has_birth bs b ≡ true) bs
holds_itself bs = go bs (λ b is. is)
  where
    go : (cs : List ℕ) → ((b : ℕ) → has_birth cs b ≡ true → has_birth bs b ≡ true) → Each (λ b. has_birth bs b ≡ true) cs
    go [] in_all = tt
    go (c ∷ cs) in_all = (in_all c (ap (λ t. t || has_birth cs c) (own_number c)), go cs (λ b is. in_all b (behind (b == c) (has_birth cs b) is)))
      where
        behind : (t u : Bool) → u ≡ true → (t || u) ≡ true
        behind true u is = refl
        behind false u is = is

pub stocked_is : (xs : List Stocked) (b : ℕ) → is_stocked xs b ≡ has_birth (births_of xs) b
stocked_is [] b = refl
stocked_is (x ∷ xs) b = ap (λ t. (b == x.birth) || t) (stocked_is xs b)

live_births : (m : Holdings) (xs : List Stocked) → Each (λ x. is_live m x.birth ≡ true) xs → Each (λ b. is_live m b ≡ true) (births_of xs)
live_births m [] all = tt
live_births m (x ∷ xs) all = (all.0, live_births m xs all.1)

-- who is live is in reach, and who is in reach is live
module _ (m : Holdings) (h : Half) (commits : AreCommits h.commits) (held : (x : Holder) → held_by m x ≡ held_in h x) where
  live_where_reached : (b : ℕ) → has_birth (half_reach h) b ≡ true → is_live m b ≡ true
  live_where_reached b reached =
      is_at (λ c. is_live m c ≡ true) b (half_reach h)
      (each_reached (λ c. is_live m c ≡ true) h commits (λ x. subst (Each (λ c. is_live m c ≡ true)) (held x) (held_live x))) reached
    where
      each_of : (P Q : ℕ → Type 0) (bs : List ℕ) → ((c : ℕ) → P c → Q c) → Each P bs → Each Q bs
      each_of P Q [] to all = tt
      each_of P Q (c ∷ bs) to all = (to c all.0, each_of P Q bs to all.1)

      held_live : (x : Holder) → Each (λ c. is_live m c ≡ true) (held_by m x)
      held_live x =
          each_of (λ c. has_birth (held_by m x) c ≡ true) (λ c. is_live m c ≡ true) (held_by m x)
          (λ c is. holder_live m x c is) (holds_itself (held_by m x))

  reached_where_live : (b : ℕ) → is_live m b ≡ true → has_birth (half_reach h) b ≡ true
  reached_where_live b live =
      elim (has_birth (half_reach h) b) as (λ t. has_birth (half_reach h) b ≡ t → t ≡ true) [
        | true ↦ λ _. refl
        | false ↦ λ none. let dead : is_live m b ≡ false = none_holds m b (λ x. unheld none x (has_birth (held_by m x) b) refl) in absurd cc
      ] refl
    where
      unheld : has_birth (half_reach h) b ≡ false → (x : Holder) (t : Bool) → has_birth (held_by m x) b ≡ t → has_birth (held_by m x) b ≡ false
      unheld none x false is = is
      unheld none x true is =
          let there : has_birth (half_reach h) b ≡ true = is_at (λ c. has_birth (half_reach h) c ≡ true) b (held_in h x) (each_held (λ c. has_birth (half_reach h) c ≡ true) h (holds_itself (half_reach h)) x) (ap (λ bs. has_birth bs b) (sym (held x)) ∙ is) in
          absurd cc

  pub live_is_reached : (b : ℕ) → is_live m b ≡ has_birth (half_reach h) b
  live_is_reached b = both_ways (is_live m b) (has_birth (half_reach h) b) (reached_where_live b) (live_where_reached b)

-- the reach of a half rises
pub reach_rises : (h : Half) → IsRising (half_reach h)
reach_rises h = rising_rises (flat_map (λ x. x.births) (version_holdings (table_of_half h) ++ kept_holdings 1 h.sessions))

-- births of a stock that somebody holds are those in reach
pub births_reached : (m : Holdings) (h : Half) (xs : List Stocked) → AreCommits h.commits → ((x : Holder) → held_by m x ≡ held_in h x) → IsRising (births_of xs)
    → ((b : ℕ) → is_live m b ≡ true → is_stocked xs b ≡ true) → Each (λ x. is_live m x.birth ≡ true) xs → births_of xs ≡ half_reach h
births_reached m h xs commits held rising stocked live =
    same_rising (births_of xs) (half_reach h) rising (reach_rises h)
    (λ b. both_ways (has_birth (births_of xs) b) (has_birth (half_reach h) b)
    (λ there. sym (live_is_reached m h commits held b) ∙ is_at (λ c. is_live m c ≡ true) b (births_of xs) (live_births m xs live) there)
    (λ reached. sym (stocked_is xs b) ∙ stocked b (live_is_reached m h commits held b ∙ reached)))

pub stocked_are_reached : (f : Fields) (h : Half) → Keeps f h → IsSound f.stock → births_of f.stock.stocked ≡ half_reach h
stocked_are_reached f h keeps sound =
    births_reached f.stock.holdings h f.stock.stocked keeps.commits keeps.held sound.rising sound.held
    (recursion_from_All (λ (x : Stocked). is_live f.stock.holdings x.birth ≡ true) f.stock.stocked keeps.live)
