-- Births that come into reach are new.
use Rattle.std.proofs.Common.{ℕ, ◌+◌, ◌≤◌, ◌<◌, List, [], ◌∷◌, ◌++◌, length, Option, Some, None, cond, ap, ◌⊎◌, inl, inr, arith}
use Rattle.std.proofs.lemmas.List.{length-append}
use Rattle.std.specs.Prelude.{Contains, is_some}
use Rattle.std.specs.List.{AllByRecursion as Each}
use Rattle.sf_types.specs.declared.call.Call.{Call}
use Rattle.sf_types.specs.declared.history.Kind.{Kind}
use Rattle.sf_types.specs.Table.Parts.{Content, Table}
use Rattle.sf_types.specs.Space.Cuts.{Cut}
use Rattle.sf_types.specs.Space.Reach.{reach}
use Rattle.sf_types.specs.Space.Promises.{found_birth, flush_cuts}
use Rattle.sf_types.specs.Space.Publications.{contents_with, reached_with}
use Rattle.sf_types.specs.Orders.Histories.{IsLegal, entry_effect}
use Rattle.sf_laws.specs.TrueMarks.{HasTrueMarks}
use Rattle.sf_laws.proofs.EachLemmas.{each_weaker, each_itself, each-append}
use Rattle.sf_laws.proofs.GivenBirthLemmas.{reached_after, goes_on_with}
use Rattle.sf_laws.proofs.ReachStepLemmas.{reach_stepped, reach_published, reach_at_floor, reach_granted, reach_cancelled}
use Rattle.sf_laws.proofs.EntryCaseLemmas.{by_entry_cases}
use Rattle.sf_laws.proofs.TrueStepLemmas.{are_true, reach_given}

-- a birth of some, or one that is given out after these contents
abbrev pub IsOldOrNew : List ℕ → ℕ → ℕ → Type 0
IsOldOrNew old count b = Contains old b ⊎ (count < b)

new-where : (old : List ℕ) (count : ℕ) (contents : List Content) (reached : List ℕ) (o : Option ℕ) → count ≤ length contents → Each (IsOldOrNew old count) reached → Each (IsOldOrNew old count) (cond (is_some o) reached (reached ++ (length contents + 1) ∷ []))
new-where old count contents reached (Some b) le all = all
new-where old count contents reached None le all = each-append (IsOldOrNew old count) reached ((length contents + 1) ∷ []) all (inr (omega (arith, le)), tt)

count-where : (count : ℕ) (contents : List Content) (reached : List ℕ) (cut : Cut) → count ≤ length contents → count ≤ length (contents_with contents reached cut)
count-where count contents reached cut le =
    let on = goes_on_with contents reached cut in
    omega (arith, le, ap length on.parts, length-append contents on.more)

pub new-after : (old : List ℕ) (count : ℕ) (contents : List Content) (reached : List ℕ) (of : List Cut) → count ≤ length contents → Each (IsOldOrNew old count) reached → Each (IsOldOrNew old count) (reached_after contents reached of)
new-after old count contents reached [] le all = all
new-after old count contents reached (cut ∷ rest) le all =
    new-after old count (contents_with contents reached cut) (reached_with contents reached cut) rest (count-where count contents reached cut le)
    (new-where old count contents reached (found_birth contents reached cut) le all)

-- what is in reach after a legal entry was in reach before, or is new
pub old-or-new : (t : Table) (s : ℕ) (k : Kind) (c : Call) → IsLegal t s k c → HasTrueMarks t → Each (IsOldOrNew (reach t) (length t.contents)) (reach (entry_effect t s k c).0)
old-or-new t s k c legal marks =
    let P = IsOldOrNew (reach t) (length t.contents) in
    let own : Each P (reach t) = each_weaker (Contains (reach t)) P (reach t) (λ b within. inl within) (each_itself (reach t)) in
    by_entry_cases t s k c (λ u. Each P (reach u)) legal (record {
      stepped = λ none due. reach_stepped P t s c legal.session own;
      published = λ q is same. reach_published P t s c (reach_given t (are_true t marks)) (new-after (reach t) (length t.contents) t.contents (reach t) (flush_cuts t s c) (omega arith) own);
      refused = own;
      granted = λ none due h le fits. reach_granted P t s c (flush_cuts t s c) h (reach_at_floor P t h le own);
      cancelled = λ q is. reach_cancelled P t s own;
    })
