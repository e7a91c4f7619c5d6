-- The first content of a run, and the others.
use Rattle.std.proofs.Common.{◌≡◌, ℕ, suc, ◌-◌, ◌≤◌, List, [], ◌∷◌, ◌++◌, length, take, drop, sym, ap, ◌∙◌, append_assoc, ◌<◌, ◌⊎◌, inl, inr, arith}
use Rattle.std.specs.Int.{div_ceil}
use Rattle.std.specs.Prelude.{min}
use Rattle.std.proofs.lemmas.Bool.{cases_lt}
use Rattle.std.proofs.lemmas.List.{length-drop, take_all, drop_all}
use Rattle.sf_types.specs.Space.Contents.{slices_of, contents_of_stretch}
use Rattle.sf_types.specs.declared.limits.TheConstants.{CONTENT_BYTES}

one-more : (n : ℕ) → 1 ≤ n → div_ceil n CONTENT_BYTES ≡ suc (div_ceil (n - CONTENT_BYTES) CONTENT_BYTES)
one-more n some = omega (arith, some)

pub first-content : (run : List ℕ) → 1 ≤ length run → contents_of_stretch run ≡ take CONTENT_BYTES run ∷ contents_of_stretch (drop CONTENT_BYTES run)
first-content run some =
    ap (λ count. slices_of CONTENT_BYTES count run) (one-more (length run) some)
    ∙ ap (λ n. take CONTENT_BYTES run ∷ slices_of CONTENT_BYTES (div_ceil n CONTENT_BYTES) (drop CONTENT_BYTES run)) (sym (length-drop CONTENT_BYTES run))

-- the lesser of both lengths cuts as the greater does
front-is : (n : ℕ) (run : List ℕ) → n ≡ min (length run) CONTENT_BYTES → (take n run ≡ take CONTENT_BYTES run) × (drop n run ≡ drop CONTENT_BYTES run)
front-is n run is = choose (cases_lt CONTENT_BYTES (length run))
  where
    choose : (CONTENT_BYTES < length run) ⊎ (length run ≤ CONTENT_BYTES) → (take n run ≡ take CONTENT_BYTES run) × (drop n run ≡ drop CONTENT_BYTES run)
    choose (inl long) = let same : n ≡ CONTENT_BYTES = omega (arith, is, long) in (ap (λ k. take k run) same, ap (λ k. drop k run) same)
    choose (inr short) = (
      take_all n run (omega (arith, is, short)) ∙ sym (take_all CONTENT_BYTES run short),
      drop_all n run (omega (arith, is, short)) ∙ sym (drop_all CONTENT_BYTES run short),
    )

-- one content more
pub cut-goes-on : (done more : List (List ℕ)) (run content behind : List ℕ) (n : ℕ) → 1 ≤ length run → n ≡ min (length run) CONTENT_BYTES → content ≡ take n run → behind ≡ drop n run → more ≡ done ++ content ∷ [] → more ++ contents_of_stretch behind ≡ done ++ contents_of_stretch run
cut-goes-on done more run content behind n some is content-is behind-is more-is =
    let both = front-is n run is in
    rw (more-is, content-is, behind-is, both.0, both.1)
    (append_assoc done (take CONTENT_BYTES run ∷ []) (contents_of_stretch (drop CONTENT_BYTES run))
    ∙ ap (λ (xs : List (List ℕ)). done ++ xs) (sym (first-content run some)))
