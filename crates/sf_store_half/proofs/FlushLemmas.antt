-- The cuts of a flush, one by one.
use Rattle.std.proofs.Common.{◌≡◌, ℕ, zero, suc, ◌+◌, List, [], ◌∷◌, drop, map, Some, None, refl, ap, ◌∙◌, arith}
use Rattle.std.specs.Prelude.{slice_get}
use Rattle.sf_types.specs.declared.options.Choice.{Choice}
use Rattle.sf_types.specs.declared.options.Options.{Options}
use Rattle.sf_types.specs.Space.Cuts.{is_sharing}
use Rattle.sf_versions.specs.Asks.{cuts_with}
use Rattle.sf_store_half.specs.Inside.CutNotes.{cut_of}

-- the cut with a number, where there is a content and a choice with that number
pub next_cut : (options : Options) (contents : List (List ℕ)) (choices : List Choice) (at : ℕ) (bytes : List ℕ) (choice : Choice)
    → slice_get contents at ≡ Some bytes → slice_get choices at ≡ Some choice
    → drop at (cuts_with options contents choices) ≡ cut_of bytes (is_sharing options choice) ∷ drop (at + 1) (cuts_with options contents choices)
next_cut options [] choices at bytes choice is with = absurd cc
next_cut options (x ∷ contents) [] at bytes choice is with = absurd cc
next_cut options (x ∷ contents) (y ∷ choices) zero bytes choice is with =
    let same : x ≡ bytes = cc in let alike : y ≡ choice = cc in
    ap (λ (z : List ℕ). cut_of z (is_sharing options y) ∷ cuts_with options contents choices) same
    ∙ ap (λ (z : Choice). cut_of bytes (is_sharing options z) ∷ cuts_with options contents choices) alike
next_cut options (x ∷ contents) (y ∷ choices) (suc at) bytes choice is with =
    let up : suc (at + 1) ≡ suc at + 1 = omega arith in
    next_cut options contents choices at bytes choice is with
    ∙ ap (λ n. cut_of bytes (is_sharing options choice) ∷ drop n (cuts_with options (x ∷ contents) (y ∷ choices))) up

-- there are no more cuts than contents or choices
pub no_cut_past_contents : (options : Options) (contents : List (List ℕ)) (choices : List Choice) (at : ℕ) → slice_get contents at ≡ None → drop at (cuts_with options contents choices) ≡ []
no_cut_past_contents options [] choices zero none = refl
no_cut_past_contents options [] choices (suc at) none = refl
no_cut_past_contents options (x ∷ contents) [] zero none = refl
no_cut_past_contents options (x ∷ contents) [] (suc at) none = refl
no_cut_past_contents options (x ∷ contents) (y ∷ choices) zero none = absurd cc
no_cut_past_contents options (x ∷ contents) (y ∷ choices) (suc at) none = no_cut_past_contents options contents choices at none

pub no_cut_past_choices : (options : Options) (contents : List (List ℕ)) (choices : List Choice) (at : ℕ) → slice_get choices at ≡ None → drop at (cuts_with options contents choices) ≡ []
no_cut_past_choices options [] choices zero none = refl
no_cut_past_choices options [] choices (suc at) none = refl
no_cut_past_choices options (x ∷ contents) [] zero none = refl
no_cut_past_choices options (x ∷ contents) [] (suc at) none = refl
no_cut_past_choices options (x ∷ contents) (y ∷ choices) zero none = absurd cc
no_cut_past_choices options (x ∷ contents) (y ∷ choices) (suc at) none = no_cut_past_choices options contents choices at none

-- the item of a list that was made from another
pub item_of_map : {A B : Type 0} (f : A → B) (xs : List A) (at : ℕ) (x : A) (y : B) → slice_get xs at ≡ Some x → slice_get (map f xs) at ≡ Some y → y ≡ f x
item_of_map f [] at x y is made = absurd cc
item_of_map f (a ∷ xs) zero x y is made = cc
item_of_map f (a ∷ xs) (suc at) x y is made = item_of_map f xs at x y is made

pub none_of_map : {A B : Type 0} (f : A → B) (xs : List A) (at : ℕ) → slice_get (map f xs) at ≡ None → slice_get xs at ≡ None
none_of_map f [] at none = refl
none_of_map f (a ∷ xs) zero none = absurd cc
none_of_map f (a ∷ xs) (suc at) none = none_of_map f xs at none
