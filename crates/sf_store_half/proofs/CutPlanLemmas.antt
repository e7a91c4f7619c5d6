-- Plans of new contents beside a stock.
use Rattle.std.proofs.Common.{◌≡◌, ℕ, zero, suc, ◌+◌, ◌≤◌, ◌<◌, Bool, true, false, cond, List, [], ◌∷◌, ◌++◌, length, take, drop, Option, Some, None, Greater, refl, sym, ap, subst, ◌∙◌, append_assoc, arith}
use Rattle.std.specs.Prelude.{◌&&◌, bytes_eq, find, is_some, All}
use Rattle.std.specs.List.{AllByRecursion as Each}
use Rattle.std.proofs.lemmas.List.Elements.{recursion_from_All}
use Rattle.std.specs.Option.{option_map, option_or}
use Rattle.std.specs.Ordering.{is_eq, match_ordering}
use Rattle.std.specs.Cmp.{nat_cmp_is}
use Rattle.std.proofs.lemmas.List.{append-nil, length-append}
use Rattle.std.proofs.lemmas.List.Sums.{sum_by-cons}
use Rattle.sf_types.specs.Table.Parts.{Content}
use Rattle.sf_types.specs.Space.BlockRuns.{blocks_in}
use Rattle.sf_types.specs.Space.Contents.{blocks_of}
use Rattle.sf_types.specs.Space.Cuts.{Cut}
use Rattle.sf_types.specs.Space.Publications.{content_of_cut}
use Rattle.sf_dedup.specs.Contents.{Contents, birth_with, content_at, with_content}
use Rattle.sf_stock.specs.Stocks.{NewContentView, Stocked, StockView, is_shared_with, shared_birth}
use Rattle.sf_store_half.specs.Inside.CutNotes.{stocked_birth}
use Rattle.sf_store_half.specs.Inside.Plans.{IsPlan, Planned, firsts_with, items_of, planned_by, planned_with, shared_entries, stocked_cut, stocked_from}
use Rattle.sf_store_half.specs.declared.plans.Plan.{Plan}

-- ---- where a content is found
pub found_behind : (xs ys : List Stocked) (bytes : List ℕ) → shared_birth (xs ++ ys) bytes ≡ option_or (shared_birth xs bytes) (shared_birth ys bytes)
found_behind [] ys bytes = refl
found_behind (x ∷ xs) ys bytes =
    elim (is_shared_with bytes x) as (λ t. option_map {U = ℕ} (λ (y : Stocked). y.birth) (cond t (Some x) (find (is_shared_with bytes) (xs ++ ys))) ≡ option_or (option_map {U = ℕ} (λ (y : Stocked). y.birth) (cond t (Some x) (find (is_shared_with bytes) xs))) (shared_birth ys bytes)) [
      | true ↦ refl
      | false ↦ found_behind xs ys bytes
    ]

pub found_first : (xs ys : List Stocked) (bytes : List ℕ) (b : ℕ) → shared_birth xs bytes ≡ Some b → shared_birth (xs ++ ys) bytes ≡ Some b
found_first xs ys bytes b is = found_behind xs ys bytes ∙ ap (λ (o : Option ℕ). option_or o (shared_birth ys bytes)) is

pub found_later : (xs ys : List Stocked) (bytes : List ℕ) → shared_birth xs bytes ≡ None → shared_birth (xs ++ ys) bytes ≡ shared_birth ys bytes
found_later xs ys bytes none = found_behind xs ys bytes ∙ ap (λ (o : Option ℕ). option_or o (shared_birth ys bytes)) none

pub none_later : (xs ys : List Stocked) (bytes : List ℕ) → shared_birth (xs ++ ys) bytes ≡ None → shared_birth ys bytes ≡ None
none_later xs ys bytes none = go (shared_birth xs bytes) refl
  where
    go : (o : Option ℕ) → shared_birth xs bytes ≡ o → shared_birth ys bytes ≡ None
    go None is = sym (found_later xs ys bytes is) ∙ none
    go (Some b) is = let bad = sym (found_first xs ys bytes b is) ∙ none in absurd cc

-- ---- the index of the shared ones
pub found_by_index : (xs : List Stocked) (bytes : List ℕ) → birth_with (shared_entries xs) bytes ≡ shared_birth xs bytes
found_by_index [] bytes = refl
found_by_index (x ∷ xs) bytes =
    elim x.content.is_shared as (λ t. birth_with (cond t ((x.birth, x.content.bytes) ∷ shared_entries xs) (shared_entries xs)) bytes ≡ option_map {U = ℕ} (λ (y : Stocked). y.birth) (cond (t && bytes_eq x.content.bytes bytes) (Some x) (find (is_shared_with bytes) xs))) [
      | true ↦ elim (bytes_eq x.content.bytes bytes) as (λ u. option_map {U = ℕ} (λ (e : ℕ × List ℕ). e.0) (cond u (Some (x.birth, x.content.bytes)) (find (λ (e : ℕ × List ℕ). bytes_eq e.1 bytes) (shared_entries xs))) ≡ option_map {U = ℕ} (λ (y : Stocked). y.birth) (cond u (Some x) (find (is_shared_with bytes) xs))) [
        | true ↦ refl
        | false ↦ found_by_index xs bytes
      ]
      | false ↦ found_by_index xs bytes
    ]

past_entry : (e : ℕ × List ℕ) (es : Contents) (k : ℕ) → e.0 < k → content_at (e ∷ es) k ≡ content_at es k
past_entry e es k past = ap (λ r. cond (is_eq r) (Some e.1) (content_at es k)) (sym (nat_cmp_is k e.0 Greater past))

put_past : (e : ℕ × List ℕ) (es : Contents) (k : ℕ) (bytes : List ℕ) → e.0 < k → with_content (e ∷ es) k bytes ≡ e ∷ with_content es k bytes
put_past e es k bytes past = ap (λ r. match_ordering r ((k, bytes) ∷ e ∷ es) ((e.0, bytes) ∷ es) (e ∷ with_content es k bytes)) (sym (nat_cmp_is k e.0 Greater past))

pub no_entry : (n k : ℕ) (news : List NewContentView) → n + length news ≤ k → content_at (shared_entries (stocked_from n news)) k ≡ None
no_entry n k [] past = refl
no_entry n k (x ∷ news) past =
    let es = shared_entries (stocked_from (n + 1) news) in
    let rest : content_at es k ≡ None = no_entry (n + 1) k news (omega (arith, past)) in
    elim x.content.is_shared as (λ t. content_at (cond t ((n, x.content.bytes) ∷ es) es) k ≡ None) [
      | true ↦ past_entry (n, x.content.bytes) es k (omega (arith, past)) ∙ rest
      | false ↦ rest
    ]

put_last : (n k : ℕ) (news : List NewContentView) (bytes : List ℕ) → n + length news ≤ k → with_content (shared_entries (stocked_from n news)) k bytes ≡ shared_entries (stocked_from n news) ++ (k, bytes) ∷ []
put_last n k [] bytes past = refl
put_last n k (x ∷ news) bytes past =
    let es = shared_entries (stocked_from (n + 1) news) in
    let rest = put_last (n + 1) k news bytes (omega (arith, past)) in
    elim x.content.is_shared as (λ t. with_content (cond t ((n, x.content.bytes) ∷ es) es) k bytes ≡ cond t ((n, x.content.bytes) ∷ es) es ++ (k, bytes) ∷ []) [
      | true ↦ put_past (n, x.content.bytes) es k bytes (omega (arith, past)) ∙ ap (λ (ys : Contents). (n, x.content.bytes) ∷ ys) rest
      | false ↦ rest
    ]

entries-append : (xs ys : List Stocked) → shared_entries (xs ++ ys) ≡ shared_entries xs ++ shared_entries ys
entries-append [] ys = refl
entries-append (x ∷ xs) ys =
    elim x.content.is_shared as (λ t. cond t ((x.birth, x.content.bytes) ∷ shared_entries (xs ++ ys)) (shared_entries (xs ++ ys)) ≡ cond t ((x.birth, x.content.bytes) ∷ shared_entries xs) (shared_entries xs) ++ shared_entries ys) [
      | true ↦ ap (λ (es : Contents). (x.birth, x.content.bytes) ∷ es) (entries-append xs ys)
      | false ↦ entries-append xs ys
    ]

-- ---- contents that come last
pub stocked_last : (n : ℕ) (news : List NewContentView) (x : NewContentView) → stocked_from n (news ++ x ∷ []) ≡ stocked_from n news ++ record { birth = n + length news; content = x.content; blocks = blocks_in x.runs } ∷ []
stocked_last n [] x = let same : n ≡ n + 0 = omega arith in ap (λ (k : ℕ). record { birth = k; content = x.content; blocks = blocks_in x.runs } ∷ []) same
stocked_last n (y ∷ news) x =
    let same : n + 1 + length news ≡ n + length (y ∷ news) = omega arith in
    ap (λ (ys : List Stocked). record { birth = n; content = y.content; blocks = blocks_in y.runs } ∷ ys)
    (stocked_last (n + 1) news x ∙ ap (λ (k : ℕ). stocked_from (n + 1) news ++ record { birth = k; content = x.content; blocks = blocks_in x.runs } ∷ []) same)

pub items_last : (news : List NewContentView) (x : NewContentView) → items_of (news ++ x ∷ []) ≡ items_of news + (1 + length x.runs)
items_last [] x = omega (arith, sum_by-cons (λ (n : NewContentView). 1 + length n.runs) x [])
items_last (y ∷ news) x = omega (arith, items_last news x, sum_by-cons (λ (n : NewContentView). 1 + length n.runs) y (news ++ x ∷ []), sum_by-cons (λ (n : NewContentView). 1 + length n.runs) y news)

-- the index with one more content has what the births then have
pub entries_with : (n k : ℕ) (news : List NewContentView) (x : NewContentView) (cut : Cut) → k ≡ n + length news → x.content ≡ record { bytes = cut.bytes; is_shared = cut.is_sharing }
    → firsts_with (shared_entries (stocked_from n news)) k cut ≡ shared_entries (stocked_from n (news ++ x ∷ []))
entries_with n k news x cut same is =
    let last : Stocked = record { birth = n + length news; content = x.content; blocks = blocks_in x.runs } in
    put cut.is_sharing
    ∙ ap (λ (c : Content). shared_entries (stocked_from n news) ++ cond c.is_shared ((n + length news, c.bytes) ∷ []) []) (sym is)
    ∙ sym (entries-append (stocked_from n news) (last ∷ []))
    ∙ ap shared_entries (sym (stocked_last n news x))
  where
    put : (t : Bool) → cond t (with_content (shared_entries (stocked_from n news)) k cut.bytes) (shared_entries (stocked_from n news)) ≡ shared_entries (stocked_from n news) ++ cond t ((n + length news, cut.bytes) ∷ []) []
    put true = put_last n k news cut.bytes (omega (arith, same)) ∙ ap (λ (i : ℕ). shared_entries (stocked_from n news) ++ (i, cut.bytes) ∷ []) same
    put false = sym (append-nil (shared_entries (stocked_from n news)))

-- ---- a cut that isn't found
pub plan_grown : (stock : StockView) (plan after : Plan) (new : NewContentView) (cut : Cut) → IsPlan stock plan → stocked_birth (planned_by stock plan).stocked cut ≡ None → new.content ≡ content_of_cut cut
    → blocks_in new.runs ≡ take (blocks_of (length cut.bytes)) (blocks_in plan.left.held) → after.news.items ≡ plan.news.items ++ new ∷ [] → after.next ≡ plan.next + 1
    → blocks_in after.left.held ≡ drop (blocks_of (length cut.bytes)) (blocks_in plan.left.held) → planned_by stock after ≡ planned_with (planned_by stock plan) cut
plan_grown stock plan after new cut are none content taken news next rest =
    let n = stock.next in
    let grown : Planned = record { stocked = (planned_by stock plan).stocked ++ stocked_cut plan.next (blocks_in plan.left.held) cut ∷ []; next = plan.next + 1; blocks = drop (blocks_of (length cut.bytes)) (blocks_in plan.left.held) } in
    let last : Stocked = record { birth = n + length plan.news.items; content = new.content; blocks = blocks_in new.runs } in
    let own : last ≡ stocked_cut plan.next (blocks_in plan.left.held) cut = (λ i. record { birth = sym are.next i; content = content i; blocks = taken i }) in
    let stocked : stock.stocked ++ stocked_from n after.news.items ≡ grown.stocked =
    ap (λ (xs : List NewContentView). stock.stocked ++ stocked_from n xs) news
    ∙ ap (λ (xs : List Stocked). stock.stocked ++ xs) (stocked_last n plan.news.items new)
    ∙ sym (append_assoc stock.stocked (stocked_from n plan.news.items) (last ∷ []))
    ∙ ap (λ (x : Stocked). (stock.stocked ++ stocked_from n plan.news.items) ++ x ∷ []) own in
    let whole : planned_by stock after ≡ grown = (λ i. record { stocked = stocked i; next = next i; blocks = rest i }) in
    whole ∙ ap (λ (o : Option ℕ). cond (is_some o) (planned_by stock plan) grown) (sym none)

pub plan_stays : (stock : StockView) (plan after : Plan) (new : NewContentView) (cut : Cut) → IsPlan stock plan → new.content ≡ content_of_cut cut → after.news.items ≡ plan.news.items ++ new ∷ [] → after.next ≡ plan.next + 1
    → after.items ≡ plan.items + (1 + length new.runs) → after.firsts.held ≡ firsts_with plan.firsts.held plan.next cut → IsPlan stock after
plan_stays stock plan after new cut are content news next items firsts = record {
  next = let count : length after.news.items ≡ length plan.news.items + 1 = ap (λ (xs : List NewContentView). length xs) news ∙ length-append plan.news.items (new ∷ []) in omega (arith, next, are.next, count);
  firsts =
      firsts
      ∙ ap (λ es. firsts_with es plan.next cut) are.firsts
      ∙ entries_with stock.next plan.next plan.news.items new cut are.next content
      ∙ ap (λ (xs : List NewContentView). shared_entries (stocked_from stock.next xs)) (sym news);
  items = items ∙ ap (λ (n : ℕ). n + (1 + length new.runs)) are.items ∙ sym (items_last plan.news.items new) ∙ ap items_of (sym news);
}

-- a sharing cut that isn't found is not in the index
pub not_in_index : (stock : StockView) (plan : Plan) (cut : Cut) → IsPlan stock plan → stocked_birth (planned_by stock plan).stocked cut ≡ None → cut.is_sharing ≡ true → birth_with plan.firsts.held cut.bytes ≡ None
not_in_index stock plan cut are none shares =
    ap (λ es. birth_with es cut.bytes) are.firsts
    ∙ found_by_index (stocked_from stock.next plan.news.items) cut.bytes
    ∙ none_later stock.stocked (stocked_from stock.next plan.news.items) cut.bytes (ap (λ t. cond {A = Option ℕ} t (shared_birth (planned_by stock plan).stocked cut.bytes) None) (sym shares) ∙ none)

-- what holds of all holds of one that stands at a number
pub all_dropped : {X : Type 0} (P : X → Type 0) (xs : List X) (at : ℕ) (x : X) (rest : List X) → All P xs → drop at xs ≡ x ∷ rest → P x
all_dropped P xs at x rest all is = go xs at (recursion_from_All P xs all) is
  where
    go : (ys : List _) (k : ℕ) → Each P ys → drop k ys ≡ x ∷ rest → P x
    go [] zero each at = absurd cc
    go [] (suc k) each at = absurd cc
    go (y ∷ ys) zero each at = let same : y ≡ x = cc in subst P same each.0
    go (y ∷ ys) (suc k) each at = go ys k each.1 at
