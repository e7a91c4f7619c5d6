-- A writing call that is published by a plan of its cuts.
use Rattle.std.proofs.Common.{◌≡◌, ℕ, ◌-◌, ◌≤◌, true, Err, Result, List, length, take, Option, None, refl, sym, ap, subst, ◌∙◌, arith}
use Rattle.std.specs.Prelude.{◌||◌, All, slice_get, slice_set, sum_by, unwrap_or}
use Rattle.std.specs.List.{AllByRecursion as Each}
use Rattle.std.specs.Option.{option_map_or}
use Rattle.std.proofs.lemmas.List.{append-nil, length-map, take_all}
use Rattle.std.proofs.lemmas.List.Elements.{All-from_recursion, recursion_from_All}
use Rattle.sf_types.specs.Values.Marks.{Value, births_in}
use Rattle.sf_types.specs.Space.BlockRuns.{blocks_in}
use Rattle.sf_types.specs.Space.Cuts.{Cut, contents_of_value, cuts_of_value, settle_value}
use Rattle.sf_types.specs.Halves.Asks.{Given, Half, Kept, Request, Settles, births_with, kept_at, new_kept}
use Rattle.sf_types.specs.Halves.Asks as rule
use Rattle.sf_types.specs.Halves.Flushes.{half_births_for, half_publish}
use Rattle.sf_laws.proofs.EachLemmas.{each_weaker}
use Rattle.sf_lifetimes.proofs.CountLemmas.{few_numbers}
use Rattle.sf_lifetimes.proofs.LedgerLemmas.{named_fit}
use Rattle.sf_lifetimes.specs.Ledgers.{has_birth}
use Rattle.sf_stock.specs.Stocks.{IsSound, Stocked, is_stocked, with_left_parked}
use Rattle.sf_stock.proofs.SinceLemmas.{stocked-append}
use Rattle.sf_store_half.specs.Fields.{Fields, Keeps, session_field}
use Rattle.sf_store_half.specs.HalfMoves.{AreEnough, ArePlaceable, AreStocked, HasField, IsRepacked, blocks_left_over, field_at, new_places}
use Rattle.sf_store_half.specs.Inside.Answered.{IsPublished}
use Rattle.sf_store_half.specs.declared.store_half.Published.{Published}
use Rattle.sf_store_half.specs.Inside.Fields.{AreKept, promised_blocks}
use Rattle.sf_store_half.specs.Inside.Plans.{AreNewPlaces, IsPlan, planned_all, planned_births, planned_by, published_stock, stocked_from, unplanned, with_all_new}
use Rattle.sf_store_half.specs.Inside.Publications.{IsPublication}
use Rattle.sf_store_half.specs.declared.plans.Plan.{Plan}
use Rattle.sf_store_half.specs.declared.session_fields.Promised.{Promised}
use Rattle.sf_store_half.specs.declared.session_fields.SessionField.{SessionField}
use Rattle.sf_store_half.proofs.GrownLemmas.{OfSize}
use Rattle.sf_store_half.proofs.PlaceableLemmas.{all_stocked}
use Rattle.sf_store_half.proofs.PlannedCutLemmas.{births_count, births_planned, births_stocked, cuts_alone, new_where, next_planned, placeable, places_planned, rest_planned, settled_among, settled_where, stocked_planned, value_sizes, with_where}
use Rattle.sf_store_half.proofs.PublishedLemmas.{keeps_published, repacked_published}
use Rattle.sf_store_half.proofs.SettledLemmas.{field_is, has_session, promised_set}

-- where no promise stood, as many blocks are promised as before
pub none_taken : (xs after : List SessionField) (s : ℕ) → 1 ≤ s → s ≤ length xs → (unwrap_or (slice_get xs (s - 1)) (session_field new_kept)).promise ≡ None
    → after ≡ slice_set xs (s - 1) (record (unwrap_or (slice_get xs (s - 1)) (session_field new_kept)) { promise = None }) → sum_by promised_blocks xs ≡ sum_by promised_blocks after
none_taken xs after s low high none set =
    let field = unwrap_or (slice_get xs (s - 1)) (session_field new_kept) in
    let own : promised_blocks field ≡ 0 = ap (λ (o : Option Promised). option_map_or (λ (q : Promised). q.blocks) o 0) none in
    omega (arith, ap (sum_by promised_blocks) set, promised_set xs (s - 1) (session_field new_kept) (record field { promise = None }) (omega (arith, low, high)), own)

-- blocks that stand once each are no more than 2^32
pub few_placeable : (f : Fields) (blocks : List ℕ) → ArePlaceable f blocks → length blocks ≤ 4294967296
few_placeable f blocks are = few_numbers blocks 4294967296 (named_fit blocks are.below are.once)

-- What is known before a value is published.
pub record IsMade (f : Fields) (s : ℕ) (blocks : List ℕ) (of : List Cut) (v settled : Value) (kept births : List ℕ) (plan : Plan) : Type 0 where
  pub sound : IsSound f.stock
  pub has : HasField f s
  pub cuts_are : of ≡ cuts_of_value f.options v
  pub places : ArePlaceable f blocks
  pub enough : AreEnough f of (length blocks)
  pub kept_stocked : All (λ birth. is_stocked f.stock.stocked birth ≡ true) kept
  pub named : All (λ birth. is_stocked f.stock.stocked birth ≡ true) (births_in v)
  pub planned : planned_by f.stock plan ≡ planned_all (unplanned f.stock blocks) of
  pub plan_is : IsPlan f.stock plan
  pub settled_is : settled ≡ settle_value v (planned_births (unplanned f.stock blocks) of)
  pub births_are : births ≡ births_with kept settled

module _ (f : Fields) (s : ℕ) (blocks : List ℕ) (of : List Cut) (v settled : Value) (kept births : List ℕ) (plan : Plan) (made : IsMade f s blocks of v settled kept births plan) where
  abbrev given : List ℕ
  given = planned_births (unplanned f.stock blocks) of

  sizes : Each (λ cut. OfSize cut.bytes) of
  sizes = subst (Each (λ (cut : Cut). OfSize cut.bytes)) (sym made.cuts_are) (value_sizes f.options v)

  count : length given ≡ length (contents_of_value v)
  count = births_count (unplanned f.stock blocks) of ∙ ap length made.cuts_are ∙ length-map (contents_of_value v) _

  pub made_places : AreNewPlaces f.stock plan.news.items
  made_places = placeable f blocks of plan made.planned sizes made.sound made.enough.1.none_left made.places made.enough

  pub made_births : All (λ birth. is_stocked (with_all_new f.stock plan.news.items).stocked birth ≡ true) births
  made_births =
      let all = with_all_new f.stock plan.news.items in
      let P : ℕ → Type 0 = λ birth. is_stocked all.stocked birth ≡ true in
      let whole : all.stocked ≡ (planned_all (unplanned f.stock blocks) of).stocked = all_stocked f.stock plan.news.items ∙ stocked_planned f blocks of plan made.planned in
      let old : (b : ℕ) → is_stocked f.stock.stocked b ≡ true → P b =
      λ b is. ap (λ xs. is_stocked xs b) (all_stocked f.stock plan.news.items) ∙ stocked-append f.stock.stocked (stocked_from f.stock.next plan.news.items) b ∙ ap (λ t. t || is_stocked (stocked_from f.stock.next plan.news.items) b) is in
      let own = each_weaker (λ b. is_stocked f.stock.stocked b ≡ true) P (births_in v) old (recursion_from_All (λ b. is_stocked f.stock.stocked b ≡ true) (births_in v) made.named) in
      let first = each_weaker (λ b. is_stocked f.stock.stocked b ≡ true) P kept old (recursion_from_All (λ b. is_stocked f.stock.stocked b ≡ true) kept made.kept_stocked) in
      let new = subst (λ (xs : List Stocked). Each (λ b. is_stocked xs b ≡ true) given) (sym whole) (births_stocked (unplanned f.stock blocks) of) in
      subst (All P) (sym (made.births_are ∙ ap (births_with kept) made.settled_is))
      (All-from_recursion P (births_with kept (settle_value v given)) (with_where P kept (settle_value v given) first (settled_where P v given own new)))

  pub made_held : Each (λ x. has_birth births x.birth ≡ true) (stocked_from f.stock.next plan.news.items)
  made_held =
      new_where f blocks of plan made.planned sizes made.enough.0 made.enough.1 made.sound (λ b. has_birth births b ≡ true) made.plan_is
      (subst (λ (bs : List ℕ). Each (λ b. has_birth bs b ≡ true) given) (sym (made.births_are ∙ ap (births_with kept) made.settled_is)) (settled_among kept v given count))

  -- by a half that the fields keep
  module _ (h : Half) (keeps : Keeps f h) where
    pub settled_same : settled ≡ settle_value v (take (length (contents_of_value v)) (half_births_for h of))
    settled_same =
        made.settled_is
        ∙ ap (settle_value v) (sym (take_all (length (contents_of_value v)) given (omega (arith, count))) ∙ ap (take (length (contents_of_value v))) (births_planned f blocks of plan made.planned sizes h keeps made.sound))

    pub made_answer : (half_publish h s (Settles v) of kept).1 ≡ Given settled
    made_answer = ap Given (sym settled_same)

    pub made_repacked : IsSound (published_stock f.stock s plan.news.items births) → IsRepacked f.stock (with_left_parked (published_stock f.stock s plan.news.items births)) (new_places h (half_publish h s (Settles v) of kept).0 blocks)
    made_repacked between =
        subst (IsRepacked f.stock (with_left_parked (published_stock f.stock s plan.news.items births))) (places_planned f blocks of plan made.planned sizes h keeps made.sound made.plan_is)
        (repacked_published f s plan.news.items births made_held keeps.none_left made.sound between)

    pub made_left : blocks_in plan.left.held ≡ blocks_left_over h (half_publish h s (Settles v) of kept).0 blocks
    made_left = rest_planned f blocks of plan made.planned sizes h keeps made.sound made.plan_is

    pub made_keeps : (sessions : List SessionField) → sessions ≡ slice_set f.sessions (s - 1) (record (field_at f s) { promise = None })
        → Keeps (record f { sessions = sessions; stock = with_left_parked (published_stock f.stock s plan.news.items births) }) (half_publish h s (Settles v) of kept).0
    made_keeps sessions set =
        keeps_published f s plan.news.items births made_held h keeps (has_session f h s keeps made.has) of
        (record (kept_at h s) { births = births_with kept (settle_value v (take (length (contents_of_value v)) (half_births_for h of))); promise = None })
        (sym (made.births_are ∙ ap (births_with kept) settled_same)) refl blocks sessions made.sound (stocked_planned f blocks of plan made.planned) (next_planned f blocks of plan made.planned made.plan_is)
        (set ∙ ap (λ (x : SessionField). slice_set f.sessions (s - 1) (record x { promise = None })) (field_is f h s keeps))

  pub made_kept : (promised before : ℕ) (sessions : List SessionField) → AreKept f before → sessions ≡ slice_set f.sessions (s - 1) (record (field_at f s) { promise = None })
      → promised ≡ sum_by promised_blocks sessions → promised ≤ before → AreKept (record f { sessions = sessions; stock = with_left_parked (published_stock f.stock s plan.news.items births) }) promised
  made_kept promised before sessions are set sum fewer = record {
    in_range = are.in_range;
    reached = are.reached;
    count = sum;
    few = omega (arith, fewer, are.few);
    half = (half_publish are.half s (Settles v) of kept).0;
    keeps = made_keeps are.half are.keeps sessions set;
  }

-- what a flush of a writing call brings
pub made_of : (f now : Fields) (s : ℕ) (blocks : List ℕ) (of : List Cut) (v settled : Value) (kept births : List ℕ) (plan : Plan) → f ≡ now → IsSound f.stock → IsPublication now s blocks of (Settles v) kept
    → planned_by f.stock plan ≡ planned_all (unplanned f.stock blocks) of → IsPlan f.stock plan → settled ≡ settle_value v (planned_births (unplanned f.stock blocks) of) → births ≡ births_with kept settled
    → IsMade f s blocks of v settled kept births plan
made_of f now s blocks of v settled kept births plan same sound brings planned plan_is settled_is births_are =
    let own = subst (λ (x : Fields). IsPublication x s blocks of (Settles v) kept) (sym same) brings in
    record {
      sound = sound;
      has = own.has;
      cuts_are = own.cuts_are ∙ cuts_alone f.options v;
      places = own.places;
      enough = own.enough;
      kept_stocked = own.kept_stocked;
      named = subst (λ (bs : List ℕ). AreStocked f bs) (append-nil (births_in v)) own.named;
      planned = planned;
      plan_is = plan_is;
      settled_is = settled_is;
      births_are = births_are;
    }

-- nothing has changed after want of memory
pub none_published : {E : Type 0} (before after : Fields) (step : Half → Half × rule.Answer) (blocks : List ℕ) (result : Result Published E) (e : E) → result ≡ Err e → after ≡ before → IsPublished before after step blocks result
none_published before after step blocks result e is same = subst (IsPublished before after step blocks) (sym is) (record { kept = tt; answer = tt; repacked = tt; unused = tt; err = same })
