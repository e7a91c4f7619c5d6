-- What fields keep once new contents are placed and a session holds them.
use Rattle.std.proofs.Common.{◌≡◌, ℕ, ◌+◌, ◌-◌, Bool, true, cond, not, List, [], ◌∷◌, ◌++◌, length, Option, None, Some, refl, sym, ap, subst, ◌∙◌}
use Rattle.std.specs.Prelude.{◌==◌, All, slice_set}
use Rattle.std.specs.List.{AllByRecursion as Each, filter}
use Rattle.std.specs.Option.{option_map_or}
use Rattle.std.proofs.lemmas.List.{append-nil, map-append}
use Rattle.std.proofs.lemmas.List.Elements.{All-from_recursion, filter-append, recursion_from_All}
use Rattle.sf_types.specs.declared.holder.Holder.{Holder}
use Rattle.sf_types.specs.declared.holder.Holder.TheVariants as holder
use Rattle.sf_types.specs.Table.Parts.{Promise}
use Rattle.sf_types.specs.Space.Cuts.{Cut}
use Rattle.sf_types.specs.Space.Placings.{all_blocks}
use Rattle.sf_types.specs.Space.Publications.{contents_after}
use Rattle.sf_types.specs.Space.Use.{content_of}
use Rattle.sf_types.specs.Halves.Asks.{Half, Kept, with_kept}
use Rattle.sf_types.specs.Halves.Flushes.{half_reach, with_half_contents}
use Rattle.sf_types.specs.Play.Blocks.{places_by_first}
use Rattle.sf_types.proofs.NumberLemmas.{own_number}
use Rattle.sf_laws.proofs.EachLemmas.{each_weaker, each-append}
use Rattle.sf_lifetimes.specs.Ledgers.{Holdings, has_birth, held_by, is_live, with_births}
use Rattle.sf_stock.specs.Since.{IsSince, departed}
use Rattle.sf_stock.specs.Stocks.{IsSound, NewContentView, Stocked, StockView, has_left, is_stocked, places_of, with_holder, with_left_parked}
use Rattle.sf_stock.proofs.SinceLemmas.{since_held, since_itself, since_parked}
use Rattle.sf_store_half.specs.Fields.{Fields, Keeps, held_in, is_session, session_field}
use Rattle.sf_store_half.specs.HalfMoves.{IsRepacked}
use Rattle.sf_store_half.specs.Inside.Plans.{planned_all, published_stock, stocked_from, unplanned, with_all_new}
use Rattle.sf_store_half.specs.declared.session_fields.SessionField.{SessionField}
use Rattle.sf_store_half.proofs.BetweenLemmas.{each_kept, places-filter, stays_live}
use Rattle.sf_store_half.proofs.GrownLemmas.{IsKnown, known_all}
use Rattle.sf_store_half.proofs.HeldLemmas.{held_after, promise_held_with, same_promise, same_session, session_held_with}
use Rattle.sf_store_half.proofs.LiveLemmas.{holder_live}
use Rattle.sf_store_half.proofs.PlaceableLemmas.{all_holdings, all_next, all_parked, all_since, all_stocked}
use Rattle.sf_store_half.proofs.SettledLemmas.{fields_with}
use Rattle.sf_store_half.proofs.StockReachLemmas.{stocked_are_reached}

-- before any cut, a stock is known to the rules
pub known_first : (f : Fields) (h : Half) (blocks : List ℕ) → Keeps f h → IsSound f.stock → IsKnown (unplanned f.stock blocks) h.contents (half_reach h)
known_first f h blocks keeps sound = record {
  births = stocked_are_reached f h keeps sound;
  contents = recursion_from_All (λ (x : Stocked). content_of h.contents x.birth ≡ Some x.content) f.stock.stocked keeps.contents;
  next = keeps.next;
}

-- ---- who is held once a session holds its births
module _ (f : Fields) (s : ℕ) (news : List NewContentView) (births : List ℕ) where
  abbrev new : List Stocked
  new = stocked_from f.stock.next news

  abbrev placed : StockView
  placed = with_all_new f.stock news

  abbrev settled : Holdings
  settled = with_births placed.holdings (holder.Session s) births

  abbrev after : Holdings
  after = with_births settled (holder.Promise s) []

  abbrev published : StockView
  published = published_stock f.stock s news births

  session_holds : held_by settled (holder.Session s) ≡ births
  session_holds = held_after placed.holdings (holder.Session s) births (holder.Session s) ∙ ap (λ t. cond t births (held_by placed.holdings (holder.Session s))) (same_session s s ∙ own s)
    where
      own : (n : ℕ) → (n == n) ≡ true
      own n = own_number n

  still_holds : held_by after (holder.Session s) ≡ births
  still_holds = held_after settled (holder.Promise s) [] (holder.Session s) ∙ session_holds

  module _ (held : Each (λ x. has_birth births x.birth ≡ true) new) where
    new_live : Each (λ x. is_live settled x.birth ≡ true) new
    new_live = each_weaker (λ (x : Stocked). has_birth births x.birth ≡ true) (λ x. is_live settled x.birth ≡ true) new (λ x is. holder_live settled (holder.Session s) x.birth (ap (λ bs. has_birth bs x.birth) session_holds ∙ is)) held

    new_live_after : Each (λ x. is_live after x.birth ≡ true) new
    new_live_after = each_weaker (λ (x : Stocked). has_birth births x.birth ≡ true) (λ x. is_live after x.birth ≡ true) new (λ x is. holder_live after (holder.Session s) x.birth (ap (λ bs. has_birth bs x.birth) still_holds ∙ is)) held

    live_settled : All (λ x. is_live f.stock.holdings x.birth ≡ true) f.stock.stocked → Each (λ x. is_live settled x.birth ≡ true) (filter (λ x. not (has_left placed.holdings settled x.birth)) placed.stocked)
    live_settled live =
        let p : Stocked → Bool = λ x. not (has_left placed.holdings settled x.birth) in
        let old : Each (λ x. is_live placed.holdings x.birth ≡ true) f.stock.stocked = subst (λ (m : Holdings). Each (λ x. is_live m x.birth ≡ true) f.stock.stocked) (sym (all_holdings f.stock news)) (recursion_from_All (λ (x : Stocked). is_live f.stock.holdings x.birth ≡ true) f.stock.stocked live) in
        subst (Each (λ x. is_live settled x.birth ≡ true)) (sym (filter-append p f.stock.stocked new) ∙ ap (filter p) (sym (all_stocked f.stock news)))
        (each-append (λ x. is_live settled x.birth ≡ true) (filter p f.stock.stocked) (filter p new) (stays_live placed.holdings settled f.stock.stocked old) (each_kept (λ x. is_live settled x.birth ≡ true) p new new_live))

    live_published : All (λ x. is_live f.stock.holdings x.birth ≡ true) f.stock.stocked → Each (λ x. is_live after x.birth ≡ true) published.stocked
    live_published live = stays_live settled after (filter (λ x. not (has_left placed.holdings settled x.birth)) placed.stocked) (live_settled live)

    since_published : f.stock.left ≡ [] → IsSound f.stock → IsSince f.stock new published
    since_published none sound =
        since_held f.stock new (with_holder placed (holder.Session s) births) after
        (since_held f.stock new placed settled (all_since f.stock f.stock [] news (since_itself f.stock none sound)))

    parked_published : published.parked ≡ f.stock.parked
    parked_published = all_parked f.stock news

    new_stocked : IsSound published → Each (λ x. is_stocked published.stocked x.birth ≡ true) new
    new_stocked sound = each_weaker (λ (x : Stocked). is_live after x.birth ≡ true) (λ x. is_stocked published.stocked x.birth ≡ true) new (λ x live. sound.held x.birth live) new_live_after

    -- ---- how the places move
    all_pass : (p : Stocked → Bool) (xs : List Stocked) → Each (λ x. p x ≡ true) xs → filter p xs ≡ xs
    all_pass p [] all = refl
    all_pass p (x ∷ xs) all = ap (λ t. cond {A = List Stocked} t (x ∷ filter p xs) (filter p xs)) all.0 ∙ ap (λ (ys : List Stocked). x ∷ ys) (all_pass p xs all.1)

    none_pass : (p : Stocked → Bool) (xs : List Stocked) → Each (λ x. p x ≡ true) xs → filter (λ x. not (p x)) xs ≡ []
    none_pass p [] all = refl
    none_pass p (x ∷ xs) all = ap (λ t. cond {A = List Stocked} (not t) (x ∷ filter (λ y. not (p y)) xs) (filter (λ y. not (p y)) xs)) all.0 ∙ none_pass p xs all.1

    pub repacked_published : f.stock.left ≡ [] → IsSound f.stock → IsSound published → IsRepacked f.stock (with_left_parked published) (places_of new)
    repacked_published none sound between =
        let since = since_published none sound in
        let p : Stocked → Bool = λ x. is_stocked published.stocked x.birth in
        let stay : filter p new ≡ new = all_pass p new (new_stocked between) in
        let leave : filter (λ x. not (p x)) new ≡ [] = none_pass p new (new_stocked between) in
        let kept : published.stocked ≡ filter p f.stock.stocked ++ new = since.remain ∙ filter-append p f.stock.stocked new ∙ ap (λ (xs : List Stocked). filter p f.stock.stocked ++ xs) stay in
        let gone : departed published.stocked (f.stock.stocked ++ new) ≡ filter (λ x. not (p x)) f.stock.stocked =
        filter-append (λ x. not (p x)) f.stock.stocked new ∙ ap (λ (xs : List Stocked). filter (λ x. not (p x)) f.stock.stocked ++ xs) leave ∙ append-nil (filter (λ x. not (p x)) f.stock.stocked) in
        record {
          places =
              ap places_of kept
              ∙ map-append _ (filter p f.stock.stocked) new
              ∙ ap (λ xs. xs ++ places_of new) (places-filter (λ b. is_stocked published.stocked b) f.stock.stocked);
          parked =
              ap (λ (bs : List ℕ). bs ++ all_blocks (places_by_first published.left)) parked_published
              ∙ ap (λ (bs : List ℕ). f.stock.parked ++ bs)
              (ap all_blocks (since_parked f.stock new published since between
              ∙ ap places_by_first (ap places_of gone ∙ places-filter (λ b. not (is_stocked published.stocked b)) f.stock.stocked)));
        }

    -- ---- the half
    module _ (h : Half) (keeps : Keeps f h) (is : is_session h s ≡ true) (cuts : List Cut) (k : Kept) (own : k.births ≡ births) (ended : k.promise ≡ None) where
      abbrev next_half : Half
      next_half = with_kept (with_half_contents h cuts) s k

      held_same : (x : Holder) → held_by placed.holdings x ≡ held_in h x
      held_same x = ap (λ (m : Holdings). held_by m x) (all_holdings f.stock news) ∙ keeps.held x

      held_published : (x : Holder) → held_by after x ≡ held_in next_half x
      held_published (holder.Version row n) =
          held_after settled (holder.Promise s) [] (holder.Version row n)
          ∙ held_after placed.holdings (holder.Session s) births (holder.Version row n)
          ∙ held_same (holder.Version row n)
      held_published (holder.Session t) =
          held_after settled (holder.Promise s) [] (holder.Session t)
          ∙ held_after placed.holdings (holder.Session s) births (holder.Session t)
          ∙ ap (λ u. cond u births (held_by placed.holdings (holder.Session t))) (same_session t s)
          ∙ (λ i. cond (t == s) (sym own i) (held_same (holder.Session t) i))
          ∙ sym (session_held_with (with_half_contents h cuts) s k t is)
      held_published (holder.Promise t) =
          held_after settled (holder.Promise s) [] (holder.Promise t)
          ∙ ap (λ u. cond u [] (held_by settled (holder.Promise t))) (same_promise t s)
          ∙ ap (λ (bs : List ℕ). cond (t == s) [] bs) (held_after placed.holdings (holder.Session s) births (holder.Promise t) ∙ held_same (holder.Promise t))
          ∙ ap (λ (bs : List ℕ). cond (t == s) bs (held_in h (holder.Promise t))) (ap (λ (o : Option _). option_map_or (λ (q : Promise). q.births) o []) (sym ended))
          ∙ sym (promise_held_with (with_half_contents h cuts) s k t is)

      contents_published : (blocks : List ℕ) → IsSound f.stock → f.stock.stocked ++ new ≡ (planned_all (unplanned f.stock blocks) cuts).stocked
          → Each (λ x. content_of (contents_after h.contents (half_reach h) cuts) x.birth ≡ Some x.content) published.stocked
      contents_published blocks sound planned =
          let P : Stocked → Type 0 = λ x. content_of (contents_after h.contents (half_reach h) cuts) x.birth ≡ Some x.content in
          let all : Each P (f.stock.stocked ++ new) = subst (Each P) (sym planned) (known_all (unplanned f.stock blocks) h.contents (half_reach h) cuts (known_first f h blocks keeps sound)).contents in
          each_kept P (λ x. not (has_left settled after x.birth)) (filter (λ x. not (has_left placed.holdings settled x.birth)) placed.stocked)
          (each_kept P (λ x. not (has_left placed.holdings settled x.birth)) placed.stocked (subst (Each P) (sym (all_stocked f.stock news)) all))

      pub keeps_published : (blocks : List ℕ) (sessions : List SessionField) → IsSound f.stock → f.stock.stocked ++ new ≡ (planned_all (unplanned f.stock blocks) cuts).stocked → f.stock.next + length news ≡ (planned_all (unplanned f.stock blocks) cuts).next
          → sessions ≡ slice_set f.sessions (s - 1) (session_field k) → Keeps (record f { sessions = sessions; stock = with_left_parked published }) next_half
      keeps_published blocks sessions sound planned next set = record {
        options = keeps.options;
        locks = keeps.locks;
        floor = keeps.floor;
        sessions = set ∙ fields_with f h s k keeps;
        now = keeps.now;
        commits = keeps.commits;
        rows = keeps.rows;
        notes = keeps.notes;
        next = all_next f.stock news ∙ next ∙ (known_all (unplanned f.stock blocks) h.contents (half_reach h) cuts (known_first f h blocks keeps sound)).next;
        held = held_published;
        live = All-from_recursion (λ (x : Stocked). is_live after x.birth ≡ true) published.stocked (live_published keeps.live);
        contents = All-from_recursion (λ (x : Stocked). content_of (contents_after h.contents (half_reach h) cuts) x.birth ≡ Some x.content) published.stocked (contents_published blocks sound planned);
        none_left = refl;
      }
