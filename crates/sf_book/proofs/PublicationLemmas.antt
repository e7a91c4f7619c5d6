-- A publication of a call for which a promise stands.
use Rattle.std.proofs.Common.{◌≡◌, ℕ, ◌-◌, ◌≤◌, Bool, true, false, cond, IsTrue, List, [], ◌∷◌, ◌++◌, length, Option, Some, None, refl, sym, ap, subst, ◌∙◌, arith}
use Rattle.std.specs.Prelude.{flat_map, Contains}
use Rattle.std.specs.List.{AllByRecursion as Each}
use Rattle.std.specs.Option.{IfSome, option_map_or}
use Rattle.sf_types.specs.declared.call.Call.{Call}
use Rattle.sf_types.specs.declared.history.Entry.{Entry}
use Rattle.sf_types.specs.declared.history.Kind.TheVariants as kind
use Rattle.sf_types.specs.declared.options.Options.{Options}
use Rattle.sf_types.specs.Values.Marks.{Value, births_in}
use Rattle.sf_types.specs.Table.Parts.{Promise, Table, new_session}
use Rattle.sf_types.specs.Table.Sessions.{has_session, session_of, holds_lock}
use Rattle.sf_types.specs.Table.Versions.{current_value}
use Rattle.sf_types.specs.Space.Cuts.{Cut, cuts}
use Rattle.sf_types.specs.Space.Due.{is_due}
use Rattle.sf_types.specs.Space.Promises.{wanted_blocks, flush_cuts}
use Rattle.sf_types.specs.Space.Publications.{publish}
use Rattle.sf_types.specs.Space.Reach.{reach, values_in}
use Rattle.sf_types.specs.Orders.Histories.{IsLegal, effect_of, entry_of, call_effect, table_after}
use Rattle.sf_types.specs.Play.Blocks.{unused_blocks}
use Rattle.sf_types.specs.Halves.Own.{own_of, own_due, held_value}
use Rattle.sf_types.specs.Halves.Asks.{Answer, Half, Request, half_of, kept_births, request_of}
use Rattle.sf_types.specs.Halves.Flushes.{half_publish, own_flush}
use Rattle.sf_types.proofs.NameMapLemmas.{IsRisingMap}
use Rattle.sf_stock.specs.Stocks as stock
use Rattle.sf_versions.specs.declared.asks.Flush.{Flush}
use Rattle.sf_versions.specs.Asks.{IsFlush, request_of_part}
use Rattle.sf_laws.specs.Halves.{Agrees}
use Rattle.sf_laws.specs.TrueMarks.{IsGivenOut}
use Rattle.sf_laws.specs.UseWithinCapacity.{IsEnough, IsWithinCapacity}
use Rattle.sf_laws.proofs.EachLemmas.{each_at, each_itself}
use Rattle.sf_laws.proofs.FlushLemmas.{reach_by_half}
use Rattle.sf_laws.proofs.GivenBirthLemmas.{goes_on_same}
use Rattle.sf_laws.proofs.HalfLemmas.{asks_after, stands_where}
use Rattle.sf_laws.proofs.HeldLemmas.{OfOption, OfSession, of_current}
use Rattle.sf_laws.proofs.HeldStepLemmas.{of_part}
use Rattle.sf_laws.proofs.OwnLemmas.{due_by_own, own_value}
use Rattle.sf_laws.proofs.PlacingLemmas.{Moves}
use Rattle.sf_laws.proofs.PublicationLemmas.{cuts_by_own, publication_by_half}
use Rattle.sf_laws.proofs.ReachLemmas.{OfBirth, each_from_reach}
use Rattle.sf_laws.proofs.TrueStepLemmas.{are_true}
use Rattle.sf_laws.proofs.TurnMoveLemmas.{publication_moves}
use Rattle.sf_laws.proofs.WantedLemmas.{wanted_falls}
use Rattle.sf_store_half.specs.Fields.{Fields, Keeps}
use Rattle.sf_store_half.specs.HalfMoves.{AreEnough, ArePlaceable, BringsStocked, HasCutsOfRequest, IsRepacked, blocks_left_over, cuts_in, flushed_rows, new_places}
use Rattle.sf_book.specs.Books.{BookView, table_of, IsSound}
use Rattle.sf_book.specs.Moves.{AreAway, Stands}
use Rattle.sf_book.specs.Inside.Bodies.{book_of}
use Rattle.sf_book.proofs.CapacityLemmas.{in_words}
use Rattle.sf_book.proofs.CancelLemmas.{promised_goes_on, standing}
use Rattle.sf_book.proofs.KeptBirthLemmas.{each_kept, each_flushed}
use Rattle.sf_book.proofs.MoveLemmas.{shape_of_step}
use Rattle.sf_book.proofs.PromiseLemmas.{flush_has_cuts}
use Rattle.sf_book.proofs.QuietLemmas.{IsNext, next_by_step, are_stocked}

-- What the store's half answers to a publication, by its own words and by those of the flush.
abbrev pub published_in : BookView → ℕ → Call → Half × Answer
published_in b s c =
    let t = table_of b in
    let o = own_of t s in
    half_publish (half_of t) s (request_of o c) (cuts b.options (own_flush o c)) (kept_births o c)

abbrev pub published_by : Fields → List Entry → ℕ → Flush → Half × Answer
published_by f history s flush =
    half_publish (half_of (table_of (book_of f history))) s (request_of_part flush.ask.part) (cuts_in f.options flush) flush.ask.kept

pub published_same : (f : Fields) (history : List Entry) (s : ℕ) (flush : Flush) → IsFlush f.options (own_of (table_of (book_of f history)) s) flush
    → published_by f history s flush ≡ published_in (book_of f history) s flush.ask.call
published_same f history s flush is =
    let t = table_of (book_of f history) in
    let h = half_of t in
    let o = own_of t s in
    let of = cuts f.options (own_flush o flush.ask.call) in
    ap (λ (r : Request). half_publish h s r (cuts_in f.options flush) flush.ask.kept) is.ask.part
    ∙ ap (λ (xs : List Cut). half_publish h s (request_of o flush.ask.call) xs flush.ask.kept) is.cuts_are
    ∙ ap (half_publish h s (request_of o flush.ask.call) of) is.ask.kept

-- What is known of a call for which a promise stands, with so many blocks.
pub record IsPromised (f : Fields) (history : List Entry) (s : ℕ) (c : Call) (blocks : ℕ) : Type 0 where
  pub due : is_due (table_of (book_of f history)) s c ≡ true
  pub legal : IsLegal (table_of (book_of f history)) s kind.Call c
  pub effect : (effect_of (table_of (book_of f history)) (entry_of s kind.Call c)).0 ≡ (publish (table_of (book_of f history)) s c).0
  pub moves : (given : List ℕ) → length given ≡ blocks → Moves (table_of (book_of f history)) (publish (table_of (book_of f history)) s c).0 given
  pub agrees : Agrees (own_of (table_of (book_of f history)) s) s c (publish (table_of (book_of f history)) s c) (published_in (book_of f history) s c)
  pub wanted : wanted_blocks (table_of (book_of f history)).contents (reach (table_of (book_of f history))) (cuts f.options (own_flush (own_of (table_of (book_of f history)) s) c)) ≤ blocks

-- what a standing promise's call wants is at most its blocks
wanted_promised : (t : Table) (s : ℕ) (q : Promise) → IsWithinCapacity t → (session_of t s).promise ≡ Some q → IsEnough t s q → wanted_blocks t.contents (reach t) (flush_cuts t s q.call) ≤ q.blocks
wanted_promised t s q inv is enough =
    let marks = are_true t inv.true_marks in
    let found_given : Each (IsGivenOut t.contents) q.births =
    subst (λ (o : Option Promise). Each (IsGivenOut t.contents) (option_map_or (λ x. x.births) o [])) is (each_at (λ p. Each (IsGivenOut t.contents) (option_map_or (λ x. x.births) p.promise [])) t.sessions (s - 1) new_session tt marks.found) in
    let found_within : Each (Contains (reach t)) q.births =
    subst (λ (o : Option Promise). Each (Contains (reach t)) (option_map_or (λ x. x.births) o [])) is (each_at (λ p. Each (Contains (reach t)) (option_map_or (λ x. x.births) p.promise [])) t.sessions (s - 1) new_session tt (each_from_reach (Contains (reach t)) t (each_itself (reach t))).found) in
    let falls = wanted_falls t.contents t.contents q.births (reach t) (flush_cuts t s q.call) (goes_on_same t.contents) found_given found_within in
    let blocks = enough.blocks in
    omega (arith, falls, blocks)

promised_where : (f : Fields) (history : List Entry) (s : ℕ) (q : Promise) → IsSound (book_of f history) → Keeps f (half_of (table_of (book_of f history))) → IsTrue (has_session (table_of (book_of f history)) s)
    → (session_of (table_of (book_of f history)) s).promise ≡ Some q → IsPromised f history s q.call q.blocks
promised_where f history s q sound keeps has is =
    let t = table_of (book_of f history) in
    let c = q.call in
    let stands = stands_where f.options (length f.sessions) history sound.legal in
    let enough : IsEnough t s q = subst (λ (o : Option Promise). IfSome o (IsEnough t s)) is (stands.within.promises s has) in
    let goes : (session_of t s).has_ended ≡ false = subst (λ (o : Option Promise). IfSome o (λ x. (session_of t s).has_ended ≡ false)) is (promised_goes_on f.options (length f.sessions) history sound.legal s has) in
    let legal : IsLegal t s kind.Call c = record { session = has; goes_on = goes; standing = rw is refl } in
    let asks = asks_after f.options (length f.sessions) s history sound.legal has in
    let of : cuts f.options (own_flush (own_of t s) c) ≡ flush_cuts t s c = ap (λ (o : Options). cuts o (own_flush (own_of t s) c)) keeps.options ∙ cuts_by_own t s c asks.rising enough.due in
    record {
      due = enough.due;
      legal = legal;
      effect = ap (λ (o : Option Promise). (call_effect o t s c).0) is;
      moves = λ given size. (publication_moves t s q given has stands.within is size legal).moves;
      agrees = subst (λ (o : Options). Agrees (own_of t s) s c (publish t s c) (half_publish (half_of t) s (request_of (own_of t s) c) (cuts o (own_flush (own_of t s) c)) (kept_births (own_of t s) c))) (sym keeps.options)
          (publication_by_half t s c asks enough.due);
      wanted = subst (λ (xs : List Cut). wanted_blocks t.contents (reach t) xs ≤ q.blocks) (sym of) (wanted_promised t s q stands.within is enough);
    }

pub is_promised : (f : Fields) (history : List Entry) (s : ℕ) (c : Call) (blocks : ℕ) → IsSound (book_of f history) → Keeps f (half_of (table_of (book_of f history))) → Stands (table_of (book_of f history)) s c blocks
    → IsPromised f history s c blocks
is_promised f history s c blocks sound keeps stands =
    let t = table_of (book_of f history) in
    let (q, is) = standing (session_of t s).promise stands.some in
    let both : (q.call ≡ c) × (q.blocks ≡ blocks) = subst (λ (o : Option Promise). IfSome o (λ promise. (promise.call ≡ c) × (promise.blocks ≡ blocks))) is stands.promised in
    subst (IsPromised f history s c) both.1 (subst (λ d. IsPromised f history s d q.blocks) both.0 (promised_where f history s q sound keeps stands.session is))

-- what a session works on is in reach, and so is what it has locked
own_held : (t : Table) (s : ℕ) → OfSession (OfBirth (Contains (reach t))) (own_of t s).part
own_held t s =
    let P = Contains (reach t) in
    let part : OfSession (OfBirth P) (session_of t s) = of_part (OfBirth P) t.floor t s (each_from_reach P t (each_itself (reach t))).held in
    record { working = part.working; locators = part.locators; savepoints = part.savepoints }

locked_held : (t : Table) (s : ℕ) (row : List ℕ) → IsRisingMap t.locks → OfOption (OfBirth (Contains (reach t))) (held_value (own_of t s) row)
locked_held t s row rising =
    let P = Contains (reach t) in
    let current = of_current (OfBirth P) t.floor t row (each_from_reach P t (each_itself (reach t))).held in
    subst (OfOption (OfBirth P)) (sym (own_value t s row rising)) (either (holds_lock t.locks s row) (current_value t row) current)
  where
    either : (b : Bool) (v : Option Value) → OfOption (OfBirth (Contains (reach t))) v → OfOption (OfBirth (Contains (reach t))) (cond b v None)
    either true v is = is
    either false v is = tt

-- what a publication needs of the store's half
pub record IsPublishable (f : Fields) (flush : Flush) (blocks : List ℕ) : Type 0 where
  pub births : BringsStocked f flush.ask
  pub cuts : HasCutsOfRequest f.options flush
  pub placeable : ArePlaceable f blocks
  pub enough : AreEnough f (cuts_in f.options flush) (length blocks)

pub is_publishable : (f : Fields) (history : List Entry) (s : ℕ) (flush : Flush) (blocks : List ℕ) → IsSound (book_of f history) → Keeps f (half_of (table_of (book_of f history))) → stock.IsSound f.stock
    → Stands (table_of (book_of f history)) s flush.ask.call (length blocks) → IsFlush f.options (own_of (table_of (book_of f history)) s) flush → AreAway (book_of f history) blocks
    → IsPublishable f flush blocks
is_publishable f history s flush blocks sound keeps stocked stands is away =
    let t = table_of (book_of f history) in
    let h = half_of t in
    let o = own_of t s in
    let c = flush.ask.call in
    let P = Contains (reach t) in
    let promised = is_promised f history s c (length blocks) sound keeps stands in
    let rising = (asks_after f.options (length f.sessions) s history sound.legal stands.session).rising in
    let due : own_due f.options.gather o c ≡ true = ap (λ (x : Options). own_due x.gather o c) keeps.options ∙ sym (due_by_own t s c rising) ∙ promised.due in
    let wanted : wanted_blocks t.contents (reach t) (cuts_in f.options flush) ≤ length blocks = subst (λ (xs : List Cut). wanted_blocks t.contents (reach t) xs ≤ length blocks) (sym is.cuts_are) promised.wanted in
    record {
      births = record {
        kept = are_stocked f t flush.ask.kept keeps stocked (subst (Each P) (sym is.ask.kept) (each_kept P o c (own_held t s)));
        named = are_stocked f t (flat_map births_in (values_in (flushed_rows (request_of_part flush.ask.part)))) keeps stocked
            (subst (λ (r : Request). Each P (flat_map births_in (values_in (flushed_rows r)))) (sym is.ask.part) (each_flushed P o c (own_held t s) (λ row. locked_held t s row rising)));
      };
      cuts = flush_has_cuts f.options f.options.gather o flush due is;
      placeable = record { below = in_words f.options blocks sound.in_range away.below; once = away.once; apart = away.apart };
      enough = (h, keeps, subst (λ (bs : List ℕ). wanted_blocks t.contents bs (cuts_in f.options flush) ≤ length blocks) (reach_by_half t) wanted);
    }

-- Where a Book is after a publication.
pub record IsPublished (f : Fields) (history : List Entry) (after : Fields) (s : ℕ) (c : Call) (given : List ℕ) : Type 0 where
  pub next : IsNext f history after (entry_of s kind.Call c ∷ []) given
  pub unused : (bs : List ℕ) → bs ≡ blocks_left_over (half_of (table_of (book_of f history))) (published_in (book_of f history) s c).0 given
      → bs ≡ unused_blocks (table_of (book_of f history)) (table_of (book_of after (history ++ entry_of s kind.Call c ∷ []))) given

pub published : (f : Fields) (history : List Entry) (after : Fields) (s : ℕ) (flush : Flush) (given : List ℕ) → IsSound (book_of f history) → Keeps f (half_of (table_of (book_of f history)))
    → Stands (table_of (book_of f history)) s flush.ask.call (length given) → IsFlush f.options (own_of (table_of (book_of f history)) s) flush → AreAway (book_of f history) given
    → Keeps after (published_by f history s flush).0 → stock.IsSound after.stock
    → IsRepacked f.stock after.stock (new_places (half_of (table_of (book_of f history))) (published_by f history s flush).0 given)
    → IsPublished f history after s flush.ask.call given
published f history after s flush given sound keeps stands is away kept stocked repacked =
    let t = table_of (book_of f history) in
    let c = flush.ask.call in
    let es = entry_of s kind.Call c ∷ [] in
    let u = table_after t es in
    let promised = is_promised f history s c (length given) sound keeps stands in
    let told : (published_in (book_of f history) s c).0 ≡ half_of u = sym promised.agrees.half ∙ ap half_of (sym promised.effect) in
    let half : (published_by f history s flush).0 ≡ half_of u = ap (λ (x : Half × Answer). x.0) (published_same f history s flush is) ∙ told in
    let keeps_after : Keeps after (half_of u) = subst (Keeps after) half kept in
    let shape = shape_of_step f history after es keeps (promised.legal, tt) keeps_after in
    record {
      next = next_by_step f history after es given sound keeps away (record {
        legal = (promised.legal, tt);
        moves = subst (λ (x : Table). Moves t x given) (sym promised.effect) (promised.moves given refl);
        keeps = keeps_after;
        stocked = stocked;
        repacked = subst (λ (x : Half). IsRepacked f.stock after.stock (new_places (half_of t) x given)) half repacked;
      });
      unused = λ bs left. left ∙ ap (λ (x : Half). blocks_left_over (half_of t) x given) told ∙ ap (λ (x : Table). unused_blocks t x given) (sym shape.table);
    }
