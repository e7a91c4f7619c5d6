use Rattle.std.proofs.Common.{◌≡◌, ◌∙◌, ℕ, ◌+◌, ◌-◌, ◌<◌, ◌≤◌, ◌^◌, ◌++◌, ◌∷◌, [], length, map, Bool, true, false, cond, List, Option, Some, None, refl, sym, ap, subst, arith}
use Rattle.std.specs.Prelude.{All, AllPairs, Contains, unwrap_or, is_some, ◌≢◌}
use Rattle.std.specs.FinMap as fin
use Rattle.sf_types.specs.declared.limits.TheConstants.{CONTENT_BYTES}
use Rattle.sf_types.specs.Table.Parts.{Content}
use Rattle.sf_types.specs.Space.BlockRuns.{blocks_in}
use Rattle.sf_types.specs.Space.Contents.{blocks_of}
use Rattle.sf_types.specs.Space.Placings.{all_blocks}
use Rattle.std.specs.Ordering.{nat_cmp}
use Rattle.sf_room_map.specs.Entries.{value_for}
use Rattle.sf_dedup.specs.Contents.{content_at, birth_with}
use Rattle.sf_shrink.specs.Plans.{placed_at}
use Rattle.sf_lifetimes.specs.Ledgers.{IsNewPlace}
use Rattle.sf_stock.specs.Stocks.{stock_blocks, shared_birth, with_new}
use Rattle.sf_stock.specs.Inside.Keeps.{IsKept, IsStock, stock_in, stocked_in, with_shared}
use Rattle.sf_stock.proofs.KeptLemmas.{absent_last, shared_below, found_is, put_last}
use Rattle.sf_stock.proofs.NewLemmas.{new_place, stock_more, stocked_more}
use Rattle.sf_stock.proofs.stock.Stock.place.Goals as goal

pub add_shared-requires-clause-birth : goal.add_shared-requires-clause-birth
add_shared-requires-clause-birth c =
    let births = c.self.invariant.births in
    ap (λ contents. content_at contents c.self.inside.next) births.indexed ∙ absent_last _ c.self.inside.next (shared_below c.self.inside.next c.self.inside.known.held births.below)

shared_from : (t : Bool) (own content : List ℕ) → ◌≡◌ {A = Option (List ℕ)} (Some content) (cond t (Some own) None) → (t ≡ true) × (own ≡ content)
shared_from true own content is = (refl, ap (λ x. unwrap_or x []) (sym is))
shared_from false own content is = absurd cc

one_at_most : (t : Bool) (before after : ℕ) → before ≤ after + cond t 0 1 → before ≤ after + 1
one_at_most true before after le = omega (arith, le)
one_at_most false before after le = le

none_from : {X : Type 0} (x : Option X) → is_some x ≡ false → x ≡ None
none_from None is = refl
none_from (Some x) is = absurd cc

pub add_shared-requires-clause-content : goal.add_shared-requires-clause-content
add_shared-requires-clause-content c content is =
    let x = c.into_parts-known.result.0 in
    let own = shared_from x.is_shared x.content content (sym is ∙ c.into_parts-known.ensures.sound.copied) in
    let told = c.into_parts-known.ensures.content in
    let shared : c.args.new.content.is_shared ≡ true = ap (λ (y : Content). y.is_shared) (sym told) ∙ own.0 in
    let bytes : c.args.new.content.bytes ≡ content = ap (λ (y : Content). y.bytes) (sym told) ∙ own.1 in
    ap (λ contents. birth_with contents content) c.self.invariant.births.indexed
    ∙ found_is c.self.inside.ledger.held.places c.self.inside.known.held content
    ∙ ap (λ v. shared_birth v.held.stocked content) c.self.view_is
    ∙ ap (shared_birth c.args.self.now.held.stocked) (sym bytes)
    ∙ c.requires.content shared

pub place_runs-requires-clause-birth : goal.place_runs-requires-clause-birth
place_runs-requires-clause-birth c =
    let births = c.self.invariant.births in
    none_from (fin.get c.self.inside.ledger.held.places c.self.inside.next)
    (births.placed c.self.inside.next ∙ ap is_some (absent_last c.self.inside.known.held c.self.inside.next births.below))

pub place_runs-requires-clause-runs : goal.place_runs-requires-clause-runs
place_runs-requires-clause-runs c =
    let s = c.self.inside in
    let place = c.requires.place in
    subst (IsNewPlace s.ledger.held.places) (sym c.into_parts-known.ensures.runs)
    (new_place s.ledger.held s.index.held s.known.held s.next (all_blocks (map placed_at s.left.held) ++ blocks_in s.parked.held) c.args.new.runs c.self.invariant.births place.below place.once
    (subst (λ v. All (λ block. ¬ (Contains (stock_blocks v) block)) (blocks_in c.args.new.runs)) (sym (ap (λ v. v.held) c.self.view_is)) place.apart))

pub overflow_add-self-2 : goal.overflow_add-self-2
overflow_add-self-2 c =
    omega (arith, c.self.invariant.rooms.run_number, c.requires.room, ap (λ v. v.spare) c.self.view_is, c.len-count.ensures, ap length c.into_parts-known.ensures.runs)

pub invariant_of-self : goal.invariant_of-self
invariant_of-self c =
    let s = c.self.inside in
    let parts = c.into_parts-known in
    let x = parts.result.0 in
    let runs = parts.result.2 in
    let place = c.requires.place in
    let same = parts.ensures.runs in
    let kept : IsKept x runs = record {
      printed = parts.ensures.sound.printed;
      maximal = parts.ensures.sound.maximal;
      count = ap (λ rs. length (blocks_in rs)) same ∙ place.count ∙ ap (λ (y : Content). blocks_of (length y.bytes)) (sym parts.ensures.content);
      size = subst (λ (y : Content). length y.bytes ≤ CONTENT_BYTES) (sym parts.ensures.content) place.size;
      some = subst (λ rs. 1 ≤ length (blocks_in rs)) (sym same) place.some;
    } in
    subst (λ n. IsStock c.place_runs.new.ledger c.add_shared.new.index c.insert_within.new.self s.left s.parked (s.next + 1) (s.runs + n) (s.room - (1 + n))) (sym c.len-count.ensures)
    (stock_more s.ledger c.place_runs.new.ledger s.index c.add_shared.new.index s.known c.insert_within.new.self s.left s.parked s.next s.runs s.room x runs c.self.invariant kept
    c.place_runs.ensures.places c.place_runs.ensures.holdings (c.add_shared.ensures.held ∙ ap (with_shared s.index.held s.next) parts.ensures.sound.copied) c.insert_within.ensures.held
    c.place_runs.ensures.spare c.add_shared.ensures.spare (one_at_most (is_some (value_for nat_cmp s.known.held s.next)) s.known.spare c.insert_within.new.self.spare c.insert_within.ensures.spare)
    (omega (arith, c.requires.room, ap (λ v. v.spare) c.self.view_is, ap length same))
    (subst (λ rs. All (λ block. block < 2 ^ 32) (blocks_in rs)) (sym same) place.below)
    (subst (λ rs. AllPairs (λ block other. block ≢ other) (blocks_in rs)) (sym same) place.once)
    (subst (λ rs. All (λ block. ¬ (Contains (stock_blocks (stock_in s.ledger.held s.known.held s.left.held s.parked.held s.next)) block)) (blocks_in rs)) (sym same)
    (subst (λ v. All (λ block. ¬ (Contains (stock_blocks v) block)) (blocks_in c.args.new.runs)) (sym (ap (λ v. v.held) c.self.view_is)) place.apart)))

pub returns-clause-held : goal.returns-clause-held
returns-clause-held c =
    let s = c.self.inside in
    let parts = c.into_parts-known in
    let x = parts.result.0 in
    let runs = parts.result.2 in
    let es = s.known.held in
    let below = c.self.invariant.births.below in
    let known : c.insert_within.new.self.held ≡ es ++ (s.next, x) ∷ [] = c.insert_within.ensures.held ∙ put_last es s.next x below in
    let stocked : map (stocked_in c.place_runs.new.ledger.held.places) c.insert_within.new.self.held ≡ (with_new (stock_in s.ledger.held es s.left.held s.parked.held s.next) c.args.new).stocked =
    ap (λ p. map (stocked_in p) c.insert_within.new.self.held) c.place_runs.ensures.places
    ∙ ap (map (stocked_in (fin.insert s.ledger.held.places s.next runs))) known
    ∙ stocked_more s.ledger.held.places s.next runs es x below
    ∙ ap (λ rs. map (stocked_in s.ledger.held.places) es ++ record { birth = s.next; content = record { bytes = x.content; is_shared = x.is_shared }; blocks = blocks_in rs } ∷ []) parts.ensures.runs
    ∙ ap (λ y. map (stocked_in s.ledger.held.places) es ++ record { birth = s.next; content = y; blocks = blocks_in c.args.new.runs } ∷ []) parts.ensures.content in
    (λ i. record { holdings = c.place_runs.ensures.holdings i; next = s.next + 1; stocked = stocked i; left = map placed_at s.left.held; parked = blocks_in s.parked.held })
    ∙ ap (λ v. with_new v.held c.args.new) c.self.view_is
