-- What cuts of a publication become: each a birth, and new contents in the blocks that are given (our own).
use Rattle.std.specs.Prelude.{◌≡◌, ℕ, ◌+◌, true, List, [], ◌∷◌, ◌++◌, length, take, drop, None, sum_by, is_some, unwrap_or, if◌then◌else◌}
use Rattle.sf_types.specs.declared.holder.Holder.TheVariants as holder
use Rattle.sf_types.specs.Space.BlockRuns.{blocks_in}
use Rattle.sf_types.specs.Space.Contents.{blocks_of}
use Rattle.sf_types.specs.Space.Cuts.{Cut}
use Rattle.sf_types.specs.Space.Publications.{content_of_cut}
use Rattle.sf_dedup.specs.Contents.{Contents, with_content}
use Rattle.sf_stock.specs.Stocks.{IsNewPlace, NewContentView, Stocked, StockView, shared_birth, with_holder, with_new}
use Rattle.sf_store_half.specs.Inside.CutNotes.{stocked_birth}
use Rattle.sf_store_half.specs.declared.plans.Plan.{Plan}

-- The births that have places while cuts become contents, the number of the next birth, and the blocks that are left.
pub record Planned : Type 0 where
  pub stocked : List Stocked
  pub next : ℕ
  pub blocks : List ℕ

-- A cut's content under a birth, in the first of some blocks.
abbrev pub stocked_cut : ℕ → List ℕ → Cut → Stocked
stocked_cut birth blocks cut = record { birth = birth; content = content_of_cut cut; blocks = take (blocks_of (length cut.bytes)) blocks }

-- A cut that isn't found becomes a content under the next birth, in the next blocks.
abbrev pub planned_with : Planned → Cut → Planned
planned_with p cut =
    if is_some (stocked_birth p.stocked cut) then p
    else record {
      stocked = p.stocked ++ stocked_cut p.next p.blocks cut ∷ [];
      next = p.next + 1;
      blocks = drop (blocks_of (length cut.bytes)) p.blocks;
    }

-- The birth of a cut: that which was found, else the next.
abbrev pub planned_birth : Planned → Cut → ℕ
planned_birth p cut = unwrap_or (stocked_birth p.stocked cut) p.next

-- The births of cuts, and what stands after them.
abbrev pub planned_births : Planned → List Cut → List ℕ
planned_births p [] = []
planned_births p (cut ∷ cuts) = planned_birth p cut ∷ planned_births (planned_with p cut) cuts

abbrev pub planned_all : Planned → List Cut → Planned
planned_all p [] = p
planned_all p (cut ∷ cuts) = planned_all (planned_with p cut) cuts

-- A stock before any cut, with the blocks that are given.
abbrev pub unplanned : StockView → List ℕ → Planned
unplanned stock blocks = record { stocked = stock.stocked; next = stock.next; blocks = blocks }

-- New contents under births from a number on.
abbrev pub stocked_from : ℕ → List NewContentView → List Stocked
stocked_from next [] = []
stocked_from next (n ∷ ns) = record { birth = next; content = n.content; blocks = blocks_in n.runs } ∷ stocked_from (next + 1) ns

-- The contents of the shared ones of some births.
abbrev pub shared_entries : List Stocked → Contents
shared_entries [] = []
shared_entries (x ∷ xs) = if x.content.is_shared then (x.birth, x.content.bytes) ∷ shared_entries xs else shared_entries xs

-- The items of room that new contents take.
abbrev pub items_of : List NewContentView → ℕ
items_of news = sum_by (λ n. 1 + length n.runs) news

-- What stands once a plan is placed.
abbrev pub planned_by : StockView → Plan → Planned
planned_by stock plan = record {
  stocked = stock.stocked ++ stocked_from stock.next plan.news.items;
  next = plan.next;
  blocks = blocks_in plan.left.held;
}

-- A plan beside a stock: its births follow those of the stock, its index has the contents that are shared, and its items are
-- counted.
pub record IsPlan (stock : StockView) (plan : Plan) : Type 0 where
  pub next : plan.next ≡ stock.next + length plan.news.items
  pub firsts : plan.firsts.held ≡ shared_entries (stocked_from stock.next plan.news.items)
  pub items : plan.items ≡ items_of plan.news.items

-- The stock with new contents, one after the other.
abbrev pub with_all_new : StockView → List NewContentView → StockView
with_all_new stock [] = stock
with_all_new stock (n ∷ ns) = with_all_new (with_new stock n) ns

-- A stock can take new contents, one after the other.
abbrev pub AreNewPlaces : StockView → List NewContentView → Type 0
AreNewPlaces stock [] = Unit {0}
AreNewPlaces stock (n ∷ ns) =
    IsNewPlace stock n
    × (n.content.is_shared ≡ true → shared_birth stock.stocked n.content.bytes ≡ None)
    × AreNewPlaces (with_new stock n) ns

-- The index of shared contents with that of a cut, where it is sharing.
abbrev pub firsts_with : Contents → ℕ → Cut → Contents
firsts_with firsts birth cut = if cut.is_sharing then with_content firsts birth cut.bytes else firsts

-- The stock with new contents, once a session holds these births and its promise none.
abbrev pub published_stock : StockView → ℕ → List NewContentView → List ℕ → StockView
published_stock stock s news births = with_holder (with_holder (with_all_new stock news) (holder.Session s) births) (holder.Promise s) []
