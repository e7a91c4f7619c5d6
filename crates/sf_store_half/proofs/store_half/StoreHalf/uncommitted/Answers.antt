use Rattle.std.proofs.Common.{◌≡◌, List, map, true, ap, sym, subst, ◌∙◌, ℕ}
use Rattle.std.specs.Map.Iter.{deref_pair}
use Rattle.std.specs.Prelude.{All}
use Rattle.sf_types.specs.Values.Marks.{Value}
use Rattle.sf_types.specs.Inside.Births.{rising_births}
use Rattle.sf_types.specs.Inside.NameMaps.{NameMap}
use Rattle.sf_stock.specs.Stocks.{is_stocked}
use Rattle.sf_store_half.specs.Fields.{Fields, Keeps}
use Rattle.sf_store_half.specs.Reads.{births_of_rows, last_rows}
use Rattle.sf_store_half.specs.contracts.store_half.StoreHalf.{the_view}
use Rattle.sf_store_half.proofs.UncommittedLemmas.{committed_within, current_births_stocked, uncommitted_is}
use Rattle.sf_store_half.proofs.store_half.StoreHalf.uncommitted.Goals as goal

pub blocks_of_births-requires : goal.blocks_of_births-requires
blocks_of_births-requires c =
    let f = the_view c.self.inside in
    let rows : map deref_pair c.as_slice.result.now ≡ last_rows f.versions.rows =
    ap (map deref_pair) c.as_slice.ensures.value ∙ c.in_ok-rows.ensures ∙ ap (λ (x : Fields). last_rows x.versions.rows) (sym c.self.view_is) in
    let of : c.in_ok-births.births ≡ rising_births (births_of_rows (last_rows f.versions.rows)) = c.in_ok-births.ensures ∙ ap (λ (m : NameMap Value). rising_births (births_of_rows m)) rows in
    subst (λ (bs : List ℕ). All (λ b. is_stocked f.stock.stocked b ≡ true) bs) (sym of) (current_births_stocked f c.self.invariant.half c.self.invariant.keeps c.next_birth-sound.ensures.sound c.len-rising.ensures.rising)

pub overflow_sub-result : goal.overflow_sub-result
overflow_sub-result c =
    let f = the_view c.self.inside in
    let rows : map deref_pair c.as_slice.result.now ≡ last_rows f.versions.rows =
    ap (map deref_pair) c.as_slice.ensures.value ∙ c.in_ok-rows.ensures ∙ ap (λ (x : Fields). last_rows x.versions.rows) (sym c.self.view_is) in
    let of : c.in_ok-births.births ≡ rising_births (births_of_rows (last_rows f.versions.rows)) = c.in_ok-births.ensures ∙ ap (λ (m : NameMap Value). rising_births (births_of_rows m)) rows in
    committed_within f c.self.invariant.half c.live_blocks.result c.in_ok-committed.committed c.in_ok-births.births c.self.invariant.keeps c.next_birth-sound.ensures.sound c.len-rising.ensures.rising
    c.live_blocks.ensures.live of c.in_ok-committed.ensures

pub returns : goal.returns
returns c h keeps =
    let f = the_view c.self.inside in
    let rows : map deref_pair c.as_slice.result.now ≡ last_rows f.versions.rows =
    ap (map deref_pair) c.as_slice.ensures.value ∙ c.in_ok-rows.ensures ∙ ap (λ (x : Fields). last_rows x.versions.rows) (sym c.self.view_is) in
    let of : c.in_ok-births.births ≡ rising_births (births_of_rows (last_rows f.versions.rows)) = c.in_ok-births.ensures ∙ ap (λ (m : NameMap Value). rising_births (births_of_rows m)) rows in
    uncommitted_is f h c.live_blocks.result c.in_ok-committed.committed c.in_ok-births.births (subst (λ (x : Fields). Keeps x h) (sym c.self.view_is) keeps) c.next_birth-sound.ensures.sound c.len-rising.ensures.rising
    c.live_blocks.ensures.live of c.in_ok-committed.ensures
