use Rattle.std.proofs.Common.{◌≡◌, ◌∙◌, ◌-◌, Option, Some, None, true, length, refl, ap, sym, subst, arith}
use Rattle.std.specs.Prelude.{is_some}
use Rattle.std.specs.Option.{IsSome}
use Rattle.std.specs.FinMap as fin
use Rattle.std.proofs.lemmas.List.Elements.{All-weaker, recursion_from_All}
use Rattle.sf_types.specs.Inside.Births.{IsRising}
use Rattle.sf_lifetimes.specs.Ledgers.{held_by, unheld_places}
use Rattle.sf_lifetimes.proofs.LedgerLemmas.{is_at}
use Rattle.sf_stock.specs.Stocks.{is_stocked, with_holder}
use Rattle.sf_stock.specs.Inside.Keeps.{without_births}
use Rattle.sf_stock.proofs.KeptLemmas.{stocked_is}
use Rattle.sf_stock.proofs.LeaveLemmas.{few_gone, stock_left, stock_after, last_put}
use Rattle.sf_stock.proofs.stock.Stock.hold.Goals as goal

there : {X : Type 0} (x : Option X) → is_some x ≡ true → IsSome x
there None is = absurd cc
there (Some x) is = refl

pub hold_births-requires-clause-births : goal.hold_births-requires-clause-births
hold_births-requires-clause-births c =
    let s = c.self.inside in
    All-weaker (λ b. is_stocked c.args.self.now.held.stocked b ≡ true) (λ b. IsSome (fin.get s.ledger.held.places b))
    (λ b is. there (fin.get s.ledger.held.places b)
    (c.self.invariant.births.placed b ∙ sym (stocked_is s.ledger.held.places s.known.held b) ∙ ap (λ v. is_stocked v.held.stocked b) c.self.view_is ∙ is))
    c.args.births c.requires.births

pub hold_births-requires-clause-left : goal.hold_births-requires-clause-left
hold_births-requires-clause-left c =
    let s = c.self.inside in
    let rising = subst IsRising c.births_of-old.ensures.births c.births_of-old.ensures.rising in
    omega (arith, few_gone s.ledger.held s.index.held s.known.held s.next c.args.holder c.args.births c.self.invariant.births rising, c.self.invariant.rooms.left_room)

pub invariant_of-self : goal.invariant_of-self
invariant_of-self c =
    let s = c.self.inside in
    let h = c.args.holder in
    let bs = c.args.births in
    let rising = subst IsRising c.births_of-old.ensures.births c.births_of-old.ensures.rising in
    let growth : c.saturating_sub-added.result ≡ length bs - length (held_by s.ledger.held.holdings h) =
    c.saturating_sub-added.ensures ∙ ap (λ n. n - length c.births_of-old.result.now) (ap length c.as_slice.ensures.births) ∙ ap (λ n. length bs - n) (ap length c.births_of-old.ensures.births) in
    let gone = last_put s.left.held (unheld_places s.ledger.held h bs) c.hold_births.new.left.held c.as_slice-2.result.now c.len-from.result c.len-from.ensures c.as_slice-2.ensures c.hold_births.ensures.left in
    let held = recursion_from_All (λ b. is_stocked c.args.self.now.held.stocked b ≡ true) bs c.requires.births in
    stock_after s.ledger c.hold_births.new.ledger s.index s.known c.forget.new.known s.left c.hold_births.new.left s.parked s.next s.runs s.room h bs c.self.invariant rising
    c.hold_births.ensures.held c.hold_births.ensures.left c.forget.new.index c.saturating_sub-added.result (s.room - c.saturating_sub-added.result)
    (c.forget.ensures.known ∙ ap (without_births s.known.held) gone) (c.forget.ensures.index ∙ ap (without_births s.index.held) gone)
    (λ b among.
    sym (stocked_is s.ledger.held.places s.known.held b) ∙ ap (λ v. is_stocked v.held.stocked b) c.self.view_is ∙ is_at (λ q. is_stocked c.args.self.now.held.stocked q ≡ true) b bs held among)
    (omega (arith, c.hold_births.ensures.spare, growth)) c.forget.ensures.index_spare c.forget.ensures.known_spare c.hold_births.ensures.left_spare
    (omega (arith, growth, c.requires.room, ap (λ v. v.spare) c.self.view_is, ap (λ v. length (held_by v.held.holdings h)) c.self.view_is))

pub returns-clause-held : goal.returns-clause-held
returns-clause-held c =
    let s = c.self.inside in
    let h = c.args.holder in
    let bs = c.args.births in
    let rising = subst IsRising c.births_of-old.ensures.births c.births_of-old.ensures.rising in
    let gone = last_put s.left.held (unheld_places s.ledger.held h bs) c.hold_births.new.left.held c.as_slice-2.result.now c.len-from.result c.len-from.ensures c.as_slice-2.ensures c.hold_births.ensures.left in
    stock_left s.ledger c.hold_births.new.ledger s.index s.known c.forget.new.known s.left c.hold_births.new.left s.parked s.next s.runs s.room h bs c.self.invariant rising
    c.hold_births.ensures.held c.hold_births.ensures.left (c.forget.ensures.known ∙ ap (without_births s.known.held) gone)
    ∙ ap (λ v. with_holder v.held h bs) c.self.view_is
