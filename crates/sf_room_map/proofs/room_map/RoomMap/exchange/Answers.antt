use Rattle.std.proofs.Common.{◌≡◌, ◌∙◌, ap, sym, subst, refl, Option}
use Rattle.std.specs.Prelude.{IsSome, IfSome}
use Rattle.std.specs.Option.{option_copied_mut}
use Rattle.sf_room_map.specs.Entries.{value_for, with_value}
use Rattle.sf_room_map.specs.Inside.Sorted.{sorted_entries}
use Rattle.sf_room_map.proofs.HashedLemmas.{get_is, put_at}
use Rattle.sf_room_map.proofs.room_map.RoomMap.exchange.Goals as goal

pub unreachable-requires : goal.unreachable-requires
unreachable-requires g c =
    let none = get_is g.K.Ord.cmp g.K.PartialEq.eq g.met.K.Ord.total g.met.K.RoomKey.exact g.met.K.Ord.matches_eq c.self.inside.entries c.args.key.now ∙ sym c.get_mut.ensures.value ∙ ap option_copied_mut c.in_default.is in
    let bad = subst IsSome (ap (λ v. value_for g.K.Ord.cmp v.held c.args.key.now) (sym c.self.view_is) ∙ none) c.requires in
    absurd cc

pub returns-clause-held : goal.returns-clause-held
returns-clause-held g c =
    let given = g.E.Exchange.given c.args.other.now in
    let old = c.in-Some.value.now in
    let found = sym c.get_mut.ensures.value ∙ ap option_copied_mut c.in-Some.is in
    let is = ap (λ v. value_for g.K.Ord.cmp v.held c.args.key.now) (sym c.self.view_is) ∙ get_is g.K.Ord.cmp g.K.PartialEq.eq g.met.K.Ord.total g.met.K.RoomKey.exact g.met.K.Ord.matches_eq c.self.inside.entries c.args.key.now ∙ found in
    subst (λ (x : Option g.row.V.Denot). IfSome x (λ value. sorted_entries g.K.Ord.cmp (c.get_mut.follows.lender c.exchange.new.value).entries ≡ with_value g.K.Ord.cmp c.args.self.now.held c.args.key.now (given value))) (sym is)
    (ap (λ v. sorted_entries g.K.Ord.cmp (c.get_mut.follows.lender v).entries) c.exchange.ensures.given
    ∙ put_at g.K.Ord.cmp g.K.PartialEq.eq g.met.K.Ord.total g.met.K.RoomKey.exact g.met.K.Ord.matches_eq c.self.inside.entries (c.get_mut.follows.lender (given old)) c.args.key.now (given old) ((c.get_mut.follows.holds (given old)).3 (subst IsSome (sym found) refl)).0
    ∙ ap (λ v. with_value g.K.Ord.cmp v.held c.args.key.now (given old)) c.self.view_is)

pub returns-clause-taken : goal.returns-clause-taken
returns-clause-taken g c =
    let found = sym c.get_mut.ensures.value ∙ ap option_copied_mut c.in-Some.is in
    let is = ap (λ v. value_for g.K.Ord.cmp v.held c.args.key.now) (sym c.self.view_is) ∙ get_is g.K.Ord.cmp g.K.PartialEq.eq g.met.K.Ord.total g.met.K.RoomKey.exact g.met.K.Ord.matches_eq c.self.inside.entries c.args.key.now ∙ found in
    subst (λ (x : Option g.row.V.Denot). IfSome x (λ value. c.exchange.new.self ≡ g.E.Exchange.taken c.args.other.now value)) (sym is) c.exchange.ensures.taken
