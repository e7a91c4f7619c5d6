use Rattle.std.proofs.Common.{◌∙◌, ap, sym, subst, refl, Some}
use Rattle.std.specs.Prelude.{IsSome}
use Rattle.std.specs.Option.{option_copied_mut}
use Rattle.sf_room_map.specs.Entries.{value_for, with_value}
use Rattle.sf_room_map.specs.Inside.Sorted.{sorted_entries}
use Rattle.sf_room_map.proofs.HashedLemmas.{get_is, put_at}
use Rattle.sf_room_map.proofs.room_map.RoomMap.replace.Goals as goal

pub unreachable-requires : goal.unreachable-requires
unreachable-requires g c =
    let none = get_is g.K.Ord.cmp g.K.PartialEq.eq g.met.K.Ord.total g.met.K.RoomKey.exact g.met.K.Ord.matches_eq c.self.inside.entries c.args.key.now ∙ sym c.get_mut.ensures.value ∙ ap option_copied_mut c.in_default.is in
    let bad = subst IsSome (ap (λ v. value_for g.K.Ord.cmp v.held c.args.key.now) (sym c.self.view_is) ∙ none) c.requires in
    absurd cc

pub returns-clause-value : goal.returns-clause-value
returns-clause-value g c =
    ap (λ v. value_for g.K.Ord.cmp v.held c.args.key.now) (sym c.self.view_is)
    ∙ get_is g.K.Ord.cmp g.K.PartialEq.eq g.met.K.Ord.total g.met.K.RoomKey.exact g.met.K.Ord.matches_eq c.self.inside.entries c.args.key.now
    ∙ sym c.get_mut.ensures.value ∙ ap option_copied_mut c.in-Some.is ∙ ap Some (sym c.replace.ensures.value)

pub returns-clause-held : goal.returns-clause-held
returns-clause-held g c =
    let found = sym c.get_mut.ensures.value ∙ ap option_copied_mut c.in-Some.is in
    ap (λ v. sorted_entries g.K.Ord.cmp (c.get_mut.follows.lender v).entries) c.replace.ensures.after
    ∙ put_at g.K.Ord.cmp g.K.PartialEq.eq g.met.K.Ord.total g.met.K.RoomKey.exact g.met.K.Ord.matches_eq c.self.inside.entries (c.get_mut.follows.lender c.args.value) c.args.key.now c.args.value ((c.get_mut.follows.holds c.args.value).3 (subst IsSome (sym found) refl)).0
    ∙ ap (λ v. with_value g.K.Ord.cmp v.held c.args.key.now c.args.value) c.self.view_is
