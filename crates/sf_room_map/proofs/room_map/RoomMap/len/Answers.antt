use Rattle.std.proofs.Common.{◌∙◌, ap, sym, subst, length}
use Rattle.std.specs.Map.{keys_of}
use Rattle.std.specs.List.Sorted.{IsStrictlySortedBy}
use Rattle.sf_room_map.proofs.EntryLemmas.{are_sorted, rising_from_sorted}
use Rattle.sf_room_map.proofs.HashedLemmas.{length_is}
use Rattle.sf_room_map.specs.Inside.Sorted.{sorted_entries}
use Rattle.sf_room_map.proofs.room_map.RoomMap.len.Goals as goal

pub returns-clause-len : goal.returns-clause-len
returns-clause-len g c =
    c.len.ensures.len
    ∙ sym (length_is g.K.Ord.cmp g.K.PartialEq.eq g.met.K.Ord.total g.met.K.RoomKey.exact g.met.K.Ord.matches_eq c.self.inside.entries c.len.ensures.unique)
    ∙ ap (λ v. length v.held) c.self.view_is

pub returns-clause-rising : goal.returns-clause-rising
returns-clause-rising g c =
    let es = c.self.inside.entries.entries in
    subst (λ v. IsStrictlySortedBy g.K.Ord.cmp (keys_of v.held)) c.self.view_is
    (rising_from_sorted g.K.Ord.cmp (sorted_entries g.K.Ord.cmp es) (are_sorted g.K.Ord.cmp g.met.K.Ord.total es))
