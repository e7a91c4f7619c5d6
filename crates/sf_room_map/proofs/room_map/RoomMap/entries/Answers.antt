use Rattle.std.proofs.Common.{◌≡◌, ◌∙◌, ap, subst, map, Bor, rules}
use Rattle.std.specs.Prelude.{IfOk}
use Rattle.std.specs.Ordering.{is_lt}
use Rattle.std.specs.Map.{keys_of}
use Rattle.std.specs.Map.Iter.{deref_pair}
use Rattle.std.proofs.lemmas.Iterator.Consumers.{map_from_collect, YieldsList-from_rest}
use Rattle.std.proofs.lemmas.List.Sorted.{ranks_by, answers_always}
use Rattle.sf_room_map.proofs.HashedLemmas.{apart_by, shown}
use Rattle.sf_room_map.proofs.room_map.RoomMap.entries.Goals as goal

pub returns : goal.returns
returns g c =
    let es = c.self.inside.entries.entries in
    let collected = map_from_collect c.collect.result c.collect.ensures.ran (YieldsList-from_rest es c.iter.ensures.rest) in
    shown g.K.Ord.cmp g.met.K.Ord.total g.met.K.RoomKey.exact es c.in_ok-entries.entries.items c.sort_unstable_by.new.self.items
    (apart_by g.K.Ord.cmp g.K.PartialEq.eq g.met.K.Ord.matches_eq (keys_of es) c.iter.ensures.unique)
    (subst (λ r. IfOk r (λ w. map deref_pair w.items ≡ es)) c.in_ok-entries.was collected)
    c.sort_unstable_by.ensures.permutation
    (c.sort_unstable_by.ensures.sorted (λ a b. is_lt (g.K.Ord.cmp a.0.now b.0.now)) (ranks_by g.met.K.Ord.total (λ (p : Bor g.row.K.Denot × Bor g.row.V.Denot). p.0.now)) (answers_always _ _ _ (λ f a r after called. search rules)))
    ∙ ap (λ v. v.held) c.self.view_is
