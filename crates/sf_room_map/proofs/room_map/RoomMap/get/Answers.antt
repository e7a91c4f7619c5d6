use Rattle.std.proofs.Common.{◌∙◌, ap, sym}
use Rattle.sf_room_map.specs.Entries.{value_for}
use Rattle.sf_room_map.proofs.HashedLemmas.{get_is}
use Rattle.sf_room_map.proofs.room_map.RoomMap.get.Goals as goal

pub returns : goal.returns
returns g c =
    c.get.ensures.value
    ∙ sym (get_is g.K.Ord.cmp g.K.PartialEq.eq g.met.K.Ord.total g.met.K.RoomKey.exact g.met.K.Ord.matches_eq c.self.inside.entries c.args.key.now)
    ∙ ap (λ v. value_for g.K.Ord.cmp v.held c.args.key.now) c.self.view_is
