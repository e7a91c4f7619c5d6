use Rattle.std.proofs.Common.{◌∙◌, ap}
use Rattle.sf_room_map.specs.Entries.{with_value}
use Rattle.sf_room_map.proofs.HashedLemmas.{put_at}
use Rattle.sf_room_map.proofs.room_map.RoomMap.insert_new.Goals as goal

pub returns-clause-held : goal.returns-clause-held
returns-clause-held g c =
    put_at g.K.Ord.cmp g.K.PartialEq.eq g.met.K.Ord.total g.met.K.RoomKey.exact g.met.K.Ord.matches_eq c.self.inside.entries c.insert.new.self c.args.key c.args.value c.in-Ok.ensures.updates.0
    ∙ ap (λ v. with_value g.K.Ord.cmp v.held c.args.key c.args.value) c.self.view_is
