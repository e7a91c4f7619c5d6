use Rattle.std.proofs.Common.{◌∙◌, ap, rules, arith}
use Rattle.sf_room_map.proofs.HashedLemmas.{reordered}
use Rattle.sf_room_map.proofs.room_map.RoomMap.make_room.Goals as goal

pub returns : goal.returns
returns g c = record {
  done = search rules;
  held = reordered g.K.Ord.cmp g.K.PartialEq.eq g.met.K.Ord.total g.met.K.RoomKey.exact g.met.K.Ord.matches_eq c.self.inside.entries c.reserve.new.self c.reserve.ensures.entries.2 ∙ ap (λ v. v.held) c.self.view_is;
  room = search rules;
  kept = omega (arith, c.reserve.ensures.spare, ap (λ v. v.spare) c.self.view_is);
}
