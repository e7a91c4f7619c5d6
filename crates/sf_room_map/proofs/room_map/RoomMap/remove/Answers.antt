use Rattle.std.proofs.Common.{◌∙◌, ap, sym}
use Rattle.sf_room_map.specs.Entries.{value_for, without_key}
use Rattle.sf_room_map.proofs.HashedLemmas.{get_is, taken_out}
use Rattle.sf_room_map.proofs.room_map.RoomMap.remove.Goals as goal

pub returns-clause-value : goal.returns-clause-value
returns-clause-value g c =
    c.remove.ensures.value
    ∙ sym (get_is g.K.Ord.cmp g.K.PartialEq.eq g.met.K.Ord.total g.met.K.RoomKey.exact g.met.K.Ord.matches_eq c.self.inside.entries c.args.key.now)
    ∙ ap (λ v. value_for g.K.Ord.cmp v.held c.args.key.now) c.self.view_is

pub returns-clause-held : goal.returns-clause-held
returns-clause-held g c =
    taken_out g.K.Ord.cmp g.K.PartialEq.eq g.met.K.Ord.total g.met.K.RoomKey.exact g.met.K.Ord.matches_eq c.self.inside.entries c.remove.new.self c.args.key.now c.remove.ensures.updates.0
    ∙ ap (λ v. without_key g.K.Ord.cmp v.held c.args.key.now) c.self.view_is
