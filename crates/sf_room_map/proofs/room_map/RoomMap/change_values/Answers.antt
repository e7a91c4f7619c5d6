use Rattle.std.proofs.Common.{◌∙◌, ap, rules}
use Rattle.std.proofs.lemmas.Map.Made.{map_same_pairs}
use Rattle.sf_room_map.specs.Inside.Sorted.{sorted_entries}
use Rattle.sf_room_map.proofs.EntryLemmas.{with_values, sorted-with_values}
use Rattle.sf_room_map.proofs.room_map.RoomMap.change_values.Goals as goal

pub returns-clause-held : goal.returns-clause-held
returns-clause-held g c =
    let change = g.C.Change.changed c.args.change.now in
    let es = c.self.inside.entries.entries in
    ap (sorted_entries g.K.Ord.cmp) (map_same_pairs _ change _ (λ k v b w after called. search rules) es c.retain.new.self.entries c.retain.ensures.filtered)
    ∙ sorted-with_values g.K.Ord.cmp change es
    ∙ ap (λ v. with_values g.K.Ord.cmp change v.held) c.self.view_is
