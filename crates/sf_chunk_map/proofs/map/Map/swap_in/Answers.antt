use Rattle.std.proofs.Common.{◌≡◌, ◌+◌, take, drop, ap, ◌∙◌}
use Rattle.sf_chunk_map.specs.Contents.{window}
use Rattle.sf_chunk_map.specs.Pieces.{marked_in}
use Rattle.sf_chunk_map.proofs.SpliceLemmas.{swapped_is_map}
use Rattle.sf_chunk_map.proofs.map.Map.swap_in.Goals as goal

pub invariant_of-self-in-Ok : goal.invariant_of-self-in-Ok
invariant_of-self-in-Ok c =
    let old = marked_in c.self.inside.tree in
    let rest : marked_in c.in_ok-left.left ≡ drop c.args.at old = c.in_ok-left.ensures.second in
    let cut = c.in-Ok.ensures in
    swapped_is_map old c.args.at c.args.first c.args.second c.split_off.new.self c.cut_in_three.new.tree c.in-Ok.right c.in-Ok.tail
    c.append_new.new.tree c.append_new-in-Ok.new.tree c.append_old.new.tree c.self.inside.counts
    c.self.invariant.most c.self.invariant.counts
    c.in_ok-left.ensures.first
    (cut.first ∙ ap (take c.args.first) rest)
    (cut.second ∙ ap (window c.args.first c.args.second) rest)
    (cut.rest ∙ ap (drop (c.args.first + c.args.second)) rest)
    c.append_new.ensures c.append_new-in-Ok.ensures c.append_old.ensures
