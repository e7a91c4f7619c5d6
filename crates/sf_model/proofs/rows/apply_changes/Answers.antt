use Rattle.std.proofs.Common.{◌≡◌, [], ◌∷◌, ◌++◌, Some, ◌∙◌}
use Rattle.std.proofs.lemmas.List.Elements.{All-pop}
use Rattle.sf_model.proofs.ChangeLemmas.{IsThere, keeps-put, there-kept, pop-change}
use Rattle.sf_model.proofs.rows.apply_changes.Goals as goal

pub loop-name-preserved : goal.loop-name-preserved
loop-name-preserved c =
    let rows = c.loop-name.rows in
    let rest = c.pop.new.self.items in
    let popped : c.loop-name.left.items ≡ rest ++ (c.in-Some.name, c.in-Some.value) ∷ [] = c.in-Some.ensures.items in
    let others = (All-pop (IsThere rows) c.loop-name.left.items rest (Some (c.in-Some.name, c.in-Some.value)) popped c.loop-name.invariant.there).0 in
    record {
      there = rw c.apply_change.ensures (there-kept rows _ rest (keeps-put rows c.in-Some.name c.in-Some.value) others);
      said = λ q. rw c.apply_change.ensures (pop-change rows c.loop-name.left.items rest c.in-Some.name c.in-Some.value q popped ∙ c.loop-name.invariant.said q);
    }
