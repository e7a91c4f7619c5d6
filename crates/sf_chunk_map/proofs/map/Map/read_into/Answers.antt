use Rattle.std.proofs.Common.{ℕ, List, ◌++◌, length, drop, ap, ◌∙◌, arith, rules}
use Rattle.sf_types.specs.Values.Marks.{Value, strip}
use Rattle.sf_chunk_map.specs.Contents.{window}
use Rattle.sf_chunk_map.proofs.map.Map.read_into.Goals as goal

pub returns-clause-count : goal.returns-clause-count
returns-clause-count c =
    omega (arith, c.read_tree.ensures.count, ap (λ (xs : List ℕ). length xs) c.new-reading.ensures.into, ap (λ (v : Value). length v.bytes) c.self.view_is)

pub returns-clause-bytes : goal.returns-clause-bytes
returns-clause-bytes c =
    let done = c.read_tree.new.reading.done in
    search rules
    ∙ c.read_tree.ensures.bytes
    ∙ ap (λ (v : Value). window c.args.at done (strip v) ++ drop done c.new-reading.result.into.now) c.self.view_is
    ∙ ap (λ (xs : List ℕ). window c.args.at done (strip c.args.self.now) ++ drop done xs) c.new-reading.ensures.into
