use Rattle.std.proofs.Common.{◌≡◌, ◌+◌, ◌++◌, ◌∷◌, [], List, sym, ap, ◌∙◌}
use Rattle.sf_types.specs.Inside.NameMaps.{get}
use Rattle.sf_types.specs.Table.Parts.{Rows}
use Rattle.sf_types.specs.Table.Sessions.{session_of}
use Rattle.sf_types.specs.Table.Versions.{later_change, commit_count}
use Rattle.sf_types.specs.Calls.TransactionEnds.{after_commit, floor_after}
use Rattle.sf_model.specs.contracts.plain.Plain.{the_view}
use Rattle.sf_model.proofs.IndexLemmas.{holds_after, holds_more}
use Rattle.sf_model.proofs.TableLemmas.{session_at, commit_none, commit_done}
use Rattle.sf_model.proofs.plain.Plain.commit.Goals as goal

pub returns-then-not-is_open-clause-ok : goal.returns-then-not-is_open-clause-ok
returns-then-not-is_open-clause-ok c =
    let closed = rw c.part.ensures at (sym c.is_open.ensures.is_open ∙ c.if-not-is_open.true) in
    let none = rw c.part.ensures at c.is_open.ensures.no_savepoints in
    commit_none c.args.self.now c.args.session c.now.result c.requires closed none c.now.ensures

pub invariant_of-self-2 : goal.invariant_of-self-2
invariant_of-self-2 c =
    let old = c.self.inside.commits.items in
    let working = c.index_mut-part.result.now.working in
    let changes : c.in_ok-changes.changes.items ≡ working = c.in_ok-changes.ensures ∙ c.working.ensures in
    let commits : c.push_reserved.new.self.items ≡ old ++ working ∷ [] = c.push_reserved.ensures.items ∙ ap (λ (cs : List Rows). cs ++ c.commit.result ∷ []) c.reserve.ensures.items ∙ ap (λ (w : Rows). old ++ w ∷ []) c.commit.ensures.working in
    let places = holds_after c.self.inside.current c.name_rows.new.rows old c.name_rows.ensures.same c.self.invariant in
    rw commits (holds_more c.name_rows.new.rows c.apply_changes.new.rows old working places (λ q. c.apply_changes.ensures q ∙ ap (λ (w : Rows). later_change (get c.name_rows.new.rows q) (get w q)) changes))

pub returns-clause-ok : goal.returns-clause-ok
returns-clause-ok c =
    let t = the_view c.self.inside in
    let s = c.args.session in
    let old = c.self.inside.commits.items in
    let has = rw (← c.self.view_is) at c.requires in
    let part = session_at t s c.index_mut-part.result.now has c.index_mut-part.ensures.value in
    let opened = rw (c.part.ensures, ← c.self.view_is) at (sym c.is_open.ensures.is_open ∙ c.if-not-is_open.false) in
    let commits : c.push_reserved.new.self.items ≡ old ++ (session_of t s).working ∷ [] = c.push_reserved.ensures.items ∙ ap (λ (cs : List Rows). cs ++ c.commit.result ∷ []) c.reserve.ensures.items ∙ ap (λ (w : Rows). old ++ w ∷ []) (c.commit.ensures.working ∙ ap (λ p. p.working) part) in
    let count : c.len-count.result ≡ commit_count t + 1 = c.len-count.ensures ∙ c.push_reserved.ensures.len ∙ ap (λ n. n + 1) (c.reserve.ensures.len ∙ c.self.inside.commits.ok.0) in
    rw (← c.self.view_is)
    (commit_done t s c.len-count.result c.floor_after-self-inside.result c.push_reserved.new.self.items c.release_all.new.self c.commit.new.self opened commits count (c.floor_after-self-inside.ensures ∙ ap (floor_after t.options t.floor) count) c.release_all.ensures (c.commit.ensures.part ∙ ap after_commit part))
