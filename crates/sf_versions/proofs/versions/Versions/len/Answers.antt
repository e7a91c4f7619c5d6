use Rattle.std.proofs.Common.{length, sym, ap, subst, ◌∙◌}
use Rattle.std.specs.List.Sorted.{IsStrictlySortedBy}
use Rattle.std.specs.Map.{keys_of}
use Rattle.sf_types.specs.Values.Names.{name_cmp}
use Rattle.sf_versions.proofs.SpanLemmas.{rows_counted, rows_named}
use Rattle.sf_versions.proofs.versions.Versions.len.Goals as goal

pub returns-clause-len : goal.returns-clause-len
returns-clause-len c =
    c.len.ensures.len ∙ sym (rows_counted c.self.inside.versions.held c.self.inside.spans.held) ∙ ap (λ v. length v.held.rows) c.self.view_is

pub returns-clause-rising : goal.returns-clause-rising
returns-clause-rising c =
    subst (λ v. IsStrictlySortedBy name_cmp (keys_of v.held.rows)) c.self.view_is
    (subst (IsStrictlySortedBy name_cmp) (sym (rows_named c.self.inside.versions.held c.self.inside.spans.held)) c.len.ensures.rising)
