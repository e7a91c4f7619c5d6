-- Each content that was given out has at least one byte and at most as many as a content may have.
use Rattle.std.proofs.Common.{ℕ, true, false, cond, List, [], ◌∷◌, ◌++◌, Some, None, sym, subst}
use Rattle.std.specs.List.{AllByRecursion as Each}
use Rattle.std.proofs.lemmas.List.Elements.{recursion_from_All}
use Rattle.sf_types.specs.declared.history.Entry.{Entry}
use Rattle.sf_types.specs.declared.options.Options.{Options}
use Rattle.sf_types.specs.Values.Marks.{Value}
use Rattle.sf_types.specs.Table.Parts.{Content, Rows, Table}
use Rattle.sf_types.specs.Space.Cuts.{Cut, contents_of_value, cuts_of_value, cuts, segments_of}
use Rattle.sf_types.specs.Table.Sessions.{session_of}
use Rattle.sf_types.specs.Space.Due.{flush_of}
use Rattle.sf_types.specs.Space.Promises.{flush_cuts, is_found}
use Rattle.sf_types.specs.Space.Reach.{reach}
use Rattle.sf_types.specs.Space.Publications.{content_of_cut, contents_with, reached_with, contents_after}
use Rattle.sf_types.specs.Orders.Histories.{IsLegal, IsLegalHistory, effect_of, table_after}
use Rattle.sf_laws.specs.Facts.{HasContentSize}
use Rattle.sf_laws.proofs.ChangeLemmas.{step_changed, publish_changed}
use Rattle.sf_laws.proofs.EachLemmas.{each_weaker, each-append, each-map}
use Rattle.sf_laws.proofs.EntryCaseLemmas.{by_entry_cases}
use Rattle.sf_laws.proofs.StretchLemmas.{IsContentSize, contents-sizes}

-- The content that a cut makes has its size.
abbrev OfCutSize : Cut → Type 0
OfCutSize cut = HasContentSize (content_of_cut cut)

value_sizes : (options : Options) (v : Value) → Each OfCutSize (cuts_of_value options v)
value_sizes options v =
    each-map OfCutSize _ (contents_of_value v)
    (each_weaker IsContentSize (λ bytes. HasContentSize (record { bytes = bytes; is_shared = _ })) (contents_of_value v) (λ bytes is. record { low = is.0; high = is.1 })
    (recursion_from_All IsContentSize (contents_of_value v) (contents-sizes (segments_of v.bytes))))

rows_sizes : (options : Options) (rows : Rows) → Each OfCutSize (cuts options rows)
rows_sizes options [] = tt
rows_sizes options ((name, None) ∷ rows) = rows_sizes options rows
rows_sizes options ((name, Some v) ∷ rows) = each-append OfCutSize (cuts_of_value options v) (cuts options rows) (value_sizes options v) (rows_sizes options rows)

with_size : (contents : List Content) (reached : List ℕ) (cut : Cut) → OfCutSize cut → Each HasContentSize contents → Each HasContentSize (contents_with contents reached cut)
with_size contents reached cut is all =
    elim (is_found contents reached cut) as (λ b. Each HasContentSize (cond b contents (contents ++ content_of_cut cut ∷ []))) [
      | true ↦ all
      | false ↦ each-append HasContentSize contents (content_of_cut cut ∷ []) all (is, tt)
    ]

sizes_after : (contents : List Content) (reached : List ℕ) (of : List Cut) → Each OfCutSize of → Each HasContentSize contents → Each HasContentSize (contents_after contents reached of)
sizes_after contents reached [] sizes all = all
sizes_after contents reached (cut ∷ rest) sizes all = sizes_after (contents_with contents reached cut) (reached_with contents reached cut) rest sizes.1 (with_size contents reached cut sizes.0 all)

sizes_entry : (t : Table) (e : Entry) → IsLegal t e.token.session e.token.kind e.call → Each HasContentSize t.contents → Each HasContentSize (effect_of t e).0.contents
sizes_entry t e legal all =
    let s = e.token.session in
    by_entry_cases t s e.token.kind e.call (λ u. Each HasContentSize u.contents) legal (record {
      stepped = λ none due. subst (Each HasContentSize) (sym (step_changed t s e.call legal.session).contents) all;
      published = λ q is same. subst (Each HasContentSize) (sym (publish_changed t s e.call).contents) (sizes_after t.contents (reach t) (flush_cuts t s e.call) (rows_sizes t.options (flush_of t (session_of t s) e.call)) all);
      refused = all;
      granted = λ none due h le fits. all;
      cancelled = λ q is. all;
    })

pub sizes_run : (t : Table) (history : List Entry) → IsLegalHistory t history → Each HasContentSize t.contents → Each HasContentSize (table_after t history).contents
sizes_run t [] legal all = all
sizes_run t (e ∷ es) legal all = sizes_run (effect_of t e).0 es legal.1 (sizes_entry t e legal.0 all)
