-- Names of maps rise after every legal run.
use Rattle.std.proofs.Common.{◌≡◌, ℕ, List, [], ◌∷◌, ◌++◌}
use Rattle.std.specs.Prelude.{T, IsTrue}
use Rattle.std.specs.List.{AllByRecursion as Each}
use Rattle.std.specs.List.Sorted.{IsStrictlySortedBy}
use Rattle.std.specs.declared.cmp.Ordering.TheVariants.{Less}
use Rattle.std.specs.Ordering.{is_lt}
use Rattle.std.specs.Map.{keys_of}
use Rattle.std.specs.FinMap.Entries as fin
use Rattle.sf_types.specs.declared.call.Call.{Call}
use Rattle.sf_types.specs.declared.history.Entry.{Entry}
use Rattle.sf_types.specs.declared.options.Options.{Options}
use Rattle.sf_types.specs.Values.Names.{name_cmp}
use Rattle.sf_types.specs.Inside.NameMaps.{NameMap}
use Rattle.sf_types.specs.Table.Parts.{Rows, Table, opening_table}
use Rattle.sf_types.specs.Table.Sessions.{has_session, session_of}
use Rattle.sf_types.specs.Calls.Steps.{step}
use Rattle.sf_types.specs.Space.Publications.{publish}
use Rattle.sf_types.specs.Orders.Histories.{IsLegal, IsLegalHistory, effect_of, history_table, table_after}
use Rattle.sf_types.proofs.BoolLemmas.{first, second}
use Rattle.sf_types.proofs.NameMapLemmas.{IsRisingMap, ordering_less}
use Rattle.sf_laws.specs.Facts.{HasRisingNames}
use Rattle.sf_laws.proofs.EachLemmas.{each-append}
use Rattle.sf_laws.proofs.EntryCaseLemmas.{by_entry_cases}
use Rattle.sf_laws.proofs.OrderlyLemmas.{AllOrderly, orderly_entry, orderly_opening, rising-settled}
use Rattle.sf_laws.proofs.OwnRunLemmas.{Stands, stands_entry, stands_opening}
use Rattle.sf_laws.proofs.PublishCaseLemmas.{by_publish_cases}
use Rattle.sf_laws.proofs.StepCaseLemmas.{by_cases}

above_all : {X : Type 0} (k : List ℕ) (m : NameMap X) → T (fin.below_all name_cmp k m) → Each (λ n. name_cmp k n ≡ Less) (keys_of m)
above_all k [] below = tt
above_all k (e ∷ m) below =
    (ordering_less (name_cmp k e.0) (first (is_lt (name_cmp k e.0)) (fin.below_all name_cmp k m) below), above_all k m (second (is_lt (name_cmp k e.0)) (fin.below_all name_cmp k m) below))

-- what the proofs say of rising names is what the laws say of them
pub names_of_rising : {X : Type 0} (m : NameMap X) → IsRisingMap m → HasRisingNames m
unfolding IsRisingMap IsStrictlySortedBy
names_of_rising [] rising = tt
names_of_rising (e ∷ m) rising = (above_all e.0 m (first (fin.below_all name_cmp e.0 m) (fin.is_sorted name_cmp m) rising), names_of_rising m (second (fin.below_all name_cmp e.0 m) (fin.is_sorted name_cmp m) rising))

-- The names of each commit rise.
abbrev pub HasRisingCommits : Table → Type 0
HasRisingCommits t = Each (λ c. IsRisingMap c) t.commits

-- What every table after a legal run has.
pub record IsInOrder (t : Table) : Type 0 where
  pub stands : Stands t
  pub sessions : AllOrderly t
  pub commits : HasRisingCommits t

one_more : (t : Table) (rows : Rows) → HasRisingCommits t → IsRisingMap rows → Each (λ c. IsRisingMap c) (t.commits ++ rows ∷ [])
one_more t rows all rising = each-append (λ c. IsRisingMap c) t.commits (rows ∷ []) all (rising, tt)

commits_stepped : (t : Table) (s : ℕ) (c : Call) → IsTrue (has_session t s) → IsRisingMap (session_of t s).working → HasRisingCommits t → HasRisingCommits (step t s c).0
commits_stepped t s c has rising all = by_cases t s HasRisingCommits has (record {
  refused = all;
  inserted = λ row busy. all;
  deleted = λ row busy. all;
  locked = λ to row busy. all;
  selected = λ to row. all;
  selected_as_of = λ to row n from. all;
  assigned = λ to from. all;
  freed = λ name. all;
  written = λ name c is. all;
  saved = λ name. all;
  gone_back = λ name x is. all;
  committed = one_more t (session_of t s).working all rising;
  erased = all;
  rolled_back = all;
  ended = all;
}) c

commits_published : (t : Table) (s : ℕ) (c : Call) → IsRisingMap (session_of t s).working → HasRisingCommits t → HasRisingCommits (publish t s c).0
commits_published t s c rising all = by_publish_cases t s c HasRisingCommits (record {
  committed = λ is. one_more t _ all (rising-settled (session_of t s).working _ rising);
  left_open = λ is. all;
  written = λ at is flush. all;
  nothing = λ is flush. all;
})

commits_entry : (t : Table) (e : Entry) → IsLegal t e.token.session e.token.kind e.call → AllOrderly t → HasRisingCommits t → HasRisingCommits (effect_of t e).0
commits_entry t e legal orderly all =
    let s = e.token.session in
    by_entry_cases t s e.token.kind e.call HasRisingCommits legal (record {
      stepped = λ none due. commits_stepped t s e.call legal.session (orderly s legal.session).working all;
      published = λ q is same. commits_published t s e.call (orderly s legal.session).working all;
      refused = all;
      granted = λ none due h le fits. all;
      cancelled = λ q is. all;
    })

order_run : (t : Table) (es : List Entry) → IsLegalHistory t es → IsInOrder t → IsInOrder (table_after t es)
order_run t [] legal order = order
order_run t (e ∷ es) legal order = order_run (effect_of t e).0 es legal.1 (record {
  stands = stands_entry t e legal.0 order.stands;
  sessions = orderly_entry t e legal.0 order.stands.within order.stands.rising order.sessions;
  commits = commits_entry t e legal.0 order.sessions order.commits;
})

pub order_in_run : (options : Options) (sessions : ℕ) (history : List Entry) → IsLegalHistory (opening_table options sessions) history → IsInOrder (history_table options sessions history)
order_in_run options sessions history legal = order_run (opening_table options sessions) history legal (record { stands = stands_opening options sessions; sessions = orderly_opening options sessions; commits = tt })
