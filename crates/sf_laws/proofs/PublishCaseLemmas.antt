-- One case analysis over the publications, and what they flush.
use Rattle.std.proofs.Common.{◌≡◌, ℕ, ◌+◌, Bool, true, false, cond, List, [], ◌∷◌, Option, Some, None, refl, subst}
use Rattle.std.specs.Prelude.{unwrap_or}
use Rattle.std.specs.List.{AllByRecursion as Each}
use Rattle.std.specs.Option.{option_map_or}
use Rattle.sf_types.specs.declared.call.Call.{Call}
use Rattle.sf_types.specs.declared.call.Call.TheVariants as call
use Rattle.sf_types.specs.declared.reply.Reply.{Reply}
use Rattle.sf_types.specs.declared.reply.Reply.TheVariants as reply
use Rattle.sf_types.specs.Inside.NameMaps.{get}
use Rattle.sf_types.specs.Values.Marks.{Marked, Value}
use Rattle.sf_types.specs.Table.Parts.{Session, Table}
use Rattle.sf_types.specs.Table.Versions.{value_or_absent, commit_count, current_value}
use Rattle.sf_types.specs.Table.Sessions.{session_of, with_session}
use Rattle.sf_types.specs.Calls.WritingCalls.{written_name, after_write}
use Rattle.sf_types.specs.Space.Due.{written_row, result_in, flush_of}
use Rattle.sf_types.specs.Calls.TransactionEnds.{with_commit}
use Rattle.sf_types.specs.Space.Reach.{reach}
use Rattle.sf_types.specs.Space.Promises.{flush_cuts}
use Rattle.sf_types.specs.Space.Publications.{births_for, with_contents, settled_flush, without_promise, settled_result, publish_write, publish}
use Rattle.sf_laws.proofs.HeldLemmas.{OfOption, OfRows, OfSession, Held, of_current}
use Rattle.sf_laws.proofs.HeldEditLemmas.{OfUnstored}
use Rattle.sf_laws.proofs.HeldStepLemmas.{of_part, of_table, of_result, of_written, of_committed}
use Rattle.sf_laws.proofs.EntryLemmas.{each_get_or}
use Rattle.sf_laws.proofs.SettleLemmas.{Paired, OfCut, settled_rows}
use Rattle.sf_laws.proofs.EachLemmas.{each-set}
use Rattle.sf_laws.proofs.HeldLemmas.{versions_push}

-- The session's part after its promise ended and its working values were settled.
abbrev pub settled_part : Table → ℕ → Session
settled_part t s = record (without_promise (session_of t s)) { working = settled_flush t s call.Commit }

-- Something holds of every table that a publication of session s may leave.
pub record PublishCases (t : Table) (s : ℕ) (c : Call) (Q : Table → Type 0) : Type 0 where
  pub committed : c ≡ call.Commit → Q (with_commit (with_contents t s call.Commit) s (settled_part t s))
  pub left_open : c ≡ call.Commit → Q (with_session (with_contents t s call.Commit) s (record (settled_part t s) { savepoints = [] }))
  pub written : (at : List ℕ) → written_name c ≡ Some at → flush_of t (session_of t s) c ≡ (written_row (session_of t s) at, Some (result_in t (session_of t s) at c)) ∷ []
      → Q (with_session (with_contents t s c) s (after_write (without_promise (session_of t s)) at (settled_result t s (session_of t s) at c)))
  pub nothing : written_name c ≡ None → flush_of t (session_of t s) c ≡ [] → Q (with_session t s (without_promise (session_of t s)))

commit_cases : (t : Table) (s : ℕ) (Q : Table → Type 0) → PublishCases t s call.Commit Q → (b : Bool)
    → Q (cond {A = Table × Reply} b (with_commit (with_contents t s call.Commit) s (settled_part t s), reply.Committed (commit_count (with_contents t s call.Commit) + 1)) (with_session (with_contents t s call.Commit) s (record (settled_part t s) { savepoints = [] }), reply.Committed (commit_count (with_contents t s call.Commit)))).0
commit_cases t s Q cases true = cases.committed refl
commit_cases t s Q cases false = cases.left_open refl

write_cases : (t : Table) (s : ℕ) (c : Call) (Q : Table → Type 0) (o : Option (List ℕ)) → written_name c ≡ o → flush_of t (session_of t s) c ≡ option_map_or (λ at. (written_row (session_of t s) at, Some (result_in t (session_of t s) at c)) ∷ []) o []
    → PublishCases t s c Q → Q (option_map_or (λ at. publish_write t s (session_of t s) at c) o (with_session t s (without_promise (session_of t s)), reply.Done)).0
write_cases t s c Q None at flush cases = cases.nothing at flush
write_cases t s c Q (Some name) at flush cases = cases.written name at flush

pub by_publish_cases : (t : Table) (s : ℕ) (c : Call) (Q : Table → Type 0) → PublishCases t s c Q → Q (publish t s c).0
by_publish_cases t s call.Commit Q cases = commit_cases t s Q cases (session_of t s).is_open
by_publish_cases t s c Q cases = write_cases t s c Q (written_name c) refl refl cases

-- what is flushed was held
of_flush_where : (M : Marked → Type 0) (t : Table) (p : Session) (c : Call) (o : Option (List ℕ)) → ((at : List ℕ) → Each M (result_in t p at c).bytes) → OfRows M (option_map_or (λ at. (written_row p at, Some (result_in t p at c)) ∷ []) o [])
of_flush_where M t p c None is = tt
of_flush_where M t p c (Some at) is = (is at, tt)

pub of_flush : (M : Marked → Type 0) (t : Table) (p : Session) (c : Call) → OfSession M p → ((at : List ℕ) → Each M (result_in t p at c).bytes) → OfRows M (flush_of t p c)
of_flush M t p call.Commit own is = own.working
of_flush M t p c own is = of_flush_where M t p c (written_name c) is

of_or_absent : (M : Marked → Type 0) (o : Option (Option Value)) (d : Value) → OfOption M (unwrap_or o None) → Each M d.bytes → Each M (unwrap_or (value_or_absent o) d).bytes
of_or_absent M None d is all = all
of_or_absent M (Some None) d is all = all
of_or_absent M (Some (Some v)) d is all = is

-- what holds of each byte held, and of each byte that the cuts' births store, holds of each byte held after a publication
pub held_publish : (M : Marked → Type 0) → OfUnstored M → (floor : ℕ) (t : Table) (s : ℕ) (c : Call) → Held M floor t
    → Paired (OfCut M) (flush_cuts t s c) (births_for t.contents (reach t) (flush_cuts t s c)) → Held M floor (publish t s c).0
held_publish M un floor t s c held paired =
    let p = session_of t s in
    let own : OfSession M p = of_part M floor t s held in
    let result : (at : List ℕ) → Each M (result_in t p at c).bytes = λ at. of_result M un p (current_value t (written_row p at)) at c own (of_current M floor t (written_row p at) held) in
    let rows : OfRows M (settled_flush t s c) = settled_rows M un t.options (flush_of t p c) (births_for t.contents (reach t) (flush_cuts t s c)) (of_flush M t p c own result) paired in
    by_publish_cases t s c (Held M floor) (record {
      committed = λ is.
          let settled : OfRows M (settled_flush t s call.Commit) = subst (λ d. OfRows M (settled_flush t s d)) is rows in
          record {
            versions = versions_push M floor t.commits (settled_flush t s call.Commit) held.versions settled;
            sessions = each-set (OfSession M) t.sessions _ _ (of_committed M (settled_part t s) (record { working = settled; locators = own.locators; savepoints = own.savepoints })) held.sessions;
          };
      left_open = λ is. of_table M floor t _ s _ held refl refl (record { working = subst (λ d. OfRows M (settled_flush t s d)) is rows; locators = own.locators; savepoints = tt });
      written = λ at is flush. of_table M floor t _ s _ held refl refl
          (of_written M (without_promise p) at _ (record { working = own.working; locators = own.locators; savepoints = own.savepoints })
          (of_or_absent M (get (settled_flush t s c) (written_row p at)) (result_in t p at c) (each_get_or (OfOption M) (settled_flush t s c) (written_row p at) None rows tt) (result at)));
      nothing = λ is flush. of_table M floor t _ s _ held refl refl (record { working = own.working; locators = own.locators; savepoints = own.savepoints });
    })
