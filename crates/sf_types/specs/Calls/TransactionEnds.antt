-- Transaction ends: Commit, Rollback and End (after COMMIT and ROLLBACK of SQL; retention by commits and End
-- are our own).
use Rattle.std.specs.Prelude.{ℕ, ◌+◌, ◌-◌, true, false, [], ◌∷◌, ◌++◌, map, max, if◌then◌else◌}
use Rattle.sf_types.specs.declared.options.Options.{Options}
use Rattle.sf_types.specs.declared.reply.Reply.{Reply}
use Rattle.sf_types.specs.declared.reply.Reply.TheVariants.{Committed, Done, Ended}
use Rattle.sf_types.specs.Inside.NameMaps.{NameMap}
use Rattle.sf_types.specs.Table.Parts.{Locator, Session, Table}
use Rattle.sf_types.specs.Table.Sessions.{with_session, without_locks}
use Rattle.sf_types.specs.Calls.Savepoints.{with_losses}
use Rattle.sf_types.specs.Table.Versions.{commit_count}

-- Locators, all of them clean. Each keeps its value.
abbrev pub clean_locators : NameMap Locator → NameMap Locator
clean_locators locators = map (λ e. (e.0, record e.1 { is_dirty = false })) locators

-- What Commit does to its session: no transaction and no working value is left, the locators are clean, and all savepoints
-- are erased.
abbrev pub after_commit : Session → Session
after_commit p = record p { is_open = false; working = []; locators = clean_locators p.locators; savepoints = [] }

-- A commit that makes the number of commits n raises the floor to n less the retention, where that is greater. With
-- the option max it leaves the floor.
abbrev pub floor_after : Options → ℕ → ℕ → ℕ
floor_after options floor n = if options.max then floor else max floor (n - options.retention)

-- The table after the working values of an open transaction became a commit.
abbrev pub with_commit : Table → ℕ → Session → Table
with_commit t s p = record (with_session t s (after_commit p)) {
  commits = t.commits ++ p.working ∷ [];
  floor = floor_after t.options t.floor (commit_count t + 1);
  locks = without_locks t.locks s;
}

-- Commit answers the number of commits. Where no transaction is open, it erases the savepoints alone.
abbrev pub commit_call : Table → ℕ → Session → Table × Reply
commit_call t s p =
    if p.is_open
    then (with_commit t s p, Committed (commit_count t + 1))
    else (with_session t s (record p { savepoints = [] }), Committed (commit_count t))

-- What Rollback does to its session: no transaction and no working value is left, each dirty locator is lost, and all
-- savepoints are erased, whether a transaction is open or not.
abbrev pub after_rollback : Session → Session
after_rollback p = record p { is_open = false; working = []; locators = with_losses (λ l. l.is_dirty) p.locators; savepoints = [] }

-- Rollback releases the session's locks, and answers Done.
abbrev pub rollback_call : Table → ℕ → Session → Table × Reply
rollback_call t s p = (record (with_session t s (after_rollback p)) { locks = without_locks t.locks s }, Done)

-- What End does to its session: no transaction, working value, locator or savepoint is left, and the session has ended.
abbrev pub after_end : Session → Session
after_end p = record p { is_open = false; working = []; locators = []; savepoints = []; has_ended = true }

-- End releases the session's locks, and answers Ended.
abbrev pub end_call : Table → ℕ → Session → Table × Reply
end_call t s p = (record (with_session t s (after_end p)) { locks = without_locks t.locks s }, Ended)
