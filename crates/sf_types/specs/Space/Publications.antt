-- The second step of a due call: its publication (our own).
use Rattle.std.specs.Prelude.{ℕ, ◌+◌, List, [], ◌∷◌, ◌++◌, length, None, unwrap_or, if◌then◌else◌}
use Rattle.std.specs.Option.{option_map_or}
use Rattle.sf_types.specs.declared.call.Call.{Call}
use Rattle.sf_types.specs.declared.call.Call.TheVariants as call
use Rattle.sf_types.specs.declared.reply.Reply.{Reply}
use Rattle.sf_types.specs.declared.reply.Reply.TheVariants.{Done}
use Rattle.sf_types.specs.Table.Parts.{Content, Rows, Session, Table}
use Rattle.sf_types.specs.Table.Sessions.{session_of, with_session}
use Rattle.sf_types.specs.Table.Versions.{current_value, value_or_absent}
use Rattle.sf_types.specs.Inside.NameMaps.{get}
use Rattle.sf_types.specs.Values.Marks.{Value}
use Rattle.sf_types.specs.Calls.WritingCalls.{written_name, old_value, write_reply, after_write}
use Rattle.sf_types.specs.Space.Cuts.{Cut, settle}
use Rattle.sf_types.specs.Space.Due.{flush_of, written_row, result_in}
use Rattle.sf_types.specs.Calls.TransactionEnds.{commit_call}
use Rattle.sf_types.specs.Space.Reach.{reach}
use Rattle.sf_types.specs.Space.Promises.{found_birth, is_found, flush_cuts}

-- A cut becomes a content, shared exactly where it is sharing.
abbrev pub content_of_cut : Cut → Content
content_of_cut cut = record { bytes = cut.bytes; is_shared = cut.is_sharing }

-- A cut that is found has the birth that was found, each other cut the next one.
abbrev pub birth_for : List Content → List ℕ → Cut → ℕ
birth_for contents reached cut = unwrap_or (found_birth contents reached cut) (length contents + 1)

-- The contents after a cut got its birth, and the births among which the next cut is looked for. So equal sharing cuts
-- share one birth.
abbrev pub contents_with : List Content → List ℕ → Cut → List Content
contents_with contents reached cut =
    if is_found contents reached cut then contents else contents ++ content_of_cut cut ∷ []

-- The births among which the next cut is looked for: with the new one, where one was given out.
abbrev pub reached_with : List Content → List ℕ → Cut → List ℕ
reached_with contents reached cut =
    if is_found contents reached cut then reached else reached ++ (length contents + 1) ∷ []

-- The births of some cuts, in their order.
abbrev pub births_for : List Content → List ℕ → List Cut → List ℕ
births_for contents reached [] = []
births_for contents reached (cut ∷ rest) =
    birth_for contents reached cut
    ∷ births_for (contents_with contents reached cut) (reached_with contents reached cut) rest

-- All contents after some cuts got their births.
abbrev pub contents_after : List Content → List ℕ → List Cut → List Content
contents_after contents reached [] = contents
contents_after contents reached (cut ∷ rest) =
    contents_after (contents_with contents reached cut) (reached_with contents reached cut) rest

-- The table in which the new contents are given out.
abbrev pub with_contents : Table → ℕ → Call → Table
with_contents t s c = record t { contents = contents_after t.contents (reach t) (flush_cuts t s c) }

-- What a call flushes, settled by the births of its cuts.
abbrev pub settled_flush : Table → ℕ → Call → Rows
settled_flush t s c =
    settle (flush_of t (session_of t s) c) (births_for t.contents (reach t) (flush_cuts t s c))

-- The session's part after its promise ended.
abbrev pub without_promise : Session → Session
without_promise p = record p { promise = None }

-- The settled result of a writing call through a locator.
abbrev pub settled_result : Table → ℕ → Session → List ℕ → Call → Value
settled_result t s p at c =
    unwrap_or (value_or_absent (get (settled_flush t s c) (written_row p at))) (result_in t p at c)

-- A writing call done with its settled result.
abbrev pub publish_write : Table → ℕ → Session → List ℕ → Call → Table × Reply
publish_write t s p at c = (
  with_session (with_contents t s c) s (after_write (without_promise p) at (settled_result t s p at c)),
  write_reply c (old_value p (current_value t (written_row p at)) at),
)

-- A Commit that is done with the settled working values.
abbrev pub publish_commit : Table → ℕ → Session → Table × Reply
publish_commit t s p =
    let u = with_contents t s call.Commit in
    commit_call u s (record (without_promise p) { working = settled_flush t s call.Commit })

-- The publication of a call for which a promise stands. No other call than a writing call and Commit is ever promised;
-- of another one this says that nothing changes but the promise.
abbrev pub publish_of : Table → ℕ → Session → Call → Table × Reply
publish_of t s p call.Commit = publish_commit t s p
publish_of t s p c =
    option_map_or (λ at. publish_write t s p at c) (written_name c) (with_session t s (without_promise p), Done)

-- The publication of a call of session s.
abbrev pub publish : Table → ℕ → Call → Table × Reply
publish t s c = publish_of t s (session_of t s) c
