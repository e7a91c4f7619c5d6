-- Promises, publications and cancels by the store's half and the session's own part (our own).
use Rattle.std.specs.Prelude.{ℕ, ◌+◌, ◌-◌, false, nat_le, List, [], ◌∷◌, ◌++◌, length, take, find, flat_map, sum_by, Option, Some, None, unwrap_or, if◌then◌else◌}
use Rattle.std.specs.List.{range_with_len, last_or}
use Rattle.std.specs.Option.{option_map_or}
use Rattle.sf_types.specs.declared.call.Call.{Call}
use Rattle.sf_types.specs.declared.call.Call.TheVariants as call
use Rattle.sf_types.specs.declared.reply.Fault.TheVariants as fault
use Rattle.sf_types.specs.declared.reply.Reply.{Reply}
use Rattle.sf_types.specs.declared.reply.Reply.TheVariants as reply
use Rattle.sf_types.specs.Inside.Births.{rising_births}
use Rattle.sf_types.specs.Table.Parts.{Rows, Table}
use Rattle.sf_types.specs.Table.Sessions.{without_locks}
use Rattle.sf_types.specs.Calls.WritingCalls.{written_name, result_of}
use Rattle.sf_types.specs.Space.Cuts.{Cut, contents_of_value, settle, settle_value}
use Rattle.sf_types.specs.Calls.TransactionEnds.{floor_after}
use Rattle.sf_types.specs.Space.Reach.{Holding, version_holdings}
use Rattle.sf_types.specs.declared.holder.Holder.TheVariants as holder
use Rattle.sf_types.specs.Space.Use.{blocks_of_births}
use Rattle.sf_types.specs.Space.Promises.{found_births, wanted_blocks}
use Rattle.sf_types.specs.Space.Publications.{births_for, contents_after}
use Rattle.sf_types.specs.Halves.Own.{Own, held_value, own_row}
use Rattle.sf_types.specs.Halves.Asks.{Request, Commits, Settles, Answer, Given, Committed, Done, Half, Kept, kept_at, with_kept, births_with}

-- The store's half as a table without sessions.
abbrev pub table_of_half : Half → Table
table_of_half h = record { options = h.options; contents = h.contents; commits = h.commits; floor = h.floor; locks = h.locks; sessions = [] }

-- What sessions hold, and their promises. The first session has the number s.
abbrev pub kept_holdings : ℕ → List Kept → List Holding
kept_holdings s [] = []
kept_holdings s (k ∷ ks) =
    record { holder = holder.Session s; births = k.births }
    ∷ option_map_or (λ q. record { holder = holder.Promise s; births = q.births } ∷ []) k.promise []
    ++ kept_holdings (s + 1) ks

-- The births in reach, by the half.
abbrev pub half_reach : Half → List ℕ
half_reach h = rising_births (flat_map (λ x. x.births) (version_holdings (table_of_half h) ++ kept_holdings 1 h.sessions))

-- The blocks that are promised to a session.
abbrev pub kept_blocks : Kept → ℕ
kept_blocks k = option_map_or (λ q. q.blocks) k.promise 0

-- The number of free blocks, by the half.
abbrev pub half_free : Half → ℕ
half_free h =
    h.options.capacity - (blocks_of_births h.contents (half_reach h) + sum_by kept_blocks h.sessions)

-- The half at a floor.
abbrev pub half_at : Half → ℕ → Half
half_at h floor = record h { floor = floor }

-- What a due call flushes, by the own part: a Commit each working value, and a writing call its result.
abbrev pub own_flush : Own → Call → Rows
own_flush o call.Commit = o.part.working
own_flush o c =
    option_map_or (λ at. (own_row o at, Some (result_of o.part (held_value o (own_row o at)) at c)) ∷ []) (written_name c) []

-- The store's verdict on a promise: granted with so many blocks, or refused with the blocks that are wanted and the free
-- ones.
pub data Verdict : Type 0 where
  Granted : (blocks : ℕ) → Verdict
  NoSpace : (wanted free : ℕ) → Verdict

-- The blocks that cuts want at a floor.
abbrev pub half_wanted_blocks : Half → List Cut → ℕ → ℕ
half_wanted_blocks h of floor = wanted_blocks h.contents (half_reach (half_at h floor)) of

-- The floors at which a promise may be granted, rising: the floor alone, or under `retention max` each from it up to the
-- number of commits.
abbrev pub half_candidates : Half → List ℕ
half_candidates h =
    if h.options.max then range_with_len h.floor (length h.commits + 1 - h.floor) else h.floor ∷ []

-- The half after a promise and the verdict, by the floor at which it is granted, where there is one. Else it is refused
-- with the numbers of the last floor.
abbrev pub half_promise_at : Half → ℕ → Call → List Cut → Option ℕ → Half × Verdict
half_promise_at h s c of (Some floor) = (
  with_kept (half_at h floor) s (record (kept_at h s) {
    promise = Some (record {
      call = c;
      blocks = half_wanted_blocks h of floor;
      births = found_births h.contents (half_reach (half_at h floor)) of;
    });
  }),
  Granted (half_wanted_blocks h of floor),
)
half_promise_at h s c of None =
    let last = unwrap_or (last_or None (half_candidates h)) h.floor in
    (h, NoSpace (half_wanted_blocks h of last) (half_free (half_at h last)))

-- A promise is granted at the least floor at which it fits.
abbrev pub half_promise : Half → ℕ → Call → List Cut → Half × Verdict
half_promise h s c of =
    half_promise_at h s c of
    (find (λ floor. nat_le (half_wanted_blocks h of floor) (half_free (half_at h floor))) (half_candidates h))

-- The reply that a verdict brings: a refusal ends the call, and a granted promise doesn't.
abbrev pub refusal_of : Verdict → Option Reply
refusal_of (Granted blocks) = None
refusal_of (NoSpace wanted_blocks free) = Some (reply.Refused (fault.NoSpace wanted_blocks free))

-- The births that a publication gives to cuts, found and new ones, in order of the cuts.
abbrev pub half_births_for : Half → List Cut → List ℕ
half_births_for h of = births_for h.contents (half_reach h) of

-- The half with the contents of the new births of some cuts.
abbrev pub with_half_contents : Half → List Cut → Half
with_half_contents h of = record h { contents = contents_after h.contents (half_reach h) of }

-- The half after a publication, and the answer: the promise ends, and the call is done with what was settled. `births` are
-- those that the session holds after the call beside those of the value that it is given.
abbrev pub half_publish : Half → ℕ → Request → List Cut → List ℕ → Half × Answer
half_publish h s (Commits rows) of births = (
  record (with_kept (with_half_contents h of) s (record (kept_at h s) { births = births; is_open = false; promise = None })) {
    commits = h.commits ++ settle rows (half_births_for h of) ∷ [];
    floor = floor_after h.options h.floor (length h.commits + 1);
    locks = without_locks h.locks s;
  },
  Committed (length h.commits + 1),
)
half_publish h s (Settles v) of births =
    let settled = settle_value v (take (length (contents_of_value v)) (half_births_for h of)) in
    (with_kept (with_half_contents h of) s (record (kept_at h s) { births = births_with births settled; promise = None }), Given settled)
half_publish h s _ of births = (h, Done)

-- The half after a cancel: the promise ends.
abbrev pub half_cancel : Half → ℕ → Half
half_cancel h s = with_kept h s (record (kept_at h s) { promise = None })
