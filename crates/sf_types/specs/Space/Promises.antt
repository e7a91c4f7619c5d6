-- The first step of a due call: its promise, or the refusal for want of space (our own).
use Rattle.std.specs.Prelude.{ℕ, ◌+◌, ◌-◌, Bool, false, ◌&&◌, ◌||◌, nat_le, List, [], ◌∷◌, length, find, filter_map, sum_by, bytes_eq, Option, Some, None, is_some, unwrap_or, if◌then◌else◌}
use Rattle.std.specs.List.{list_any, range_with_len, last_or}
use Rattle.std.specs.Option.{option_map_or}
use Rattle.sf_types.specs.declared.call.Call.{Call}
use Rattle.sf_types.specs.declared.reply.Fault.TheVariants as fault
use Rattle.sf_types.specs.declared.reply.Reply.{Reply}
use Rattle.sf_types.specs.declared.reply.Reply.TheVariants.{Refused}
use Rattle.sf_types.specs.Inside.Births.{rising_births}
use Rattle.sf_types.specs.Table.Parts.{Content, Table}
use Rattle.sf_types.specs.Table.Sessions.{session_of, with_session}
use Rattle.sf_types.specs.Table.Versions.{commit_count}
use Rattle.sf_types.specs.Space.Cuts.{Cut, cuts}
use Rattle.sf_types.specs.Space.Due.{flush_of}
use Rattle.sf_types.specs.Space.Reach.{reach}
use Rattle.sf_types.specs.Space.Contents.{blocks_of}
use Rattle.sf_types.specs.Space.Use.{content_of, free_of}

-- A shared birth with these bytes.
abbrev pub is_shared_as : List Content → List ℕ → ℕ → Bool
is_shared_as contents bytes birth =
    option_map_or (λ x. x.is_shared && bytes_eq x.bytes bytes) (content_of contents birth) false

-- A cut is found where it is sharing and a shared birth among those that are reached has its content.
abbrev pub found_birth : List Content → List ℕ → Cut → Option ℕ
found_birth contents reached cut = if cut.is_sharing then find (is_shared_as contents cut.bytes) reached else None

-- Whether a cut is found.
abbrev pub is_found : List Content → List ℕ → Cut → Bool
is_found contents reached cut = is_some (found_birth contents reached cut)

-- The births that were found for some cuts, rising.
abbrev pub found_births : List Content → List ℕ → List Cut → List ℕ
found_births contents reached of = rising_births (filter_map (found_birth contents reached) of)

-- Two sharing cuts of one content.
abbrev pub is_equal_sharing : Cut → Cut → Bool
is_equal_sharing cut other = cut.is_sharing && other.is_sharing && bytes_eq cut.bytes other.bytes

-- The cuts that aren't found, equal sharing ones once, every other one by itself. `earlier` are the cuts before these.
abbrev pub new_cuts : List Content → List ℕ → List Cut → List Cut → List Cut
new_cuts contents reached earlier [] = []
new_cuts contents reached earlier (cut ∷ rest) =
    if is_found contents reached cut || list_any (is_equal_sharing cut) earlier
    then new_cuts contents reached (cut ∷ earlier) rest
    else cut ∷ new_cuts contents reached (cut ∷ earlier) rest

-- The blocks that these cuts want.
abbrev pub wanted_blocks : List Content → List ℕ → List Cut → ℕ
wanted_blocks contents reached of = sum_by (λ cut. blocks_of (length cut.bytes)) (new_cuts contents reached [] of)

-- The table with another floor.
abbrev pub with_floor : Table → ℕ → Table
with_floor t h = record t { floor = h }

-- The floors that a promise may try: the floor alone, and with the option max all numbers from it to the number of
-- commits.
abbrev pub floor_candidates : Table → List ℕ
floor_candidates t = if t.options.max then range_with_len t.floor (commit_count t + 1 - t.floor) else t.floor ∷ []

-- The cuts of what a call flushes.
abbrev pub flush_cuts : Table → ℕ → Call → List Cut
flush_cuts t s c = cuts t.options (flush_of t (session_of t s) c)

-- The blocks that some cuts want at another floor.
abbrev pub wanted_blocks_at : Table → List Cut → ℕ → ℕ
wanted_blocks_at t of h = wanted_blocks t.contents (reach (with_floor t h)) of

-- Whether they are at most the blocks that are free there.
abbrev pub fits_at : Table → List Cut → ℕ → Bool
fits_at t of h = nat_le (wanted_blocks_at t of h) (free_of (with_floor t h))

-- The table once a promise is granted at a candidate: that is the floor, and the promise stands with the blocks that are
-- wanted there and the births that are found there.
abbrev pub table_with_promise : Table → ℕ → Call → List Cut → ℕ → Table
table_with_promise t s c of h = with_session (with_floor t h) s (record (session_of t s) {
  promise = Some (record {
    call = c;
    blocks = wanted_blocks_at t of h;
    births = found_births t.contents (reach (with_floor t h)) of;
  });
})

-- The refusal for want of space: the blocks that are wanted at a candidate, and those that are free there.
abbrev pub no_space_at : Table → List Cut → ℕ → Reply
no_space_at t of g = Refused (fault.NoSpace (wanted_blocks_at t of g) (free_of (with_floor t g)))

-- The last floor that a promise may try.
abbrev pub last_candidate : Table → ℕ
last_candidate t = unwrap_or (last_or None (floor_candidates t)) t.floor

-- A promise is granted at the least candidate at which the call fits. Where it fits at none, the call is refused with the
-- numbers of the last one, and nothing changes.
abbrev pub promise_at : Table → ℕ → Call → List Cut → Option ℕ → Table × Option Reply
promise_at t s c of (Some h) = (table_with_promise t s c of h, None)
promise_at t s c of None = (t, Some (no_space_at t of (last_candidate t)))

-- The promise of a due call.
abbrev pub promise : Table → ℕ → Call → Table × Option Reply
promise t s c =
    let of = flush_cuts t s c in
    promise_at t s c of (find (fits_at t of) (floor_candidates t))

-- A cancel ends a promise without ending its call.
abbrev pub cancel : Table → ℕ → Table
cancel t s = with_session t s (record (session_of t s) { promise = None })
