-- What a call does, by the store's half and the session's own part.
use Rattle.std.specs.Prelude.{◌≡◌, ℕ, ◌≤◌, ◌<◌, false, true, List, Option, Some, None, if◌then◌else◌}
use Rattle.sf_types.specs.declared.call.Call.{Call}
use Rattle.sf_types.specs.declared.reply.Fault.TheVariants as fault
use Rattle.sf_types.specs.declared.reply.Reply.{Reply}
use Rattle.sf_types.specs.declared.reply.Reply.TheVariants as reply
use Rattle.sf_types.specs.Table.Parts.{Table}
use Rattle.sf_types.specs.Table.Sessions.{session_of, with_session}
use Rattle.sf_types.specs.Table.Versions.{commit_count}
use Rattle.sf_types.specs.Space.Cuts.{Cut}
use Rattle.sf_types.specs.Space.Reach.{reach}
use Rattle.sf_types.specs.Space.Use.{free_of}
use Rattle.sf_types.specs.Space.Promises.{found_births, with_floor, wanted_blocks_at, fits_at}
use Rattle.sf_types.specs.Halves.Own.{Own, own_of}
use Rattle.sf_types.specs.Halves.Asks.{Answer, Half, half_of, after_answer}
use Rattle.sf_types.specs.Halves.Flushes.{Verdict, refusal_of}

-- A call does what the store answers and the session makes of the answer.
pub record Agrees (o : Own) (s : ℕ) (c : Call) (done : Table × Reply) (told : Half × Answer) : Type 0 where
  pub half : half_of done.0 ≡ told.0
  pub own : own_of done.0 s ≡ (after_answer o c told.1).0
  pub reply : done.1 ≡ (after_answer o c told.1).1

-- A promise of session s does what the store's verdict says, and leaves the session's own part.
pub record Promises (o : Own) (s : ℕ) (told : Half × Verdict) (done : Table × Option Reply) : Type 0 where
  pub half : half_of done.0 ≡ told.0
  pub own : own_of done.0 s ≡ o
  pub reply : done.1 ≡ refusal_of told.1

-- The last floor that a promise tries: the number of commits with the option max, else the floor itself.
abbrev pub last_floor : Table → ℕ
last_floor t = if t.options.max then commit_count t else t.floor

-- A promise of session s is granted with so many blocks: no reply ends its call. The floor is the least, from the one before
-- up to the last one tried, at which the cuts of the call fit. The promise stands for the call, with the blocks that the cuts
-- want at that floor and the births that are found there, and nothing else of the table is changed.
pub record IsGranted (t : Table) (s : ℕ) (c : Call) (of : List Cut) (blocks : ℕ) (done : Table × Option Reply) : Type 0 where
  pub reply : done.1 ≡ None
  pub low : t.floor ≤ done.0.floor
  pub high : done.0.floor ≤ last_floor t
  pub fits : fits_at t of done.0.floor ≡ true
  pub least : (k : ℕ) → t.floor ≤ k → k < done.0.floor → fits_at t of k ≡ false
  pub wanted : blocks ≡ wanted_blocks_at t of done.0.floor
  pub stands : done.0 ≡ with_session (with_floor t done.0.floor) s (record (session_of t s) {
    promise = Some (record {
      call = c;
      blocks = blocks;
      births = found_births t.contents (reach (with_floor t done.0.floor)) of;
    });
  })

-- A promise is refused with the blocks that are wanted and those that are free: the cuts fit at no floor that is tried. The
-- numbers are those of the last one, the refusal ends the call, and the table is as it was.
pub record IsRefused (t : Table) (of : List Cut) (wanted free : ℕ) (done : Table × Option Reply) : Type 0 where
  pub nowhere : (k : ℕ) → t.floor ≤ k → k ≤ last_floor t → fits_at t of k ≡ false
  pub wanted_there : wanted ≡ wanted_blocks_at t of (last_floor t)
  pub free_there : free ≡ free_of (with_floor t (last_floor t))
  pub reply : done.1 ≡ Some (reply.Refused (fault.NoSpace wanted free))
  pub same : done.0 ≡ t
