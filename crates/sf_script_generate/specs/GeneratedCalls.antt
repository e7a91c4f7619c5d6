-- The calls of the generated script, each drawn (our own).
use Rattle.std.specs.Prelude.{ℕ, ◌+◌, ◌==◌, nat_le, List, ◌∷◌, replicate, if◌then◌else◌, codes}
use Rattle.std.specs.Fmt.{decimal}
use Rattle.sf_types.specs.declared.call.Call.{Call}
use Rattle.sf_types.specs.declared.call.Call.TheVariants as calls
use Rattle.sf_script_generate.specs.Draws.{Drawn, ◌>>=◌, give, draw}

-- The locator of each session for its own row.
abbrev pub own : List ℕ
own = codes "p"

-- The locator of each session for the row of session 1.
abbrev pub other : List ℕ
other = codes "q"

-- The row of a session: `r` and its number.
abbrev pub row_of : ℕ → List ℕ
row_of session = 114 ∷ decimal session

-- 1 + draw 3000 copies of the byte 97 + draw 8
unfoldable pub drawn_payload : Drawn (List ℕ)
drawn_payload = do
  count ← draw 3000
  byte ← draw 8
  give (replicate (1 + count) (97 + byte))

-- `writeappend p` with a payload
unfoldable pub drawn_append : Drawn Call
drawn_append = do
  bytes ← drawn_payload
  give (calls.WriteAppend own bytes)

-- `fraginsert p 1` with a payload
unfoldable pub drawn_insert : Drawn Call
drawn_insert = do
  bytes ← drawn_payload
  give (calls.FragInsert own 1 bytes)

-- `fragdelete p`, amount 1 + draw 100, offset 1
unfoldable pub drawn_delete : Drawn Call
drawn_delete = do
  amount ← draw 100
  give (calls.FragDelete own (1 + amount) 1)

-- `fragmove p`, amount 1 + draw 50, from 1, to 1 + draw 2000
unfoldable pub drawn_move : Drawn Call
drawn_move = do
  amount ← draw 50
  to ← draw 2000
  give (calls.FragMove own (1 + amount) 1 (1 + to))

-- `read p 100`, offset 1 + draw 4000
unfoldable pub drawn_read : Drawn Call
drawn_read = do
  offset ← draw 4000
  give (calls.Read own 100 (1 + offset))

-- `copy p q`, amount 1 + draw 500, to 1, from 1
unfoldable pub drawn_copy : Drawn Call
drawn_copy = do
  amount ← draw 500
  give (calls.Copy own other (1 + amount) 1 1)

-- The calls that draw no number.
unfoldable pub plain_call : ℕ → ℕ → Call
plain_call session drawn =
    if drawn == 11 then calls.Commit
    else if drawn == 12 then calls.Lock own (row_of session)
    else if drawn == 13 then calls.Select other (row_of 1)
    else calls.Rollback

-- The call of a draw of 16.
unfoldable pub call_of_draw : ℕ → ℕ → Drawn Call
call_of_draw session drawn =
    if nat_le drawn 5 then drawn_append
    else if nat_le drawn 7 then drawn_insert
    else if drawn == 8 then drawn_delete
    else if drawn == 9 then drawn_move
    else if drawn == 10 then drawn_read
    else if drawn == 14 then drawn_copy
    else give (plain_call session drawn)

-- A later call of a session.
unfoldable pub drawn_call : ℕ → Drawn Call
drawn_call session = do
  drawn ← draw 16
  call_of_draw session drawn

-- The call of a session that stands behind so many: first it makes its row, then locks it, and each later one is drawn.
unfoldable pub generated_call : ℕ → ℕ → Drawn Call
generated_call session step =
    if step == 0 then give (calls.Insert (row_of session))
    else if step == 1 then give (calls.Lock own (row_of session))
    else drawn_call session
