-- A session's turn, one call after the other, and what it leaves of the calls and of the replies.
use Rattle.std.proofs.Common.{◌≡◌, ℕ, zero, suc, ◌+◌, ◌-◌, ◌≤◌, Bool, true, false, cond, not, ◌&&◌, ◌⊎◌, List, [], ◌∷◌, ◌++◌, length, drop, Option, Some, None, refl, sym, ap, subst, ◌∙◌, inl, inr, arith, length-append}
use Rattle.std.specs.Prelude.{is_some, slice_index_or}
use Rattle.std.specs.List.{cons_option}
use Rattle.std.proofs.lemmas.List.{append-nil}
use Rattle.sf_types.specs.declared.call.Call.{Call}
use Rattle.sf_types.specs.declared.call.Call.TheVariants as call
use Rattle.sf_types.specs.declared.history.Entry.{Entry}
use Rattle.sf_types.specs.declared.history.Kind.{Kind}
use Rattle.sf_types.specs.declared.history.Kind.TheVariants as kind
use Rattle.sf_types.specs.declared.options.Options.{Options}
use Rattle.sf_types.specs.declared.reply.Reply.{Reply}
use Rattle.sf_types.specs.Table.Parts.{Promise, Table, opening_table}
use Rattle.sf_types.specs.Table.Sessions.{session_of}
use Rattle.sf_types.specs.Space.Due.{is_due}
use Rattle.sf_types.specs.Orders.Histories.{entry_of, call_entries, table_after, history_table, history_replies}
use Rattle.sf_types.specs.Halves.Own.{Own, own_of, own_step, own_due, is_event, is_own_local}
use Rattle.sf_types.specs.Play.Blocks.{collected_by}
use Rattle.sf_types.specs.Play.Turns.{Stage, Action, Ends, Promises, Collects, action_where, action_at, action_reply, stage_after, Playing, turn_from, session_turn}
use Rattle.sf_laws.specs.Plays.{is_done, IsNextCall, calls_left}
use Rattle.sf_laws.proofs.EndedLemmas.{no_end}
use Rattle.sf_laws.proofs.OwnRunLemmas.{run-append}
use Rattle.sf_laws.proofs.PlayLemmas.{behind_entries}
use Rattle.sf_laws.proofs.TurnLemmas.{EndsLast, acted}
use Rattle.sf_plain_store.proofs.PlayReplyLemmas.{replies_still, replies_behind}

-- a turn from its first call on
pub turn_first : (p : Playing) (s : ℕ) (own : Own) (locals rest : List Call) → own ≡ own_of p.stage.table s → locals ≡ [] → rest ≡ calls_left p s → turn_from p s own locals rest ≡ session_turn s p
turn_first p s own locals rest own_is none is =
    ap (λ (cs : List Call). turn_from p s own locals cs) is
    ∙ ap (λ (o : Own). turn_from p s o locals (calls_left p s)) own_is
    ∙ ap (λ (cs : List Call). turn_from p s (own_of p.stage.table s) cs (calls_left p s)) none

-- a local call is passed
pub turn_passes : (p : Playing) (s : ℕ) (own : Own) (locals : List Call) (c : Call) (later : List Call) → is_own_local p.stage.table.options.gather own c ≡ true
    → turn_from p s own locals (c ∷ later) ≡ turn_from p s (own_step own c) (locals ++ c ∷ []) later
turn_passes p s own locals c later is = ap (λ b. cond b (turn_from p s (own_step own c) (locals ++ c ∷ []) later) (acted p s locals c later)) is

-- and the turn acts for the first other one
pub turn_acts : (p : Playing) (s : ℕ) (own : Own) (locals : List Call) (c : Call) (later : List Call) → is_own_local p.stage.table.options.gather own c ≡ false
    → turn_from p s own locals (c ∷ later) ≡ acted p s locals c later
turn_acts p s own locals c later is = ap (λ b. cond b (turn_from p s (own_step own c) (locals ++ c ∷ []) later) (acted p s locals c later)) is

-- a local call is no End, so a call follows it
pub local_goes_on : (gather : ℕ) (o : Own) (c : Call) (later : List Call) → is_own_local gather o c ≡ true → EndsLast (c ∷ later) → is_done later ≡ false
local_goes_on gather o c later is last = sym last.0 ∙ no_end c (first (is_event c) (own_due gather o c) is)
  where
    first : (a b : Bool) → (not a && not b) ≡ true → a ≡ false
    first true b is = absurd cc
    first false b is = refl

-- calls from one on
pub next_from : (own : List Call) (n : ℕ) → n ≤ length own → drop n (own ++ call.End ∷ []) ≡ slice_index_or own n call.End ∷ drop (suc n) (own ++ call.End ∷ [])
next_from [] zero le = refl
next_from [] (suc n) le = absurd (omega (arith, le))
next_from (c ∷ own) zero le = refl
next_from (c ∷ own) (suc n) le = next_from own n (omega (arith, le))

pub some_from : (own : List Call) (n : ℕ) → is_done (drop n (own ++ call.End ∷ [])) ≡ false → n ≤ length own
some_from [] zero some = omega arith
some_from [] (suc zero) some = absurd cc
some_from [] (suc (suc n)) some = absurd cc
some_from (c ∷ own) zero some = omega arith
some_from (c ∷ own) (suc n) some = let rest = some_from own n some in omega (arith, rest)

-- a next call is the first one
pub next_first : (c : Call) (rest : List Call) → IsNextCall c rest → (later : List Call) × (rest ≡ c ∷ later)
next_first c [] next = absurd next
next_first c (d ∷ later) next = (later, ap (λ (x : Call). x ∷ later) next)

pub first_next : (c : Call) (rest later : List Call) → rest ≡ c ∷ later → IsNextCall c rest
first_next c rest later is = subst (IsNextCall c) (sym is) refl

-- the calls behind the first one
pub drop_next : (cs : List Call) (n : ℕ) (c : Call) (later : List Call) → drop n cs ≡ c ∷ later → drop (suc n) cs ≡ later
drop_next [] zero c later is = absurd cc
drop_next [] (suc n) c later is = absurd cc
drop_next (d ∷ cs) zero c later is = tail is
  where
    tail : {d c : Call} {cs later : List Call} → d ∷ cs ≡ c ∷ later → cs ≡ later
    tail is = cc
drop_next (d ∷ cs) (suc n) c later is = drop_next cs n c later is

-- the calls that are left where a call was replied or not
pub left_after : (cs : List Call) (replies : List Reply) (told : Option Reply) (c : Call) (later : List Call) → drop (length replies) cs ≡ c ∷ later
    → drop (length (replies ++ cons_option told [])) cs ≡ cond (is_some told) later (c ∷ later)
left_after cs replies None c later is = ap (λ (rs : List Reply). drop (length rs) cs) (append-nil replies) ∙ is
left_after cs replies (Some r) c later is = ap (λ n. drop n cs) (length-append replies (r ∷ []) ∙ one) ∙ drop_next cs (length replies) c later is
  where
    one : length replies + 1 ≡ suc (length replies)
    one = omega arith

-- the table after an action is the one after the history
pub table_acted : (options : Options) (sessions : ℕ) (x : Stage) (s : ℕ) (locals : List Call) (c : Call) (a : Action) → x.table ≡ history_table options sessions x.history
    → (stage_after x s locals c a).table ≡ history_table options sessions (stage_after x s locals c a).history
table_acted options sessions x s locals c Ends is = ended options sessions x (call_entries s locals ++ entry_of s kind.Call c ∷ []) is
  where
    ended : (options : Options) (sessions : ℕ) (x : Stage) (es : List Entry) → x.table ≡ history_table options sessions x.history → table_after x.table es ≡ history_table options sessions (x.history ++ es)
    ended options sessions x es is = ap (λ (t : Table). table_after t es) is ∙ sym (run-append (opening_table options sessions) x.history es)
table_acted options sessions x s locals c Promises is = ap (λ (t : Table). table_after t (call_entries s locals ++ entry_of s kind.Promise c ∷ [])) is ∙ sym (run-append (opening_table options sessions) x.history (call_entries s locals ++ entry_of s kind.Promise c ∷ []))
table_acted options sessions x s locals c (Collects n) is = is

-- an action brings another session no reply
pub others_replies : (options : Options) (sessions : ℕ) (x : Stage) (r s : ℕ) (locals : List Call) (c : Call) (a : Action) → (r ≡ s → ⊥)
    → history_replies options sessions (stage_after x s locals c a).history r ≡ history_replies options sessions x.history r
others_replies options sessions x r s locals c Ends apart = replies_still options sessions x.history (call_entries s locals ++ entry_of s kind.Call c ∷ []) r s apart (behind_entries s locals kind.Call c)
others_replies options sessions x r s locals c Promises apart = replies_still options sessions x.history (call_entries s locals ++ entry_of s kind.Promise c ∷ []) r s apart (behind_entries s locals kind.Promise c)
others_replies options sessions x r s locals c (Collects n) apart = refl

-- the replies of the session itself
pub own_replies_acted : (options : Options) (sessions : ℕ) (x : Stage) (s : ℕ) (locals : List Call) (c : Call) (a : Action) → x.table ≡ history_table options sessions x.history → ((n : ℕ) → a ≡ Collects n → locals ≡ [])
    → history_replies options sessions (stage_after x s locals c a).history s ≡ history_replies options sessions (x.history ++ call_entries s locals) s ++ cons_option (action_reply x s locals c a) []
own_replies_acted options sessions x s locals c Ends is none = replies_behind options sessions x.history s locals kind.Call c x.table is
own_replies_acted options sessions x s locals c Promises is none = replies_behind options sessions x.history s locals kind.Promise c x.table is
own_replies_acted options sessions x s locals c (Collects n) is none =
    let same : x.history ++ call_entries s locals ≡ x.history = ap (λ (cs : List Call). x.history ++ call_entries s cs) (none n refl) ∙ append-nil x.history in
    sym (append-nil (history_replies options sessions (x.history ++ call_entries s locals) s) ∙ ap (λ (es : List Entry). history_replies options sessions es s) same)

-- a collection has no local calls before it, where a promise has none
pub collects_alone : (x : Stage) (s : ℕ) (locals : List Call) (c : Call) → (locals ≡ []) ⊎ ((session_of (table_after x.table (call_entries s locals)) s).promise ≡ None) → (n : ℕ) → action_at x s locals c ≡ Collects n → locals ≡ []
collects_alone x s locals c either n is = elim either [
  | inl none ↦ none
  | inr free ↦ absurd (never (is_due u s c) (sym (ap (λ (o : Option Promise). action_where o (is_due u s c) (length (collected_by x.space s))) free) ∙ is))
]
  where
    u : Table
    u = table_after x.table (call_entries s locals)

    never : (b : Bool) → cond b Promises Ends ≡ Collects n → ⊥
    never true is = cc
    never false is = cc
