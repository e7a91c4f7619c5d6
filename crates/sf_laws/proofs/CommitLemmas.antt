-- What entries do to the commits.
use Rattle.std.proofs.Common.{◌≡◌, ℕ, suc, ◌+◌, ◌≤◌, Bool, true, false, not, ◌&&◌, ◌||◌, cond, List, [], ◌∷◌, ◌++◌, length, take, drop, Option, Some, None, refl, sym, ap, subst, arith}
use Rattle.std.specs.Prelude.{nat_lt}
use Rattle.std.specs.List.{list_any, list_all}
use Rattle.std.specs.Option.{option_map_or}
use Rattle.std.proofs.lemmas.List.{length-append, length-map, length-take, length-drop}
use Rattle.sf_types.specs.declared.call.Call.{Call}
use Rattle.sf_types.specs.declared.call.Call.TheVariants as call
use Rattle.sf_types.specs.declared.history.Kind.{Kind}
use Rattle.sf_types.specs.declared.history.Kind.TheVariants as kind
use Rattle.sf_types.specs.declared.options.Options.{Options}
use Rattle.sf_types.specs.declared.reply.Fault.{Fault}
use Rattle.sf_types.specs.declared.reply.Reply.{Reply}
use Rattle.sf_types.specs.declared.reply.Reply.TheVariants as reply
use Rattle.sf_types.specs.Values.Marks.{Value}
use Rattle.sf_types.specs.Table.Parts.{Content, Promise, Rows, Session, Table}
use Rattle.sf_types.specs.Table.Sessions.{session_of, with_session}
use Rattle.sf_types.specs.Table.Versions.{commit_count}
use Rattle.sf_types.specs.Calls.Refusals.{refusal_or}
use Rattle.sf_types.specs.Calls.WritingCalls.{written_name}
use Rattle.sf_types.specs.Calls.TransactionEnds.{commit_call, with_commit}
use Rattle.sf_types.specs.Space.Cuts.{Cut, is_sharing, contents_of_value, cuts, cuts_of_value, settle, settle_value}
use Rattle.sf_types.specs.Space.Due.{has_fresh, is_due}
use Rattle.sf_types.specs.Space.Reach.{reach}
use Rattle.sf_types.specs.Space.Promises.{flush_cuts, promise_at}
use Rattle.sf_types.specs.Space.Publications.{births_for, contents_with, reached_with, publish_of, publish_write, without_promise, with_contents, settled_flush}
use Rattle.sf_types.specs.Calls.Steps.{step}
use Rattle.sf_types.specs.Orders.Histories.{IsLegalBeside, IsLegal, call_effect, entry_effect}
use Rattle.sf_laws.specs.Committed.{are_stored, IsAllStored}
use Rattle.sf_laws.proofs.StretchLemmas.{segments_maximal, segments-fresh}

and-is : (a b : Bool) → a ≡ true → b ≡ true → (a && b) ≡ true
and-is true b one two = two
and-is false b one two = absurd cc

-- what is refused leaves the commits, as does what is done
left-is : (o : Option Fault) (t : Table) (done : Table × Reply) → done.0.commits ≡ t.commits → (refusal_or o t done).0.commits ≡ t.commits
left-is None t done same = same
left-is (Some f) t done same = refl

-- no call but Commit changes the commits
pub step-commits : (t : Table) (s : ℕ) (c : Call) → (c ≡ call.Commit → ⊥) → (step t s c).0.commits ≡ t.commits
step-commits t s (call.Insert row) other = left-is _ t _ refl
step-commits t s (call.Delete row) other = left-is _ t _ refl
step-commits t s (call.Lock to row) other = left-is _ t _ refl
step-commits t s (call.Select to row) other = left-is _ t _ refl
step-commits t s (call.SelectAsOf to row n) other = left-is _ t _ refl
step-commits t s (call.RollbackTo name) other = left-is _ t _ refl
step-commits t s call.Commit other = absurd (other refl)
step-commits t s c other = refl

-- rows without a fresh byte
none-fresh : (rows : Rows) → list_any (λ e. has_fresh e.1) rows ≡ false → are_stored rows ≡ true
none-fresh [] none = refl
none-fresh (e ∷ rows) none = choose (has_fresh e.1) none (none-fresh rows)
  where
    choose : (b : Bool) → (b || list_any (λ x. has_fresh x.1) rows) ≡ false → (list_any (λ x. has_fresh x.1) rows ≡ false → are_stored rows ≡ true) → (not b && are_stored rows) ≡ true
    choose true none rest = absurd cc
    choose false none rest = rest none

stored-more : (commits : List Rows) (rows : Rows) → list_all are_stored commits ≡ true → are_stored rows ≡ true → list_all are_stored (commits ++ rows ∷ []) ≡ true
stored-more [] rows all last = and-is (are_stored rows) true last refl
stored-more (c ∷ commits) rows all last = choose (are_stored c) all (stored-more commits rows)
  where
    choose : (b : Bool) → (b && list_all are_stored commits) ≡ true → (list_all are_stored commits ≡ true → are_stored rows ≡ true → list_all are_stored (commits ++ rows ∷ []) ≡ true) → (b && list_all are_stored (commits ++ rows ∷ [])) ≡ true
    choose true all rest = rest all last
    choose false all rest = absurd cc

-- a commit of rows without a fresh byte
commit-stored : (t : Table) (s : ℕ) (p : Session) → IsAllStored t → are_stored p.working ≡ true → IsAllStored (commit_call t s p).0
commit-stored t s p all last = choose p.is_open
  where
    choose : (b : Bool) → IsAllStored (cond {A = Table × Reply} b (with_commit t s p, reply.Committed (commit_count t + 1)) (with_session t s (record p { savepoints = [] }), reply.Committed (commit_count t))).0
    choose true = stored-more t.commits p.working all last
    choose false = all

-- a settled value has no fresh byte, where there is a birth for each of its contents
value-stored : (v : Value) (births : List ℕ) → length (contents_of_value v) ≤ length births → has_fresh (Some (settle_value v births)) ≡ false
value-stored v births le = ap (nat_lt 0) (ap length (segments-fresh _ births (segments_maximal v.bytes) le))

pub settled-stored : (options : Options) (rows : Rows) (births : List ℕ) → length (cuts options rows) ≤ length births → are_stored (settle rows births) ≡ true
settled-stored options [] births le = refl
settled-stored options ((name, None) ∷ rows) births le = settled-stored options rows births le
settled-stored options ((name, Some v) ∷ rows) births le =
    let count = length (contents_of_value v) in
    let both = length-append (cuts_of_value options v) (cuts options rows) in
    let own : length (cuts_of_value options v) ≡ count = length-map (contents_of_value v) (λ (bytes : List ℕ). record { bytes = bytes; is_sharing = is_sharing options v.choice }) in
    let first = value-stored v (take count births) (omega (arith, le, both, own, length-take count births)) in
    and-is (not (has_fresh (Some (settle_value v (take count births))))) (are_stored (settle rows (drop count births)))
    (ap not first) (settled-stored options rows (drop count births) (omega (arith, le, both, own, length-drop count births)))

pub births-length : (contents : List Content) (reached : List ℕ) (of : List Cut) → length (births_for contents reached of) ≡ length of
births-length contents reached [] = refl
births-length contents reached (cut ∷ of) = ap (λ n. suc n) (births-length (contents_with contents reached cut) (reached_with contents reached cut) of)

-- a publication
other-commits : (t : Table) (s : ℕ) (p : Session) (c : Call) (o : Option (List ℕ)) → (option_map_or (λ at. publish_write t s p at c) o (with_session t s (without_promise p), reply.Done)).0.commits ≡ t.commits
other-commits t s p c None = refl
other-commits t s p c (Some at) = refl

flush-stored : (t : Table) (s : ℕ) → are_stored (settled_flush t s call.Commit) ≡ true
flush-stored t s =
    settled-stored t.options (session_of t s).working (births_for t.contents (reach t) (flush_cuts t s call.Commit))
    (omega (arith, births-length t.contents (reach t) (flush_cuts t s call.Commit)))

publish-stored : (t : Table) (s : ℕ) (c : Call) → IsAllStored t → IsAllStored (publish_of t s (session_of t s) c).0
publish-stored t s call.Commit all =
    commit-stored (with_contents t s call.Commit) s (record (without_promise (session_of t s)) { working = settled_flush t s call.Commit }) all (flush-stored t s)
publish-stored t s c all = subst (λ (commits : List Rows). list_all are_stored commits ≡ true) (sym (other-commits t s (session_of t s) c (written_name c))) all

call-stored : (t : Table) (s : ℕ) (c : Call) → is_due t s c ≡ false → IsAllStored t → IsAllStored (step t s c).0
call-stored t s call.Commit due all = commit-stored t s (session_of t s) all (none-fresh (session_of t s).working due)
call-stored t s c due all = subst (λ (commits : List Rows). list_all are_stored commits ≡ true) (sym (step-commits t s c (λ is. absurd cc))) all

ended-stored : (t : Table) (s : ℕ) (c : Call) (o : Option Promise) → IsLegalBeside o (is_due t s c) kind.Call c → IsAllStored t → IsAllStored (call_effect o t s c).0
ended-stored t s c None due all = call-stored t s c due all
ended-stored t s c (Some q) same all = publish-stored t s c all

promised-commits : (t : Table) (s : ℕ) (c : Call) (of : List Cut) (o : Option ℕ) → (promise_at t s c of o).0.commits ≡ t.commits
promised-commits t s c of None = refl
promised-commits t s c of (Some h) = refl

pub entry-stored : (t : Table) (s : ℕ) (k : Kind) (c : Call) → IsLegal t s k c → IsAllStored t → IsAllStored (entry_effect t s k c).0
entry-stored t s kind.Call c legal all = ended-stored t s c (session_of t s).promise legal.standing all
entry-stored t s kind.Promise c legal all = subst (λ (commits : List Rows). list_all are_stored commits ≡ true) (sym (promised-commits t s c (flush_cuts t s c) _)) all
entry-stored t s kind.Cancel c legal all = all
