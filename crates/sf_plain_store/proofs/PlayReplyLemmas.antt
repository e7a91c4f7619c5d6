-- The replies to the calls of a history that goes on.
use Rattle.std.proofs.Common.{◌≡◌, ℕ, false, cond, List, [], ◌∷◌, ◌++◌, Option, None, refl, sym, ap, ◌∙◌, append_assoc}
use Rattle.std.specs.Prelude.{◌==◌}
use Rattle.std.specs.List.{AllByRecursion as Each, cons_option}
use Rattle.std.proofs.lemmas.List.{append-nil}
use Rattle.std.proofs.lemmas.List.Elements.{filter_map-append}
use Rattle.sf_types.specs.declared.call.Call.{Call}
use Rattle.sf_types.specs.declared.history.Entry.{Entry}
use Rattle.sf_types.specs.declared.history.Kind.{Kind}
use Rattle.sf_types.specs.declared.options.Options.{Options}
use Rattle.sf_types.specs.declared.reply.Reply.{Reply}
use Rattle.sf_types.specs.Table.Parts.{Table, opening_table}
use Rattle.sf_types.specs.Orders.Histories.{effect_of, entry_of, call_entries, table_after, history_table, replies_from, reply_to, replies_to, history_replies}
use Rattle.sf_types.proofs.NumberLemmas.{own_number, other_number}
use Rattle.sf_laws.proofs.OwnRunLemmas.{run-append}

-- the replies of entries, one after the other
answers-append : (t : Table) (xs ys : List Entry) → replies_from t (xs ++ ys) ≡ replies_from t xs ++ replies_from (table_after t xs) ys
answers-append t [] ys = refl
answers-append t (x ∷ xs) ys = ap (λ (rest : List (ℕ × Option Reply)). (x.token.session, (effect_of t x).1) ∷ rest) (answers-append (effect_of t x).0 xs ys)

-- a history that goes on
pub replies_more : (options : Options) (sessions : ℕ) (history es : List Entry) (s : ℕ)
    → history_replies options sessions (history ++ es) s ≡ history_replies options sessions history s ++ replies_to s (replies_from (history_table options sessions history) es)
replies_more options sessions history es s =
    let t = opening_table options sessions in
    ap (replies_to s) (answers-append t history es) ∙ filter_map-append (reply_to s) (replies_from t history) (replies_from (table_after t history) es)

-- entries of a session bring no reply to another
replies_of_other : (r s : ℕ) (t : Table) (es : List Entry) → (r ≡ s → ⊥) → Each (λ e. e.token.session ≡ s) es → replies_to r (replies_from t es) ≡ []
replies_of_other r s t [] apart all = refl
replies_of_other r s t (e ∷ es) apart all =
    let other : (e.token.session == r) ≡ false = other_number e.token.session r (λ same. apart (sym same ∙ all.0)) in
    ap (λ b. cons_option (cond b (effect_of t e).1 None) (replies_to r (replies_from (effect_of t e).0 es))) other
    ∙ replies_of_other r s (effect_of t e).0 es apart all.1

pub replies_still : (options : Options) (sessions : ℕ) (history es : List Entry) (r s : ℕ) → (r ≡ s → ⊥) → Each (λ e. e.token.session ≡ s) es
    → history_replies options sessions (history ++ es) r ≡ history_replies options sessions history r
replies_still options sessions history es r s apart all =
    replies_more options sessions history es r
    ∙ ap (λ (rs : List Reply). history_replies options sessions history r ++ rs) (replies_of_other r s (history_table options sessions history) es apart all)
    ∙ append-nil (history_replies options sessions history r)

-- one more entry of the session itself
pub replies_one : (options : Options) (sessions : ℕ) (history : List Entry) (s : ℕ) (k : Kind) (c : Call)
    → history_replies options sessions (history ++ entry_of s k c ∷ []) s ≡ history_replies options sessions history s ++ cons_option (effect_of (history_table options sessions history) (entry_of s k c)).1 []
replies_one options sessions history s k c =
    let t = history_table options sessions history in
    replies_more options sessions history (entry_of s k c ∷ []) s
    ∙ ap (λ b. history_replies options sessions history s ++ cons_option (cond b (effect_of t (entry_of s k c)).1 None) []) (own_number s)

-- the same behind local calls
pub replies_behind : (options : Options) (sessions : ℕ) (history : List Entry) (s : ℕ) (locals : List Call) (k : Kind) (c : Call) (t : Table) → t ≡ history_table options sessions history
    → history_replies options sessions (history ++ (call_entries s locals ++ entry_of s k c ∷ [])) s
    ≡ history_replies options sessions (history ++ call_entries s locals) s ++ cons_option (effect_of (table_after t (call_entries s locals)) (entry_of s k c)).1 []
replies_behind options sessions history s locals k c t is =
    let o = opening_table options sessions in
    let front = history ++ call_entries s locals in
    let u : history_table options sessions front ≡ table_after t (call_entries s locals) = run-append o history (call_entries s locals) ∙ ap (λ (x : Table). table_after x (call_entries s locals)) (sym is) in
    ap (λ (es : List Entry). history_replies options sessions es s) (sym (append_assoc history (call_entries s locals) (entry_of s k c ∷ [])))
    ∙ replies_one options sessions front s k c
    ∙ ap (λ (x : Table). history_replies options sessions front s ++ cons_option (effect_of x (entry_of s k c)).1 []) u
