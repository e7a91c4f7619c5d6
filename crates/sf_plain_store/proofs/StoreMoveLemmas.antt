-- A store whose Book moved on, as a stage of a play.
use Rattle.std.proofs.Common.{◌≡◌, ℕ, ◌-◌, Bool, cond, IsTrue, List, [], ◌∷◌, ◌++◌, length, map, Option, Some, None, refl, sym, ap, subst, ◌∙◌}
use Rattle.std.specs.Prelude.{is_some}
use Rattle.sf_types.specs.declared.history.Entry.{Entry}
use Rattle.sf_types.specs.declared.options.Options.{Options}
use Rattle.sf_types.specs.Table.Parts.{Promise, Table, opening_table}
use Rattle.sf_types.specs.Table.Sessions.{session_of}
use Rattle.sf_types.specs.Space.BlockRuns.{blocks_in}
use Rattle.sf_types.specs.Space.Placings.{Placed}
use Rattle.sf_types.specs.Orders.Histories.{history_table, table_after}
use Rattle.sf_types.specs.Play.Blocks.{Space, after_entries, after_publication, collected_by, departed_blocks, places_after}
use Rattle.sf_types.specs.Play.Turns.{Stage, with_entries}
use Rattle.sf_laws.specs.Stages.{IsSoundStage}
use Rattle.sf_laws.proofs.OwnRunLemmas.{run-append}
use Rattle.sf_laws.proofs.StageLemmas.{Holds, sound_holds}
use Rattle.sf_block_space.specs.Free.{FreeSpace}
use Rattle.sf_book.specs.Books.{BookView, table_of}
use Rattle.sf_book.specs.Moves.{IsMoved}
use Rattle.sf_plain_store.specs.declared.due_calls.DueCall.{DueCall}
use Rattle.sf_plain_store.specs.Stores.{StoreView, stage_of, with_stage}
use Rattle.sf_plain_store.specs.Inside.Bodies.{store_of}

-- The blocks that were collected for due calls.
abbrev pub blocks_collected : List DueCall → List (List ℕ)
blocks_collected due_calls = map (λ due. blocks_in due.blocks.held) due_calls

-- A store by all its parts.
abbrev pub store_with : Options → ℕ → List Entry → List Placed → List ℕ → List ℕ → List (List ℕ) → StoreView
store_with options sessions history places parked free collected = record {
  options = options;
  sessions = sessions;
  history = history;
  space = record { places = places; parked = parked; free = free; collected = collected };
}

-- stores of equal parts
pub same_store : (o p : Options) (m n : ℕ) (h i : List Entry) (x y : List Placed) (j k f g : List ℕ) (c d : List (List ℕ))
    → o ≡ p → m ≡ n → h ≡ i → x ≡ y → j ≡ k → f ≡ g → c ≡ d → store_with o m h x j f c ≡ store_with p n i y k g d
same_store o p m n h i x y j k f g c d options sessions history places parked free collected =
    ap (λ (v : Options). store_with v m h x j f c) options
    ∙ ap (λ (v : ℕ). store_with p v h x j f c) sessions
    ∙ ap (λ (v : List Entry). store_with p n v x j f c) history
    ∙ ap (λ (v : List Placed). store_with p n i v j f c) places
    ∙ ap (λ (v : List ℕ). store_with p n i y v f c) parked
    ∙ ap (λ (v : List ℕ). store_with p n i y k v c) free
    ∙ ap (λ (v : List (List ℕ)). store_with p n i y k g v) collected

-- the table of a Book that gained entries
pub moved_table : (before after : BookView) (es : List Entry) (given : List ℕ) → IsMoved before after es given → table_of after ≡ table_after (table_of before) es
moved_table before after es given moved =
    ap (λ (o : Options). history_table o after.sessions after.history) moved.options
    ∙ ap (λ n. history_table before.options n after.history) moved.sessions
    ∙ ap (λ h. history_table before.options before.sessions h) moved.history
    ∙ run-append (opening_table before.options before.sessions) before.history es

-- entries of a session without a promise
pub moved_store : (before after : BookView) (free : FreeSpace) (due_calls next : List DueCall) (s : ℕ) (es : List Entry) → IsMoved before after es [] → (session_of (table_of before) s).promise ≡ None
    → blocks_collected next ≡ blocks_collected due_calls
    → store_of after free next ≡ with_stage (store_of before free due_calls) (with_entries (stage_of (store_of before free due_calls)) s es)
moved_store before after free due_calls next s es moved none same =
    let t = table_of before in
    let u = table_after t es in
    let table = moved_table before after es [] moved in
    let v = store_of before free due_calls in
    let space : Space = after_entries t u v.space in
    same_store after.options before.options after.sessions before.sessions after.history (before.history ++ es) after.places (places_after t u before.places []) after.parked (before.parked ++ departed_blocks u before.places)
    (blocks_in free.runs) (blocks_in free.runs) (blocks_collected next) (blocks_collected due_calls)
    moved.options moved.sessions moved.history
    (moved.places ∙ ap (λ (x : Table). places_after t x before.places []) table)
    (moved.parked ∙ ap (λ (x : Table). before.parked ++ departed_blocks x before.places) table)
    refl same
    ∙ ap (λ (o : Option Promise). with_stage v (record { history = before.history ++ es; table = u; space = cond (is_some o) (after_publication t u s v.space) space })) (sym none)

-- a store at a stage that holds
pub at_stage : (v : StoreView) (y : Stage) → y.table ≡ history_table v.options v.sessions y.history → stage_of (with_stage v y) ≡ y
at_stage v y table = ap (λ (t : Table). record { history = y.history; table = t; space = y.space }) (sym table)

pub sound_at : (v after : StoreView) (y : Stage) → after ≡ with_stage v y → Holds v.options v.sessions y → IsSoundStage after.options after.sessions (stage_of after)
sound_at v after y is holds =
    subst (λ (w : StoreView). IsSoundStage w.options w.sessions (stage_of w)) (sym is)
    (subst (IsSoundStage v.options v.sessions) (sym (at_stage v y holds.table)) (sound_holds v.options v.sessions y holds))
