-- The transcript of a script's play is right, with the order and the places of its turns.
use Rattle.std.proofs.Common.{◌≡◌, ◌≢◌, ℕ, ◌-◌, true, true≢false, leb, List, [], ◌∷◌, length, map, refl, sym, ap, subst, ◌∙◌}
use Rattle.std.specs.List.{AllByRecursion, list_all}
use Rattle.std.proofs.lemmas.Bool.{and_parts, leb-true}
use Rattle.std.proofs.lemmas.List.Elements.{All-from_recursion}
use Rattle.sf_types.specs.declared.call.Call.{Call}
use Rattle.sf_types.specs.declared.call.Call.TheVariants as calls
use Rattle.sf_types.specs.declared.history.Token.{Token}
use Rattle.sf_types.specs.declared.options.Options.{Options}
use Rattle.sf_types.specs.Table.Parts.{Table}
use Rattle.sf_types.specs.Space.BlockRuns.{AreRuns}
use Rattle.sf_types.specs.Space.Placings.{Placed, IsSafe, all_blocks}
use Rattle.sf_types.specs.Table.Versions.{commit_count}
use Rattle.sf_types.specs.Orders.Histories.{history_table}
use Rattle.sf_types.specs.Orders.RowEnds.{row_ends_of}
use Rattle.sf_types.specs.Orders.Transcripts.{whole_transcript, place_of_birth, birth_blocks, placed_block_count, all_replies, IsRight}
use Rattle.sf_types.specs.Play.Turns as rule
use Rattle.sf_laws.specs.PlayTranscripts.{written_place, written_places}
use Rattle.sf_laws.specs.Plays.{AreWithoutEnd, IsTurnOf, AreTurnsOf}
use Rattle.sf_laws.proofs.BlockRunLemmas.{runs-maximal}
use Rattle.sf_laws.proofs.EachLemmas.{each_of_any, each-map}
use Rattle.sf_laws.proofs.PlayTranscriptLemmas.{written_blocks, written_count}
use Rattle.sf_laws.proofs.RoundLemmas.{IsOver, end_over, ended_whole}
use Rattle.sf_laws.proofs.SpaceLemmas.{is_safe}
use Rattle.sf_script.specs.declared.turn.Turn.{Turn}
use Rattle.sf_script.specs.declared.turn.Turn.TheVariants as turns
use Rattle.sf_script.specs.Parts.{ScriptParts, IsScript, is_no_end, names_session}
use Rattle.sf_plain_store.specs.Plays.{turn_of, schedule_of, order_of, places_of, transcript_of}

-- no call of a script is an End
no_end : (c : Call) → is_no_end c ≡ true → c ≢ calls.End
no_end c e = λ is. true≢false (sym e ∙ ap is_no_end is)

no_ends : (cs : List Call) → list_all is_no_end cs ≡ true → AllByRecursion (λ c. c ≢ calls.End) cs
no_ends [] all = tt
no_ends (c ∷ cs) all = let p = and_parts (is_no_end c) (list_all is_no_end cs) all in (no_end c p.0, no_ends cs p.1)

without_end : (lists : List (List Call)) → list_all (list_all is_no_end) lists ≡ true → AreWithoutEnd lists
without_end [] all = tt
without_end (cs ∷ lists) all = let p = and_parts (list_all is_no_end cs) (list_all (list_all is_no_end) lists) all in (no_ends cs p.0, without_end lists p.1)

-- the turns of its schedule are those of its sessions
turn_in : (sessions : ℕ) (turn : Turn) → names_session sessions turn ≡ true → IsTurnOf sessions (turn_of turn)
turn_in sessions (turns.Session s) named = let p = and_parts (leb 1 s) (leb s sessions) named in (leb-true 1 s p.0, leb-true s sessions p.1)
turn_in sessions turns.Reclaim named = tt
turn_in sessions turns.Shrink named = tt

turns_in : (sessions : ℕ) (schedule : List Turn) → list_all (names_session sessions) schedule ≡ true → AreTurnsOf sessions (map turn_of schedule)
turns_in sessions [] all = tt
turns_in sessions (turn ∷ schedule) all = let p = and_parts (names_session sessions turn) (list_all (names_session sessions) schedule) all in (turn_in sessions turn p.0, turns_in sessions schedule p.1)

-- a transcript is right, with this order and these blocks of places
pub record IsRightWith (options : Options) (calls : List (List Call)) (bytes : List ℕ) (tokens : List Token) (placing : List Placed) : Type 0 where
  pub right : IsRight options calls bytes
  pub order : right.order ≡ tokens
  pub places : map birth_blocks right.places ≡ placing

-- the transcript of a play that is over
right_over : (options : Options) (calls : List (List Call)) (p : rule.Playing) → IsOver options calls p
    → IsRightWith options calls (whole_transcript (map (λ e. e.token) p.stage.history) (all_replies options (length calls) p.stage.history) (written_places p.stage)
    (options.capacity - length (all_blocks p.stage.space.places)) (row_ends_of p.stage.table) (commit_count p.stage.table)) (map (λ e. e.token) p.stage.history) p.stage.space.places
right_over options calls p done =
    let x = p.stage in
    let n = length calls in
    let end = history_table options n x.history in
    let is = done.plays.stage.table in
    let order = map (λ e. e.token) x.history in
    let places = written_places x in
    record {
      right = record {
        order = order;
        whole = record { history = x.history; tokens = refl; uncancelled = done.plays.uncancelled; legal = done.plays.stage.legal; own = ended_whole options calls p done };
        places = places;
        contents = All-from_recursion (λ place. place ≡ place_of_birth end place.birth place.runs) places
            (each-map (λ place. place ≡ place_of_birth end place.birth place.runs) (written_place x.table) x.space.places
            (each_of_any (λ y. written_place x.table y ≡ place_of_birth end (written_place x.table y).birth (written_place x.table y).runs) x.space.places (λ y. ap (λ (t : Table). written_place t y) is)));
        runs = All-from_recursion (λ place. AreRuns place.runs) places (each-map (λ place. AreRuns place.runs) (written_place x.table) x.space.places (each_of_any (λ y. AreRuns (written_place x.table y).runs) x.space.places (λ y. runs-maximal y.blocks)));
        safe = subst (λ (t : Table). IsSafe t (map birth_blocks places)) is (subst (IsSafe x.table) (sym (written_blocks x.table x.space.places)) (is_safe x.table x.space done.plays.stage.has));
        text = ap (λ k. whole_transcript order (all_replies options n x.history) places (options.capacity - k) (row_ends_of x.table) (commit_count x.table)) (sym (written_count x.table x.space.places))
            ∙ ap (λ (t : Table). whole_transcript order (all_replies options n x.history) places (options.capacity - placed_block_count places) (row_ends_of t) (commit_count t)) is;
      };
      order = refl;
      places = written_blocks x.table x.space.places;
    }

-- the transcript of a script's play
pub right_play : (script : ScriptParts) → IsScript script → IsRightWith script.options script.calls (transcript_of script) (order_of script) (places_of script)
right_play script holds =
    let turns = subst (λ n. AreTurnsOf n (schedule_of script)) (sym holds.one_list_each) (turns_in script.sessions script.turns holds.turns) in
    let over = end_over script.options script.calls (schedule_of script) (without_end script.calls holds.no_end) turns in
    right_over script.options script.calls (rule.play_for script.options script.calls (schedule_of script) (rule.enough_rounds script.calls)) over
