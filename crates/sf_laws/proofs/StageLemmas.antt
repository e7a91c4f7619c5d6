-- Each turn keeps a stage sound.
use Rattle.std.proofs.Common.{◌≡◌, ℕ, zero, suc, ◌+◌, ◌-◌, ◌≤◌, ◌<◌, Bool, true, false, cond, ◌&&◌, ◌||◌, IsTrue, List, [], ◌∷◌, ◌++◌, length, map, replicate, Option, Some, None, refl, sym, ap, subst, ◌∙◌, ⊎_elim, arith, length-append}
use Rattle.std.specs.Prelude.{nat_le, ◌==◌, sum_by, slice_get, slice_index_or, is_some, unwrap_or}
use Rattle.std.specs.List.{AllByRecursion as Each, range_with_len, list_any}
use Rattle.std.specs.Option.{IfSome, option_map_or}
use Rattle.std.proofs.lemmas.List.{length-replicate}
use Rattle.std.proofs.lemmas.List.Elements.{recursion_from_All}
use Rattle.std.proofs.lemmas.List.FromFn.{length-range_with_len}
use Rattle.std.proofs.lemmas.List.Sorted.{sum_by-IsPermutation}
use Rattle.std.proofs.lemmas.List.Sums.{sum_by-cons}
use Rattle.sf_types.specs.declared.call.Call.{Call}
use Rattle.sf_types.specs.declared.history.Entry.{Entry}
use Rattle.sf_types.specs.declared.history.Kind.{Kind}
use Rattle.sf_types.specs.declared.history.Kind.TheVariants as kind
use Rattle.sf_types.specs.declared.options.Options.{Options}
use Rattle.sf_types.specs.Table.Parts.{Content, Promise, Session, Table, new_session, opening_table}
use Rattle.sf_types.specs.Table.Sessions.{has_session, session_of}
use Rattle.sf_types.specs.Space.Due.{is_due}
use Rattle.sf_types.specs.Space.Reach.{reach}
use Rattle.sf_types.specs.Space.Use.{blocks_of_birth, blocks_of_births, promised_blocks}
use Rattle.sf_types.specs.Space.Placings.{Placed, all_blocks}
use Rattle.sf_types.specs.Space.Publications.{publish}
use Rattle.sf_types.specs.Orders.Histories.{IsLegal, IsLegalHistory, effect_of, entry_of, call_entries, call_effect, table_after, history_table}
use Rattle.sf_types.specs.Halves.Own.{Own, own_of, own_step, own_after, AreLocal}
use Rattle.sf_types.specs.Play.Blocks.{Space, collected_by, after_entries, after_publication, after_collection, after_reclaim, after_shrink}
use Rattle.sf_types.specs.Play.Turns.{Stage, empty_stage, Ends, Promises, Collects, action_where, action_at, with_entries, stage_after, stage_after_reclaim, stage_after_shrink}
use Rattle.sf_types.proofs.BoolLemmas.{neither-first}
use Rattle.sf_types.proofs.NumberLemmas.{same_number, not_same, one_less}
use Rattle.sf_laws.specs.Stages.{HasCollected, blocks_of_space, IsSoundStage, IsAtCall}
use Rattle.sf_laws.specs.UseWithinCapacity.{IsWithinCapacity}
use Rattle.sf_laws.proofs.BlockSumLemmas.{is_one, count_length, permutation_counted}
use Rattle.sf_laws.proofs.EachLemmas.{each-replicate}
use Rattle.sf_laws.proofs.OwnLemmas.{local_run, goes_on}
use Rattle.sf_laws.proofs.OwnRunLemmas.{Stands, stands_opening, stands_after, run-append, legal-joined, shape_after}
use Rattle.sf_laws.proofs.ReachLemmas.{each-reach}
use Rattle.sf_laws.proofs.SpaceLemmas.{HasBlocks, space_sum, is_safe, entries_keep, publication_keeps, reclaim_keeps, IsCollected, collection_keeps, shrink_keeps, opening_blocks}
use Rattle.sf_laws.proofs.TurnMoveLemmas.{Quiet, quiet_on, QuietCalls, quiet_calls, quiet_entry, moves_quiet, publication_moves}

-- A sound stage, with what follows of its table.
pub record Holds (options : Options) (sessions : ℕ) (x : Stage) : Type 0 where
  pub legal : IsLegalHistory (opening_table options sessions) x.history
  pub table : x.table ≡ history_table options sessions x.history
  pub stands : Stands x.table
  pub same : x.table.options ≡ options
  pub size : length x.table.sessions ≡ sessions
  pub has : HasBlocks x.table x.space

shape : (options : Options) (sessions : ℕ) (x : Stage) → IsLegalHistory (opening_table options sessions) x.history → x.table ≡ history_table options sessions x.history → (length x.table.sessions ≡ sessions) × (x.table.options ≡ options)
shape options sessions x legal is =
    let after = shape_after (opening_table options sessions) x.history legal in
    (ap (λ (t : Table). length t.sessions) is ∙ after.0 ∙ length-replicate sessions new_session, ap (λ (t : Table). t.options) is ∙ after.1)

pub holds_sound : (options : Options) (sessions : ℕ) (x : Stage) → IsSoundStage options sessions x → Holds options sessions x
holds_sound options sessions x sound =
    let parts = shape options sessions x sound.legal sound.table in
    record {
      legal = sound.legal;
      table = sound.table;
      stands = subst Stands (sym sound.table) (stands_after (opening_table options sessions) x.history sound.legal (stands_opening options sessions));
      same = parts.1;
      size = parts.0;
      has = record {
        births = sound.safe.births;
        counts = recursion_from_All (λ p. length p.blocks ≡ blocks_of_birth x.table.contents p.birth) x.space.places sound.safe.counts;
        sums = λ f.
            sym (space_sum f x.space)
            ∙ sum_by-IsPermutation f (range_with_len 0 options.capacity) (blocks_of_space x.space) sound.blocks
            ∙ ap (λ (o : Options). sum_by f (range_with_len 0 o.capacity)) (sym parts.1);
        lists = sound.lists ∙ sym parts.0;
        collected = sound.collected;
        rising = sound.rising;
      };
    }

pub sound_holds : (options : Options) (sessions : ℕ) (x : Stage) → Holds options sessions x → IsSoundStage options sessions x
sound_holds options sessions x holds = record {
  legal = holds.legal;
  table = holds.table;
  safe = is_safe x.table x.space holds.has;
  blocks = permutation_counted (range_with_len 0 options.capacity) (blocks_of_space x.space) (λ b.
      space_sum (is_one b) x.space ∙ holds.has.sums (is_one b) ∙ ap (λ (o : Options). sum_by (is_one b) (range_with_len 0 o.capacity)) holds.same);
  lists = holds.has.lists ∙ holds.size;
  collected = holds.has.collected;
  rising = holds.has.rising;
}

-- after legal entries
holds_on : (options : Options) (sessions : ℕ) (x : Stage) (es : List Entry) (space : Space) → Holds options sessions x → IsLegalHistory x.table es → HasBlocks (table_after x.table es) space
    → Holds options sessions (record { history = x.history ++ es; table = table_after x.table es; space = space })
holds_on options sessions x es space holds legal has =
    let opening = opening_table options sessions in
    let after = shape_after x.table es legal in
    record {
      legal = legal-joined opening x.history es holds.legal (subst (λ (t : Table). IsLegalHistory t es) holds.table legal);
      table = ap (λ (t : Table). table_after t es) holds.table ∙ sym (run-append opening x.history es);
      stands = stands_after x.table es legal holds.stands;
      same = after.1 ∙ holds.same;
      size = after.0 ∙ holds.size;
      has = has;
    }

-- where other blocks stand beside the same table
holds_beside : (options : Options) (sessions : ℕ) (x : Stage) (space : Space) → Holds options sessions x → HasBlocks x.table space → Holds options sessions (record x { space = space })
holds_beside options sessions x space holds has = record { legal = holds.legal; table = holds.table; stands = holds.stands; same = holds.same; size = holds.size; has = has }

-- the blocks of places are those of the births in reach
placed_blocks : (contents : List Content) (places : List Placed) → Each (λ x. length x.blocks ≡ blocks_of_birth contents x.birth) places → length (all_blocks places) ≡ blocks_of_births contents (map (λ x. x.birth) places)
placed_blocks contents [] counts = refl
placed_blocks contents (x ∷ places) counts =
    let rest = placed_blocks contents places counts.1 in
    let both = length-append x.blocks (all_blocks places) in
    let cons = sum_by-cons (blocks_of_birth contents) x.birth (map (λ (y : Placed). y.birth) places) in
    let own = counts.0 in
    omega (arith, rest, both, cons, own)

pub placed_count : (options : Options) (sessions : ℕ) (x : Stage) → Holds options sessions x → length (all_blocks x.space.places) ≡ blocks_of_births x.table.contents (reach x.table)
placed_count options sessions x holds = placed_blocks x.table.contents x.space.places holds.has.counts ∙ ap (blocks_of_births x.table.contents) holds.has.births

-- sums of two lists, item by item
abbrev size_at : List (List ℕ) → ℕ → ℕ
size_at lists i = length (slice_index_or lists i [])

abbrev promised_at : List Session → ℕ → ℕ
promised_at parts i = promised_blocks (unwrap_or (slice_get parts i) new_session)

abbrev sizes : List (List ℕ) → ℕ
sizes lists = sum_by (λ blocks. sum_by (λ x. 1) blocks) lists

sum_within : (lists : List (List ℕ)) (parts : List Session) → length lists ≡ length parts → ((i : ℕ) → i < length lists → size_at lists i ≤ promised_at parts i) → sizes lists ≤ sum_by promised_blocks parts
sum_within [] parts same le = omega arith
sum_within (xs ∷ lists) [] same le = absurd (omega (arith, same))
sum_within (xs ∷ lists) (p ∷ parts) same le =
    let cons = sum_by-cons (λ (blocks : List ℕ). sum_by (λ x. 1) blocks) xs lists in
    let more = sum_by-cons promised_blocks p parts in
    let own : length xs ≤ promised_blocks p = le 0 (omega arith) in
    let size = count_length xs in
    let rest = sum_within lists parts (omega (arith, same)) (λ i lt. le (suc i) (omega (arith, lt))) in
    omega (arith, cons, more, own, size, rest)

sum_with_one : (lists : List (List ℕ)) (parts : List Session) (k n : ℕ) → length lists ≡ length parts → ((i : ℕ) → i < length lists → size_at lists i ≤ promised_at parts i) → k < length lists → size_at lists k + n ≤ promised_at parts k → sizes lists + n ≤ sum_by promised_blocks parts
sum_with_one [] parts k n same le lt more = absurd (omega (arith, lt))
sum_with_one (xs ∷ lists) [] k n same le lt more = absurd (omega (arith, same))
sum_with_one (xs ∷ lists) (p ∷ parts) zero n same le lt more =
    let cons = sum_by-cons (λ (blocks : List ℕ). sum_by (λ x. 1) blocks) xs lists in
    let all = sum_by-cons promised_blocks p parts in
    let size = count_length xs in
    let rest = sum_within lists parts (omega (arith, same)) (λ i below. le (suc i) (omega (arith, below))) in
    omega (arith, cons, all, more, size, rest)
sum_with_one (xs ∷ lists) (p ∷ parts) (suc k) n same le lt more =
    let cons = sum_by-cons (λ (blocks : List ℕ). sum_by (λ x. 1) blocks) xs lists in
    let all = sum_by-cons promised_blocks p parts in
    let own : length xs ≤ promised_blocks p = le 0 (omega arith) in
    let size = count_length xs in
    let rest = sum_with_one lists parts k n (omega (arith, same)) (λ i below. le (suc i) (omega (arith, below))) (omega (arith, lt)) more in
    omega (arith, cons, all, own, size, rest)

collected_promised : (p : Session) (blocks : List ℕ) → HasCollected p.promise blocks → length blocks ≤ promised_blocks p
collected_promised p blocks has = go p.promise has
  where
    go : (o : Option Promise) → HasCollected o blocks → length blocks ≤ option_map_or (λ q. q.blocks) o 0
    go None is = let none : length blocks ≡ 0 = ap (λ (xs : List ℕ). length xs) is in omega (arith, none)
    go (Some q) is = ⊎_elim (λ (none : blocks ≡ []). let zero : length blocks ≡ 0 = ap (λ (xs : List ℕ). length xs) none in let low : length blocks ≤ q.blocks = omega (arith, zero) in low) (λ (all : length blocks ≡ q.blocks). let low : length blocks ≤ q.blocks = omega (arith, all) in low) is

in_range : (i n : ℕ) → i < n → IsTrue (nat_le 1 (i + 1) && nat_le (i + 1) n)
in_range i n lt = grind (arith, lt)

-- a promise whose blocks aren't collected has them among the free and the parked ones
pub room_for : (t : Table) (s : ℕ) (q : Promise) (space : Space) → IsTrue (has_session t s) → IsWithinCapacity t → HasBlocks t space → (session_of t s).promise ≡ Some q → collected_by space s ≡ [] → q.blocks ≤ length space.free + length space.parked
room_for t s q space has_s inv has is none =
    let count = has.sums (λ x. 1) in
    let places = count_length (all_blocks space.places) in
    let parked = count_length space.parked in
    let free = count_length space.free in
    let range = count_length (range_with_len 0 t.options.capacity) in
    let whole = length-range_with_len 0 t.options.capacity in
    let blocks = placed_blocks t.contents space.places has.counts in
    let births : blocks_of_births t.contents (map (λ x. x.birth) space.places) ≡ blocks_of_births t.contents (reach t) = ap (blocks_of_births t.contents) has.births in
    let used = inv.within in
    let pointwise : (i : ℕ) → i < length space.collected → size_at space.collected i ≤ promised_at t.sessions i = λ i lt.
    let there : IsTrue (has_session t (i + 1)) = in_range i (length t.sessions) (subst (λ n. i < n) has.lists lt) in
    let at : i + 1 - 1 ≡ i = omega arith in
    subst (λ k. size_at space.collected k ≤ promised_at t.sessions k) at (collected_promised (session_of t (i + 1)) (collected_by space (i + 1)) (has.collected (i + 1) there)) in
    let inside : s - 1 < length space.collected = subst (λ n. s - 1 < n) (sym has.lists) (one_less s (length t.sessions) has_s) in
    let own : size_at space.collected (s - 1) ≡ 0 = ap (λ (xs : List ℕ). length xs) none in
    let mine : promised_at t.sessions (s - 1) ≡ q.blocks = ap (λ (o : Option Promise). option_map_or (λ x. x.blocks) o 0) is in
    let all = sum_with_one space.collected t.sessions (s - 1) q.blocks has.lists pointwise inside (omega (arith, own, mine)) in
    omega (arith, count, places, parked, free, range, whole, blocks, births, used, all)

-- local calls leave whether a session may go on
pub goes_after : (o : Own) (cs : List Call) → (own_after o cs).part.has_ended ≡ o.part.has_ended
goes_after o [] = refl
goes_after o (c ∷ cs) = goes_after (own_step o c) cs ∙ (goes_on o c).0

-- A session without a promise, behind local calls.
pub record IsBehind (t : Table) (s : ℕ) (locals : List Call) : Type 0 where
  pub legal : IsLegalHistory t (call_entries s locals)
  pub calls : QuietCalls t s (table_after t (call_entries s locals))
  pub session : IsTrue (has_session (table_after t (call_entries s locals)) s)
  pub goes_on : (session_of (table_after t (call_entries s locals)) s).has_ended ≡ false
  pub own : own_of (table_after t (call_entries s locals)) s ≡ own_after (own_of t s) locals

pub is_behind : (t : Table) (s : ℕ) (locals : List Call) → IsTrue (has_session t s) → Stands t → (session_of t s).has_ended ≡ false → (session_of t s).promise ≡ None → AreLocal t.options.gather (own_of t s) locals → IsBehind t s locals
is_behind t s locals has stands going none local =
    let u = table_after t (call_entries s locals) in
    let run = local_run t s locals has stands.rising (record { goes_on = going; unpromised = none }) local in
    let calls = quiet_calls t s locals has none in
    record {
      legal = run.legal;
      calls = calls;
      session = subst (λ n. IsTrue (nat_le 1 s && nat_le s n)) (sym calls.quiet.leaves.sessions) has;
      goes_on = ap (λ (o : Own). o.part.has_ended) run.own ∙ goes_after (own_of t s) locals ∙ going;
      own = run.own;
    }

-- the blocks after entries without a promise
quiet_blocks : (t : Table) (s : ℕ) (es : List Entry) (space : Space) → IsTrue (has_session t s) → Stands t → (session_of t s).promise ≡ None → Quiet t s (table_after t es) → HasBlocks t space
    → HasBlocks (table_after t es) (cond (is_some (session_of t s).promise) (after_publication t (table_after t es) s space) (after_entries t (table_after t es) space))
quiet_blocks t s es space has_s stands none quiet has =
    let u = table_after t es in
    let same : cond (is_some (session_of t s).promise) (after_publication t u s space) (after_entries t u space) ≡ after_entries t u space = ap (λ (o : Option Promise). cond (is_some o) (after_publication t u s space) (after_entries t u space)) none in
    subst (HasBlocks u) (sym same) (entries_keep t u s space has_s quiet.leaves (moves_quiet t u s quiet stands.within.true_marks) none has)

-- local calls and an entry behind them, without a promise
behind_keeps : (options : Options) (sessions : ℕ) (x : Stage) (s : ℕ) (locals : List Call) (k : Kind) (c : Call) → Holds options sessions x → IsTrue (has_session x.table s) → (session_of x.table s).promise ≡ None
    → IsBehind x.table s locals → IsLegal (table_after x.table (call_entries s locals)) s k c → Holds options sessions (with_entries x s (call_entries s locals ++ entry_of s k c ∷ []))
behind_keeps options sessions x s locals k c holds has_s none behind legal =
    let t = x.table in
    let es = call_entries s locals ++ entry_of s k c ∷ [] in
    let mid = table_after t (call_entries s locals) in
    let both = run-append t (call_entries s locals) (entry_of s k c ∷ []) in
    let quiet : Quiet t s (table_after t es) = subst (Quiet t s) (sym both) (quiet_on t mid (effect_of mid (entry_of s k c)).0 s behind.calls.quiet (quiet_entry mid s k c legal behind.calls.free)) in
    holds_on options sessions x es _ holds (legal-joined t (call_entries s locals) (entry_of s k c ∷ []) behind.legal (legal, tt)) (quiet_blocks t s es x.space has_s holds.stands none quiet holds.has)

-- a publication
published_keeps : (options : Options) (sessions : ℕ) (x : Stage) (s : ℕ) (q : Promise) → Holds options sessions x → IsTrue (has_session x.table s) → (session_of x.table s).has_ended ≡ false → (session_of x.table s).promise ≡ Some q
    → q.blocks ≡ length (collected_by x.space s) → Holds options sessions (with_entries x s (entry_of s kind.Call q.call ∷ []))
published_keeps options sessions x s q holds has_s going is size =
    let t = x.table in
    let e = entry_of s kind.Call q.call in
    let legal : IsLegal t s kind.Call q.call = record { session = has_s; goes_on = going; standing = rw is refl } in
    let done = publication_moves t s q (collected_by x.space s) has_s holds.stands.within is (sym size) legal in
    let same : (effect_of t e).0 ≡ (publish t s q.call).0 = ap (λ (o : Option Promise). (call_effect o t s q.call).0) is in
    let blocks : HasBlocks (effect_of t e).0 (after_publication t (effect_of t e).0 s x.space) = subst (λ (u : Table). HasBlocks u (after_publication t u s x.space)) (sym same) (publication_keeps t (publish t s q.call).0 s x.space has_s done.leaves done.moves holds.has) in
    let u = (effect_of t e).0 in
    let which : cond (is_some (session_of t s).promise) (after_publication t u s x.space) (after_entries t u x.space) ≡ after_publication t u s x.space = ap (λ (o : Option Promise). cond (is_some o) (after_publication t u s x.space) (after_entries t u x.space)) is in
    holds_on options sessions x (e ∷ []) _ holds (legal, tt) (subst (HasBlocks u) (sym which) blocks)

-- a collection
pub collected_keeps : (options : Options) (sessions : ℕ) (x : Stage) (s : ℕ) (q : Promise) → Holds options sessions x → IsTrue (has_session x.table s) → (session_of x.table s).promise ≡ Some q → collected_by x.space s ≡ []
    → IsCollected x.table s q.blocks x.space
collected_keeps options sessions x s q holds has_s is none =
    collection_keeps x.table s q.blocks q x.space has_s is refl none (room_for x.table s q x.space has_s holds.stands.within holds.has is none) holds.has

pub not_collected : (q : Promise) (blocks : List ℕ) → (q.blocks == length blocks) ≡ false → HasCollected (Some q) blocks → blocks ≡ []
not_collected q blocks apart has = ⊎_elim (λ (none : blocks ≡ []). none) (λ (all : length blocks ≡ q.blocks). absurd (not_same q.blocks (length blocks) apart (sym all))) has

-- the action of a session with a promise
promised_action : (options : Options) (sessions : ℕ) (x : Stage) (s : ℕ) (q : Promise) → Holds options sessions x → IsTrue (has_session x.table s) → (session_of x.table s).has_ended ≡ false → (session_of x.table s).promise ≡ Some q
    → Holds options sessions (stage_after x s [] q.call (action_at x s [] q.call))
promised_action options sessions x s q holds has_s going is =
    let mine = subst (λ (o : Option Promise). HasCollected o (collected_by x.space s)) is (holds.has.collected s has_s) in
    subst (λ (o : Option Promise). Holds options sessions (stage_after x s [] q.call (action_where o (is_due x.table s q.call) (length (collected_by x.space s))))) (sym is)
    (elim (q.blocks == length (collected_by x.space s)) as (λ b. (q.blocks == length (collected_by x.space s)) ≡ b → Holds options sessions (stage_after x s [] q.call (cond b Ends (Collects q.blocks)))) [
      | true ↦ λ same. published_keeps options sessions x s q holds has_s going is (same_number q.blocks (length (collected_by x.space s)) same)
      | false ↦ λ apart. holds_beside options sessions x (after_collection s q.blocks x.space) holds (collected_keeps options sessions x s q holds has_s is (not_collected q (collected_by x.space s) apart mine)).has
    ] refl)

-- the action of a session without a promise
free_action : (options : Options) (sessions : ℕ) (x : Stage) (s : ℕ) (locals : List Call) (c : Call) → Holds options sessions x → IsTrue (has_session x.table s) → (session_of x.table s).promise ≡ None → IsBehind x.table s locals
    → Holds options sessions (stage_after x s locals c (action_at x s locals c))
free_action options sessions x s locals c holds has_s none behind =
    let u = table_after x.table (call_entries s locals) in
    let free = behind.calls.free in
    subst (λ (o : Option Promise). Holds options sessions (stage_after x s locals c (action_where o (is_due u s c) (length (collected_by x.space s))))) (sym free)
    (elim (is_due u s c) as (λ b. is_due u s c ≡ b → Holds options sessions (stage_after x s locals c (cond b Promises Ends))) [
      | true ↦ λ due. behind_keeps options sessions x s locals kind.Promise c holds has_s none behind (record { session = behind.session; goes_on = behind.goes_on; standing = rw free due })
      | false ↦ λ due. behind_keeps options sessions x s locals kind.Call c holds has_s none behind (record { session = behind.session; goes_on = behind.goes_on; standing = rw free due })
    ] refl)

pub action_keeps : (options : Options) (sessions : ℕ) (x : Stage) (s : ℕ) (locals : List Call) (c : Call) → Holds options sessions x → IsAtCall x.table s locals c → Holds options sessions (stage_after x s locals c (action_at x s locals c))
action_keeps options sessions x s locals c holds at = go (session_of x.table s).promise refl at.standing
  where
    go : (o : Option Promise) → (session_of x.table s).promise ≡ o → IfSome o (λ promise. (locals ≡ []) × (c ≡ promise.call)) → Holds options sessions (stage_after x s locals c (action_at x s locals c))
    go None is standing = free_action options sessions x s locals c holds at.session is (is_behind x.table s locals at.session holds.stands at.goes_on is at.local)
    go (Some q) is standing =
        subst (λ (d : Call). Holds options sessions (stage_after x s locals d (action_at x s locals d))) (sym standing.1)
        (subst (λ (cs : List Call). Holds options sessions (stage_after x s cs q.call (action_at x s cs q.call))) (sym standing.0) (promised_action options sessions x s q holds at.session at.goes_on is))

-- a reclaim and a shrink
pub reclaimed_keeps : (options : Options) (sessions : ℕ) (x : Stage) (n : ℕ) → Holds options sessions x → Holds options sessions (stage_after_reclaim n x)
reclaimed_keeps options sessions x n holds = holds_beside options sessions x (after_reclaim n x.space) holds (reclaim_keeps x.table n x.space holds.has)

pub neither-second : (a b : Bool) → (a || b) ≡ false → b ≡ false
neither-second true b is = absurd cc
neither-second false b is = is

no_promise : (o : Option Promise) → is_some o ≡ false → o ≡ None
no_promise None is = refl
no_promise (Some q) is = absurd cc

none_promised : (parts : List Session) (i : ℕ) → list_any (λ p. is_some p.promise) parts ≡ false → (unwrap_or (slice_get parts i) new_session).promise ≡ None
none_promised [] i none = refl
none_promised (p ∷ parts) zero none = no_promise p.promise (neither-first (is_some p.promise) (list_any (λ x. is_some x.promise) parts) none)
none_promised (p ∷ parts) (suc i) none = none_promised parts i (neither-second (is_some p.promise) (list_any (λ x. is_some x.promise) parts) none)

pub shrunk_keeps : (options : Options) (sessions : ℕ) (x : Stage) → Holds options sessions x → Holds options sessions (stage_after_shrink x)
shrunk_keeps options sessions x holds =
    elim (list_any (λ p. is_some p.promise) x.table.sessions) as (λ b. list_any (λ p. is_some p.promise) x.table.sessions ≡ b → Holds options sessions (cond b x (record x { space = after_shrink x.table.options.capacity x.space }))) [
      | true ↦ λ some. holds
      | false ↦ λ none. holds_beside options sessions x (after_shrink x.table.options.capacity x.space) holds (shrink_keeps x.table x.space (λ s there. none_promised x.table.sessions (s - 1) none) holds.has)
    ] refl

-- at first
nothing_reached : (options : Options) (sessions : ℕ) → reach (opening_table options sessions) ≡ []
nothing_reached options sessions = none (reach t) (each-reach (λ b. ⊥) t (record {
  held = record { versions = tt; sessions = each-replicate _ sessions new_session (record { working = tt; locators = tt; savepoints = tt }) };
  found = each-replicate _ sessions new_session tt;
}))
  where
    t : Table
    t = opening_table options sessions

    none : (xs : List ℕ) → Each (λ b. ⊥) xs → xs ≡ []
    none [] all = refl
    none (x ∷ xs) all = absurd all.0

pub empty_holds : (options : Options) (sessions : ℕ) → Holds options sessions (empty_stage options sessions)
empty_holds options sessions =
    let t = opening_table options sessions in
    record {
      legal = tt;
      table = refl;
      stands = stands_opening options sessions;
      same = refl;
      size = length-replicate sessions new_session;
      has = opening_blocks t sessions (nothing_reached options sessions) (length-replicate sessions new_session) (λ s there. new_free sessions (s - 1));
    }
  where
    new_free : (n i : ℕ) → (unwrap_or (slice_get (replicate n new_session) i) new_session).promise ≡ None
    new_free zero i = refl
    new_free (suc n) zero = refl
    new_free (suc n) (suc i) = new_free n i
