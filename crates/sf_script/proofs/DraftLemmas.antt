-- Scripts that are being read stay scripts.
use Rattle.std.proofs.Common.{◌≡◌, ℕ, zero, suc, ◌+◌, ◌-◌, ◌≤◌, ◌<◌, Bool, true, false, ◌||◌, ltb, leb, List, [], ◌∷◌, ◌++◌, length, get_or, refl, ◌∙◌, arith}
use Rattle.std.specs.Prelude.{replicate, slice_set}
use Rattle.std.specs.List.{list_all, sum_by}
use Rattle.std.proofs.lemmas.Bool.{ltb-false, leb-true, and_parts, and_from}
use Rattle.std.proofs.lemmas.List.{length-replicate, length-set, length-append}
use Rattle.std.proofs.lemmas.List.Sums.{sum_by-set, sum_by-append}
use Rattle.std.proofs.lemmas.List.Folds.{list_all-append, sum_by-replicate}
use Rattle.sf_types.specs.Limits.{IsInRange, standard_options}
use Rattle.sf_types.specs.declared.limits.TheConstants.{BUFFER_BYTES, STORE_BLOCKS, RETAINED_COMMITS, LEAST_GATHER_BYTES, MOST_GATHER_BYTES, STORE_DISPENSERS}
use Rattle.sf_types.specs.declared.options.Options.{Options}
use Rattle.sf_script.specs.declared.option_line.OptionLine.{OptionLine}
use Rattle.sf_script.specs.declared.option_line.OptionLine.TheVariants.{Capacity, Dedup, Retention, RetentionMax, Gather, Dispensers}
use Rattle.sf_script.specs.declared.turn.Turn.{Turn}
use Rattle.sf_script.specs.Inside.Readings.{CanHaveTurns}
use Rattle.sf_script.specs.OptionLines.{is_option_in_range, with_option}
use Rattle.sf_types.specs.declared.call.Call.{Call}
use Rattle.sf_script.specs.Inside.Drafts.{IsDraft}
use Rattle.sf_script.specs.declared.limits.TheConstants.{SCRIPT_CALLS, SCRIPT_PAYLOAD_BYTES, SCRIPT_TURNS}
use Rattle.sf_script_calls.specs.Calls.{payload_length}
use Rattle.sf_script.specs.Parts.{ScriptParts, is_no_end, names_session, call_count, payload_bytes}
use Rattle.sf_script.specs.Reasons.{new_script, with_call, with_turns, passes_call_limit}

-- the standard options are in their ranges
pub standard_in_range : IsInRange standard_options
standard_in_range = record {
  capacity_low = omega arith;
  capacity_high = omega arith;
  retention = omega arith;
  retention_of_max = λ e. absurd cc;
  gather_low = omega arith;
  gather_high = omega arith;
  dispensers_low = omega arith;
  dispensers_high = omega arith;
}

-- the options stay in their ranges where one is set to a number in its range
pub with_option_in_range : (options : Options) (option : OptionLine) → IsInRange options → is_option_in_range option ≡ true → IsInRange (with_option options option)
with_option_in_range options (Capacity number) old new =
    let p = and_parts (leb 1 number) (leb number STORE_BLOCKS) new in
    record {
      capacity_low = leb-true 1 number p.0;
      capacity_high = leb-true number STORE_BLOCKS p.1;
      retention = old.retention;
      retention_of_max = old.retention_of_max;
      gather_low = old.gather_low;
      gather_high = old.gather_high;
      dispensers_low = old.dispensers_low;
      dispensers_high = old.dispensers_high;
    }
with_option_in_range options (Dedup shared) old new = record {
  capacity_low = old.capacity_low;
  capacity_high = old.capacity_high;
  retention = old.retention;
  retention_of_max = old.retention_of_max;
  gather_low = old.gather_low;
  gather_high = old.gather_high;
  dispensers_low = old.dispensers_low;
  dispensers_high = old.dispensers_high;
}
with_option_in_range options (Retention number) old new = record {
  capacity_low = old.capacity_low;
  capacity_high = old.capacity_high;
  retention = leb-true number RETAINED_COMMITS new;
  retention_of_max = λ e. absurd cc;
  gather_low = old.gather_low;
  gather_high = old.gather_high;
  dispensers_low = old.dispensers_low;
  dispensers_high = old.dispensers_high;
}
with_option_in_range options RetentionMax old new = record {
  capacity_low = old.capacity_low;
  capacity_high = old.capacity_high;
  retention = omega arith;
  retention_of_max = λ e. refl;
  gather_low = old.gather_low;
  gather_high = old.gather_high;
  dispensers_low = old.dispensers_low;
  dispensers_high = old.dispensers_high;
}
with_option_in_range options (Gather number) old new =
    let p = and_parts (leb LEAST_GATHER_BYTES number) (leb number MOST_GATHER_BYTES) new in
    record {
      capacity_low = old.capacity_low;
      capacity_high = old.capacity_high;
      retention = old.retention;
      retention_of_max = old.retention_of_max;
      gather_low = leb-true LEAST_GATHER_BYTES number p.0;
      gather_high = leb-true number MOST_GATHER_BYTES p.1;
      dispensers_low = old.dispensers_low;
      dispensers_high = old.dispensers_high;
    }
with_option_in_range options (Dispensers number) old new =
    let p = and_parts (leb 1 number) (leb number STORE_DISPENSERS) new in
    record {
      capacity_low = old.capacity_low;
      capacity_high = old.capacity_high;
      retention = old.retention;
      retention_of_max = old.retention_of_max;
      gather_low = old.gather_low;
      gather_high = old.gather_high;
      dispensers_low = leb-true 1 number p.0;
      dispensers_high = leb-true number STORE_DISPENSERS p.1;
    }

-- a test of each item of lists that have none
pub all_empty : {X : Type 0} (test : X → Bool) (n : ℕ) → list_all (list_all test) (replicate n []) ≡ true
all_empty test zero = refl
all_empty test (suc n) = all_empty test n

-- a new script is one
pub new_is_draft : (options : Options) (sessions : ℕ) → IsInRange options → 1 ≤ sessions → sessions ≤ 16 → IsDraft (new_script options sessions) 0 0
new_is_draft options sessions range low high = record {
  script = record {
    options = range;
    sessions_low = low;
    sessions_high = high;
    one_list_each = length-replicate sessions [];
    no_end = all_empty is_no_end sessions;
    turns = refl;
  };
  calls = omega (arith, sum_by-replicate (length {A = Call}) sessions []);
  payloads = omega (arith, sum_by-replicate (sum_by payload_length) sessions []);
  few = omega arith;
  small = omega arith;
  short = omega arith;
}

-- a test of each item after one was replaced
pub all-set : {X : Type 0} (test : X → Bool) (xs : List X) (i : ℕ) (x : X) → list_all test xs ≡ true → test x ≡ true → list_all test (slice_set xs i x) ≡ true
all-set test [] i x each one = refl
all-set test (y ∷ xs) zero x each one = and_from (test x) (list_all test xs) one (and_parts (test y) (list_all test xs) each).1
all-set test (y ∷ xs) (suc i) x each one =
    let parts = and_parts (test y) (list_all test xs) each in
    and_from (test y) (list_all test (slice_set xs i x)) parts.0 (all-set test xs i x parts.1 one)

pub all_at : {X : Type 0} (test : X → Bool) (xss : List (List X)) (i : ℕ) → list_all (list_all test) xss ≡ true → list_all test (get_or xss i []) ≡ true
all_at test [] i each = refl
all_at test (xs ∷ xss) zero each = (and_parts (list_all test xs) (list_all (list_all test) xss) each).0
all_at test (xs ∷ xss) (suc i) each = all_at test xss i (and_parts (list_all test xs) (list_all (list_all test) xss) each).1

no_or : (a b : Bool) → (a || b) ≡ false → (a ≡ false) × (b ≡ false)
no_or true b e = absurd cc
no_or false b e = (refl, e)

-- with one more call it is one
pub with_call_is_draft : (parts : ScriptParts) (count bytes session : ℕ) (call : Call) → IsDraft parts count bytes → 1 ≤ session → session ≤ parts.sessions
    → is_no_end call ≡ true → passes_call_limit parts (payload_length call) ≡ false
    → IsDraft (with_call parts session call) (count + 1) (bytes + payload_length call)
with_call_is_draft parts count bytes session call draft low high no_end room =
    let i : ℕ = session - 1 in
    let old : List Call = get_or parts.calls i [] in
    let new : List Call = old ++ call ∷ [] in
    let within : i < length parts.calls = omega (arith, draft.script.one_list_each) in
    let longer = length-append old (call ∷ []) in
    let counted = sum_by-set length parts.calls i new [] within in
    let weighed = sum_by-set (sum_by payload_length) parts.calls i new [] within in
    let heavier = sum_by-append payload_length old (call ∷ []) in
    let both = no_or (ltb BUFFER_BYTES (payload_length call) || ltb SCRIPT_CALLS (call_count parts.calls + 1)) (ltb SCRIPT_PAYLOAD_BYTES (payload_bytes parts.calls + payload_length call)) room in
    let few = ltb-false _ _ (no_or (ltb BUFFER_BYTES (payload_length call)) (ltb SCRIPT_CALLS (call_count parts.calls + 1)) both.0).1 in
    let small = ltb-false _ _ both.1 in
    let all_new : list_all is_no_end new ≡ true = list_all-append is_no_end old (call ∷ []) ∙ and_from _ _ (all_at is_no_end parts.calls i draft.script.no_end) (and_from (is_no_end call) true no_end refl) in
    record {
      script = record {
        options = draft.script.options;
        sessions_low = draft.script.sessions_low;
        sessions_high = draft.script.sessions_high;
        one_list_each = length-set parts.calls i new ∙ draft.script.one_list_each;
        no_end = all-set (list_all is_no_end) parts.calls i new draft.script.no_end all_new;
        turns = draft.script.turns;
      };
      calls = omega (arith, counted, longer, draft.calls);
      payloads = omega (arith, weighed, heavier, draft.payloads);
      few = omega (arith, few, draft.calls);
      small = omega (arith, small, draft.payloads);
      short = draft.short;
    }

-- with more turns it is one
pub with_turns_is_draft : (parts : ScriptParts) (count bytes : ℕ) (turns : List Turn) → IsDraft parts count bytes → CanHaveTurns parts turns → IsDraft (with_turns parts turns) count bytes
with_turns_is_draft parts count bytes turns draft more =
    record {
      script = record {
        options = draft.script.options;
        sessions_low = draft.script.sessions_low;
        sessions_high = draft.script.sessions_high;
        one_list_each = draft.script.one_list_each;
        no_end = draft.script.no_end;
        turns = list_all-append (names_session parts.sessions) parts.turns turns ∙ and_from _ _ draft.script.turns more.named;
      };
      calls = draft.calls;
      payloads = draft.payloads;
      few = draft.few;
      small = draft.small;
      short = omega (arith, length-append parts.turns turns, ltb-false SCRIPT_TURNS (length parts.turns + length turns) more.room);
    }
