-- The printed lines of options are read as the options.
use Rattle.std.proofs.Common.{◌≡◌, ℕ, zero, suc, ◌+◌, ◌≤◌, Bool, true, false, cond, List, [], ◌∷◌, ◌++◌, Ok, refl, sym, ap, ◌∙◌, arith}
use Rattle.std.specs.Prelude.{codes, ◌==◌}
use Rattle.std.specs.Fmt.{decimal}
use Rattle.std.proofs.lemmas.List.{append_assoc}
use Rattle.sf_types.specs.Limits.{standard_options}
use Rattle.sf_types.specs.declared.options.Options.{Options}
use Rattle.sf_types.proofs.NumberLemmas.{same_number}
use Rattle.sf_script.specs.declared.option_line.OptionLine.{OptionLine}
use Rattle.sf_script.specs.declared.option_line.OptionLine.TheVariants.{Capacity, Dedup, Retention, RetentionMax, Gather, Dispensers}
use Rattle.sf_script.specs.declared.reading.Reading.TheVariants as reads
use Rattle.sf_script.specs.Lines.{lines_of}
use Rattle.sf_script.specs.OptionLines.{with_option, rank_of}
use Rattle.sf_script.specs.Parts.{ScriptParts}
use Rattle.sf_script.specs.Scripts.{script_from}
use Rattle.sf_script_print.specs.Printing.{number_option, dedup_option, retention_option, printed_options}
use Rattle.sf_script_print.proofs.OptionReadLemmas.{option_text, CanSet, IsPrintedOption, option_again, printed_capacity, printed_retention, printed_gather, printed_dispensers, printed_max, printed_dedup, AreSet}
use Rattle.sf_script_print.proofs.TextLineLemmas.{six_parts}

-- a text is read as a script behind these options, wherever the last that was set stands up to some rank
abbrev pub IsReadFrom : Options → ℕ → List ℕ → ScriptParts → Type 0
IsReadFrom options most text script =
    (rank number : ℕ) → rank ≤ most → script_from number (reads.Options (record { options = options; rank = rank })) (lines_of text) ≡ Ok script

-- one line more before the text
line_again : (before after : Options) (option : OptionLine) (most : ℕ) (rest : List ℕ) (script : ScriptParts) → CanSet option → IsPrintedOption option
    → rank_of option ≡ most + 1 → with_option before option ≡ after → IsReadFrom after (most + 1) rest script → IsReadFrom before most (option_text option ++ 10 ∷ rest) script
line_again before after option most rest script can is place same others rank number low =
    option_again (record { options = before; rank = rank }) option rest script number can is (omega (arith, place))
    (ap (λ (o : Options). script_from (number + 1) (reads.Options (record { options = o; rank = rank_of option })) (lines_of rest)) same
    ∙ others (rank_of option) (number + 1) (omega (arith, place)))

-- no line more
none_again : (before after : Options) (most : ℕ) (rest : List ℕ) (script : ScriptParts) → before ≡ after → IsReadFrom after (most + 1) rest script → IsReadFrom before most rest script
none_again before after most rest script same others rank number low =
    ap (λ (o : Options). script_from number (reads.Options (record { options = o; rank = rank })) (lines_of rest)) same ∙ others rank number (omega arith)

of_text : (options : Options) (most : ℕ) (text other : List ℕ) (script : ScriptParts) → other ≡ text → IsReadFrom options most text script → IsReadFrom options most other script
of_text options most text other script same others rank number low =
    ap (λ (t : List ℕ). script_from number (reads.Options (record { options = options; rank = rank })) (lines_of t)) same ∙ others rank number low

line_text : (word digits rest : List ℕ) → (word ++ 32 ∷ digits ++ 10 ∷ []) ++ rest ≡ (word ++ 32 ∷ digits) ++ 10 ∷ rest
line_text [] digits rest = ap (λ (t : List ℕ). 32 ∷ t) (append_assoc digits (10 ∷ []) rest)
line_text (byte ∷ word) digits rest = ap (λ (t : List ℕ). byte ∷ t) (line_text word digits rest)

-- the line of a number, where it isn't the default
number_again : (make : ℕ → OptionLine) (word : List ℕ) (before after : Options) (number standard most : ℕ) (rest : List ℕ) (script : ScriptParts)
    → word ++ 32 ∷ decimal number ≡ option_text (make number) → ((number == standard) ≡ false → CanSet (make number)) → ((number == standard) ≡ false → IsPrintedOption (make number))
    → rank_of (make number) ≡ most + 1 → (number ≡ standard → before ≡ after) → with_option before (make number) ≡ after
    → IsReadFrom after (most + 1) rest script → IsReadFrom before most (number_option word number standard ++ rest) script
number_again make word before after number standard most rest script spelled can is place unset set others = by_test (number == standard) refl
  where
    by_test : (test : Bool) → (number == standard) ≡ test → IsReadFrom before most (cond test [] (word ++ 32 ∷ decimal number ++ 10 ∷ []) ++ rest) script
    by_test true e = none_again before after most rest script (unset (same_number number standard e)) others
    by_test false e =
        let text : (word ++ 32 ∷ decimal number ++ 10 ∷ []) ++ rest ≡ option_text (make number) ++ 10 ∷ rest =
        line_text word (decimal number) rest
        ∙ ap (λ (t : List ℕ). t ++ 10 ∷ rest) spelled in
        of_text before most (option_text (make number) ++ 10 ∷ rest) ((word ++ 32 ∷ decimal number ++ 10 ∷ []) ++ rest) script text
        (line_again before after (make number) most rest script (can e) (is e) place set others)

-- options of which the first are set
abbrev with_capacity : Options → Options
with_capacity o = record standard_options { capacity = o.capacity }

abbrev with_dedup : Options → Options
with_dedup o = record standard_options { capacity = o.capacity; dedup = o.dedup }

abbrev with_retention : Options → Options
with_retention o = record standard_options { capacity = o.capacity; dedup = o.dedup; retention = o.retention; max = o.max }

abbrev with_gather : Options → Options
with_gather o = record standard_options { capacity = o.capacity; dedup = o.dedup; retention = o.retention; max = o.max; gather = o.gather }

dedup_again : (o : Options) (rest : List ℕ) (script : ScriptParts) → AreSet o → IsReadFrom (with_dedup o) 2 rest script → IsReadFrom (with_capacity o) 1 (dedup_option o.dedup ++ rest) script
dedup_again o rest script set others = by_test o.dedup refl
  where
    by_test : (test : Bool) → o.dedup ≡ test → IsReadFrom (with_capacity o) 1 (dedup_option test ++ rest) script
    by_test true e = none_again (with_capacity o) (with_dedup o) 1 rest script (ap (λ (d : Bool). record standard_options { capacity = o.capacity; dedup = d }) (sym e)) others
    by_test false e = line_again (with_capacity o) (with_dedup o) (Dedup false) 1 rest script (set.dedup e) printed_dedup refl (ap (λ (d : Bool). record standard_options { capacity = o.capacity; dedup = d }) (sym e)) others

some_retention : (number : ℕ) → (number == standard_options.retention) ≡ false → 1 ≤ number
some_retention number is = other_than_zero number is
  where
    other_than_zero : (n : ℕ) → (n == 0) ≡ false → 1 ≤ n
    other_than_zero zero e = absurd cc
    other_than_zero (suc n) e = omega arith

retention_again : (o : Options) (rest : List ℕ) (script : ScriptParts) → AreSet o → IsReadFrom (with_retention o) 3 rest script → IsReadFrom (with_dedup o) 2 (retention_option o ++ rest) script
retention_again o rest script set others = by_test o.max refl
  where
    by_test : (test : Bool) → o.max ≡ test → IsReadFrom (with_dedup o) 2 (cond test (codes "retention max\n") (number_option (codes "retention") o.retention standard_options.retention) ++ rest) script
    by_test true e =
        let same : with_option (with_dedup o) RetentionMax ≡ with_retention o =
        ap (λ (n : ℕ). record standard_options { capacity = o.capacity; dedup = o.dedup; retention = n; max = true }) (sym (set.none_of_max e))
        ∙ ap (λ (m : Bool). record standard_options { capacity = o.capacity; dedup = o.dedup; retention = o.retention; max = m }) (sym e) in
        line_again (with_dedup o) (with_retention o) RetentionMax 2 rest script (set.max e) printed_max refl same others
    by_test false e =
        let same : (n : ℕ) → record standard_options { capacity = o.capacity; dedup = o.dedup; retention = n; max = false } ≡ record standard_options { capacity = o.capacity; dedup = o.dedup; retention = n; max = o.max } =
        λ n. ap (λ (m : Bool). record standard_options { capacity = o.capacity; dedup = o.dedup; retention = n; max = m }) (sym e) in
        number_again Retention (codes "retention") (with_dedup o) (with_retention o) o.retention standard_options.retention 2 rest script refl
        (set.retention e) (λ other. printed_retention o.retention (set.retention e other).range (some_retention o.retention other)) refl
        (λ none. ap (λ (n : ℕ). record standard_options { capacity = o.capacity; dedup = o.dedup; retention = n; max = false }) (sym none) ∙ same o.retention)
        (same o.retention) others

-- the lines of all options, before a text
pub options_again : (o : Options) (rest : List ℕ) (script : ScriptParts) → AreSet o → IsReadFrom o 5 rest script → IsReadFrom standard_options 0 (printed_options o ++ rest) script
unfolding printed_options
options_again o rest script set others =
    let capacity = number_option (codes "capacity") o.capacity standard_options.capacity in
    let dedup = dedup_option o.dedup in
    let retention = retention_option o in
    let gather = number_option (codes "gather") o.gather standard_options.gather in
    let dispensers = number_option (codes "dispensers") o.dispensers standard_options.dispensers in
    let fifth = number_again Dispensers (codes "dispensers") (with_gather o) o o.dispensers standard_options.dispensers 4 rest script refl set.dispensers (λ other. printed_dispensers o.dispensers (set.dispensers other).range) refl
    (λ none. ap (λ (n : ℕ). record o { dispensers = n }) (sym none)) refl others in
    let fourth = number_again Gather (codes "gather") (with_retention o) (with_gather o) o.gather standard_options.gather 3 (dispensers ++ rest) script refl set.gather (λ other. printed_gather o.gather (set.gather other).range) refl
    (λ none. ap (λ (n : ℕ). record (with_retention o) { gather = n }) (sym none)) refl fifth in
    let third = retention_again o (gather ++ (dispensers ++ rest)) script set fourth in
    let second = dedup_again o (retention ++ (gather ++ (dispensers ++ rest))) script set third in
    let first = number_again Capacity (codes "capacity") standard_options (with_capacity o) o.capacity standard_options.capacity 0 (dedup ++ (retention ++ (gather ++ (dispensers ++ rest)))) script refl set.capacity
    (λ other. printed_capacity o.capacity (set.capacity other).range) refl
    (λ none. ap (λ (n : ℕ). record standard_options { capacity = n }) (sym none)) refl second in
    of_text standard_options 0 (capacity ++ (dedup ++ (retention ++ (gather ++ (dispensers ++ rest))))) (capacity ++ dedup ++ retention ++ gather ++ dispensers ++ rest) script
    (six_parts capacity dedup retention gather dispensers rest) first
