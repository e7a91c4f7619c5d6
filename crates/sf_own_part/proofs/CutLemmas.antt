-- Contents with their choices, put together, are the cuts of rows.
use Rattle.std.proofs.Common.{◌≡◌, ℕ, List, [], ◌∷◌, ◌++◌, length, map, Some, None, refl, sym, ap, ◌∙◌, arith}
use Rattle.std.specs.Prelude.{flat_map, replicate}
use Rattle.std.proofs.lemmas.List.{length-replicate}
use Rattle.sf_types.specs.declared.options.Choice.{Choice}
use Rattle.sf_types.specs.declared.options.Options.{Options}
use Rattle.sf_types.specs.Values.Marks.{Value}
use Rattle.sf_types.specs.Table.Parts.{Rows}
use Rattle.sf_types.specs.Space.Cuts.{Cut, is_sharing, contents_of_value, cuts, cuts_of_value}
use Rattle.sf_versions.specs.Asks.{cuts_with}
use Rattle.sf_own_part.specs.Inside.RowCuts.{row_contents, row_choices}

-- contents with one choice
one_choice : (options : Options) (choice : Choice) (contents : List (List ℕ)) → cuts_with options contents (replicate (length contents) choice) ≡ map (λ bytes. record { bytes = bytes; is_sharing = is_sharing options choice }) contents
one_choice options choice [] = refl
one_choice options choice (bytes ∷ contents) = ap (λ (cs : List Cut). record { bytes = bytes; is_sharing = is_sharing options choice } ∷ cs) (one_choice options choice contents)

-- the cuts of one value
pub value_cuts : (options : Options) (value : Value) → cuts_with options (contents_of_value value) (replicate (length (contents_of_value value)) value.choice) ≡ cuts_of_value options value
value_cuts options value = one_choice options value.choice (contents_of_value value)

-- two lists of contents, each with as many choices
both_cuts : (options : Options) (xs ys : List (List ℕ)) (cs ds : List Choice) → length xs ≡ length cs → cuts_with options (xs ++ ys) (cs ++ ds) ≡ cuts_with options xs cs ++ cuts_with options ys ds
both_cuts options [] ys [] ds even = refl
both_cuts options [] ys (c ∷ cs) ds even = absurd (omega (arith, even))
both_cuts options (x ∷ xs) ys [] ds even = absurd (omega (arith, even))
both_cuts options (x ∷ xs) ys (c ∷ cs) ds even = ap (λ (zs : List Cut). record { bytes = x; is_sharing = is_sharing options c } ∷ zs) (both_cuts options xs ys cs ds (omega (arith, even)))

-- the cuts of rows
pub rows_cuts : (options : Options) (rows : Rows) → cuts_with options (flat_map row_contents rows) (flat_map row_choices rows) ≡ cuts options rows
rows_cuts options [] = refl
rows_cuts options ((name, None) ∷ rows) = rows_cuts options rows
rows_cuts options ((name, Some value) ∷ rows) =
    let contents = contents_of_value value in
    both_cuts options contents (flat_map row_contents rows) (replicate (length contents) value.choice) (flat_map row_choices rows) (sym (length-replicate (length contents) value.choice))
    ∙ ap (λ (cs : List Cut). cs ++ cuts_with options (flat_map row_contents rows) (flat_map row_choices rows)) (value_cuts options value)
    ∙ ap (λ (cs : List Cut). cuts_of_value options value ++ cs) (rows_cuts options rows)
