-- The births of settled rows.
use Rattle.std.proofs.Common.{◌≡◌, ℕ, List, [], ◌∷◌, ◌++◌, length, map, take, drop, Some, None, refl, ap, subst, ◌∙◌, arith}
use Rattle.std.specs.Prelude.{All, flat_map}
use Rattle.std.specs.List.{AllByRecursion as Each}
use Rattle.std.proofs.lemmas.List.{map-append, take_all}
use Rattle.std.proofs.lemmas.List.Elements.{All-from_recursion, recursion_from_All}
use Rattle.sf_types.specs.declared.options.Options.{Options}
use Rattle.sf_types.specs.Values.Marks.{births_in}
use Rattle.sf_types.specs.Table.Parts.{Rows}
use Rattle.sf_types.specs.Space.Cuts.{Cut, contents_of_value, cuts, cuts_of_value, settle, settle_value}
use Rattle.sf_types.specs.Space.Reach.{values_in}
use Rattle.sf_laws.proofs.EachLemmas.{each_left, each_right, each-drop, each-take}
use Rattle.sf_laws.proofs.HeldLemmas.{OfRows}
use Rattle.sf_laws.proofs.ReachLemmas.{OfBirth, each_from_births_in}
use Rattle.sf_laws.proofs.SettledBirthLemmas.{from_rows}
use Rattle.sf_store_half.specs.Inside.Commits.{row_births}
use Rattle.sf_store_half.specs.Inside.Settled.{contents_of_rows}
use Rattle.sf_store_half.proofs.PlannedCutLemmas.{bytes_of_cuts, settled_where}

-- the bytes of the cuts of rows are their contents
pub bytes_of_rows : (options : Options) (rows : Rows) → map (λ (cut : Cut). cut.bytes) (cuts options rows) ≡ contents_of_rows rows
bytes_of_rows options [] = refl
bytes_of_rows options ((name, None) ∷ rows) = bytes_of_rows options rows
bytes_of_rows options ((name, Some v) ∷ rows) =
    map-append (λ (cut : Cut). cut.bytes) (cuts_of_value options v) (cuts options rows)
    ∙ ap (λ (bs : List (List ℕ)). bs ++ map (λ (cut : Cut). cut.bytes) (cuts options rows)) (bytes_of_cuts options v)
    ∙ ap (λ (bs : List (List ℕ)). contents_of_value v ++ bs) (bytes_of_rows options rows)

-- what holds of the births of rows and of those of their cuts holds of the births of the settled rows
pub rows_where : (P : ℕ → Type 0) (rows : Rows) (births : List ℕ) → Each P (flat_map births_in (values_in rows)) → Each P births → Each (λ x. All P x.births) (row_births (settle rows births))
rows_where P [] births own all = tt
rows_where P ((name, None) ∷ rows) births own all = (All-from_recursion P [] tt, rows_where P rows births own all)
rows_where P ((name, Some v) ∷ rows) births own all =
    let count = length (contents_of_value v) in
    let value = settle_value v (take count births) in (
      All-from_recursion P (births_in value) (settled_where P v (take count births) (each_left P (births_in v) (flat_map births_in (values_in rows)) own) (each-take P count births all)),
      rows_where P rows (drop count births) (each_right P (births_in v) (flat_map births_in (values_in rows)) own) (each-drop P count births all),
    )

of_rows : (P : ℕ → Type 0) (rows : Rows) → Each (λ x. All P x.births) (row_births rows) → OfRows (OfBirth P) rows
of_rows P [] all = tt
of_rows P ((name, None) ∷ rows) all = (tt, of_rows P rows all.1)
of_rows P ((name, Some v) ∷ rows) all = (each_from_births_in P v (recursion_from_All P (births_in v) all.0), of_rows P rows all.1)

-- what holds of the births of settled rows holds of those of their cuts
pub given_where : (P : ℕ → Type 0) (options : Options) (rows : Rows) (births : List ℕ) → length births ≡ length (cuts options rows) → Each (λ x. All P x.births) (row_births (settle rows births)) → Each P births
given_where P options rows births count all =
    subst (Each P) (take_all (length (cuts options rows)) births (omega (arith, count)))
    (from_rows P options rows births (omega (arith, count)) (of_rows P (settle rows births) all))
