use Rattle.std.proofs.Common.{◌≡◌, ◌<◌, ℕ, List, [], ◌∷◌, ◌++◌, append_assoc, length, map, rules, refl, sym, ap, arith}
use Rattle.std.specs.Prelude.{codes}
use Rattle.std.proofs.lemmas.List.{append-nil}
use Rattle.std.specs.Fmt.{digits}
use Rattle.std.proofs.lemmas.List.Elements.{All-nil, All-cons}
use Rattle.hex.specs.Hex.{encode_lower, encode_with}
use Rattle.sha2.specs.Sha256.{sha256}
use Rattle.sf_types.specs.declared.place.Place.{Place}
use Rattle.sf_types.specs.Limits.{standard_options}
use Rattle.sf_types.specs.Table.Parts.{Table, opening_table}
use Rattle.sf_types.specs.Space.Use.{blocks_of_birth}
use Rattle.sf_types.specs.Orders.Histories.{IsLegalHistory, IsWhole, history_table}
use Rattle.sf_types.specs.Space.Placings.{Placed, IsSafe}
use Rattle.sf_types.specs.Space.BlockRuns.{AreRuns}
use Rattle.sf_types.specs.Orders.Transcripts.{birth_blocks, place_of_birth}
use Rattle.sf_laws.specs.TranscriptExamples.{first_calls, first_history, first_lines}
use Rattle.sf_laws.proofs.transcript_examples.the_first_path.Goals as goal

legal-is : IsLegalHistory (opening_table standard_options 1) first_history
legal-is = search rules

abbrev whole-is : IsWhole standard_options (first_calls ∷ []) (map (λ e. e.token) first_history)
whole-is = record {
  history = first_history;
  tokens = refl;
  uncancelled = refl;
  legal = legal-is;
  own = refl;
}

pub returns-clause-whole : goal.returns-clause-whole
returns-clause-whole c = whole-is

-- the one content stands in the first block
abbrev place : Place
place = place_of_birth (history_table standard_options 1 first_history) 1 (record { first = 0; blocks = 1 } ∷ [])

abbrev end : Table
end = history_table standard_options 1 first_history

abbrev HasItsBlocks : Placed → Type 0
HasItsBlocks x = length x.blocks ≡ blocks_of_birth end.contents x.birth

abbrev IsTold : Place → Type 0
IsTold x = x ≡ place_of_birth end x.birth x.runs

abbrev HasRuns : Place → Type 0
HasRuns x = AreRuns x.runs

safe-is : IsSafe (history_table standard_options 1 first_history) (birth_blocks place ∷ [])
safe-is = record {
  births = refl;
  counts = All-cons HasItsBlocks (birth_blocks place) [] refl (All-nil HasItsBlocks);
  below = All-cons (λ block. block < 1024) 0 [] (omega arith) (All-nil (λ block. block < 1024));
  once = λ i j d less within. absurd (omega (arith, less, within));
}

-- the lines from the place's digest on, joined as the transcript joins them, and as they are written out
joined : (sum space runs end free row now : List ℕ)
    → ((((((sum ++ space) ++ runs) ++ end) ++ []) ++ (free ++ end)) ++ (((row ++ sum) ++ end) ++ [])) ++ (now ++ end)
    ≡ ((((((sum ++ (space ++ runs)) ++ (end ++ free)) ++ (end ++ row)) ++ sum) ++ (end ++ now)) ++ end)
joined sum space runs end free row now = simp (append_assoc, append-nil)

pub returns-clause-right : goal.returns-clause-right
unfolding digits encode_with
returns-clause-right c = record {
  order = map (λ e. e.token) first_history;
  whole = whole-is;
  places = place ∷ [];
  contents = All-cons IsTold place [] refl (All-nil IsTold);
  runs = All-cons HasRuns place [] (omega arith) (All-nil HasRuns);
  safe = safe-is;
  text = sym (ap (λ (xs : List ℕ). first_lines ++ xs)
      (joined (encode_lower (sha256 (codes "abc"))) (codes " ") (codes "0+1") (10 ∷ []) (codes "free 1023") (codes "row a 3 ") (codes "now 1")));
}
