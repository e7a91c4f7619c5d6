-- What the publication of a request brings (our own).
use Rattle.std.specs.Prelude.{◌≡◌, ℕ, List, length, flat_map}
use Rattle.sf_types.specs.Values.Marks.{births_in}
use Rattle.sf_types.specs.Space.Cuts.{Cut, cuts}
use Rattle.sf_types.specs.Space.Reach.{values_in}
use Rattle.sf_types.specs.Halves.Asks.{Request}
use Rattle.sf_store_half.specs.Fields.{Fields}
use Rattle.sf_store_half.specs.HalfMoves.{AreEnough, ArePlaceable, AreStocked, HasField, flushed_rows}

-- What a publication brings: its session is one of the store's; the births that it keeps and those that its values name have places;
-- the cuts are those of what it settles; and its blocks can be placed and are enough.
pub record IsPublication (f : Fields) (s : ℕ) (blocks : List ℕ) (of : List Cut) (request : Request) (kept : List ℕ) : Type 0 where
  pub has : HasField f s
  pub kept_stocked : AreStocked f kept
  pub named : AreStocked f (flat_map births_in (values_in (flushed_rows request)))
  pub cuts_are : of ≡ cuts f.options (flushed_rows request)
  pub places : ArePlaceable f blocks
  pub enough : AreEnough f of (length blocks)
