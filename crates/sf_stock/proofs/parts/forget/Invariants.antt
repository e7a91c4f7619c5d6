use Rattle.std.proofs.Common.{◌≡◌, ◌≤◌, take}
use Rattle.sf_stock.specs.Inside.Keeps.{without_births}
use Rattle.sf_stock.proofs.parts.forget.Given as goal

-- the births before this one are gone
abbrev pub invariant-loop-place : goal.invariant-loop-place
invariant-loop-place l = record {
  known : l.known.held ≡ without_births l.fn.known.held (take l.place-index l.gone);
  index : l.index.held ≡ without_births l.fn.index.held (take l.place-index l.gone);
  known_spare : l.fn.known.spare ≤ l.known.spare;
  index_spare : l.fn.index.spare ≤ l.index.spare;
}
