-- A rising list of births goes on with a greater one.
use Rattle.std.proofs.Common.{ℕ, ◌<◌, List, [], ◌∷◌, ◌++◌}
use Rattle.sf_types.specs.Inside.Births.{IsBelowAll, IsRising, IsAboveAll}

IsBelowAll-push : (b : ℕ) (bs : List ℕ) (birth : ℕ) → IsBelowAll b bs → b < birth → IsBelowAll b (bs ++ birth ∷ [])
IsBelowAll-push b [] birth below lt = (lt, tt)
IsBelowAll-push b (c ∷ bs) birth below lt = (below.0, IsBelowAll-push b bs birth below.1 lt)

pub IsRising-push : (bs : List ℕ) (birth : ℕ) → IsRising bs → IsAboveAll birth bs → IsRising (bs ++ birth ∷ [])
IsRising-push [] birth rising above = (tt, tt)
IsRising-push (b ∷ bs) birth rising above = (IsBelowAll-push b bs birth rising.0 above.0, IsRising-push bs birth rising.1 above.1)
