use Rattle.std.proofs.Common.{◌≡◌, ◌+◌, ◌++◌, drop}
use Rattle.std.specs.Prelude.{flat_map}
use Rattle.sf_types.specs.Space.Reach.{Holding, session_holdings}
use Rattle.sf_plain_table.proofs.table.Table.births_of_sessions.Given as goal

abbrev pub invariant-loop-session : goal.invariant-loop-session
invariant-loop-session l =
    l.births.items ++ flat_map (λ (h : Holding). h.births) (session_holdings (l.session-index + 1) (drop l.session-index l.self.sessions))
    ≡ flat_map (λ (h : Holding). h.births) (session_holdings 1 l.self.sessions)
