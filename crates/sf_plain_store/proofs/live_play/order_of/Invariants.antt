use Rattle.std.proofs.Common.{◌≡◌, map, take}
use Rattle.sf_plain_store.proofs.live_play.order_of.Given as goal

abbrev pub invariant-loop-entry : goal.invariant-loop-entry
invariant-loop-entry l = l.tokens.items ≡ map (λ entry. entry.token) (take l.entry-index l.entries)
