use Rattle.std.proofs.Common.{◌≡◌, List, sym, subst}
use Rattle.sf_types.specs.Space.Cuts.{Cut}
use Rattle.sf_types.specs.Space.Promises.{flush_cuts, promise}
use Rattle.sf_types.specs.Orders.Histories.{history_table}
use Rattle.sf_types.specs.Halves.Own.{own_of}
use Rattle.sf_types.specs.Halves.Asks.{half_of}
use Rattle.sf_types.specs.Halves.Flushes.{Granted, NoSpace, half_promise}
use Rattle.sf_laws.specs.Halves.{Promises, IsGranted, IsRefused}
use Rattle.sf_laws.proofs.FloorLemmas.{floor_in_run}
use Rattle.sf_laws.proofs.FlushLemmas.{promise_by_half}
use Rattle.sf_laws.proofs.HalfLemmas.{asks_after}
use Rattle.sf_laws.proofs.PublicationLemmas.{cuts_by_own}
use Rattle.sf_laws.proofs.VerdictLemmas.{granted_where, refused_where}
use Rattle.sf_laws.proofs.halves.a_promise_is_asked_and_answered.Goals as goal

pub returns-clause-law : goal.returns-clause-law
returns-clause-law c options sessions s history call legal has due =
    let t = history_table options sessions history in
    let asks = asks_after options sessions s history legal has in
    subst (λ (of : List Cut). Promises (own_of t s) s (half_promise (half_of t) s call of) (promise t s call)) (sym (cuts_by_own t s call asks.rising due)) (promise_by_half t s call (flush_cuts t s call) has)

pub returns-clause-granted : goal.returns-clause-granted
returns-clause-granted c options sessions s blocks history call legal has due =
    let t = history_table options sessions history in
    let asks = asks_after options sessions s history legal has in
    subst (λ (of : List Cut). (half_promise (half_of t) s call of).1 ≡ Granted blocks → IsGranted t s call of blocks (promise t s call)) (sym (cuts_by_own t s call asks.rising due))
    (granted_where t s call (flush_cuts t s call) blocks (floor_in_run options sessions history legal))

pub returns-clause-refused : goal.returns-clause-refused
returns-clause-refused c options sessions s wanted free history call legal has due =
    let t = history_table options sessions history in
    let asks = asks_after options sessions s history legal has in
    subst (λ (of : List Cut). (half_promise (half_of t) s call of).1 ≡ NoSpace wanted free → IsRefused t of wanted free (promise t s call)) (sym (cuts_by_own t s call asks.rising due))
    (refused_where t s call (flush_cuts t s call) wanted free (floor_in_run options sessions history legal))
