-- How what a ledger is seen as is stored (our own).
use Rattle.std.specs.Prelude.{List, refl}
use Rattle.std.specs.Coded.{Coded, code_by, coded×}
use Rattle.sf_types.specs.declared.holder.Holder.{Holder}
use Rattle.sf_lifetimes.specs.Ledgers.{Places, Holdings, LedgerView, GivenUpView}

-- A ledger's maps are stored as their pair.
abbrev pub ledger_code : Coded Places → Coded Holdings → Coded LedgerView
ledger_code places holdings = code_by (Places × Holdings) (coded× places holdings) (λ l. (l.places, l.holdings)) (λ p. record { places = p.0; holdings = p.1 }) (λ _. refl)

-- Holders that are given up are stored as the ledger and their list.
abbrev pub given_up_code : Coded LedgerView → Coded (List Holder) → Coded GivenUpView
given_up_code ledger holders = code_by (LedgerView × List Holder) (coded× ledger holders) (λ g. (g.ledger, g.holders)) (λ p. record { ledger = p.0; holders = p.1 }) (λ _. refl)
