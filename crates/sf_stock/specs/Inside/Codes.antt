-- How what a stock is seen as is stored (our own).
use Rattle.std.specs.Prelude.{ℕ, Bool, List, refl}
use Rattle.std.specs.Coded.{Coded, code_by, coded×, coded_ℕ, coded_bool, coded_list}
use Rattle.sf_types.specs.Table.Parts.{Content}
use Rattle.sf_types.specs.Space.Placings.{Placed}
use Rattle.sf_lifetimes.specs.Ledgers.{Holdings}
use Rattle.sf_stock.specs.Stocks.{Stocked, StockView}

abbrev pub content_code : Coded Content
content_code =
    code_by (List ℕ × Bool) (coded× (coded_list coded_ℕ) coded_bool) (λ x. (x.bytes, x.is_shared)) (λ p. record { bytes = p.0; is_shared = p.1 }) (λ _. refl)

abbrev pub stocked_code : Coded Stocked
stocked_code =
    code_by (ℕ × (Content × List ℕ)) (coded× coded_ℕ (coded× content_code (coded_list coded_ℕ))) (λ x. (x.birth, (x.content, x.blocks))) (λ p. record { birth = p.0; content = p.1.0; blocks = p.1.1 }) (λ _. refl)

abbrev pub placed_code : Coded Placed
placed_code = code_by (ℕ × List ℕ) (coded× coded_ℕ (coded_list coded_ℕ)) (λ x. (x.birth, x.blocks)) (λ p. record { birth = p.0; blocks = p.1 }) (λ _. refl)

-- A stock is stored as its parts, one behind the other.
abbrev pub stock_code : Coded Holdings → Coded StockView
stock_code holdings =
    code_by (Holdings × (ℕ × (List Stocked × (List Placed × List ℕ)))) (coded× holdings (coded× coded_ℕ (coded× (coded_list stocked_code) (coded× (coded_list placed_code) (coded_list coded_ℕ)))))
    (λ s. (s.holdings, (s.next, (s.stocked, (s.left, s.parked)))))
    (λ p. record { holdings = p.0; next = p.1.0; stocked = p.1.1.0; left = p.1.1.1.0; parked = p.1.1.1.1 })
    (λ _. refl)
