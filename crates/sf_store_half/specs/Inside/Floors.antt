-- What becomes of versions and holdings as versions are given up (our own).
use Rattle.std.specs.Prelude.{ℕ, List, [], ◌∷◌}
use Rattle.sf_types.specs.declared.holder.Holder.TheVariants as holder
use Rattle.sf_lifetimes.specs.Ledgers.{Holdings, with_births}
use Rattle.sf_retention.specs.declared.retention.Pair.{Pair}
use Rattle.sf_stock.specs.Stocks.{StockView, with_holder}
use Rattle.sf_versions.specs.VersionTables.{VersionTable, IsDisplaced, without_version}

-- The versions without some, one after the other.
abbrev pub versions_without : VersionTable → List Pair → VersionTable
versions_without t [] = t
versions_without t (p ∷ ps) = versions_without (without_version t p.name p.from) ps

-- The holdings where these versions hold nothing.
abbrev pub holdings_without : Holdings → List Pair → Holdings
holdings_without m [] = m
holdings_without m (p ∷ ps) = holdings_without (with_births m (holder.Version p.name p.from) []) ps

-- Each of these versions is displaced, once those before it are gone.
abbrev pub AreDisplaced : VersionTable → List Pair → Type 0
AreDisplaced t [] = Unit {0}
AreDisplaced t (p ∷ ps) = IsDisplaced t.rows p.name p.from × AreDisplaced (without_version t p.name p.from) ps

-- The stock where these versions hold nothing.
abbrev pub stock_without : StockView → List Pair → StockView
stock_without s [] = s
stock_without s (p ∷ ps) = stock_without (with_holder s (holder.Version p.name p.from) []) ps

-- The stock where session s holds these births, its promise those that were found, and some versions nothing.
abbrev pub stock_promised : StockView → ℕ → List ℕ → List ℕ → List Pair → StockView
stock_promised stock s births found due =
    stock_without (with_holder (with_holder stock (holder.Session s) births) (holder.Promise s) found) due
