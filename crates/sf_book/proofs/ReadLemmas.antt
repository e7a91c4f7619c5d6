-- What a Book tells, by its half of the table.
use Rattle.std.proofs.Common.{◌≡◌, ◌&&◌, ◌||◌, List, [], ◌∷◌, length, map, Option, Some, None, refl, sym, ap, ◌∙◌}
use Rattle.std.specs.Prelude.{is_some}
use Rattle.std.specs.List.{AllByRecursion as Each, list_all, list_any}
use Rattle.std.specs.Option.{option_map, option_map_or}
use Rattle.std.proofs.lemmas.List.Elements.{recursion_from_All}
use Rattle.sha2.specs.Sha256.{sha256}
use Rattle.sf_types.specs.declared.place.Place.{Place}
use Rattle.sf_types.specs.Table.Parts.{Content, Promise, Session, Table}
use Rattle.sf_types.specs.Space.Grants.{maximal_runs}
use Rattle.sf_types.specs.Space.Use.{content_of}
use Rattle.sf_types.specs.Halves.Asks.{half_of}
use Rattle.sf_stock.specs.Stocks.{Stocked, place_of, places_of}
use Rattle.sf_stock.specs.Stocks as stock
use Rattle.sf_store_half.specs.declared.session_fields.Promised.{Promised}
use Rattle.sf_store_half.specs.declared.session_fields.SessionField.{SessionField}
use Rattle.sf_store_half.specs.Fields.{Fields, Keeps}
use Rattle.sf_book.specs.Books.{listed_place}
use Rattle.sf_book.proofs.CancelLemmas.{field_of, fields_of}

-- the sessions that have ended are those of the table
ended_same : (ps : List Session) → list_all (λ (field : SessionField). field.has_ended) (map field_of ps) ≡ list_all (λ (p : Session). p.has_ended) ps
ended_same [] = refl
ended_same (p ∷ ps) = ap (λ b. p.has_ended && b) (ended_same ps)

pub all_ended_by_half : (f : Fields) (t : Table) → Keeps f (half_of t) → list_all (λ (field : SessionField). field.has_ended) f.sessions ≡ list_all (λ (p : Session). p.has_ended) t.sessions
all_ended_by_half f t keeps = ap (λ (xs : List SessionField). list_all (λ (field : SessionField). field.has_ended) xs) (keeps.sessions ∙ fields_of t.sessions) ∙ ended_same t.sessions

-- the promises that stand are those of the table
some_same : (o : Option Promise) → is_some (option_map {U = Promised} (λ x. record { call = x.call; blocks = x.blocks }) o) ≡ is_some o
some_same None = refl
some_same (Some q) = refl

promised_same : (ps : List Session) → list_any (λ (field : SessionField). is_some field.promise) (map field_of ps) ≡ list_any (λ (p : Session). is_some p.promise) ps
promised_same [] = refl
promised_same (p ∷ ps) = ap (λ b. b || list_any (λ (field : SessionField). is_some field.promise) (map field_of ps)) (some_same p.promise) ∙ ap (λ b. is_some p.promise || b) (promised_same ps)

pub has_promise_by_half : (f : Fields) (t : Table) → Keeps f (half_of t) → list_any (λ (field : SessionField). is_some field.promise) f.sessions ≡ list_any (λ (p : Session). is_some p.promise) t.sessions
has_promise_by_half f t keeps = ap (λ (xs : List SessionField). list_any (λ (field : SessionField). is_some field.promise) xs) (keeps.sessions ∙ fields_of t.sessions) ∙ promised_same t.sessions

-- what a stock lists is what the table has of its births
place_listed : (t : Table) (x : Stocked) → content_of t.contents x.birth ≡ Some x.content → stock.listed_place x ≡ listed_place t (place_of x)
place_listed t x is = ap told (sym is)
  where
    told : Option Content → Place
    told o =
        let bytes = option_map_or (λ c. c.bytes) o [] in
        record { birth = x.birth; len = length bytes; sum = sha256 bytes; runs = maximal_runs x.blocks }

all_listed : (t : Table) (xs : List Stocked) → Each (λ x. content_of t.contents x.birth ≡ Some x.content) xs → map stock.listed_place xs ≡ map (listed_place t) (places_of xs)
all_listed t [] all = refl
all_listed t (x ∷ xs) all =
    ap (λ (p : Place). p ∷ map stock.listed_place xs) (place_listed t x all.0) ∙ ap (λ (ps : List Place). listed_place t (place_of x) ∷ ps) (all_listed t xs all.1)

pub listed_by_half : (f : Fields) (t : Table) → Keeps f (half_of t) → map stock.listed_place f.stock.stocked ≡ map (listed_place t) (places_of f.stock.stocked)
listed_by_half f t keeps = all_listed t f.stock.stocked (recursion_from_All (λ (x : Stocked). content_of t.contents x.birth ≡ Some x.content) f.stock.stocked keeps.contents)
