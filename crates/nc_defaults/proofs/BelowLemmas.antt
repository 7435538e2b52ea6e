-- Values in use, place after place.
use Rattle.std.proofs.Common.{◌≡◌, ◌<◌, ◌+◌, ◌++◌, ◌∷◌, ◌∙◌, [], Bor, ℕ, List, ap, get_or, length, sym, take}
use Rattle.std.proofs.lemmas.Grind.{flat_map-append}
use Rattle.std.proofs.lemmas.List.{append-nil, map-append, take_more}
use Rattle.nc_names.specs.declared.path.Row.{Row}
use Rattle.nc_schema.specs.Places.{Place}
use Rattle.nc_schema.specs.Tables.{Tables}
use Rattle.nc_defaults.specs.Within.{place_here, places_in}
use Rattle.nc_defaults.specs.declared.spots.Spot.{Spot}
use Rattle.nc_defaults.specs.inner.Below.{texts, values_among, values_at}

-- the values of one place more
pub one_more : (tables : Tables) (leaf : ℕ) (rows : List Row) (spots : List Spot) (i : ℕ) (spot : Spot) (out more now : List (Bor (List ℕ))) →
    i < length spots → spot ≡ get_or spots i spot → now ≡ out ++ more → texts more ≡ values_at tables leaf (place_here rows spot.steps spot.here) →
    texts out ≡ values_among tables leaf (places_in rows (take i spots)) → texts now ≡ values_among tables leaf (places_in rows (take (i + 1) spots))
one_more tables leaf rows spots i spot out more now within at is here so_far =
    let place : Spot → Place = λ one. place_here rows one.steps one.here in
    let longer : take (i + 1) spots ≡ take i spots ++ spot ∷ [] = take_more spots i spot within ∙ ap (λ (one : Spot). take i spots ++ one ∷ []) (sym at) in
    ap texts is ∙ map-append (λ value. value.now) out more
    ∙ (λ k. so_far k ++ (here ∙ sym (append-nil (values_at tables leaf (place spot)))) k)
    ∙ sym (flat_map-append (values_at tables leaf) (places_in rows (take i spots)) (place spot ∷ []))
    ∙ ap (values_among tables leaf) (sym (map-append place (take i spots) (spot ∷ [])) ∙ ap (places_in rows) (sym longer))

-- the values of a place, and those of all below it
pub with_below : (tables : Tables) (leaf : ℕ) (place : Place) (below places : List Place) (out more now : List (Bor (List ℕ))) →
    now ≡ out ++ more → texts out ≡ values_at tables leaf place → texts more ≡ values_among tables leaf below → below ≡ places →
    texts now ≡ values_among tables leaf (place ∷ places)
with_below tables leaf place below places out more now is here rest same =
    ap texts is ∙ map-append (λ value. value.now) out more
    ∙ (λ k. here k ++ (rest ∙ ap (values_among tables leaf) same) k)
