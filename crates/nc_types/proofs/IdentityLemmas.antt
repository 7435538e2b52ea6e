-- The name of an identity, by where its colon stands.
use Rattle.std.proofs.Common.{◌≡◌, ◌<◌, ◌+◌, ◌||◌, not, ℕ, Bool, true, false, cond, eqb, List, [], ◌∷◌, Option, None, length, refl, sym, ap, ◌∙◌, arith}
use Rattle.std.specs.List.{after_first, before_first, list_any, position_or_len}
use Rattle.nc_names.specs.Signs.{colon}
use Rattle.nc_names.specs.declared.name.Bound.{Bound}
use Rattle.nc_names.specs.declared.name.QName.{QName}
use Rattle.nc_names.specs.Bindings.{space_of}
use Rattle.nc_schema.specs.Values.{identity_name, name_in}

found_step : (b : Bool) (n len : ℕ) (rest : Bool) → (n < len → rest ≡ true) → cond (not b) (1 + n) 0 < 1 + len → (b || rest) ≡ true
found_step true n len rest further within = refl
found_step false n len rest further within = further (omega (arith, within))

missing_step : (b : Bool) (n len : ℕ) (rest : Bool) → (n ≡ len → rest ≡ false) → cond (not b) (1 + n) 0 ≡ 1 + len → (b || rest) ≡ false
missing_step true n len rest further past = absurd (omega (arith, past))
missing_step false n len rest further past = further (omega (arith, past))

pub some_passes : (p : ℕ → Bool) (text : List ℕ) → position_or_len p text < length text → list_any p text ≡ true
some_passes p [] within = absurd (omega (arith, within))
some_passes p (c ∷ cs) within = found_step (p c) (position_or_len p cs) (length cs) (list_any p cs) (some_passes p cs) (omega (arith, within))

pub none_passes : (p : ℕ → Bool) (text : List ℕ) → position_or_len p text ≡ length text → list_any p text ≡ false
none_passes p [] past = refl
none_passes p (c ∷ cs) past = missing_step (p c) (position_or_len p cs) (length cs) (list_any p cs) (none_passes p cs) (omega (arith, past))

abbrev is_colon : ℕ → Bool
is_colon c = eqb c colon

pub colon_name : (bounds : List Bound) (text prefix name : List ℕ) (found : Option QName) → prefix ≡ before_first (λ c. eqb c colon) text → name ≡ after_first (λ c. eqb c colon) text → position_or_len (λ c. eqb c colon) text < length text → eqb (length prefix) 0 ≡ false → name_in (space_of prefix bounds) name ≡ found → identity_name bounds text ≡ found
colon_name bounds text prefix name found e f within some is =
    let some_there : eqb (length (before_first (λ c. eqb c colon) text)) 0 ≡ false = ap (λ x. eqb (length x) 0) (sym e) ∙ some in
    rw (some_passes is_colon text within, some_there) (ap (λ x. name_in (space_of x bounds) (after_first (λ c. eqb c colon) text)) (sym e) ∙ ap (name_in (space_of prefix bounds)) (sym f) ∙ is)

pub colon_empty : (bounds : List Bound) (text prefix : List ℕ) → prefix ≡ before_first (λ c. eqb c colon) text → position_or_len (λ c. eqb c colon) text < length text → eqb (length prefix) 0 ≡ true → identity_name bounds text ≡ None
colon_empty bounds text prefix e within none =
    let none_there : eqb (length (before_first (λ c. eqb c colon) text)) 0 ≡ true = ap (λ x. eqb (length x) 0) (sym e) ∙ none in
    rw (some_passes is_colon text within, none_there) refl

pub plain_name : (bounds : List Bound) (text : List ℕ) (found : Option QName) → position_or_len (λ c. eqb c colon) text ≡ length text → name_in (space_of [] bounds) text ≡ found → identity_name bounds text ≡ found
plain_name bounds text found past is = rw (none_passes is_colon text past) is
