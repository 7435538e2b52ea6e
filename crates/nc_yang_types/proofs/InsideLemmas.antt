-- Ascending parts lie in an ascending base where they lie along it.
use Rattle.std.proofs.Common.{◌≡◌, ◌&&◌, ◌||◌, Bool, true, false, cond, List, [], ◌∷◌, refl, ap, ◌∙◌, sym, arith}
use Rattle.std.specs.Prelude.{ℤ, int_le, int_lt}
use Rattle.std.specs.List.{list_all}
use Rattle.std.proofs.lemmas.Int.{ints}
use Rattle.nc_schema.specs.declared.value_type.Between.{Between}
use Rattle.nc_yang_types.specs.Ranges.{are_ascending, holds, is_below, lies_in}
use Rattle.nc_yang_types.specs.inner.Walks.{lie_along}

left : (a b : Bool) → (a && b) ≡ true → a ≡ true
left true b e = refl
left false b e = e

right : (a b : Bool) → (a && b) ≡ true → b ≡ true
right true b e = e
right false b e = cc

begins_after : (m low at : ℤ) → int_lt m low ≡ true → int_le low at ≡ true → int_lt m at ≡ true
begins_after m low at e f = grind (arith, ints)

passes_over : (m low high at : ℤ) → int_lt m low ≡ true → int_le low high ≡ true → int_lt high at ≡ true → int_lt m at ≡ true
passes_over m low high at e f g = grind (arith, ints)

past_end : (m last low high : ℤ) → int_le m last ≡ true → int_lt last low ≡ true → int_le low high ≡ true → int_le high m ≡ false
past_end m last low high e f g = grind (arith, ints)

no_higher : (m last low high : ℤ) → int_le m last ≡ true → int_lt last low ≡ true → int_le low high ≡ true → int_le m high ≡ true
no_higher m last low high e f g = grind (arith, ints)

before_end : (m low high : ℤ) → int_lt m low ≡ true → int_le low high ≡ true → int_le m high ≡ true
before_end m low high e f = grind (arith, ints)

first_least : (over : Between) (base : List Between) → are_ascending (over ∷ base) ≡ true → int_le over.least over.most ≡ true
first_least over base e =
    left (int_le over.least over.most) (is_below over.most base) (left (int_le over.least over.most && is_below over.most base) (are_ascending base) e)

rest_below : (over : Between) (base : List Between) → are_ascending (over ∷ base) ≡ true → is_below over.most base ≡ true
rest_below over base e =
    right (int_le over.least over.most) (is_below over.most base) (left (int_le over.least over.most && is_below over.most base) (are_ascending base) e)

rest_ascends : (over : Between) (base : List Between) → are_ascending (over ∷ base) ≡ true → are_ascending base ≡ true
rest_ascends over base e = right (int_le over.least over.most && is_below over.most base) (are_ascending base) e

-- what lies in parts that all begin after a number begins after it
above_step : (x : Bool) (m : ℤ) (over : Between) (base : List Between) (part : Between) → holds part over ≡ x → int_lt m over.least ≡ true → int_le over.least over.most ≡ true → (x || lies_in base part) ≡ true → (lies_in base part ≡ true → int_lt over.most part.least ≡ true) → int_lt m part.least ≡ true
above_step true m over base part e below whole lies further = begins_after m over.least part.least below (left (int_le over.least part.least) (int_le part.most over.most) e)
above_step false m over base part e below whole lies further = passes_over m over.least over.most part.least below whole (further lies)

above : (base : List Between) (m : ℤ) (part : Between) → is_below m base ≡ true → are_ascending base ≡ true → lies_in base part ≡ true → int_lt m part.least ≡ true
above [] m part below ascend lies = absurd (cc)
above (over ∷ base) m part below ascend lies =
    above_step (holds part over) m over base part refl below (first_least over base ascend) lies
    (above base over.most part (rest_below over base ascend) (rest_ascends over base ascend))

-- parts after the end of one do not lie in it
outside : (over part : Between) (x : Bool) → int_le over.least part.least ≡ x → int_le part.most over.most ≡ false → holds part over ≡ false
outside over part true e f = ap (λ b. b && int_le part.most over.most) e ∙ f
outside over part false e f = ap (λ b. b && int_le part.most over.most) e

skip : (over : Between) (base parts : List Between) (last : ℤ) → int_le over.most last ≡ true → is_below last parts ≡ true → are_ascending parts ≡ true → list_all (lies_in (over ∷ base)) parts ≡ list_all (lies_in base) parts
skip over base [] last e below ascend = refl
skip over base (part ∷ parts) last e below ascend =
    let none : holds part over ≡ false = outside over part (int_le over.least part.least) refl (past_end over.most last part.least part.most e below (first_least part parts ascend)) in
    ap (λ b. (b || lies_in base part) && list_all (lies_in (over ∷ base)) parts) none
    ∙ ap (λ b. lies_in base part && b) (skip over base parts part.most (no_higher over.most last part.least part.most e below (first_least part parts ascend)) (rest_below part parts ascend) (rest_ascends part parts ascend))

false_first : (y a b : Bool) → y ≡ false → (y && a) ≡ (y && b)
false_first true a b e = absurd (cc)
false_first false a b e = refl

step : (x y : Bool) (over part : Between) (base parts : List Between) → lies_in base part ≡ y → (x ≡ false → y ≡ true → list_all (lies_in (over ∷ base)) parts ≡ list_all (lies_in base) parts) → lie_along (over ∷ base) parts ≡ list_all (lies_in (over ∷ base)) parts → lie_along base (part ∷ parts) ≡ (lies_in base part && list_all (lies_in base) parts)
    → cond x (lie_along (over ∷ base) parts) (lie_along base (part ∷ parts)) ≡ ((x || lies_in base part) && list_all (lies_in (over ∷ base)) parts)
step true y over part base parts e same here further = here
step false true over part base parts e same here further = further ∙ ap (λ b. lies_in base part && b) (sym (same refl refl))
step false false over part base parts e same here further = further ∙ false_first (lies_in base part) (list_all (lies_in base) parts) (list_all (lies_in (over ∷ base)) parts) e

pub along : (base parts : List Between) → are_ascending base ≡ true → are_ascending parts ≡ true → lie_along base parts ≡ list_all (lies_in base) parts
along base [] up ascend = refl
along [] (part ∷ parts) up ascend = refl
along (over ∷ base) (part ∷ parts) up ascend =
    step (holds part over) (lies_in base part) over part base parts refl
    (λ no yes. skip over base parts part.most (before_end over.most part.least part.most (above base over.most part (rest_below over base up) (rest_ascends over base up) yes) (first_least part parts ascend)) (rest_below part parts ascend) (rest_ascends part parts ascend))
    (along (over ∷ base) parts up (rest_ascends part parts ascend))
    (along base (part ∷ parts) (rest_ascends over base up) ascend)
