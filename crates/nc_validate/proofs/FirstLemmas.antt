-- The first of a list, piece by piece.
use Rattle.std.proofs.Common.{◌≡◌, ◌++◌, ◌+◌, ◌<◌, ◌≤◌, ℕ, Bool, true, false, cond, not, List, [], ◌∷◌, length, drop, get_or, refl, sym, ap, ◌∙◌, arith, if◌then◌else◌}
use Rattle.std.specs.Prelude.{Option, Some, None, slice_get, is_some}
use Rattle.std.specs.List.{filter, flat_map}
use Rattle.std.proofs.lemmas.Grind.{common_steps}
use Rattle.nc_validate.specs.inner.First.{first, or_next}

pub first_append : {X : Type 0} (xs ys : List X) → first (xs ++ ys) ≡ or_next (first xs) (first ys)
first_append [] ys = refl
first_append (x ∷ xs) ys = refl

pub first_get : {X : Type 0} (xs : List X) → first xs ≡ slice_get xs 0
first_get [] = refl
first_get (x ∷ xs) = refl

some_next : {X : Type 0} (o p : Option X) → is_some o ≡ true → or_next o p ≡ o
some_next None p e = let clash : false ≡ true = e in cc
some_next (Some x) p e = refl

none_next : {X : Type 0} (o p : Option X) → is_some o ≡ false → or_next o p ≡ p
none_next None p e = refl
none_next (Some x) p e = let clash : true ≡ false = e in cc

-- of two pieces the first has what comes first, or the second
pub found_first : {X : Type 0} (o : Option X) (xs ys zs : List X) → o ≡ first xs → zs ≡ xs ++ ys → is_some o ≡ true → o ≡ first zs
found_first o xs ys zs is whole some =
    sym (some_next o (first ys) some) ∙ ap (λ p. or_next p (first ys)) is ∙ sym (first_append xs ys) ∙ ap first (sym whole)

-- one turn of a walk over pieces
pub turn_found : {X : Type 0} (o here left whole : Option X) → here ≡ or_next o left → here ≡ whole → is_some o ≡ true → o ≡ whole
turn_found o here left whole turn so_far some = sym (some_next o left some) ∙ sym turn ∙ so_far

pub turn_on : {X : Type 0} (o here left whole : Option X) → here ≡ or_next o left → here ≡ whole → is_some o ≡ false → left ≡ whole
turn_on o here left whole turn so_far none = sym (none_next o left none) ∙ sym turn ∙ so_far

cut : {X : Type 0} (xs : List X) (i : ℕ) (x : X) → i < length xs → x ≡ get_or xs i x → drop i xs ≡ x ∷ drop (i + 1) xs
cut xs i x within is = grind (arith, common_steps, is, within)

pub next_piece : {X Y : Type 0} (f : X → List Y) (xs : List X) (i : ℕ) (x : X) → i < length xs → x ≡ get_or xs i x →
    first (flat_map f (drop i xs)) ≡ or_next (first (f x)) (first (flat_map f (drop (i + 1) xs)))
next_piece {X = X} f xs i x within is =
    ap (λ (rest : List X). first (flat_map f rest)) (cut xs i x within is) ∙ first_append (f x) (flat_map f (drop (i + 1) xs))

pub no_piece : {X Y : Type 0} (f : X → List Y) (xs : List X) (i : ℕ) → length xs ≤ i → first (flat_map f (drop i xs)) ≡ None
no_piece {X = X} f xs i past = let none : drop i xs ≡ [] = grind (arith, common_steps, past) in ap (λ (rest : List X). first (flat_map f rest)) none

pub flat_filter : {X Y : Type 0} (f : X → List Y) (p : X → Bool) (xs : List X) →
    flat_map f (filter (λ x. not (p x)) xs) ≡ flat_map (λ x. if p x then [] else f x) xs
flat_filter f p [] = refl
flat_filter f p (x ∷ xs) = by (p x) (flat_filter f p xs)
  where
    by : (b : Bool) → flat_map f (filter (λ x. not (p x)) xs) ≡ flat_map (λ x. if p x then [] else f x) xs →
        flat_map f (cond (not b) (x ∷ filter (λ x. not (p x)) xs) (filter (λ x. not (p x)) xs)) ≡ (if b then [] else f x) ++ flat_map (λ x. if p x then [] else f x) xs
    by true more = more
    by false more = ap (λ ys. f x ++ ys) more

-- the same, at the element of a place
pub piece_at : {X Y : Type 0} (f : X → List Y) (xs : List X) (i : ℕ) (d : X) → i < length xs →
    first (flat_map f (drop i xs)) ≡ or_next (first (f (get_or xs i d))) (first (flat_map f (drop (i + 1) xs)))
piece_at {X = X} f xs i d within =
    ap (λ (rest : List X). first (flat_map f rest)) split ∙ first_append (f (get_or xs i d)) (flat_map f (drop (i + 1) xs))
  where
    split : drop i xs ≡ get_or xs i d ∷ drop (i + 1) xs
    split = grind (arith, common_steps, within)

-- a walk over pieces: where a piece has something it is the answer, and else the walk goes on
pub walk_stops : {X Y : Type 0} (f : X → List Y) (xs : List X) (i : ℕ) (x : X) (o whole : Option Y) → i < length xs → x ≡ get_or xs i x →
    o ≡ first (f x) → true ≡ is_some o → first (flat_map f (drop i xs)) ≡ whole → o ≡ whole
walk_stops f xs i x o whole within is found some so_far =
    turn_found o (first (flat_map f (drop i xs))) (first (flat_map f (drop (i + 1) xs))) whole
    (next_piece f xs i x within is ∙ ap (λ p. or_next p (first (flat_map f (drop (i + 1) xs)))) (sym found)) so_far (sym some)

pub stops_at : {X Y : Type 0} (f : X → List Y) (xs : List X) (i : ℕ) (d : X) (o whole : Option Y) → i < length xs →
    o ≡ first (f (get_or xs i d)) → true ≡ is_some o → first (flat_map f (drop i xs)) ≡ whole → o ≡ whole
stops_at f xs i d o whole within found some so_far =
    turn_found o (first (flat_map f (drop i xs))) (first (flat_map f (drop (i + 1) xs))) whole
    (piece_at f xs i d within ∙ ap (λ p. or_next p (first (flat_map f (drop (i + 1) xs)))) (sym found)) so_far (sym some)

pub goes_on_at : {X Y : Type 0} (f : X → List Y) (xs : List X) (i : ℕ) (d : X) (o whole : Option Y) → i < length xs →
    o ≡ first (f (get_or xs i d)) → false ≡ is_some o → first (flat_map f (drop i xs)) ≡ whole → first (flat_map f (drop (i + 1) xs)) ≡ whole
goes_on_at f xs i d o whole within found none so_far =
    turn_on o (first (flat_map f (drop i xs))) (first (flat_map f (drop (i + 1) xs))) whole
    (piece_at f xs i d within ∙ ap (λ p. or_next p (first (flat_map f (drop (i + 1) xs)))) (sym found)) so_far (sym none)

pub walk_ends : {X Y : Type 0} (f : X → List Y) (xs : List X) (i : ℕ) (whole : Option Y) → length xs ≤ i → first (flat_map f (drop i xs)) ≡ whole → None ≡ whole
walk_ends f xs i whole past so_far = sym (no_piece f xs i past) ∙ so_far
