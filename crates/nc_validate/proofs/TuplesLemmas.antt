-- Two entries agree where they have a tuple of values in common.
use Rattle.std.proofs.Common.{◌≡◌, ◌&&◌, ◌||◌, ◌++◌, ◌+◌, ◌<◌, ℕ, length, take, get_or, Bool, true, false, List, [], ◌∷◌, refl, sym, ap, ◌∙◌, Bor}
use Rattle.std.specs.Prelude.{map, fold}
use Rattle.std.specs.List.{flat_map, list_any}
use Rattle.std.proofs.lemmas.List.Folds.{list_any-append}
use Rattle.std.proofs.lemmas.Grind.{flat_map-append, fold-append}
use Rattle.std.proofs.lemmas.List.{append-nil, map-append, take_more}
use Rattle.nc_names.specs.Same.{is_same_keys, is_same_text}
use Rattle.nc_schema.specs.InUse.{values_below}
use Rattle.nc_schema.specs.Places.{Place}
use Rattle.nc_schema.specs.Tables.{Tables}
use Rattle.nc_schema.specs.Violations.{agree_in, has_text}
use Rattle.nc_validate.specs.inner.Tuples.{all_texts, extended, is_tuple_in, shares, texts, tuples_of}

-- ---- tests of some element
pub any_map : {X Y : Type 0} (p : Y → Bool) (f : X → Y) (xs : List X) → list_any p (map f xs) ≡ list_any (λ x. p (f x)) xs
any_map p f [] = refl
any_map p f (x ∷ xs) = ap (λ b. p (f x) || b) (any_map p f xs)

any_flat : {X Y : Type 0} (p : Y → Bool) (f : X → List Y) (xs : List X) → list_any p (flat_map f xs) ≡ list_any (λ x. list_any p (f x)) xs
any_flat p f [] = refl
any_flat p f (x ∷ xs) = list_any-append p (f x) (flat_map f xs) ∙ ap (λ b. list_any p (f x) || b) (any_flat p f xs)

pub any_same : {X : Type 0} (p q : X → Bool) (xs : List X) → ((x : X) → p x ≡ q x) → list_any p xs ≡ list_any q xs
any_same p q xs same = λ i. list_any (λ x. same x i) xs

and_false : (b : Bool) → (b && false) ≡ false
and_false true = refl
and_false false = refl

spread : (a b c : Bool) → ((a && b) || (a && c)) ≡ (a && (b || c))
spread true b c = refl
spread false b c = refl

gather : (a b c : Bool) → ((a && c) || (b && c)) ≡ ((a || b) && c)
gather true true true = refl
gather true true false = refl
gather true false true = refl
gather true false false = refl
gather false b c = refl

any_and : {X : Type 0} (a : Bool) (q : X → Bool) (xs : List X) → list_any (λ x. a && q x) xs ≡ (a && list_any q xs)
any_and a q [] = sym (and_false a)
any_and a q (x ∷ xs) = ap (λ b. (a && q x) || b) (any_and a q xs) ∙ spread a (q x) (list_any q xs)

and_any : {X : Type 0} (p : X → Bool) (c : Bool) (xs : List X) → list_any (λ x. p x && c) xs ≡ (list_any p xs && c)
and_any p c [] = refl
and_any p c (x ∷ xs) = ap (λ b. (p x && c) || b) (and_any p c xs) ∙ gather (p x) (list_any p xs) c

swap_or : (a b c d : Bool) → ((a || b) || (c || d)) ≡ ((a || c) || (b || d))
swap_or true b c d = refl
swap_or false true true d = refl
swap_or false true false d = refl
swap_or false false c d = refl

any_or : {X : Type 0} (p q : X → Bool) (xs : List X) → list_any (λ x. p x || q x) xs ≡ (list_any p xs || list_any q xs)
any_or p q [] = refl
any_or p q (x ∷ xs) = ap (λ b. (p x || q x) || b) (any_or p q xs) ∙ swap_or (p x) (q x) (list_any p xs) (list_any q xs)

any_none : {X : Type 0} (xs : List X) → list_any (λ x. false) xs ≡ false
any_none [] = refl
any_none (x ∷ xs) = any_none xs

-- some pair passes, whichever is looked for first
pub any_swap : {X Y : Type 0} (p : X → Y → Bool) (xs : List X) (ys : List Y) →
    list_any (λ x. list_any (p x) ys) xs ≡ list_any (λ y. list_any (λ x. p x y) xs) ys
any_swap p [] ys = sym (any_none ys)
any_swap p (x ∷ xs) ys = ap (λ b. list_any (p x) ys || b) (any_swap p xs ys) ∙ sym (any_or (p x) (λ y. list_any (λ x. p x y) xs) ys)

-- ---- tuples with one value more
same_longer : (tuple other : List (List ℕ)) (value last : List ℕ) →
    is_same_keys (tuple ++ value ∷ []) (other ++ last ∷ []) ≡ (is_same_keys tuple other && is_same_text value last)
same_longer [] [] value last = by (is_same_text value last)
  where
    by : (b : Bool) → (b && true) ≡ b
    by true = refl
    by false = refl
same_longer [] (one ∷ []) value last = and_false (is_same_text value one)
same_longer [] (one ∷ next ∷ other) value last = and_false (is_same_text value one)
same_longer (one ∷ []) [] value last = and_false (is_same_text one last)
same_longer (one ∷ next ∷ tuple) [] value last = and_false (is_same_text one last)
same_longer (one ∷ tuple) (first ∷ other) value last = by (is_same_text one first) (same_longer tuple other value last)
  where
    by : (b : Bool) → is_same_keys (tuple ++ value ∷ []) (other ++ last ∷ []) ≡ (is_same_keys tuple other && is_same_text value last) →
        (b && is_same_keys (tuple ++ value ∷ []) (other ++ last ∷ [])) ≡ ((b && is_same_keys tuple other) && is_same_text value last)
    by true e = e
    by false e = refl

shares_longer : (tuples others : List (List (List ℕ))) (values lasts : List (List ℕ)) →
    shares (extended tuples values) (extended others lasts) ≡ (shares tuples others && list_any (λ value. has_text value lasts) values)
shares_longer tuples others values lasts =
    any_flat (is_tuple_in (extended others lasts)) (λ tuple. map (λ value. tuple ++ value ∷ []) values) tuples
    ∙ any_same (λ tuple. list_any (is_tuple_in (extended others lasts)) (map (λ value. tuple ++ value ∷ []) values))
    (λ tuple. is_tuple_in others tuple && list_any (λ value. has_text value lasts) values) tuples each
    ∙ and_any (is_tuple_in others) (list_any (λ value. has_text value lasts) values) tuples
  where
    one : (tuple : List (List ℕ)) (value : List ℕ) → is_tuple_in (extended others lasts) (tuple ++ value ∷ []) ≡ (is_tuple_in others tuple && has_text value lasts)
    one tuple value =
        any_flat (is_same_keys (tuple ++ value ∷ [])) (λ other. map (λ last. other ++ last ∷ []) lasts) others
        ∙ any_same (λ other. list_any (is_same_keys (tuple ++ value ∷ [])) (map (λ last. other ++ last ∷ []) lasts)) (λ other. is_same_keys tuple other && has_text value lasts) others
        (λ other. any_map (is_same_keys (tuple ++ value ∷ [])) (λ last. other ++ last ∷ []) lasts
        ∙ any_same (λ last. is_same_keys (tuple ++ value ∷ []) (other ++ last ∷ [])) (λ last. is_same_keys tuple other && is_same_text value last) lasts
        (λ last. same_longer tuple other value last)
        ∙ any_and (is_same_keys tuple other) (is_same_text value) lasts)
        ∙ and_any (is_same_keys tuple) (has_text value lasts) others

    each : (tuple : List (List ℕ)) →
        list_any (is_tuple_in (extended others lasts)) (map (λ value. tuple ++ value ∷ []) values) ≡ (is_tuple_in others tuple && list_any (λ value. has_text value lasts) values)
    each tuple =
        any_map (is_tuple_in (extended others lasts)) (λ value. tuple ++ value ∷ []) values
        ∙ any_same (λ value. is_tuple_in (extended others lasts) (tuple ++ value ∷ [])) (λ value. is_tuple_in others tuple && has_text value lasts) values (one tuple)
        ∙ any_and (is_tuple_in others tuple) (λ value. has_text value lasts) values

and_more : (a b c : Bool) → ((a && b) && c) ≡ (a && (b && c))
and_more true b c = refl
and_more false b c = refl

and_true : (b : Bool) → (b && true) ≡ b
and_true true = refl
and_true false = refl

shares_all : (tables : Tables) (leafs : List ℕ) (entry other : Place) (tuples others : List (List (List ℕ))) →
    shares (fold (λ tuples leaf. extended tuples (values_below tables entry leaf)) tuples leafs) (fold (λ tuples leaf. extended tuples (values_below tables other leaf)) others leafs)
    ≡ (shares tuples others && agree_in tables leafs entry other)
shares_all tables [] entry other tuples others = sym (and_true (shares tuples others))
shares_all tables (leaf ∷ leafs) entry other tuples others =
    shares_all tables leafs entry other (extended tuples (values_below tables entry leaf)) (extended others (values_below tables other leaf))
    ∙ ap (λ b. b && agree_in tables leafs entry other) (shares_longer tuples others (values_below tables entry leaf) (values_below tables other leaf))
    ∙ and_more (shares tuples others) (list_any (λ value. has_text value (values_below tables other leaf)) (values_below tables entry leaf)) (agree_in tables leafs entry other)

pub agree_is : (tables : Tables) (leafs : List ℕ) (entry other : Place) → shares (tuples_of tables leafs entry) (tuples_of tables leafs other) ≡ agree_in tables leafs entry other
agree_is tables leafs entry other = shares_all tables leafs entry other ([] ∷ []) ([] ∷ [])

-- ---- tuples gathered one after another
pub extended_next : (tuples : List (List (Bor (List ℕ)))) (values : List (List ℕ)) (i : ℕ) (tuple : List (Bor (List ℕ))) → i < length tuples → tuple ≡ get_or tuples i tuple →
    extended (all_texts (take (i + 1) tuples)) values ≡ extended (all_texts (take i tuples)) values ++ map (λ value. texts tuple ++ value ∷ []) values
extended_next tuples values i tuple within is =
    ap (λ ts. extended (all_texts ts) values) (take_more tuples i tuple within ∙ ap (λ (one : List (Bor (List ℕ))). take i tuples ++ one ∷ []) (sym is))
    ∙ ap (λ ts. extended ts values) (map-append texts (take i tuples) (tuple ∷ []))
    ∙ flat_map-append (λ one. map (λ value. one ++ value ∷ []) values) (all_texts (take i tuples)) (texts tuple ∷ [])
    ∙ ap (λ more. extended (all_texts (take i tuples)) values ++ more) (append-nil (map (λ value. texts tuple ++ value ∷ []) values))

pub tuples_next : (tables : Tables) (leafs : List ℕ) (i : ℕ) (entry : Place) → i < length leafs →
    tuples_of tables (take (i + 1) leafs) entry ≡ extended (tuples_of tables (take i leafs) entry) (values_below tables entry (get_or leafs i 0))
tuples_next tables leafs i entry within =
    ap (λ ls. tuples_of tables ls entry) (take_more leafs i 0 within)
    ∙ fold-append (λ tuples leaf. extended tuples (values_below tables entry leaf)) ([] ∷ []) (take i leafs) (get_or leafs i 0 ∷ [])
