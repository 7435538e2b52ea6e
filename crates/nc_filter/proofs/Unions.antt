-- Whether one of some things passes a test, where the list of them is made of others.
use Rattle.std.proofs.Common.{◌≡◌, ◌||◌, ◌&&◌, Bool, true, false, List, [], ◌∷◌, ◌++◌, refl, sym, ap, ◌∙◌, if◌then◌else◌}
use Rattle.std.specs.Prelude.{map}
use Rattle.std.specs.List.{filter, flat_map, list_any}
use Rattle.std.proofs.lemmas.List.Folds.{list_any-append}
use Rattle.nc_names.specs.declared.path.Row.{Row}
use Rattle.nc_filter.specs.inner.Picks.{Adds}

pub or_false : (b : Bool) → (b || false) ≡ b
or_false true = refl
or_false false = refl

pub or_true : (b : Bool) → (b || true) ≡ true
or_true true = refl
or_true false = refl

pub or_swap : (a b : Bool) → (a || b) ≡ (b || a)
or_swap true b = sym (or_true b)
or_swap false b = sym (or_false b)

pub or_assoc : (a b c : Bool) → ((a || b) || c) ≡ (a || (b || c))
or_assoc true b c = refl
or_assoc false b c = refl

pub or_turned : (a b c d : Bool) → ((a || b) || (c || d)) ≡ ((a || c) || (b || d))
or_turned true b c d = refl
or_turned false true true d = refl
or_turned false true false d = refl
or_turned false false c d = refl

pub and_false : (b : Bool) → (b && false) ≡ false
and_false true = refl
and_false false = refl

pub and_swap : (a b : Bool) → (a && b) ≡ (b && a)
and_swap true true = refl
and_swap true false = refl
and_swap false true = refl
and_swap false false = refl

pub and_assoc : (a b c : Bool) → ((a && b) && c) ≡ (a && (b && c))
and_assoc true b c = refl
and_assoc false b c = refl

pub or_and : (a b c : Bool) → ((a || b) && c) ≡ ((a && c) || (b && c))
or_and true true true = refl
or_and true true false = refl
or_and true false c = sym (or_false c)
or_and false b c = refl

pub any_same : {X : Type 0} (p q : X → Bool) (xs : List X) → ((x : X) → p x ≡ q x) → list_any p xs ≡ list_any q xs
any_same p q xs same = λ i. list_any (λ x. same x i) xs

pub any_nothing : {X : Type 0} (xs : List X) → list_any (λ x. false) xs ≡ false
any_nothing [] = refl
any_nothing (x ∷ xs) = any_nothing xs

pub any_filter : {X : Type 0} (f p : X → Bool) (xs : List X) → list_any f (filter p xs) ≡ list_any (λ x. p x && f x) xs
any_filter f p [] = refl
any_filter f p (x ∷ xs) = by (p x) (any_filter f p xs)
  where
    by : (b : Bool) → list_any f (filter p xs) ≡ list_any (λ x. p x && f x) xs →
        list_any f (if b then x ∷ filter p xs else filter p xs) ≡ ((b && f x) || list_any (λ x. p x && f x) xs)
    by true more = ap (λ b. f x || b) more
    by false more = more

pub any_or : {X : Type 0} (p q : X → Bool) (xs : List X) → list_any (λ x. p x || q x) xs ≡ (list_any p xs || list_any q xs)
any_or p q [] = refl
any_or p q (x ∷ xs) = ap (λ b. (p x || q x) || b) (any_or p q xs) ∙ or_turned (p x) (q x) (list_any p xs) (list_any q xs)

pub any_and : {X : Type 0} (k : Bool) (q : X → Bool) (xs : List X) → list_any (λ x. k && q x) xs ≡ (k && list_any q xs)
any_and true q xs = refl
any_and false q xs = any_nothing xs

pub any_and_last : {X : Type 0} (q : X → Bool) (k : Bool) (xs : List X) → list_any (λ x. q x && k) xs ≡ (list_any q xs && k)
any_and_last q k xs = any_same (λ x. q x && k) (λ x. k && q x) xs (λ x. and_swap (q x) k) ∙ any_and k q xs ∙ and_swap k (list_any q xs)

-- a test of pairs may begin with either
pub any_turned : {X Y : Type 0} (f : X → Y → Bool) (xs : List X) (ys : List Y) → list_any (λ x. list_any (f x) ys) xs ≡ list_any (λ y. list_any (λ x. f x y) xs) ys
any_turned f [] ys = sym (any_nothing ys)
any_turned f (x ∷ xs) ys = ap (λ b. list_any (f x) ys || b) (any_turned f xs ys) ∙ sym (any_or (f x) (λ y. list_any (λ x. f x y) xs) ys)

pub any_map : {X Y : Type 0} (f : Y → Bool) (g : X → Y) (xs : List X) → list_any f (map g xs) ≡ list_any (λ x. f (g x)) xs
any_map f g [] = refl
any_map f g (x ∷ xs) = ap (λ b. f (g x) || b) (any_map f g xs)

pub any_flat_map : {X Y : Type 0} (f : Y → Bool) (g : X → List Y) (xs : List X) → list_any f (flat_map g xs) ≡ list_any (λ x. list_any f (g x)) xs
any_flat_map f g [] = refl
any_flat_map f g (x ∷ xs) = list_any-append f (g x) (flat_map g xs) ∙ ap (λ b. list_any f (g x) || b) (any_flat_map f g xs)

-- where nothing passes a test, nothing passes one that asks for more
pub no_more : {X : Type 0} (p q : X → Bool) (xs : List X) → ((x : X) → p x ≡ false → q x ≡ false) → list_any p xs ≡ false → list_any q xs ≡ false
no_more p q [] less none = refl
no_more {X} p q (x ∷ xs) less none = by (p x) refl none (λ rest. no_more p q xs less rest)
  where
    by : (b : Bool) → p x ≡ b → (b || list_any p xs) ≡ false → (list_any p xs ≡ false → list_any q xs ≡ false) → (q x || list_any q xs) ≡ false
    by true e none more = let clash : true ≡ false = none in cc
    by false e none more = λ i. less x e i || more none i

-- ---- rows that come to what was found
pub adds_same : (before now : List Row) (p q : Row → Bool) (rows : List Row) → ((row : Row) → p row ≡ q row) → Adds before now p rows → Adds before now q rows
adds_same before now p q rows same adds test = adds test ∙ ap (λ b. list_any test before || b) (any_same (λ row. p row && test row) (λ row. q row && test row) rows (λ row. ap (λ b. b && test row) (same row)))

pub adds_none : (before : List Row) (p : Row → Bool) (rows : List Row) → ((row : Row) → p row ≡ false) → Adds before before p rows
adds_none before p rows none test =
    sym (ap (λ b. list_any test before || b) (any_same (λ row. p row && test row) (λ row. false) rows (λ row. ap (λ b. b && test row) (none row)) ∙ any_nothing rows) ∙ or_false (list_any test before))

pub adds_then : (before mid now : List Row) (p q : Row → Bool) (rows : List Row) → Adds before mid p rows → Adds mid now q rows → Adds before now (λ row. p row || q row) rows
adds_then before mid now p q rows first second test =
    second test ∙ ap (λ b. b || list_any (λ row. q row && test row) rows) (first test)
    ∙ or_assoc (list_any test before) (list_any (λ row. p row && test row) rows) (list_any (λ row. q row && test row) rows)
    ∙ ap (λ b. list_any test before || b) (sym (any_or (λ row. p row && test row) (λ row. q row && test row) rows)
    ∙ any_same (λ row. (p row && test row) || (q row && test row)) (λ row. (p row || q row) && test row) rows (λ row. sym (or_and (p row) (q row) (test row))))

pub adds_among : (before now : List Row) (p among : Row → Bool) (rows : List Row) → Adds before now p (filter among rows) → Adds before now (λ row. among row && p row) rows
adds_among before now p among rows adds test =
    adds test ∙ ap (λ b. list_any test before || b) (any_filter (λ row. p row && test row) among rows
    ∙ any_same (λ row. among row && (p row && test row)) (λ row. (among row && p row) && test row) rows (λ row. sym (and_assoc (among row) (p row) (test row))))

pub adds_all : (before rows : List Row) → Adds before (before ++ rows) (λ row. true) rows
adds_all before rows test = list_any-append test before rows
