-- Which entries stand before one that is put in its place, by the entries as they stand.
use Rattle.std.proofs.Common.{◌≡◌, ◌++◌, ◌||◌, ◌&&◌, ◌==◌, ℕ, Bool, true, false, cond, not, List, [], ◌∷◌, Option, Some, None, refl, sym, ap, ◌∙◌}
use Rattle.std.specs.List.{cons_option}
use Rattle.std.specs.Option.{option_map_or}
use Rattle.nc_names.proofs.SameLemmas.{keys_decide, step_decide}
use Rattle.nc_names.specs.Same.{is_same_keys, is_same_path, is_same_step}
use Rattle.nc_names.specs.declared.path.Row.{Row}
use Rattle.nc_names.specs.declared.path.Step.{Step}
use Rattle.nc_schema.specs.Standing.{entries, has_entry, has_row, keys_in, put_after, put_before, stands_before, without_entry}

abbrev Keys : Type 0
Keys = List (List ℕ)

pub keys_itself : (keys : Keys) → is_same_keys keys keys ≡ true
keys_itself keys = (keys_decide keys keys).1 refl

-- keys that are not the same stay so where one is named by another word
other_keys : (x e k : Keys) → is_same_keys x e ≡ true → is_same_keys e k ≡ false → is_same_keys x k ≡ false
other_keys x e k same other = ap (λ y. is_same_keys y k) ((keys_decide x e).0 same) ∙ other

pub turned : (e k : Keys) → is_same_keys e k ≡ false → is_same_keys k e ≡ false
turned e k other = by (is_same_keys k e) refl
  where
    by : (b : Bool) → is_same_keys k e ≡ b → b ≡ false
    by false f = refl
    by true f = let back : is_same_keys e k ≡ true = (keys_decide e k).1 (sym ((keys_decide k e).0 f)) in cc

-- an entry among the first stands before one that is not
pub ahead_split : (xs ys : List Keys) (k p : Keys) → has_entry k xs ≡ true → has_entry p xs ≡ false → stands_before (xs ++ ys) k p ≡ true
ahead_split [] ys k p some none = absurd (cc some)
ahead_split (x ∷ xs) ys k p some none = by (is_same_keys x p) none (is_same_keys x k) some (ahead_split xs ys k p)
  where
    by : (b : Bool) → (b || has_entry p xs) ≡ false → (c : Bool) → (c || has_entry k xs) ≡ true → (has_entry k xs ≡ true → has_entry p xs ≡ false → stands_before (xs ++ ys) k p ≡ true) →
        cond b false (cond c true (stands_before (xs ++ ys) k p)) ≡ true
    by true e c f more = absurd (cc e)
    by false e true f more = refl
    by false e false f more = more f e

-- and one that is not among them does not stand before one that is
pub behind_split : (xs ys : List Keys) (k p : Keys) → has_entry p xs ≡ true → has_entry k xs ≡ false → stands_before (xs ++ ys) k p ≡ false
behind_split [] ys k p some none = absurd (cc some)
behind_split (x ∷ xs) ys k p some none = by (is_same_keys x p) some (is_same_keys x k) none (behind_split xs ys k p)
  where
    by : (b : Bool) → (b || has_entry p xs) ≡ true → (c : Bool) → (c || has_entry k xs) ≡ false → (has_entry p xs ≡ true → has_entry k xs ≡ false → stands_before (xs ++ ys) k p ≡ false) →
        cond b false (cond c true (stands_before (xs ++ ys) k p)) ≡ false
    by true e c f more = refl
    by false e true f more = absurd (cc f)
    by false e false f more = more e f

-- the other entries
pub without_none : (e : Keys) (order : List Keys) → has_entry e (without_entry e order) ≡ false
without_none e [] = refl
without_none e (x ∷ order) = by (is_same_keys x e) refl (without_none e order)
  where
    by : (b : Bool) → is_same_keys x e ≡ b → has_entry e (without_entry e order) ≡ false → has_entry e (cond (not b) (x ∷ without_entry e order) (without_entry e order)) ≡ false
    by true f rest = rest
    by false f rest = ap (λ b. b || has_entry e (without_entry e order)) f ∙ rest

pub without_has : (e k : Keys) (order : List Keys) → is_same_keys e k ≡ false → has_entry k (without_entry e order) ≡ has_entry k order
without_has e k [] other = refl
without_has e k (x ∷ order) other = by (is_same_keys x e) refl (without_has e k order other)
  where
    by : (b : Bool) → is_same_keys x e ≡ b → has_entry k (without_entry e order) ≡ has_entry k order → has_entry k (cond (not b) (x ∷ without_entry e order) (without_entry e order)) ≡ (is_same_keys x k || has_entry k order)
    by true f rest = rest ∙ sym (ap (λ b. b || has_entry k order) (other_keys x e k f other))
    by false f rest = ap (λ b. is_same_keys x k || b) rest

pub without_before : (e k a : Keys) (order : List Keys) → is_same_keys e k ≡ false → is_same_keys e a ≡ false → stands_before (without_entry e order) k a ≡ stands_before order k a
without_before e k a [] other far = refl
without_before e k a (x ∷ order) other far = by (is_same_keys x e) refl (without_before e k a order other far)
  where
    by : (b : Bool) → is_same_keys x e ≡ b → stands_before (without_entry e order) k a ≡ stands_before order k a →
        stands_before (cond (not b) (x ∷ without_entry e order) (without_entry e order)) k a ≡ cond (is_same_keys x a) false (cond (is_same_keys x k) true (stands_before order k a))
    by true f rest =
        rest ∙ sym (ap (λ b. cond b false (cond (is_same_keys x k) true (stands_before order k a))) (other_keys x e a f far)
        ∙ ap (λ b. cond b true (stands_before order k a)) (other_keys x e k f other))
    by false f rest = ap (λ b. cond (is_same_keys x a) false (cond (is_same_keys x k) true b)) rest

-- put behind all others
pub last_law : (e k : Keys) (order : List Keys) → has_entry e order ≡ false → is_same_keys e k ≡ false → stands_before (order ++ e ∷ []) k e ≡ has_entry k order
last_law e k [] none other = ap (λ b. cond b false (cond (is_same_keys e k) true false)) (keys_itself e)
last_law e k (x ∷ order) none other = by (is_same_keys x e) none (is_same_keys x k) (last_law e k order)
  where
    by : (b : Bool) → (b || has_entry e order) ≡ false → (c : Bool) → (has_entry e order ≡ false → is_same_keys e k ≡ false → stands_before (order ++ e ∷ []) k e ≡ has_entry k order) →
        cond b false (cond c true (stands_before (order ++ e ∷ []) k e)) ≡ (c || has_entry k order)
    by true f c more = absurd (cc f)
    by false f true more = refl
    by false f false more = more f other

-- put before all others
pub first_law : (e k : Keys) (order : List Keys) → stands_before (e ∷ order) k e ≡ false
first_law e k order = ap (λ b. cond b false (cond (is_same_keys e k) true (stands_before order k e))) (keys_itself e)

-- put before another
pub before_law : (a e k : Keys) (order : List Keys) → has_entry a order ≡ true → has_entry e order ≡ false → stands_before (put_before a e order) k e ≡ stands_before order k a
before_law a e k [] some none = absurd (cc some)
before_law a e k (x ∷ order) some none = by (is_same_keys x a) some (before_law a e k order)
  where
    first : is_same_keys x e ≡ false
    first = here (is_same_keys x e) none
      where
        here : (b : Bool) → (b || has_entry e order) ≡ false → b ≡ false
        here true bad = absurd (cc bad)
        here false ok = refl

    rest : has_entry e order ≡ false
    rest = here (is_same_keys x e) none
      where
        here : (b : Bool) → (b || has_entry e order) ≡ false → has_entry e order ≡ false
        here true bad = absurd (cc bad)
        here false ok = ok

    by : (b : Bool) → (b || has_entry a order) ≡ true → (has_entry a order ≡ true → has_entry e order ≡ false → stands_before (put_before a e order) k e ≡ stands_before order k a) →
        stands_before (cond b (e ∷ x ∷ order) (x ∷ put_before a e order)) k e ≡ cond b false (cond (is_same_keys x k) true (stands_before order k a))
    by true f more = first_law e k (x ∷ order)
    by false f more =
        ap (λ b. cond b false (cond (is_same_keys x k) true (stands_before (put_before a e order) k e))) first
        ∙ ap (cond (is_same_keys x k) true) (more f rest)

-- put after another
pub after_law : (a e k : Keys) (order : List Keys) → has_entry a order ≡ true → has_entry e order ≡ false → is_same_keys e k ≡ false → stands_before (put_after a e order) k e ≡ (is_same_keys a k || stands_before order k a)
after_law a e k [] some none other = absurd (cc some)
after_law a e k (x ∷ order) some none other = by (is_same_keys x a) refl some (after_law a e k order)
  where
    first : is_same_keys x e ≡ false
    first = here (is_same_keys x e) none
      where
        here : (b : Bool) → (b || has_entry e order) ≡ false → b ≡ false
        here true bad = absurd (cc bad)
        here false ok = refl

    rest : has_entry e order ≡ false
    rest = here (is_same_keys x e) none
      where
        here : (b : Bool) → (b || has_entry e order) ≡ false → has_entry e order ≡ false
        here true bad = absurd (cc bad)
        here false ok = ok

    moved : (c d z : Bool) → cond c true (d || z) ≡ (d || cond c true z)
    moved true true z = refl
    moved true false z = refl
    moved false d z = refl

    skip : (Z : Bool) → cond (is_same_keys x e) false (cond (is_same_keys x k) true Z) ≡ cond (is_same_keys x k) true Z
    skip Z = ap (λ b. cond b false (cond (is_same_keys x k) true Z)) first

    none_more : (c : Bool) → cond c true false ≡ (c || false)
    none_more true = refl
    none_more false = refl

    by : (b : Bool) → is_same_keys x a ≡ b → (b || has_entry a order) ≡ true → (has_entry a order ≡ true → has_entry e order ≡ false → is_same_keys e k ≡ false → stands_before (put_after a e order) k e ≡ (is_same_keys a k || stands_before order k a)) →
        stands_before (cond b (x ∷ e ∷ order) (x ∷ put_after a e order)) k e ≡ (is_same_keys a k || cond b false (cond (is_same_keys x k) true (stands_before order k a)))
    by true f g more =
        skip (stands_before (e ∷ order) k e) ∙ ap (cond (is_same_keys x k) true) (first_law e k order)
        ∙ none_more (is_same_keys x k) ∙ ap (λ y. is_same_keys y k || false) ((keys_decide x a).0 f)
    by false f g more =
        skip (stands_before (put_after a e order) k e) ∙ ap (cond (is_same_keys x k) true) (more g rest other)
        ∙ moved (is_same_keys x k) (is_same_keys a k) (stands_before order k a)

-- an entry is among those of a list where it has a row
same_turned : (a b : Step) → is_same_step a b ≡ is_same_step b a
same_turned a b = by (is_same_step a b) refl (is_same_step b a) refl
  where
    by : (c : Bool) → is_same_step a b ≡ c → (d : Bool) → is_same_step b a ≡ d → c ≡ d
    by true e true f = refl
    by false e false f = refl
    by true e false f = let back : is_same_step b a ≡ true = (step_decide b a).1 (sym ((step_decide a b).0 e)) in cc
    by false e true f = let back : is_same_step a b ≡ true = (step_decide a b).1 (sym ((step_decide b a).0 f)) in cc

abbrev holds : Keys → Option Keys → Bool
holds k found = option_map_or (λ entry. is_same_keys entry k) found false

and_false : (b : Bool) → (b && false) ≡ false
and_false true = refl
and_false false = refl

pub keys_match : (above : List Step) (number : ℕ) (k : Keys) (steps : List Step) → holds k (keys_in above number steps) ≡ is_same_path steps (above ++ record { node = number; keys = k } ∷ [])
keys_match [] number k [] = refl
keys_match [] number k (s ∷ []) = by (s.node == number)
  where
    by : (b : Bool) → holds k (cond b (Some s.keys) None) ≡ ((b && is_same_keys s.keys k) && true)
    by true = and_true (is_same_keys s.keys k)
      where
        and_true : (c : Bool) → c ≡ (c && true)
        and_true true = refl
        and_true false = refl
    by false = refl
keys_match [] number k (s ∷ t ∷ steps) = sym (and_false (is_same_step s (record { node = number; keys = k })))
keys_match (o ∷ above) number k [] = refl
keys_match (o ∷ above) number k (s ∷ steps) =
    by (is_same_step o s) (keys_match above number k steps)
    ∙ ap (λ b. b && is_same_path steps (above ++ record { node = number; keys = k } ∷ [])) (same_turned o s)
  where
    by : (b : Bool) → holds k (keys_in above number steps) ≡ is_same_path steps (above ++ record { node = number; keys = k } ∷ []) →
        holds k (cond b (keys_in above number steps) None) ≡ (b && is_same_path steps (above ++ record { node = number; keys = k } ∷ []))
    by true rest = rest
    by false rest = refl

holds_more : (k : Keys) (found : Option Keys) (order : List Keys) → has_entry k (cons_option found order) ≡ (holds k found || has_entry k order)
holds_more k None order = refl
holds_more k (Some entry) order = refl

pub entry_row : (rows : List Row) (above : List Step) (number : ℕ) (k : Keys) → has_entry k (entries rows above number) ≡ has_row rows (above ++ record { node = number; keys = k } ∷ [])
entry_row [] above number k = refl
entry_row (row ∷ rows) above number k =
    holds_more k (keys_in above number row.path.steps) (entries rows above number)
    ∙ (λ i. keys_match above number k row.path.steps i || entry_row rows above number k i)
