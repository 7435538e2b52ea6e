-- The lowest lock-id of two lists of entries, and of two tests.
use Rattle.std.proofs.Common.{◌≡◌, ◌==◌, ◌&&◌, ◌||◌, ◌++◌, ℕ, Bool, true, false, cond, not, List, [], ◌∷◌, refl, sym, ap, subst, ◌∙◌, arith, eq-eqb, Option, Some, None}
use Rattle.std.specs.List.{All, list_any}
use Rattle.std.specs.Prelude.{IfSome, nat_le, nat_lt, if◌then◌else◌}
use Rattle.std.proofs.lemmas.Bool.Decides.{nat_tests}
use Rattle.std.proofs.lemmas.List.Elements.{All-weaker}
use Rattle.std.proofs.lemmas.List.Folds.{list_any-append, list_any_none}
use Rattle.nc_partial.specs.declared.entry.Covered.{Covered}
use Rattle.nc_partial.specs.declared.entry.Entry.{Entry}
use Rattle.nc_partial.specs.inner.Entries.{covered, of_others}
use Rattle.nc_partial.specs.inner.Lowest.{IsLowest, is_of, lower, reaches}

-- ---- tests
or_false : (a : Bool) → (a || false) ≡ a
or_false true = refl
or_false false = refl

or_true : (a b : Bool) → b ≡ true → (a || b) ≡ true
or_true true b e = refl
or_true false b e = e

true_or : (a b : Bool) → a ≡ true → (a || b) ≡ true
true_or true b e = refl
true_or false b e = absurd (cc)

or_swap : (a b c d : Bool) → ((a || b) || (c || d)) ≡ ((a || c) || (b || d))
or_swap true b c d = refl
or_swap false true true d = refl
or_swap false true false d = refl
or_swap false false c d = refl

or_and : (a b c : Bool) → ((a || b) && c) ≡ ((a && c) || (b && c))
or_and true true true = refl
or_and true true false = refl
or_and true false true = refl
or_and true false false = refl
or_and false b c = refl

pub and_or : (p a b : Bool) → (p && (a || b)) ≡ ((p && a) || (p && b))
and_or true a b = refl
and_or false a b = refl

pub any_either : {X : Type 0} (f g : X → Bool) (xs : List X) → list_any (λ x. f x || g x) xs ≡ (list_any f xs || list_any g xs)
any_either f g [] = refl
any_either f g (x ∷ xs) =
    ap (λ more. (f x || g x) || more) (any_either f g xs) ∙ or_swap (f x) (g x) (list_any f xs) (list_any g xs)

any_both : {X : Type 0} (f g h : X → Bool) (xs : List X) → list_any (λ x. (f x || g x) && h x) xs ≡ (list_any (λ x. f x && h x) xs || list_any (λ x. g x && h x) xs)
any_both f g h xs = ap (λ test. list_any test xs) (λ i x. or_and (f x) (g x) (h x) i) ∙ any_either (λ x. f x && h x) (λ x. g x && h x) xs

-- ---- the lower of two
first_least : (x y k : ℕ) → nat_lt y x ≡ true → nat_le y k ≡ (nat_le x k || nat_le y k)
first_least x y k e = grind (arith, nat_tests)

second_least : (x y k : ℕ) → nat_lt y x ≡ false → nat_le x k ≡ (nat_le x k || nat_le y k)
second_least x y k e = grind (arith, nat_tests)

pub reaches_lower : (a b : Option Covered) (k : ℕ) → reaches (lower a b) k ≡ (reaches a k || reaches b k)
reaches_lower None b k = refl
reaches_lower (Some x) None k = sym (or_false (nat_le x.lock k))
reaches_lower (Some x) (Some y) k = by (nat_lt y.lock x.lock) refl
  where
    by : (c : Bool) → nat_lt y.lock x.lock ≡ c → reaches (cond c (Some y) (Some x)) k ≡ (nat_le x.lock k || nat_le y.lock k)
    by true e = first_least x.lock y.lock k e
    by false e = second_least x.lock y.lock k e

picked : (P Q R : Covered → Type 0) (a b : Option Covered) → ((it : Covered) → P it → R it) → ((it : Covered) → Q it → R it) → IfSome a P → IfSome b Q → IfSome (lower a b) R
picked P Q R None None left right p q = tt
picked P Q R None (Some y) left right p q = right y q
picked P Q R (Some x) None left right p q = left x p
picked P Q R (Some x) (Some y) left right p q = by (nat_lt y.lock x.lock)
  where
    by : (c : Bool) → IfSome (cond c (Some y) (Some x)) R
    by true = right y q
    by false = left x p

pub lower_none : (a : Option Covered) → lower a None ≡ a
lower_none None = refl
lower_none (Some x) = refl

-- ---- the lowest of two tests, of two lists, of one entry and of none
pub either_lowest : (t u : Entry → Bool) (xs : List Entry) (a b : Option Covered) → IsLowest t xs a → IsLowest u xs b → IsLowest (λ e. t e || u e) xs (lower a b)
either_lowest t u xs a b one other = record {
  reached = λ most. any_both t u (λ e. nat_le e.id most) xs
      ∙ (λ i. one.reached most i || other.reached most i) ∙ sym (reaches_lower a b most);
  held = picked (λ it. list_any (λ e. t e && is_of it e) xs ≡ true) (λ it. list_any (λ e. u e && is_of it e) xs ≡ true)
      (λ it. list_any (λ e. (t e || u e) && is_of it e) xs ≡ true) a b
      (λ it h. any_both t u (is_of it) xs ∙ true_or (list_any (λ e. t e && is_of it e) xs) (list_any (λ e. u e && is_of it e) xs) h)
      (λ it h. any_both t u (is_of it) xs ∙ or_true (list_any (λ e. t e && is_of it e) xs) (list_any (λ e. u e && is_of it e) xs) h)
      one.held other.held;
}

pub append_lowest : (t : Entry → Bool) (xs ys : List Entry) (a b : Option Covered) → IsLowest t xs a → IsLowest t ys b → IsLowest t (xs ++ ys) (lower a b)
append_lowest t xs ys a b one other = record {
  reached = λ most. list_any-append (λ e. t e && nat_le e.id most) xs ys
      ∙ (λ i. one.reached most i || other.reached most i) ∙ sym (reaches_lower a b most);
  held = picked (λ it. list_any (λ e. t e && is_of it e) xs ≡ true) (λ it. list_any (λ e. t e && is_of it e) ys ≡ true)
      (λ it. list_any (λ e. t e && is_of it e) (xs ++ ys) ≡ true) a b
      (λ it h. list_any-append (λ e. t e && is_of it e) xs ys ∙ true_or (list_any (λ e. t e && is_of it e) xs) (list_any (λ e. t e && is_of it e) ys) h)
      (λ it h. list_any-append (λ e. t e && is_of it e) xs ys ∙ or_true (list_any (λ e. t e && is_of it e) xs) (list_any (λ e. t e && is_of it e) ys) h)
      one.held other.held;
}

pub none_lowest : (t : Entry → Bool) (xs : List Entry) → All (λ e. t e ≡ false) xs → IsLowest t xs None
none_lowest t xs none = record {
  reached = λ most. list_any_none (λ e. t e && nat_le e.id most) xs
      (All-weaker (λ e. t e ≡ false) (λ e. (t e && nat_le e.id most) ≡ false) (λ e h. ap (λ b. b && nat_le e.id most) h) xs none);
  held = tt;
}

pub one_lowest : (session : ℕ) (test : Entry → Bool) (x : Entry) → test x ≡ true →
    IsLowest (of_others session test) (x ∷ []) (if x.session == session then None else Some (covered x))
one_lowest session test x passes = by (x.session == session) refl
  where
    itself : is_of (covered x) x ≡ true
    itself = (λ i. eq-eqb x.id x.id refl i && eq-eqb x.session x.session refl i)

    tested : (b : Bool) (r : Bool) → ((not b && test x) && r || false) ≡ (not b && r)
    tested b r = ap (λ c. ((not b && c) && r) || false) passes ∙ last b r
      where
        last : (b r : Bool) → (((not b && true) && r) || false) ≡ (not b && r)
        last true r = refl
        last false r = or_false r

    by : (b : Bool) → (x.session == session) ≡ b → IsLowest (of_others session test) (x ∷ []) (cond b None (Some (covered x)))
    by true e = record {
      reached = λ most. tested (x.session == session) (nat_le x.id most) ∙ ap (λ b. not b && nat_le x.id most) e;
      held = tt;
    }
    by false e = record {
      reached = λ most. tested (x.session == session) (nat_le x.id most) ∙ ap (λ b. not b && nat_le x.id most) e;
      held = tested (x.session == session) (is_of (covered x) x) ∙ (λ i. not (e i) && itself i);
    }

-- ---- another test that says the same, another list that holds the same
pub agree_lowest : (t u : Entry → Bool) (xs : List Entry) (a : Option Covered) → ((e : Entry) → t e ≡ u e) → IsLowest t xs a → IsLowest u xs a
agree_lowest t u xs a same lowest = let P : (Entry → Bool) → Type 0 = λ f. IsLowest f xs a in subst P (λ i e. same e i) lowest

pub moved_lowest : (t : Entry → Bool) (xs ys : List Entry) (a : Option Covered) → ((test : Entry → Bool) → list_any test xs ≡ list_any test ys) → IsLowest t xs a → IsLowest t ys a
moved_lowest t xs ys None same lowest = record {
  reached = λ most. sym (same (λ e. t e && nat_le e.id most)) ∙ lowest.reached most;
  held = tt;
}
moved_lowest t xs ys (Some it) same lowest = record {
  reached = λ most. sym (same (λ e. t e && nat_le e.id most)) ∙ lowest.reached most;
  held = sym (same (λ e. t e && is_of it e)) ∙ lowest.held;
}

-- two tests of entries of other sessions
pub others_either : (session : ℕ) (t u : Entry → Bool) (xs : List Entry) (a b : Option Covered) → IsLowest (of_others session t) xs a → IsLowest (of_others session u) xs b →
    IsLowest (of_others session (λ e. t e || u e)) xs (lower a b)
others_either session t u xs a b one other =
    agree_lowest (λ e. of_others session t e || of_others session u e) (of_others session (λ e. t e || u e)) xs (lower a b)
    (λ e. sym (and_or (not (e.session == session)) (t e) (u e)))
    (either_lowest (of_others session t) (of_others session u) xs a b one other)
