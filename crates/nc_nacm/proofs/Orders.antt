-- Keys that are equal in their order are the same, and their order is total.
use Rattle.std.proofs.Common.{◌≡◌, ℕ, Bool, true, false, cond, List, [], ◌∷◌, refl, ap, eqb-true, Option, Some, None}
use Rattle.std.proofs.lemmas.Cmp.{nat_cmp_total, then_total, on_total}
use Rattle.std.specs.Cmp.{IsTotalOrder, bool_cmp_total}
use Rattle.std.specs.Cmp.Lexicographic.{slice_cmp, lists_total, options_total}
use Rattle.std.specs.Option.{option_cmp}
use Rattle.std.specs.Ordering.{bool_cmp, is_eq, nat_cmp, ordering_then}
use Rattle.std.specs.Prelude.{nat_lt, ◌==◌}
use Rattle.std.specs.declared.cmp.Ordering.{Ordering}
use Rattle.std.specs.declared.cmp.Ordering.TheVariants.{Less, Equal, Greater}
use Rattle.nc_nacm.specs.declared.key.Key.{Key}
use Rattle.nc_nacm.specs.declared.key.KeyStep.{KeyStep}
use Rattle.nc_nacm.specs.inner.Keys.{given_cmp, key_cmp, shape_cmp, step_cmp, text_cmp}

pub equal_is : (o : Ordering) → is_eq o ≡ true → o ≡ Equal
equal_is Less e = absurd (cc)
equal_is Equal e = refl
equal_is Greater e = absurd (cc)

then_same : (o p : Ordering) → ordering_then o p ≡ Equal → (o ≡ Equal) × (p ≡ Equal)
then_same Less p e = absurd (cc)
then_same Equal p e = (refl, e)
then_same Greater p e = absurd (cc)

nat_same : (x y : ℕ) → nat_cmp x y ≡ Equal → x ≡ y
nat_same x y e = by (nat_lt x y) (x == y) refl e
  where
    by : (a b : Bool) → (x == y) ≡ b → cond a Less (cond b Equal Greater) ≡ Equal → x ≡ y
    by true b same f = absurd (cc)
    by false true same f = eqb-true x y same
    by false false same f = absurd (cc)

slice_same : {A : Type 0} (R : A → A → Ordering) → ((x y : A) → R x y ≡ Equal → x ≡ y) → (xs ys : List A) → slice_cmp R xs ys ≡ Equal → xs ≡ ys
slice_same R one [] [] e = refl
slice_same R one [] (y ∷ ys) e = absurd (cc)
slice_same R one (x ∷ xs) [] e = absurd (cc)
slice_same R one (x ∷ xs) (y ∷ ys) e =
    let both = then_same (R x y) (slice_cmp R xs ys) e in
    let head = one x y both.0 in
    let tail = slice_same R one xs ys both.1 in
    cc

option_same : {A : Type 0} (R : A → A → Ordering) → ((x y : A) → R x y ≡ Equal → x ≡ y) → (a b : Option A) → option_cmp R a b ≡ Equal → a ≡ b
option_same R one None None e = refl
option_same R one None (Some y) e = absurd (cc)
option_same R one (Some x) None e = absurd (cc)
option_same R one (Some x) (Some y) e = ap Some (one x y e)

text_same : (a b : List ℕ) → text_cmp a b ≡ Equal → a ≡ b
text_same = slice_same nat_cmp nat_same

given_same : (a b : List (Option (List ℕ))) → given_cmp a b ≡ Equal → a ≡ b
given_same = slice_same (option_cmp text_cmp) (option_same text_cmp text_same)

step_same : (a b : KeyStep) → step_cmp a b ≡ Equal → a ≡ b
step_same a b e =
    let both = then_same (nat_cmp a.node b.node) (given_cmp a.keys b.keys) e in
    let node = nat_same a.node b.node both.0 in
    let keys = given_same a.keys b.keys both.1 in
    λ i. record { node = node i; keys = keys i }

pub key_same : (a b : Key) → is_eq (key_cmp a b) ≡ true → a ≡ b
key_same a b e =
    let both = then_same (text_cmp a.module b.module) (slice_cmp step_cmp a.steps b.steps) (equal_is (key_cmp a b) e) in
    let name = text_same a.module b.module both.0 in
    let steps = slice_same step_cmp step_same a.steps b.steps both.1 in
    λ i. record { «module» = name i; steps = steps i }

step_total : IsTotalOrder step_cmp
step_total = then_total (on_total (λ (s : KeyStep). s.node) nat_cmp_total) (on_total (λ (s : KeyStep). s.keys) (lists_total (options_total (lists_total nat_cmp_total))))

pub key_total : IsTotalOrder key_cmp
key_total = then_total (on_total (λ (k : Key). k.module) (lists_total nat_cmp_total)) (on_total (λ (k : Key). k.steps) (lists_total step_total))

bool_same : (x y : Bool) → bool_cmp x y ≡ Equal → x ≡ y
bool_same true true e = refl
bool_same true false e = absurd (cc)
bool_same false true e = absurd (cc)
bool_same false false e = refl

pub shape_same : (a b : List (List Bool)) → is_eq (shape_cmp a b) ≡ true → a ≡ b
shape_same a b e = slice_same (slice_cmp bool_cmp) (slice_same bool_cmp bool_same) a b (equal_is (shape_cmp a b) e)

pub shape_total : IsTotalOrder shape_cmp
shape_total = lists_total (lists_total bool_cmp_total)
