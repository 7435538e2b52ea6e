-- Sessions among others, the first check of several that fails, and lists that are cut down.
use Rattle.std.proofs.Common.{◌≡◌, ◌≢◌, ◌⊎◌, ◌≤◌, ◌==◌, ◌||◌, ℕ, zero, suc, Bool, true, false, cond, not, List, [], ◌∷◌, ◌++◌, length, refl, sym, ap, ◌∙◌, inl, inr, arith, Option, Some, None, get_or}
use Rattle.std.specs.Prelude.{IfSome}
use Rattle.std.specs.List.{All, filter, find, list_any}
use Rattle.std.proofs.lemmas.Bool.{eqb-true}
use Rattle.std.proofs.lemmas.Bool.Decides.{eqb_tells}
use Rattle.std.proofs.lemmas.List.Folds.{list_any-append}
use Rattle.std.proofs.lemmas.List.Elements.{filter_passes, All-filter}
use Rattle.std.proofs.lemmas.Map.Views.{any-filter_same}
use Rattle.nc_protocol.specs.declared.request.Cause.{Cause}
use Rattle.nc_protocol.specs.Edited.{cause_where, first_cause}
use Rattle.nc_model.specs.State.{is_among}
use Rattle.nc_model.specs.declared.session.Session.{Session}

-- ---- sessions

-- the end of another session
pub other_among : (sessions : List Session) (own n : ℕ) → own ≢ n → is_among sessions n ≡ true →
    is_among (filter (λ session. not (session.number == own)) sessions) n ≡ true
other_among sessions own n other live =
    any-filter_same (λ (x : Session). x.number == n) (λ (x : Session). not (x.number == own)) true
    (λ x is. by x (eqb-true x.number n is) (eqb_tells x.number own)) sessions ∙ live
  where
    by : (x : Session) → x.number ≡ n → (((x.number == own) ≡ true) × (x.number ≡ own)) ⊎ (((x.number == own) ≡ false) × (x.number ≢ own)) → not (x.number == own) ≡ true
    by x is (inl (holds, same)) = absurd (other (sym same ∙ is))
    by x is (inr (fails, differs)) = ap not fails

-- a session more
pub more_among : (sessions more : List Session) (n : ℕ) → is_among sessions n ≡ true → is_among (sessions ++ more) n ≡ true
more_among sessions more n live =
    list_any-append (λ (x : Session). x.number == n) sessions more ∙ ap (λ b. b || list_any (λ (x : Session). x.number == n) more) live

pub not_same : (a b : ℕ) → a ≢ b → not (a == b) ≡ true
not_same a b differs = by (eqb_tells a b)
  where
    by : (((a == b) ≡ true) × (a ≡ b)) ⊎ (((a == b) ≡ false) × (a ≢ b)) → not (a == b) ≡ true
    by (inl (holds, same)) = absurd (differs same)
    by (inr (fails, apart)) = ap not fails

pub is_false_not : (b : Bool) → not b ≡ false → b ≡ true
is_false_not true e = refl
is_false_not false e = cc

-- ---- checks

-- none of the checks fails
abbrev pub Nones : List (Option Cause) → Type 0
Nones [] = Unit {0}
Nones (check ∷ checks) = (check ≡ None) × Nones checks

pub all_none : (checks : List (Option Cause)) → first_cause checks ≡ None → Nones checks
all_none [] e = tt
all_none (None ∷ checks) e = (refl, all_none checks e)
all_none (Some cause ∷ checks) e = cc

-- what is so of the cause of each check
abbrev pub Each : (Cause → Type 0) → List (Option Cause) → Type 0
Each P [] = Unit {0}
Each P (check ∷ checks) = IfSome check P × Each P checks

pub first_is : (P : Cause → Type 0) (checks : List (Option Cause)) → Each P checks → IfSome (first_cause checks) P
first_is P [] each = tt
first_is P (None ∷ checks) each = first_is P checks each.1
first_is P (Some cause ∷ checks) each = each.0

pub where_none : (b : Bool) (cause : Cause) → cause_where b cause ≡ None → b ≡ false
where_none true cause e = cc
where_none false cause e = refl

pub where_is : (P : Cause → Type 0) (b : Bool) (cause : Cause) → P cause → IfSome (cause_where b cause) P
where_is P true cause is = is
where_is P false cause is = tt

-- ---- lists

-- where nothing is found, nothing passes
pub none_found : {X : Type 0} (p : X → Bool) (xs : List X) → find p xs ≡ None → All (λ x. p x ≡ false) xs
none_found p [] e = λ k d within. absurd (omega (arith, within))
none_found {X} p (y ∷ ys) e = by (p y) refl e (λ f. none_found p ys f)
  where
    by : (b : Bool) → p y ≡ b → cond b (Some y) (find p ys) ≡ None → (find p ys ≡ None → All (λ x. p x ≡ false) ys) → All (λ x. p x ≡ false) (y ∷ ys)
    by true is f rest k d within = cc
    by false is f rest zero d within = is
    by false is f rest (suc k) d within = rest f k d (omega (arith, within))

-- what is filtered twice is shorter than what is filtered once
pub filter_both : {X : Type 0} (p t : X → Bool) (xs : List X) → length (filter p (filter t xs)) ≤ length (filter p xs)
filter_both p t [] = omega arith
filter_both {X} p t (x ∷ xs) = by (t x) (p x) (filter_both p t xs)
  where
    ps : List X
    ps = filter p xs

    ts : List X
    ts = filter p (filter t xs)

    at : (c : Bool) → length ts ≤ length ps → length (cond c (x ∷ ts) ts) ≤ length (cond c (x ∷ ps) ps)
    at true less = omega (arith, less)
    at false less = less

    on : (c : Bool) → length ts ≤ length ps → length ts ≤ length (cond c (x ∷ ps) ps)
    on true less = omega (arith, less)
    on false less = less

    by : (b c : Bool) → length ts ≤ length ps → length (filter p (cond b (x ∷ filter t xs) (filter t xs))) ≤ length (cond (p x) (x ∷ ps) ps)
    by true c less = at (p x) less
    by false c less = on (p x) less

-- what is so of each element, is so of each that passes a test, with the test
pub filter_with : {X : Type 0} (P Q : X → Type 0) (t : X → Bool) (xs : List X) → ((x : X) → t x ≡ true → P x → Q x) → All P xs → All Q (filter t xs)
filter_with {X} P Q t xs each all k d within =
    each (get_or (filter t xs) k d) (filter_passes t xs k d within) (All-filter t P xs all k d within)
