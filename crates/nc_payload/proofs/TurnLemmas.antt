-- Entries that the user orders stand in the order of their turns.
use Rattle.std.proofs.Common.{◌≡◌, ◌≢◌, ◌||◌, ◌<◌, ℕ, Bool, true, false, cond, ltb, List, [], ◌∷◌, ◌++◌, refl, sym, ap, subst, ◌∙◌, arith}
use Rattle.std.proofs.lemmas.Bool.{lt-ltb, le-ltb}
use Rattle.nc_names.proofs.SameLemmas.{keys_decide}
use Rattle.nc_names.specs.Same.{is_same_keys}
use Rattle.nc_schema.specs.Standing.{has_entry, kept_or_last, stands_before}

abbrev pub Keys : Type 0
Keys = List (List ℕ)

-- a number is below the turn of each
abbrev pub IsBelow : (Keys → ℕ) → ℕ → List Keys → Type 0
IsBelow turn number [] = Unit {0}
IsBelow turn number (keys ∷ more) = (number < turn keys) × IsBelow turn number more

-- the turns rise
abbrev pub Rises : (Keys → ℕ) → List Keys → Type 0
Rises turn [] = Unit {0}
Rises turn (keys ∷ more) = IsBelow turn (turn keys) more × Rises turn more

-- the turn of each is below a number
abbrev pub AreBelow : (Keys → ℕ) → ℕ → List Keys → Type 0
AreBelow turn number [] = Unit {0}
AreBelow turn number (keys ∷ more) = (turn keys < number) × AreBelow turn number more

behind : (entry keys : Keys) (more : List Keys) → has_entry keys (entry ∷ more) ≡ true → is_same_keys entry keys ≡ false → has_entry keys more ≡ true
behind entry keys more has apart = sym (ap (λ b. b || has_entry keys more) apart) ∙ has

below_each : (turn : Keys → ℕ) (number : ℕ) (order : List Keys) (keys : Keys) → IsBelow turn number order → has_entry keys order ≡ true → number < turn keys
below_each turn number [] keys below has = absurd (let clash : false ≡ true = has in cc)
below_each turn number (entry ∷ more) keys below has =
    by (is_same_keys entry keys) refl (λ apart. below_each turn number more keys below.1 (behind entry keys more has apart))
  where
    by : (b : Bool) → is_same_keys entry keys ≡ b → (is_same_keys entry keys ≡ false → number < turn keys) → number < turn keys
    by true same rest = subst (λ (k : Keys). number < turn k) ((keys_decide entry keys).0 same) below.0
    by false apart rest = rest apart

abbrev AreTurns : (Keys → ℕ) → List Keys → Keys → Keys → Type 0
AreTurns turn order keys others = (stands_before order keys others ≡ ltb (turn keys) (turn others)) × (keys ≢ others → turn keys ≢ turn others)

turns_of : (turn : Keys → ℕ) (order : List Keys) (keys others : Keys) → Rises turn order → has_entry keys order ≡ true → has_entry others order ≡ true → AreTurns turn order keys others
turns_of turn [] keys others rises has has_other = absurd (let clash : false ≡ true = has in cc)
turns_of turn (entry ∷ more) keys others rises has has_other =
    by (is_same_keys entry others) refl (is_same_keys entry keys) refl (λ same first. turns_of turn more keys others rises.1 (behind entry keys more has first) (behind entry others more has_other same))
  where
    by : (a : Bool) → is_same_keys entry others ≡ a → (b : Bool) → is_same_keys entry keys ≡ b →
        (is_same_keys entry others ≡ false → is_same_keys entry keys ≡ false → AreTurns turn more keys others) → AreTurns turn (entry ∷ more) keys others
    by true same true first rest =
        let is : keys ≡ others = sym ((keys_decide entry keys).0 first) ∙ (keys_decide entry others).0 same in (
          ap (λ b. cond b false (cond (is_same_keys entry keys) true (stands_before more keys others))) same ∙ sym (le-ltb (turn keys) (turn others) (omega (arith, ap turn is))),
          λ apart. absurd (apart is),
        )
    by true same false first rest =
        let less : turn entry < turn keys = below_each turn (turn entry) more keys rises.0 (behind entry keys more has first) in
        let is : turn entry ≡ turn others = ap turn ((keys_decide entry others).0 same) in (
          ap (λ b. cond b false (cond (is_same_keys entry keys) true (stands_before more keys others))) same ∙ sym (le-ltb (turn keys) (turn others) (omega (arith, less, is))),
          λ apart tied. omega (arith, less, is, tied),
        )
    by false same true first rest =
        let less : turn entry < turn others = below_each turn (turn entry) more others rises.0 (behind entry others more has_other same) in
        let is : turn entry ≡ turn keys = ap turn ((keys_decide entry keys).0 first) in (
          (λ i. cond (same i) false (cond (first i) true (stands_before more keys others))) ∙ sym (lt-ltb (turn keys) (turn others) (omega (arith, less, is))),
          λ apart tied. omega (arith, less, is, tied),
        )
    by false same false first rest =
        ((λ i. cond (same i) false (cond (first i) true (stands_before more keys others))) ∙ (rest same first).0, (rest same first).1)

-- ---- a new entry goes last
below_last : (turn : Keys → ℕ) (number : ℕ) (order : List Keys) (keys : Keys) → IsBelow turn number order → number < turn keys → IsBelow turn number (order ++ keys ∷ [])
below_last turn number [] keys below less = (less, tt)
below_last turn number (entry ∷ more) keys below less = (below.0, below_last turn number more keys below.1 less)

rises_last : (turn : Keys → ℕ) (order : List Keys) (keys : Keys) → Rises turn order → AreBelow turn (turn keys) order → Rises turn (order ++ keys ∷ [])
rises_last turn [] keys rises below = (tt, tt)
rises_last turn (entry ∷ more) keys rises below = (below_last turn (turn entry) more keys rises.0 below.0, rises_last turn more keys rises.1 below.1)

or_true : (b : Bool) → (b || true) ≡ true
or_true true = refl
or_true false = refl

has_last : (order : List Keys) (keys : Keys) → has_entry keys (order ++ keys ∷ []) ≡ true
has_last [] keys = ap (λ b. b || false) ((keys_decide keys keys).1 refl)
has_last (entry ∷ more) keys = ap (λ b. is_same_keys entry keys || b) (has_last more keys) ∙ or_true (is_same_keys entry keys)

has_more : (order : List Keys) (keys last : Keys) → has_entry keys order ≡ true → has_entry keys (order ++ last ∷ []) ≡ true
has_more [] keys last has = absurd (let clash : false ≡ true = has in cc)
has_more (entry ∷ more) keys last has = by (is_same_keys entry keys) refl (λ apart. has_more more keys last (behind entry keys more has apart))
  where
    by : (b : Bool) → is_same_keys entry keys ≡ b → (is_same_keys entry keys ≡ false → has_entry keys (more ++ last ∷ []) ≡ true) → has_entry keys ((entry ∷ more) ++ last ∷ []) ≡ true
    by true same rest = ap (λ b. b || has_entry keys (more ++ last ∷ [])) same
    by false apart rest = ap (λ b. is_same_keys entry keys || b) (rest apart) ∙ or_true (is_same_keys entry keys)

pub kept_turns : (turn : Keys → ℕ) (order : List Keys) (keys others : Keys) → Rises turn order → has_entry keys order ≡ true →
    (has_entry others order ≡ false → AreBelow turn (turn others) order) → AreTurns turn (kept_or_last others order) keys others
kept_turns turn order keys others rises has new = by (has_entry others order) refl
  where
    by : (b : Bool) → has_entry others order ≡ b → AreTurns turn (kept_or_last others order) keys others
    by true there = subst (λ (o : List Keys). AreTurns turn o keys others) (sym (ap (λ b. cond b order (order ++ others ∷ [])) there)) (turns_of turn order keys others rises has there)
    by false gone =
        subst (λ (o : List Keys). AreTurns turn o keys others) (sym (ap (λ b. cond b order (order ++ others ∷ [])) gone))
        (turns_of turn (order ++ others ∷ []) keys others (rises_last turn order others rises (new gone)) (has_more order keys others has) (has_last order others))
