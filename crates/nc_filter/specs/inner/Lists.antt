-- Lists that are asked whether one of their elements passes a test, in any order and with repeats.
use Rattle.std.specs.Prelude.{◌≡◌, ◌||◌, ◌-◌, ℕ, suc, Bool, false, List, [], ◌∷◌, Some, length, slice_get}
use Rattle.std.specs.List.{list_any}

-- two lists have the same elements
abbrev pub IsSame : {X : Type 0} → List X → List X → Type 0
IsSame {X} before now = (test : X → Bool) → list_any test now ≡ list_any test before

-- a list has one element more
abbrev pub AddsOne : {X : Type 0} → List X → List X → X → Type 0
AddsOne {X} before now x = (test : X → Bool) → list_any test now ≡ (list_any test before || test x)

-- a list ends with that element
abbrev pub IsLast : {X : Type 0} → List X → X → Type 0
IsLast xs x = slice_get xs (length xs - 1) ≡ Some x

-- one of some things passes a test with its number in the list
abbrev pub any_numbered : {X : Type 0} → (ℕ → X → Bool) → List X → Bool
any_numbered f [] = false
any_numbered f (x ∷ xs) = f 0 x || any_numbered (λ n. f (suc n)) xs
