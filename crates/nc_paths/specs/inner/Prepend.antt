-- What was read before what is read next.
use Rattle.std.specs.Prelude.{ℕ, List, ◌++◌, Option, option_map}

-- what was read, then what is read next, if it is, with the text that is left
abbrev pub prepend : {X : Type 0} → List X → Option (List X × List ℕ) → Option (List X × List ℕ)
prepend xs rest = option_map (λ found. (xs ++ found.0, found.1)) rest

-- the same, where no text is left
abbrev pub before : {X : Type 0} → List X → Option (List X) → Option (List X)
before xs rest = option_map (λ found. xs ++ found) rest
