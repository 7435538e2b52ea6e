-- The first of a list, piece by piece.
use Rattle.std.specs.Prelude.{List, [], ◌∷◌, Option, Some, None}

-- what stands first in a list, if anything does
abbrev pub first : {X : Type 0} → List X → Option X
first [] = None
first (x ∷ xs) = Some x

-- what stands, or else what comes after it
abbrev pub or_next : {X : Type 0} → Option X → Option X → Option X
or_next None after = after
or_next (Some x) after = Some x
