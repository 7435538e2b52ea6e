-- Walks over lists that the code takes side by side.
use Rattle.std.specs.Prelude.{Bool, true, false, if◌then◌else◌, List, [], ◌∷◌}
use Rattle.nc_schema.specs.declared.value_type.Between.{Between}
use Rattle.nc_yang_types.specs.Ranges.{holds}

-- each part lies in one of these, of which those are passed that do not hold it
abbrev pub lie_along : List Between → List Between → Bool
lie_along base [] = true
lie_along [] (part ∷ parts) = false
lie_along (over ∷ base) (part ∷ parts) =
    if holds part over then lie_along (over ∷ base) parts else lie_along base (part ∷ parts)
