-- A record worked by computation: in the schema of the examples, an entry of the list `port` whose key is `a`.
use Rattle.std.proofs.Common.{◌≡◌, List, [], ◌∷◌, refl}
use Rattle.std.specs.Prelude.{codes, Some, None}
use Rattle.nc_names.specs.declared.path.Row.{Row}
use Rattle.nc_names.specs.declared.path.Step.{Step}
use Rattle.nc_schema.specs.Record.{record_body, record_size}

-- the entry, in the container `top`
abbrev entry : List Step
entry = record { node = 0; keys = [] } ∷ record { node = 2; keys = codes "a" ∷ [] } ∷ []

-- its row, and that of its key
abbrev rows : List Row
rows =
    record { path = record { steps = entry }; value = None }
    ∷ record {
      path = record { steps = record { node = 0; keys = [] } ∷ record { node = 2; keys = codes "a" ∷ [] } ∷ record { node = 3; keys = [] } ∷ [] };
      value = Some (codes "a");
    }
    ∷ []

body_is : record_body rows ≡ 1 ∷ 0 ∷ 0 ∷ 0 ∷ 2 ∷ 0 ∷ 0 ∷ 0 ∷ 2 ∷ 0 ∷ 0 ∷ 0 ∷ 0 ∷ 0 ∷ 0 ∷ 0 ∷ 3 ∷ 0 ∷ 0 ∷ 0 ∷ 1 ∷ 97 ∷ []
body_is = refl

size_is : record_size rows ≡ 22
size_is = refl
