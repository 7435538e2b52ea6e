-- The values in use in a place and all below it, place by place.
use Rattle.std.specs.Prelude.{ℕ, List, [], map, if◌then◌else◌}
use Rattle.std.proofs.Common.{Bor}
use Rattle.std.specs.List.{flat_map}
use Rattle.nc_schema.specs.InUse.{parent_of, stands_in, values_in_use}
use Rattle.nc_schema.specs.Places.{Place}
use Rattle.nc_schema.specs.Tables.{Tables}

-- the values in use of a leaf or leaf-list in one place, where it stands there
abbrev pub values_at : Tables → ℕ → Place → List (List ℕ)
values_at tables number place =
    if stands_in (parent_of tables number) place then values_in_use tables place number else []

-- those in some places
abbrev pub values_among : Tables → ℕ → List Place → List (List ℕ)
values_among tables number found = flat_map (values_at tables number) found

-- the texts that are meant
abbrev pub texts : List (Bor (List ℕ)) → List (List ℕ)
texts values = map (λ value. value.now) values
