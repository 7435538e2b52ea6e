-- The first places of rules that have a right.
use Rattle.std.specs.Prelude.{ℕ, Bool, Option, Some, None, if◌then◌else◌}
use Rattle.nc_names.specs.declared.path.Right.{Right}
use Rattle.nc_names.specs.declared.path.Right.TheVariants.{Read, Create, Update, Delete, Exec}
use Rattle.nc_model.specs.declared.policy.AccessOperations.{AccessOperations}
use Rattle.nc_nacm.specs.declared.index.Places.{Places}

-- no rule has a right
abbrev pub no_places : Places
no_places = record { read = None; create = None; update = None; delete = None; exec = None }

-- the place of the first rule that has the right
abbrev pub place_with : Right → Places → Option ℕ
place_with Read places = places.read
place_with Create places = places.create
place_with Update places = places.update
place_with Delete places = places.delete
place_with Exec places = places.exec

-- the place of a rule before, or that of this one, if it has the right
abbrev pub or_place : Option ℕ → Bool → ℕ → Option ℕ
or_place (Some place) has at = Some place
or_place None has at = if has then Some at else None

-- the first places, where one more rule comes after the others and has these rights
abbrev pub with_place : Places → AccessOperations → ℕ → Places
with_place places operations at = record {
  read = or_place places.read operations.read at;
  create = or_place places.create operations.create at;
  update = or_place places.update operations.update at;
  delete = or_place places.delete operations.delete at;
  exec = or_place places.exec operations.exec at;
}
