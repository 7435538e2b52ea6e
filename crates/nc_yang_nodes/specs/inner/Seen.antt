-- A statement that may be the case of a name.
use Rattle.std.specs.Prelude.{◌≡◌, ℕ, Bool, List, Option, Some, None, if◌then◌else◌}
use Rattle.nc_yang_words.specs.declared.statement.Statement.{Statement}
use Rattle.nc_yang_scopes.specs.Scopes.{Located}
use Rattle.nc_yang_nodes.specs.Cases.{has_name, is_there}
use Rattle.nc_yang_nodes.specs.Roles.{FeatureTest}

-- whether it has the name, if it gives something
abbrev pub Sees : List Statement → FeatureTest → List ℕ → Located → Option Bool → Type 0
Sees texts on word l found = found ≡ (if is_there texts on l then Some (has_name word l) else None)
