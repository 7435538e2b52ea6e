-- The nodes that exist, and the paths by which instance-identifiers name them.
use Rattle.std.specs.Prelude.{◌≡◌, ℕ, Bool, true, List, ◌∷◌, ◌++◌, take, drop}
use Rattle.std.proofs.Common.{Bor}
use Rattle.std.specs.BTreeSet.{BTreeSet, contains}
use Rattle.std.specs.List.{list_any}
use Rattle.nc_names.specs.Same.{is_same_text}
use Rattle.nc_names.specs.declared.path.Row.{Row}
use Rattle.nc_names.specs.declared.path.Step.{Step}
use Rattle.nc_schema.specs.PathTexts.{path_text_of}
use Rattle.nc_schema.specs.Standing.{above_of, exists}
use Rattle.nc_schema.specs.Tables.{Tables}
use Rattle.nc_refs.specs.inner.Trails.{order}

-- each of the nodes exists
abbrev pub AllExist : List Row → BTreeSet (Bor (List Step)) → Type 0
AllExist rows nodes = (key : Bor (List Step)) → contains order nodes key ≡ true → exists rows key.now ≡ true

-- the text is that of the path with these steps
abbrev pub names : Tables → (text : List ℕ) → List Step → Bool
names tables text steps = is_same_text (path_text_of tables (record { steps = steps })) text

-- one of the nodes above passes the test, from the one after so many steps on
abbrev pub left_above : (List Step → Bool) → List Step → ℕ → Bool
left_above test steps at = list_any (λ above. test (take at steps ++ above)) (above_of (drop at steps))

-- the text is that of the path, or of one above it
abbrev pub names_along : Tables → (text : List ℕ) → List Step → Bool
names_along tables text steps = list_any (names tables text) (steps ∷ above_of steps)
