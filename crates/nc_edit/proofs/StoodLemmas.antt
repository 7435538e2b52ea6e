-- What stands at a path below a node, and what becomes of it.
use Rattle.std.proofs.Common.{◌≡◌, ◌||◌, Bool, true, false, cond, not, List, [], ◌∷◌, Some, None, refl, ap, ◌∙◌}
use Rattle.std.specs.Option.{is_none, option_map_or}
use Rattle.nc_names.proofs.StepOrder.{same_path}
use Rattle.nc_names.specs.Same.{is_at_or_below, is_same_path, is_same_value}
use Rattle.nc_names.specs.declared.path.Path.{Path}
use Rattle.nc_names.specs.declared.path.Right.TheVariants.{Create as MayCreate, Update as MayUpdate}
use Rattle.nc_names.specs.declared.path.Row.{Row}
use Rattle.nc_names.specs.declared.path.Step.{Step}
use Rattle.nc_schema.specs.Blocks.{row_at}
use Rattle.nc_schema.specs.Standing.{block_at}
use Rattle.nc_schema.specs.Tables.{Tables}
use Rattle.nc_protocol.specs.Changes.{has_moved}
use Rattle.nc_protocol.specs.Edited.{change_at}
use Rattle.nc_changes.proofs.FoundLemmas.{missing_is}

-- the row at a path below a node is one of those at and below it
pub found_below : (rows : List Row) (steps : List Step) (path : Path) → is_at_or_below steps path ≡ true → row_at (block_at rows steps) path.steps ≡ row_at rows path.steps
found_below [] steps path below = refl
found_below (row ∷ rows) steps path below = by (is_same_path row.path.steps path.steps) (is_at_or_below steps row.path) refl refl (found_below rows steps path below)
  where
    within : is_same_path row.path.steps path.steps ≡ true → is_at_or_below steps row.path ≡ true
    within e = ap (λ (others : List Step). is_at_or_below steps (record { steps = others })) (same_path row.path.steps path.steps e) ∙ below

    by : (b c : Bool) → is_same_path row.path.steps path.steps ≡ b → is_at_or_below steps row.path ≡ c → row_at (block_at rows steps) path.steps ≡ row_at rows path.steps →
        row_at (cond c (row ∷ block_at rows steps) (block_at rows steps)) path.steps ≡ cond b (Some row) (row_at rows path.steps)
    by true true e f more = ap (λ found. cond found (Some row) (row_at (block_at rows steps) path.steps)) e
    by true false e f more = absurd (cc (within e, f))
    by false true e f more = ap (λ found. cond found (Some row) (row_at (block_at rows steps) path.steps)) e ∙ more
    by false false e f more = more

pub change_none : (tables : Tables) (old new : List Row) (row : Row) → None ≡ row_at old row.path.steps →
    Some (record { path = row.path; right = MayCreate }) ≡ change_at tables old new row
change_none tables old new row none =
    ap (λ b. cond b (Some (record { path = row.path; right = MayCreate })) (cond (option_map_or (λ before. not (is_same_value before.value row.value) || has_moved tables old new row.path.steps) (row_at old row.path.steps) false) (Some (record { path = row.path; right = MayUpdate })) None))
    (ap is_none none ∙ missing_is old row)

pub change_some : (tables : Tables) (old new : List Row) (row before : Row) → Some before ≡ row_at old row.path.steps →
    cond (not (is_same_value before.value row.value) || has_moved tables old new row.path.steps) (Some (record { path = row.path; right = MayUpdate })) None ≡ change_at tables old new row
change_some tables old new row before some =
    ap (λ found. cond (option_map_or (λ stood. not (is_same_value stood.value row.value) || has_moved tables old new row.path.steps) found false) (Some (record { path = row.path; right = MayUpdate })) None) some
    ∙ ap (λ b. cond b (Some (record { path = row.path; right = MayCreate })) (cond (option_map_or (λ stood. not (is_same_value stood.value row.value) || has_moved tables old new row.path.steps) (row_at old row.path.steps) false) (Some (record { path = row.path; right = MayUpdate })) None))
    (ap is_none some ∙ missing_is old row)
