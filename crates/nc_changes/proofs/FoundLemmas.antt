-- A row that is found by its path, or is not.
use Rattle.std.proofs.Common.{◌≡◌, ◌||◌, Bool, true, false, cond, not, List, [], ◌∷◌, Option, Some, None, refl, sym, ap, ◌∙◌, Bor}
use Rattle.std.specs.Prelude.{is_some}
use Rattle.std.specs.Option.{is_none, option_copied}
use Rattle.nc_names.specs.Same.{is_same_path}
use Rattle.nc_names.specs.declared.path.Row.{Row}
use Rattle.nc_names.specs.declared.path.Step.{Step}
use Rattle.nc_schema.specs.Blocks.{row_at}
use Rattle.nc_schema.specs.Standing.{has_row}
use Rattle.nc_protocol.specs.Changes.{is_missing}

lacks : (rows : List Row) (steps : List Step) → is_none (row_at rows steps) ≡ not (has_row rows steps)
lacks [] steps = refl
lacks (row ∷ rows) steps = by (is_same_path row.path.steps steps) (lacks rows steps)
  where
    by : (b : Bool) → is_none (row_at rows steps) ≡ not (has_row rows steps) → is_none (cond b (Some row) (row_at rows steps)) ≡ not (b || has_row rows steps)
    by true more = refl
    by false more = more

pub missing_is : (rows : List Row) (row : Row) → is_none (row_at rows row.path.steps) ≡ is_missing rows row
missing_is rows row = lacks rows row.path.steps

none_copied : (found : Option (Bor Row)) → is_none found ≡ is_none (option_copied found)
none_copied None = refl
none_copied (Some row) = refl

twice : (b : Bool) → b ≡ not (not b)
twice true = refl
twice false = refl

-- a row is missing where none is found at its path
pub missing_found : (rows : List Row) (row : Row) (found : Option (Bor Row)) (none : Bool) → is_some found ≡ not none → option_copied found ≡ row_at rows row.path.steps →
    none ≡ is_missing rows row
missing_found rows row found none says is = twice none ∙ ap not (sym says) ∙ none_copied found ∙ ap is_none is ∙ missing_is rows row
