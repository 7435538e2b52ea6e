-- Where every right is given no change is denied.
use Rattle.std.proofs.Common.{◌≡◌, List, [], ◌∷◌, None, refl, sym, ap}
use Rattle.std.specs.List.{filter, reduce}
use Rattle.std.specs.Prelude.{not}
use Rattle.nc_names.specs.declared.path.Row.{Row}
use Rattle.nc_schema.specs.Tables.{Tables}
use Rattle.nc_protocol.specs.Edited.{Change, changes_by, denied_cause, earlier, first_denied}
use Rattle.nc_protocol.specs.Unchecked.{every_right}
use Rattle.nc_protocol.specs.declared.edit.Edit.{Edit}

all_given : (changes : List Change) → filter (λ change. not (every_right change.path change.right).permit) changes ≡ []
all_given [] = refl
all_given (change ∷ changes) = all_given changes

pub none_denied : (tables : Tables) (rows : List Row) (edit : Edit) →
    None ≡ denied_cause every_right (first_denied tables every_right rows edit)
none_denied tables rows edit =
    sym (ap (λ (changes : List Change). denied_cause every_right (reduce (earlier tables rows) changes)) (all_given (changes_by tables rows edit)))
