-- A merge of what stands leaves it.
use Rattle.std.proofs.Common.{◌≡◌, ◌&&◌, ℕ, Bool, true, false, cond, not, List, Option, refl, sym, ap, ◌∙◌}
use Rattle.nc_names.specs.declared.path.Path.{Path}
use Rattle.nc_names.specs.declared.path.Row.{Row}
use Rattle.nc_schema.specs.Blocks.{at_node, rows_of_node}
use Rattle.nc_schema.specs.Kinds.{has_value}
use Rattle.nc_schema.specs.Standing.{block_at, exists}
use Rattle.nc_schema.specs.Tables.{Tables}
use Rattle.nc_protocol.specs.Edited.{new_block}
use Rattle.nc_protocol.specs.declared.edit.Action.TheVariants.{Merge}

pub merge_kept : (tables : Tables) (rows : List Row) (path : Path) (value : Option (List ℕ)) (keeps : Bool) →
    keeps ≡ (exists rows path.steps && not (at_node tables path has_value)) → keeps ≡ true →
    new_block tables rows path (Merge value) ≡ block_at rows path.steps
merge_kept tables rows path value keeps is kept =
    ap (λ b. cond b (block_at rows path.steps) (rows_of_node tables path value)) (sym is ∙ kept)

pub merge_put : (tables : Tables) (rows : List Row) (path : Path) (value : Option (List ℕ)) (keeps : Bool) →
    keeps ≡ (exists rows path.steps && not (at_node tables path has_value)) → keeps ≡ false →
    new_block tables rows path (Merge value) ≡ rows_of_node tables path value
merge_put tables rows path value keeps is put =
    ap (λ b. cond b (block_at rows path.steps) (rows_of_node tables path value)) (sym is ∙ put)

pub value_goes : (stands value : Bool) → value ≡ true → false ≡ (stands && not value)
value_goes true true is = refl
value_goes true false is = cc
value_goes false value is = refl

pub other_stands : (stands value : Bool) → value ≡ false → stands ≡ (stands && not value)
other_stands true true is = cc
other_stands true false is = refl
other_stands false value is = refl
