-- An edit that brings canonical values to a configuration leaves one.
use Rattle.std.proofs.Common.{◌≡◌, ◌&&◌, ◌||◌, Bool, true, false, cond, not, List, [], Option, Some, None, subst}
use Rattle.std.proofs.lemmas.List.Elements.{All-append, All-filter, All-nil}
use Rattle.std.specs.List.{All, list_any}
use Rattle.std.specs.Prelude.{Ok}
use Rattle.nc_names.specs.declared.path.Path.{Path}
use Rattle.nc_names.specs.declared.path.Place.{Place}
use Rattle.nc_names.specs.declared.path.Right.{Right}
use Rattle.nc_names.specs.declared.path.Row.{Row}
use Rattle.nc_schema.specs.Configuration.{HasCanonicalValue}
use Rattle.nc_schema.specs.Tables.{Tables}
use Rattle.nc_protocol.specs.declared.access.Decision.{Decision}
use Rattle.nc_protocol.specs.declared.edit.Action.{Action}
use Rattle.nc_protocol.specs.declared.edit.Action.TheVariants.{Nothing, Merge, Create, Replace, Delete, Remove}
use Rattle.nc_protocol.specs.declared.edit.Edit.{Edit}
use Rattle.nc_protocol.specs.declared.request.Cause.{Cause}
use Rattle.nc_protocol.specs.Edited.{new_block, left_by, refusal, unless_refused, edited}
use Rattle.nc_schema.specs.Blocks.{at_node, rows_of_node, with_block, other_rows}
use Rattle.nc_schema.specs.Kinds.{has_value}
use Rattle.nc_protocol.specs.Laws.{EditKeepsConfiguration}
use Rattle.nc_protocol.specs.ProperEdit.{rows_brought, BringsCanonical}
use Rattle.nc_names.specs.Same.{is_at_or_below}
use Rattle.nc_schema.specs.Standing.{block_at, exists, steps_before, excludes}
use Rattle.nc_protocol.proofs.EditLemmas.{edit_keeps_tree, ok_same}

-- what is true of all rows and of those that an edit brings, is true of all that it leaves
module _ (P : Row → Type 0) (tables : Tables) (rows : List Row) (path : Path) (each : All P rows) where
  pub of_block : (action : Action) → All P (rows_brought tables path action) → All P (new_block tables rows path action)
  of_block Nothing brought = All-filter (λ row. is_at_or_below path.steps row.path) P rows each
  of_block (Merge value) brought = by (exists rows path.steps && not (at_node tables path has_value))
    where
      by : (there : Bool) → All P (cond there (block_at rows path.steps) (rows_of_node tables path value))
      by true = All-filter (λ row. is_at_or_below path.steps row.path) P rows each
      by false = brought
  of_block (Create new) brought = brought
  of_block (Replace new) brought = brought
  of_block Delete brought = All-nil P
  of_block Remove brought = All-nil P

  pub of_left : (place : Place) (block : List Row) → All P block → All P (with_block tables rows path place block)
  of_left place block of_it =
      let others : List Row = other_rows tables rows path.steps block in
      let of_others : All P others = All-filter (λ row. not (is_at_or_below path.steps row.path || list_any (λ added. excludes tables added.path.steps row.path.steps) block)) P rows each in
      All-append P _ _ (All-append P _ _ (All-filter (λ row. steps_before tables rows place [] row.path.steps path.steps) P others of_others) of_it)
      (All-filter (λ row. not (steps_before tables rows place [] row.path.steps path.steps)) P others of_others)

-- an edit that brings values of a kind leaves only such
pub edit_keeps_values : (tables : Tables) (rights : Path → Right → Decision) (rows left : List Row) (edit : Edit) →
    All (HasCanonicalValue tables) rows → BringsCanonical tables edit → edited tables rights rows edit ≡ Ok left →
    All (HasCanonicalValue tables) left
edit_keeps_values tables rights rows left edit each brings is = by (refusal tables rights rows edit) is
  where
    by : (refused : Option Cause) → unless_refused refused (left_by tables rows edit) ≡ Ok left → All (HasCanonicalValue tables) left
    by (Some cause) is = cc
    by None is =
        subst (All (HasCanonicalValue tables)) (ok_same _ _ is)
        (of_left (HasCanonicalValue tables) tables rows edit.path each _ _ (of_block (HasCanonicalValue tables) tables rows edit.path each edit.action brings))

pub edit_keeps_configuration : EditKeepsConfiguration
edit_keeps_configuration tables rights rows left edit proper configuration fits brings is = record {
  tree = edit_keeps_tree tables rights rows left edit proper configuration.tree fits is;
  canonical = edit_keeps_values tables rights rows left edit configuration.canonical brings is;
}
