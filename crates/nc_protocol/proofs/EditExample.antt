-- One edit, and the changes between two configurations, worked by hand.
use Rattle.std.proofs.Common.{◌≡◌, ℕ, List, [], ◌∷◌, ◌++◌, refl}
use Rattle.std.specs.Prelude.{codes, Some, None, Result, Ok, Err, false, true}
use Rattle.nc_names.specs.declared.cause.CauseKind.TheVariants.{MissingInstance, DataDenied}
use Rattle.nc_names.specs.declared.path.Path.{Path}
use Rattle.nc_names.specs.declared.path.Place.{Place}
use Rattle.nc_names.specs.declared.path.Place.TheVariants.{Kept, Last, Before}
use Rattle.nc_names.specs.declared.path.Right.{Right}
use Rattle.nc_names.specs.declared.path.Right.TheVariants.{Update as MayUpdate, Delete as MayDelete}
use Rattle.nc_names.specs.declared.path.Row.{Row}
use Rattle.nc_schema.specs.declared.node.Kind.TheVariants.{Container, Leaf, List as ListKind}
use Rattle.nc_schema.specs.declared.node.Node.{Node}
use Rattle.nc_schema.specs.Tables.{Tables}
use Rattle.nc_protocol.specs.declared.access.By.TheVariants.{Default}
use Rattle.nc_protocol.specs.declared.access.Decision.{Decision}
use Rattle.nc_protocol.specs.declared.edit.Action.{Action}
use Rattle.nc_protocol.specs.declared.edit.Action.TheVariants.{Merge, Replace}
use Rattle.nc_protocol.specs.declared.edit.Edit.{Edit}
use Rattle.nc_protocol.specs.declared.request.Cause.{Cause}
use Rattle.nc_protocol.specs.Changes.{changes_between}
use Rattle.nc_protocol.specs.Edited.{Change, edited, changes_by}
use Rattle.nc_protocol.specs.Words.{key_word, default_word, write_word}
use Rattle.nc_protocol.proofs.Example.{node}

-- container top { list rule { key name; ordered-by user; leaf name } choice { case { leaf x } case { leaf y } } }
unfoldable rule_node : Node
rule_node = record (node (codes "rule") (Some 0) ListKind (2 ∷ [])) { by_user = true }

unfoldable x_node : Node
x_node = record (node (codes "x") (Some 0) Leaf []) { cases = record { choice = 0; case = 0 } ∷ [] }

unfoldable y_node : Node
y_node = record (node (codes "y") (Some 0) Leaf []) { cases = record { choice = 0; case = 1 } ∷ [] }

unfoldable schema : Tables
schema = record {
  nodes = node (codes "top") None (Container false) [] ∷ rule_node ∷ node (codes "name") (Some 1) Leaf [] ∷ x_node ∷ y_node ∷ [];
  choices = [];
  patterns = [];
  types = [];
  modules = [];
}

unfoldable top_path : Path
top_path = record { steps = record { node = 0; keys = [] } ∷ [] }

unfoldable rule_path : List ℕ → Path
rule_path key = record { steps = record { node = 0; keys = [] } ∷ record { node = 1; keys = key ∷ [] } ∷ [] }

unfoldable leaf_path : ℕ → Path
leaf_path number = record { steps = record { node = 0; keys = [] } ∷ record { node = number; keys = [] } ∷ [] }

unfoldable rule_rows : List ℕ → List Row
rule_rows key =
    record { path = rule_path key; value = None }
    ∷ record { path = record { steps = record { node = 0; keys = [] } ∷ record { node = 1; keys = key ∷ [] } ∷ record { node = 2; keys = [] } ∷ [] }; value = Some key } ∷ []

unfoldable two : List Row
two = rule_rows (codes "a") ++ rule_rows (codes "b")

unfoldable turned : List Row
turned = rule_rows (codes "b") ++ rule_rows (codes "a")

nothing : Path → Right → Decision
nothing path right = record { permit = false; by = Default }

everything : Path → Right → Decision
everything path right = record { permit = true; by = Default }

edit_of : Path → Action → Place → Edit
edit_of path action place = record { path = path; action = action; place = place }

three : List Row
three = two ++ rule_rows (codes "c")

no_delete : Path → Right → Decision
no_delete path MayDelete = record { permit = false; by = Default }
no_delete path right = record { permit = true; by = Default }

denied : Path → Result (List Row) Cause
denied path = Err (record { kind = DataDenied; path = Some path; names = default_word ∷ write_word ∷ [] })

updates : List ℕ → Change
updates key = record { path = rule_path key; right = MayUpdate }

x_row : Row
x_row = record { path = leaf_path 3; value = Some (codes "1") }

y_row : Row
y_row = record { path = leaf_path 4; value = Some (codes "2") }

-- a replace leaves the entries in the payload's order, and each of them that has moved needs a right
replaces : edited schema everything two (edit_of top_path (Replace turned) Kept) ≡ Ok turned
unfolding node rule_node x_node y_node schema top_path rule_path leaf_path rule_rows two three turned nothing everything no_delete denied updates x_row y_row edit_of key_word default_word write_word
replaces = refl

replace_is_denied : edited schema nothing two (edit_of top_path (Replace turned) Kept) ≡ denied (rule_path (codes "a"))
unfolding node rule_node x_node y_node schema top_path rule_path leaf_path rule_rows two three turned nothing everything no_delete denied updates x_row y_row edit_of key_word default_word write_word
replace_is_denied = refl

replace_asks : changes_by schema two (edit_of top_path (Replace turned) Kept) ≡ updates (codes "b") ∷ updates (codes "a") ∷ []
unfolding node rule_node x_node y_node schema top_path rule_path leaf_path rule_rows two three turned nothing everything no_delete denied updates x_row y_row edit_of key_word default_word write_word
replace_asks = refl

-- an entry that is replaced keeps its place
replace_of_entry : edited schema nothing two (edit_of (rule_path (codes "a")) (Replace (rule_rows (codes "a"))) Kept) ≡ Ok two
unfolding node rule_node x_node y_node schema top_path rule_path leaf_path rule_rows two three turned nothing everything no_delete denied updates x_row y_row edit_of key_word default_word write_word
replace_of_entry = refl

-- c before a: c alone has been moved by the user
moves_before : edited schema everything three (edit_of (rule_path (codes "c")) (Merge None) (Before (codes "a" ∷ []))) ≡ Ok (rule_rows (codes "c") ++ two)
unfolding node rule_node x_node y_node schema top_path rule_path leaf_path rule_rows two three turned nothing everything no_delete denied updates x_row y_row edit_of key_word default_word write_word
moves_before = refl

move_asks : changes_by schema three (edit_of (rule_path (codes "c")) (Merge None) (Before (codes "a" ∷ []))) ≡ updates (codes "c") ∷ []
unfolding node rule_node x_node y_node schema top_path rule_path leaf_path rule_rows two three turned nothing everything no_delete denied updates x_row y_row edit_of key_word default_word write_word
move_asks = refl

-- an `insert` that leaves the order as it was is no move
stays : edited schema nothing three (edit_of (rule_path (codes "c")) (Merge None) Last) ≡ Ok three
unfolding node rule_node x_node y_node schema top_path rule_path leaf_path rule_rows two three turned nothing everything no_delete denied updates x_row y_row edit_of key_word default_word write_word
stays = refl

misses_anchor : edited schema everything three (edit_of (rule_path (codes "c")) (Merge None) (Before (codes "z" ∷ [])))
    ≡ Err (record { kind = MissingInstance; path = Some (rule_path (codes "c")); names = codes "key" ∷ codes "rule" ∷ [] })
unfolding node rule_node x_node y_node schema top_path rule_path leaf_path rule_rows two three turned nothing everything no_delete denied updates x_row y_row edit_of key_word default_word write_word
misses_anchor = refl

-- the leaf of another case takes the place of the first, without a right to delete it: in a merge, and in a replace
-- above both
drops_other_case : edited schema no_delete (x_row ∷ []) (edit_of (leaf_path 4) (Merge (Some (codes "2"))) Kept) ≡ Ok (y_row ∷ [])
unfolding node rule_node x_node y_node schema top_path rule_path leaf_path rule_rows two three turned nothing everything no_delete denied updates x_row y_row edit_of key_word default_word write_word
drops_other_case = refl

replaces_other_case : edited schema no_delete (x_row ∷ []) (edit_of top_path (Replace (y_row ∷ [])) Kept) ≡ Ok (y_row ∷ [])
unfolding node rule_node x_node y_node schema top_path rule_path leaf_path rule_rows two three turned nothing everything no_delete denied updates x_row y_row edit_of key_word default_word write_word
replaces_other_case = refl

-- what the new rows of a replace lack is dropped, which needs a right
replace_drops : edited schema no_delete (x_row ∷ []) (edit_of top_path (Replace []) Kept) ≡ denied (leaf_path 3)
unfolding node rule_node x_node y_node schema top_path rule_path leaf_path rule_rows two three turned nothing everything no_delete denied updates x_row y_row edit_of key_word default_word write_word
replace_drops = refl

-- a dropped entry comes before a new one
dropped_first : edited schema nothing two (edit_of top_path (Replace (rule_rows (codes "0"))) Kept) ≡ denied (rule_path (codes "a"))
unfolding node rule_node x_node y_node schema top_path rule_path leaf_path rule_rows two three turned nothing everything no_delete denied updates x_row y_row edit_of key_word default_word write_word
dropped_first = refl

-- between two configurations: c has moved, and another entry than before stands before a
changes : changes_between schema (x_row ∷ three) (y_row ∷ rule_rows (codes "c") ++ two) ≡ record {
  created = leaf_path 4 ∷ [];
  updated = rule_path (codes "c") ∷ rule_path (codes "a") ∷ [];
  deleted = leaf_path 3 ∷ [];
}
unfolding node rule_node x_node y_node schema top_path rule_path leaf_path rule_rows two three turned nothing everything no_delete denied updates x_row y_row edit_of key_word default_word write_word
changes = refl
