-- Merges right below a new node whose rows come behind all that it has.
use Rattle.std.specs.Prelude.{◌≡◌, ◌⊎◌, ◌||◌, ◌+◌, ◌<◌, ◌≤◌, ℕ, Bool, true, List, [], ◌∷◌, ◌++◌, fold, length, take}
use Rattle.std.specs.List.{All}
use Rattle.std.specs.Option.{option_map_or}
use Rattle.nc_names.specs.declared.path.Place.TheVariants.{Kept}
use Rattle.nc_names.specs.declared.path.Row.{Row}
use Rattle.nc_names.specs.declared.path.Step.{Step}
use Rattle.nc_schema.specs.Order.{sibling_place}
use Rattle.nc_schema.specs.Standing.{node_of}
use Rattle.nc_schema.specs.Tables.{Tables}
use Rattle.nc_protocol.specs.Applied.{is_empty}
use Rattle.nc_protocol.specs.declared.edit.Edit.{Edit}
use Rattle.nc_protocol.specs.declared.request.Cause.{Cause}
use Rattle.nc_edit.specs.inner.Alone.{is_free, is_merge, turn_at}

-- the keys of the entries of a node, if it is a list
abbrev pub keys_of : Tables → List Step → List ℕ
keys_of tables steps = option_map_or (λ node. node.keys) (node_of tables steps) []

-- a row at or below a node comes before all that goes on from there by that number, or by a higher one, which is no
-- key's: it is the node's own, or goes on by a key or by a lower number
abbrev pub IsEarlier : List ℕ → ℕ → List Step → Row → Type 0
IsEarlier keys least steps row =
    (row.path.steps ≡ steps)
    ⊎ ((step : Step) × (more : List Step) × (row.path.steps ≡ steps ++ step ∷ more)
    × (sibling_place keys step.node < length keys + least))

-- so do all of these
abbrev pub AreEarlier : List ℕ → ℕ → List Step → List Row → Type 0
AreEarlier keys least steps [] = Unit {0}
AreEarlier keys least steps (row ∷ rows) = IsEarlier keys least steps row × AreEarlier keys least steps rows

-- an edit merges a node to which so many steps and one more lead, in its place by the schema alone
pub record IsMerged (tables : Tables) (depth : ℕ) (edit : Edit) (step : Step) : Type 0 where
  pub above : List Step
  pub cut : edit.path.steps ≡ above ++ step ∷ []
  pub depth_is : length above ≡ depth
  pub merges : is_merge edit.action ≡ true
  pub kept : edit.place ≡ Kept
  pub free : is_free tables step ≡ true

-- no key has the number or a higher one, and it is not lower than another
pub record IsNext (keys : List ℕ) (least number : ℕ) : Type 0 where
  pub lower : All (λ key. key < number) keys
  pub later : least ≤ number

-- a node has two rows, its own and another, and this one stands alone once more
pub record IsAgain (steps : List Step) (rows more : List Row) : Type 0 where
  pub own : Row
  pub other : Row
  pub rows_are : rows ≡ own ∷ other ∷ []
  pub more_is : more ≡ other ∷ []
  pub own_is : own.path.steps ≡ steps

-- the first of some edits below a node, so many, make these rows of its rows, where they go on
abbrev pub MakeBehind : Tables → List Step → List Row → List Row → List Edit → ℕ → Type 0
MakeBehind tables steps old new edits count =
    (goes_on : Bool) (causes : List Cause) → (goes_on || is_empty causes) ≡ true →
    record { rows = new; causes = causes } ≡ fold (turn_at tables (length steps + 1) goes_on)
    (record { rows = old; causes = causes }) (take count edits)
