-- The first data node of each choice, and the choices without data nodes.
use Rattle.std.specs.Prelude.{◌≡◌, ◌<◌, ◌==◌, ◌&&◌, ◌+◌, ◌++◌, ℕ, Bool, false, if◌then◌else◌, is_none, ltb}
use Rattle.std.specs.Prelude.{length, drop, List, [], ◌∷◌, Option, None, Some, slice_get, unwrap_or}
use Rattle.std.specs.List.{list_any, position_from}
use Rattle.nc_names.specs.declared.cause.CauseKind.TheVariants.{MandatoryChoice}
use Rattle.nc_schema.specs.InUse.{stands_in}
use Rattle.nc_schema.specs.Places.{Place}
use Rattle.nc_schema.specs.Tables.{Tables}
use Rattle.nc_schema.specs.Violations.{is_required, violated}
use Rattle.nc_schema.specs.declared.node.Case.{Case}
use Rattle.nc_schema.specs.declared.node.Choice.{Choice}
use Rattle.nc_schema.specs.declared.node.Node.{Node}
use Rattle.nc_schema.specs.declared.violation.Violation.{Violation}

-- one of the cases is of the choice
abbrev pub is_in : ℕ → List Case → Bool
is_in choice cases = list_any (λ one. one.choice == choice) cases

-- the first data node of a choice, of those from a number on
abbrev pub first_from : List Node → ℕ → ℕ → Option ℕ
first_from nodes choice number = position_from (λ node. is_in choice node.cases) number (drop number nodes)

-- the first data node of a choice, as a list has it
abbrev pub first_at : List (Option ℕ) → ℕ → Option ℕ
first_at firsts choice = unwrap_or (slice_get firsts choice) None

-- for each choice the first of its data nodes from a number on
pub record AreFirstsFrom (tables : Tables) (number : ℕ) (firsts : List (Option ℕ)) : Type 0 where
  pub long : length firsts ≡ length tables.choices
  pub exact : (choice : ℕ) → choice < length tables.choices →
      first_at firsts choice ≡ first_from tables.nodes choice number

-- a data node with these cases is the first of their choices, and no other is changed
pub record HasFirsts (cases : List Case) (number : ℕ) (before now : List (Option ℕ)) : Type 0 where
  pub long : length now ≡ length before
  pub exact : (choice : ℕ) → choice < length before →
      first_at now choice ≡ (if is_in choice cases then Some number else first_at before choice)

-- there is a first data node, and it is below a number
abbrev pub is_below : Option ℕ → ℕ → Bool
is_below None number = false
is_below (Some first) number = ltb first number

-- the choices from a number on that have no first data node
abbrev pub bares_from : List (Option ℕ) → ℕ → List Choice → List Choice
bares_from firsts number [] = []
bares_from firsts number (choice ∷ later) =
    (if is_none (first_at firsts number) then choice ∷ [] else []) ++ bares_from firsts (number + 1) later

-- what is broken of a choice without data nodes: of those no node can be there
abbrev pub bare_of : Tables → Place → Choice → List Violation
bare_of tables place choice =
    violated (stands_in choice.parent place && choice.mandatory && is_required tables place choice.within)
    MandatoryChoice place.steps
