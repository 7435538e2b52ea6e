-- Through how many types a value is read. A leafref asks the type of the leaf to which it leads, and a union each of
-- its member types (RFC 7950 9.9, 9.12); a value is read through 64 types at most, one after another, and through
-- 4,096 in all.
use Rattle.std.specs.Prelude.{◌≡◌, ◌||◌, ◌+◌, ℕ, zero, suc, Bool, false, if◌then◌else◌, nat_lt, List, [], Option, Some, None, option_map, slice_get, is_some}
use Rattle.std.specs.List.{list_any, sum_by}
use Rattle.std.specs.Option.{option_map_or, option_to_list}
use Rattle.nc_schema.specs.Tables.{Tables}
use Rattle.nc_schema.specs.Values.{type_of as kind_at}
use Rattle.nc_schema.specs.declared.value_type.ValueType.{ValueType}
use Rattle.nc_schema.specs.declared.value_type.ValueType.TheVariants.{Leafref, Union}
use Rattle.nc_yang_statements.specs.declared.fault.ModuleWhy.TheVariants.{TooMany}
use Rattle.nc_yang_statements.specs.Statements.{line}
use Rattle.nc_yang_scopes.specs.Scopes.{Located, Scoping}
use Rattle.nc_yang_scopes.specs.declared.naming.TextFault.{TextFault}
use Rattle.nc_yang_nodes.specs.declared.planned.Plan.{Plan}
use Rattle.nc_yang_leafs.specs.Bases.{type_of}

-- the types that a type asks
abbrev pub asked_of : Tables → ValueType → List ℕ
asked_of tables (Union members) = members
asked_of tables (Leafref target above required) = option_to_list (kind_at tables target)
asked_of tables type = []

-- so many more types are asked one after another, that of the number first
unfoldable pub leads_through : Tables → (more : ℕ) → (number : ℕ) → Bool
leads_through tables zero number = is_some (slice_get tables.types number)
leads_through tables (suc more) number =
    option_map_or (λ type. list_any (leads_through tables more) (asked_of tables type))
    (slice_get tables.types number) false

-- so many types are asked of a value that none takes, where the type of the number is asked first, and types are asked
-- so many levels deep; each counts as often as it is asked
unfoldable pub asked : Tables → (levels : ℕ) → (number : ℕ) → ℕ
asked tables zero number = 0
asked tables (suc levels) number =
    option_map_or (λ type. 1 + sum_by (asked tables levels) (asked_of tables type))
    (slice_get tables.types number) 0

-- the type of the number asks 64 more, one after another, or more than 4,096 are asked in all
abbrev pub asks_too_many : Tables → ℕ → Bool
asks_too_many tables number = leads_through tables 64 number || nat_lt 4096 (asked tables 64 number)

-- so does that of a leaf or leaf-list
abbrev pub reads_too_many : Tables → ℕ → Bool
reads_too_many tables number = option_map_or (asks_too_many tables) (kind_at tables number) false

-- at a `type` statement
abbrev pub too_many_at : Located → TextFault
too_many_at l = record { text = l.place.text; fault = record { line = line l.statement; why = TooMany } }

-- the fault of a data node
abbrev pub depth_fault : Scoping → Plan → Tables → ℕ → Option TextFault
depth_fault scoping plan tables number =
    if reads_too_many tables number then option_map too_many_at (type_of scoping plan number) else None

-- a data node's value is read through more types than that
abbrev pub BreaksDepth : Scoping → Plan → Tables → TextFault → Type 0
BreaksDepth scoping plan tables found = (number : ℕ) × (depth_fault scoping plan tables number ≡ Some found)

-- none is
abbrev pub KeepsDepth : Scoping → Plan → Tables → Type 0
KeepsDepth scoping plan tables = (number : ℕ) → depth_fault scoping plan tables number ≡ None
