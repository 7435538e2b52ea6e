-- The table of types as it grows: of which plan each number is, and which numbers are given to plans.
use Rattle.std.specs.Prelude.{◌≡◌, ◌==◌, ◌&&◌, ◌<◌, ◌≤◌, ◌⊎◌, ℕ, Bool, not, if◌then◌else◌, List, [], ◌∷◌, ◌++◌, map, length, Option, Some, None, slice_get, slice_set, unwrap_or, option_and_then, Contains}
use Rattle.nc_names.specs.declared.name.QName.{QName}
use Rattle.nc_schema.specs.declared.pattern.LeafrefEnd.{LeafrefEnd}
use Rattle.nc_schema.specs.declared.value_type.ValueType.{ValueType}
use Rattle.nc_schema.specs.declared.value_type.ValueType.TheVariants.{Union as UnionType, Identity as IdentityType}
use Rattle.nc_schema.specs.declared.value_type.ValueType.TheVariants.{Leafref as LeafrefType}
use Rattle.nc_schema.specs.Tables.{Tables}
use Rattle.nc_yang_scopes.specs.declared.naming.TextFault.{TextFault}
use Rattle.nc_yang_scopes.specs.Scopes.{Located, Scoping}
use Rattle.nc_yang_types.specs.declared.planned.Meanings.{Meanings}
use Rattle.nc_yang_types.specs.declared.planned.Planned.{Planned}
use Rattle.nc_yang_types.specs.declared.planned.Planned.TheVariants.{Bases, Finished, Leafref, Members}
use Rattle.nc_yang_scopes.specs.Numbers.{OnNumber}
use Rattle.nc_yang_types.specs.Plans.{HasPlan}
use Rattle.nc_yang_types.specs.Wholes.{UsesPath}
use Rattle.nc_yang_leafs.specs.declared.table.Slot.{Slot}
use Rattle.nc_yang_leafs.specs.declared.table.Table.{Table}
use Rattle.nc_yang_leafs.specs.Bases.{leads}
use Rattle.nc_yang_leafs.specs.Faults.{fault_at}
use Rattle.nc_yang_leafs.specs.Typings.{IsAmong}
use Rattle.nc_yang_leafs.specs.Marks.{is_marked}
use Rattle.nc_yang_leafs.specs.Named.{HaveNames}
use Rattle.nc_yang_leafs.specs.Patterns.{with_numbers}
use Rattle.nc_yang_leafs.specs.inner.Firsts.{AreFirsts, first_in, plan_for}

-- for which data node types are made, and from what
pub record Work : Type 0 where
  pub scoping : Scoping
  pub given : Tables
  pub meanings : Meanings
  pub marks : List Bool
  pub firsts : List ℕ
  pub node : ℕ

-- a number that was given for a data node: that of a plan with a leafref in it is for this one alone
abbrev pub number_in : (marked : Bool) → (node : ℕ) → Slot → Option ℕ
number_in marked node slot = if marked && not (slot.node == node) then None else Some slot.number

-- the number of a plan, with the data node for which it was given last, if it was
abbrev pub slot_at : List (Option Slot) → ℕ → Option Slot
slot_at known plan = unwrap_or (slice_get known plan) None

-- the number that a plan has for a data node
abbrev pub number_of : List Bool → List (Option Slot) → (node : ℕ) → (plan : ℕ) → Option ℕ
number_of marks known node plan = option_and_then (number_in (is_marked marks plan) node) (slot_at known plan)

-- that of the plan that has the entry of a `type` statement
abbrev pub number_at : Work → List (Option Slot) → (member : ℕ) → Option ℕ
number_at w known member =
    option_and_then (number_of w.marks known w.node) (plan_for w.meanings.findings w.firsts member)

-- with the next number for a plan
abbrev pub with_plan : Table → (node : ℕ) → (plan : ℕ) → Table
with_plan table node plan = record table {
  known = slice_set table.known plan (Some (record { node = node; number = length table.plans }));
  plans = table.plans ++ plan ∷ [];
}

-- a plan has that number, which may be new
abbrev pub Asks : List Bool → (node plan : ℕ) → (old new : Table) → (number : ℕ) → Type 0
Asks marks node plan old new number =
    ((number_of marks old.known node plan ≡ Some number) × (new ≡ old))
    ⊎ ((number_of marks old.known node plan ≡ None) × (plan < length old.known)
    × (number ≡ length old.plans) × (new ≡ with_plan old node plan))

-- so has the plan that has the entry of a `type` statement
pub record AsksMember (w : Work) (member : ℕ) (old new : Table) (number : ℕ) : Type 0 where
  pub plan : ℕ
  pub is : plan_for w.meanings.findings w.firsts member ≡ Some plan
  pub asks : Asks w.marks w.node plan old new number

-- so have those of several
pub record Asked (w : Work) (members : List ℕ) (old new : Table) (numbers : List ℕ) : Type 0 where
  pub types : new.types ≡ old.types
  pub more : List ℕ
  pub plans : new.plans ≡ old.plans ++ more
  pub from : (plan : ℕ) → Contains more plan → (member : ℕ) × Contains members member
      × (plan_for w.meanings.findings w.firsts member ≡ Some plan)
  pub kept : (plan number : ℕ) → number_of w.marks old.known w.node plan ≡ Some number
      → number_of w.marks new.known w.node plan ≡ Some number
  pub fresh : (plan number : ℕ) → number_of w.marks new.known w.node plan ≡ Some number →
      (number_of w.marks old.known w.node plan ≡ Some number) ⊎ ((length old.plans ≤ number)
      × (slice_get new.plans number ≡ Some plan))
  pub given : (plan number : ℕ) → length old.plans ≤ number → slice_get new.plans number ≡ Some plan
      → number_of w.marks new.known w.node plan ≡ Some number
  pub stamped : (plan : ℕ) (slot : Slot) → slot_at new.known plan ≡ Some slot → (slot_at old.known plan ≡ Some slot)
      ⊎ (slot.node ≡ w.node)
  pub answers : map (number_at w new.known) members ≡ map Some numbers

-- the `path` statement of a number leads there
abbrev pub LeadsTo : Work → ℕ → Option LeafrefEnd → Type 0
LeadsTo w path end = OnNumber w.scoping path (λ l. leads w.scoping w.given w.node l ≡ end)

-- an entry is of the leafref of a path
pub record IsLeafref (w : Work) (path : ℕ) (required : Bool) (entry : ValueType) : Type 0 where
  pub end : LeafrefEnd
  pub leads : LeadsTo w path (Some end)
  pub is : entry ≡ LeafrefType end.target end.above required

-- an entry is of a plan, with the numbers of its `pattern` statements or those that its members have
abbrev pub Fits : (derived : List Located → List QName → Type 0) → Work → List (Option Slot) → Planned → ValueType
    → Type 0
Fits derived w known (Finished entry patterns names) other = other ≡ with_numbers patterns entry
Fits derived w known (Members members) other =
    (numbers : List ℕ) × (other ≡ UnionType numbers) × (map (number_at w known) members ≡ map Some numbers)
Fits derived w known (Bases bases) other =
    (names : List QName) × (other ≡ IdentityType names) × HaveNames derived w.scoping.located bases names
Fits derived w known (Leafref path need) other = IsLeafref w path need other

-- the members of a union; another plan has none
abbrev pub members_in : Planned → List ℕ
members_in (Members members) = members
members_in planned = []

-- a plan's entry was made, and its members asked for
pub record Enters (derived : List Located → List QName → Type 0) (w : Work) (planned : Planned) (old new : Table)
    (entry : ValueType) : Type 0 where
  pub numbers : List ℕ
  pub asked : Asked w (members_in planned) old new numbers
  pub fits : Fits derived w new.known planned entry

-- the entry of a plan was added
pub record Adds (derived : List Located → List QName → Type 0) (w : Work) (plan : ℕ) (old new : Table) : Type 0 where
  pub planned : Planned
  pub there : slice_get w.meanings.plans plan ≡ Some planned
  pub entry : ValueType
  pub between : Table
  pub enters : Enters derived w planned old between entry
  pub is : new ≡ record between { types = between.types ++ entry ∷ [] }

-- a fault is at the statement of a number
abbrev pub IsAtNumber : Scoping → ℕ → TextFault → Type 0
IsAtNumber scoping number fault = OnNumber scoping number (λ l. fault ≡ fault_at l)

-- the path leads nowhere
pub record LosesNumber (w : Work) (path : ℕ) (fault : TextFault) : Type 0 where
  pub nowhere : LeadsTo w path None
  pub at : IsAtNumber w.scoping path fault

-- a plan is of a leafref that leads nowhere
pub record IsLost (w : Work) (planned : Planned) (fault : TextFault) : Type 0 where
  pub path : ℕ
  pub need : Bool
  pub is : planned ≡ Leafref path need
  pub lost : LosesNumber w path fault

-- the plan of that number is of a leafref that leads nowhere
pub record LosesPlan (w : Work) (plan : ℕ) (fault : TextFault) : Type 0 where
  pub planned : Planned
  pub there : slice_get w.meanings.plans plan ≡ Some planned
  pub lost : IsLost w planned fault

-- a plan has the entry of a `type` statement that another is, or that is among its members
pub record IsUsed (on : ℕ → List ℕ → Bool) (w : Work) (top : Located) (plan : ℕ) : Type 0 where
  pub statement : Located
  pub own : ℕ
  pub has : HasPlan on w.scoping w.meanings.plans statement own
  pub first : first_in w.firsts own ≡ plan
  pub among : IsAmong on w.scoping.texts top statement

-- entries are right as far as they are made
pub record IsRight (derived : List Located → List QName → Type 0) (w : Work) (table : Table) : Type 0 where
  pub numbered : (plan number : ℕ) → number_of w.marks table.known w.node plan ≡ Some number
      → slice_get table.plans number ≡ Some plan
  pub fits : (plan number : ℕ) (entry : ValueType) (planned : Planned) → number_of w.marks table.known w.node plan
      ≡ Some number →
      slice_get table.types number ≡ Some entry → slice_get w.meanings.plans plan ≡ Some planned
      → Fits derived w table.known planned entry
  pub stamped : (plan : ℕ) (slot : Slot) → slot_at table.known plan ≡ Some slot → slot.node ≤ w.node
  pub firsts : AreFirsts derived w.scoping.located w.meanings.plans w.marks w.firsts

-- the numbers from that one on are for the type of the data node, and those that are yet to be made are among them
pub record IsOnWay (derived : List Located → List QName → Type 0) (on : ℕ → List ℕ → Bool) (w : Work) (top : Located)
    (start : ℕ) (table : Table) : Type 0 where
  pub right : IsRight derived w table
  pub used : (plan number : ℕ) → start ≤ number → slice_get table.plans number ≡ Some plan → IsUsed on w top plan
  pub given : (plan number : ℕ) → start ≤ number → slice_get table.plans number ≡ Some plan
      → number_of w.marks table.known w.node plan ≡ Some number
  pub past : start ≤ length table.types
  pub few : length table.types ≤ length table.plans

-- none of them is made
abbrev pub IsAtStart : (derived : List Located → List QName → Type 0) → (on : ℕ → List ℕ → Bool) → Work
    → (top : Located) → Table → Type 0
IsAtStart derived on w top table = IsOnWay derived on w top (length table.types) table

-- all are made
pub record IsSettled (derived : List Located → List QName → Type 0) (w : Work) (table : Table) : Type 0 where
  pub right : IsRight derived w table
  pub made : length table.plans ≡ length table.types

-- no number was given for this data node
pub record IsReady (derived : List Located → List QName → Type 0) (w : Work) (table : Table) : Type 0 where
  pub settled : IsSettled derived w table
  pub before : (plan : ℕ) (slot : Slot) → slot_at table.known plan ≡ Some slot → slot.node < w.node

-- types were added
abbrev pub AddsTypes : (old new : Table) → Type 0
AddsTypes old new = (more : List ValueType) × (new.types ≡ old.types ++ more)

-- entries were added
pub record Goes (derived : List Located → List QName → Type 0) (on : ℕ → List ℕ → Bool) (w : Work) (top : Located)
    (old new : Table) : Type 0 where
  pub adds : AddsTypes old new
  pub kept : (plan number : ℕ) → number_of w.marks old.known w.node plan ≡ Some number
      → number_of w.marks new.known w.node plan ≡ Some number
  pub on_way : IsOnWay derived on w top (length old.types) new

-- the entries of all numbers are made
pub record Fills (derived : List Located → List QName → Type 0) (on : ℕ → List ℕ → Bool) (w : Work) (top : Located)
    (old new : Table) : Type 0 where
  pub adds : AddsTypes old new
  pub kept : (plan number : ℕ) → number_of w.marks old.known w.node plan ≡ Some number
      → number_of w.marks new.known w.node plan ≡ Some number
  pub settled : IsSettled derived w new
  pub used : (number : ℕ) → length old.types ≤ number → number < length new.types →
      (plan : ℕ) × IsUsed on w top plan × (number_of w.marks new.known w.node plan ≡ Some number)

-- the path of a leafref in a type leads nowhere
pub record LosesPath (on : ℕ → List ℕ → Bool) (w : Work) (top : Located) (fault : TextFault) : Type 0 where
  pub path : Located
  pub uses : UsesPath on w.scoping.texts top path
  pub lost : leads w.scoping w.given w.node path ≡ None
  pub at : fault ≡ fault_at path
