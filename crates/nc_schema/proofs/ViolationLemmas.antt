-- The kinds of violations.
use Rattle.std.proofs.Common.{◌++◌, ◌&&◌, ℕ, zero, suc, Bool, true, false, List, [], ◌∷◌, arith, Option, Some, None}
use Rattle.std.specs.Prelude.{ltb, ◌==◌, map, if◌then◌else◌, length}
use Rattle.std.specs.List.{All, flat_map, enumerate_from}
use Rattle.std.specs.Option.{option_map_or}
use Rattle.std.proofs.lemmas.List.Elements.{All-append}
use Rattle.nc_names.specs.declared.cause.CauseKind.{CauseKind}
use Rattle.nc_names.specs.declared.cause.CauseKind.TheVariants.{Mandatory, MandatoryChoice, TooFew, TooMany, NotUnique, DeadLeafref, DeadInstance}
use Rattle.nc_names.specs.declared.path.Row.{Row}
use Rattle.nc_names.specs.declared.path.Step.{Step}
use Rattle.nc_schema.specs.InUse.{stands_in}
use Rattle.nc_schema.specs.Kinds.{has_entries, is_leaf}
use Rattle.nc_schema.specs.Places.{Place, parts_of, places_of, places_from, top_place}
use Rattle.nc_schema.specs.Tables.{Tables}
use Rattle.nc_schema.specs.Violations.{violations, structural_violations, reference_violations, violations_at, child_violations, bare_violations, choice_violations, node_violations, unique_violations, violated, is_required, is_choice_before, row_violation, reference_violation, type_there, repeated, agree_in}
use Rattle.nc_schema.specs.declared.node.Node.{Node}
use Rattle.nc_schema.specs.declared.value_type.ValueType.{ValueType}
use Rattle.nc_schema.specs.declared.value_type.ValueType.TheVariants.{Whole, Decimal, Chars, Boolean, Enumeration, Bits, Binary, Empty, Union, Identity, Leafref, Instance, NodeInstance}
use Rattle.nc_schema.specs.declared.violation.Violation.{Violation}

none_of : {X : Type 0} (P : X → Type 0) → All P []
none_of P k d within = absurd (omega (arith, within))

one_of : {X : Type 0} (P : X → Type 0) (x : X) → P x → All P (x ∷ [])
one_of P x is zero d within = is
one_of P x is (suc k) d within = absurd (omega (arith, within))

each_flat : {X Y : Type 0} (P : Y → Type 0) (f : X → List Y) (xs : List X) → ((x : X) → All P (f x)) → All P (flat_map f xs)
each_flat P f [] each = none_of P
each_flat P f (x ∷ xs) each = All-append P (f x) (flat_map f xs) (each x) (each_flat P f xs each)

each_map : {X Y : Type 0} (P : Y → Type 0) (f : X → Y) (xs : List X) → ((x : X) → P (f x)) → All P (map f xs)
each_map P f [] each = none_of P
each_map P f (x ∷ xs) each = All-append P (f x ∷ []) (map f xs) (one_of P (f x) (each x)) (each_map P f xs each)

-- whatever the seven kinds are, so is the kind of each violation
module _ (P : CauseKind → Type 0) (mandatory : P Mandatory) (mandatory_choice : P MandatoryChoice) (too_few : P TooFew) (too_many : P TooMany)
    (not_unique : P NotUnique) (dead_leafref : P DeadLeafref) (dead_instance : P DeadInstance) where
  abbrev Is : Violation → Type 0
  Is violation = P violation.kind

  violated_is : (broken : Bool) (kind : CauseKind) (steps : List Step) → P kind → All Is (violated broken kind steps)
  violated_is true kind steps is = one_of Is (record { kind = kind; path = record { steps = steps } }) is
  violated_is false kind steps is = none_of Is

  choice_is : (tables : Tables) (place : Place) (number : ℕ) → All Is (choice_violations tables place number)
  choice_is tables place number = violated_is _ MandatoryChoice place.steps mandatory_choice

  unique_is : (tables : Tables) (entries : List Place) (leafs : List ℕ) → All Is (unique_violations tables entries leafs)
  unique_is tables entries leafs =
      each_map Is (λ entry. record { kind = NotUnique; path = record { steps = entry.steps } }) (repeated (agree_in tables leafs) [] entries) (λ entry. not_unique)

  node_is : (tables : Tables) (place : Place) (number : ℕ) (node : Node) → All Is (node_violations tables place number node)
  node_is tables place number node =
      let count = length (parts_of place number) in
      let child = place.steps ++ record { node = number; keys = [] } ∷ [] in
      let required = is_required tables place node.cases in
      let absent = is_leaf node.kind && node.mandatory && count == 0 && required in
      let few = has_entries node.kind && ltb count node.least && required in
      let many = has_entries node.kind && option_map_or (λ most. ltb most count) node.most false in
      let entries = places_of tables place number node in
      let first = violated absent Mandatory child ++ violated few TooFew child in
      All-append Is (first ++ violated many TooMany child) (flat_map (unique_violations tables entries) node.uniques)
      (All-append Is first (violated many TooMany child)
      (All-append Is (violated absent Mandatory child) (violated few TooFew child) (violated_is absent Mandatory child mandatory) (violated_is few TooFew child too_few))
      (violated_is many TooMany child too_many))
      (each_flat Is (unique_violations tables entries) node.uniques (unique_is tables entries))

  child_is : (tables : Tables) (place : Place) (number : ℕ) (node : Node) → All Is (child_violations tables place number node)
  child_is tables place number node =
      All-append Is _ _ (each_flat Is (λ one. choice_violations tables place one.choice) _ (λ one. choice_is tables place one.choice)) (node_is tables place number node)

  bare_is : (tables : Tables) (place : Place) (number : ℕ) → All Is (bare_violations tables place number)
  bare_is tables place number = by (is_choice_before tables (length tables.nodes) number)
    where
      by : (before : Bool) → All Is (if before then [] else choice_violations tables place number)
      by true = none_of Is
      by false = choice_is tables place number

  where_is : (b : Bool) (found : List Violation) → All Is found → All Is (if b then found else [])
  where_is true found each = each
  where_is false found each = none_of Is

  place_is : (tables : Tables) (place : Place) → All Is (violations_at tables place)
  place_is tables place =
      All-append Is _ _
      (each_flat Is (λ one. if stands_in one.1.parent place then child_violations tables place one.0 one.1 else []) (enumerate_from 0 tables.nodes)
      (λ one. where_is (stands_in one.1.parent place) (child_violations tables place one.0 one.1) (child_is tables place one.0 one.1)))
      (each_flat Is (λ one. if stands_in one.1.parent place then bare_violations tables place one.0 else []) (enumerate_from 0 tables.choices)
      (λ one. where_is (stands_in one.1.parent place) (bare_violations tables place one.0) (bare_is tables place one.0)))

  reference_is : (tables : Tables) (rows : List Row) (steps : List Step) (text : List ℕ) (type : ValueType) → All Is (reference_violation tables rows steps text type)
  reference_is tables rows steps text (Leafref target above required) = violated_is _ DeadLeafref steps dead_leafref
  reference_is tables rows steps text (Instance required) = violated_is _ DeadInstance steps dead_instance
  reference_is tables rows steps text (Whole among) = none_of Is
  reference_is tables rows steps text (Decimal digits among) = none_of Is
  reference_is tables rows steps text (Chars lengths starless numbers) = none_of Is
  reference_is tables rows steps text Boolean = none_of Is
  reference_is tables rows steps text (Enumeration names) = none_of Is
  reference_is tables rows steps text (Bits names) = none_of Is
  reference_is tables rows steps text (Binary lengths) = none_of Is
  reference_is tables rows steps text Empty = none_of Is
  reference_is tables rows steps text (Union members) = none_of Is
  reference_is tables rows steps text (Identity among) = none_of Is
  reference_is tables rows steps text NodeInstance = none_of Is

  row_is : (tables : Tables) (rows : List Row) (row : Row) → All Is (row_violation tables rows row)
  row_is tables rows row = by row.value
    where
      typed : (text : List ℕ) (found : Option ValueType) → All Is (option_map_or (reference_violation tables rows row.path.steps text) found [])
      typed text None = none_of Is
      typed text (Some type) = reference_is tables rows row.path.steps text type

      by : (value : Option (List ℕ)) → All Is (option_map_or (λ text. option_map_or (reference_violation tables rows row.path.steps text) (type_there tables row.path.steps) []) value [])
      by None = none_of Is
      by (Some text) = typed text (type_there tables row.path.steps)

  pub violation_kinds : (tables : Tables) (rows : List Row) → All Is (violations tables rows)
  violation_kinds tables rows =
      All-append Is (structural_violations tables rows) (reference_violations tables rows)
      (each_flat Is (violations_at tables) (places_from tables (top_place rows)) (place_is tables))
      (each_flat Is (row_violation tables rows) rows (row_is tables rows))
