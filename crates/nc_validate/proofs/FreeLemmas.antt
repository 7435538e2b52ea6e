-- A data node of which nothing is asked breaks nothing.
use Rattle.std.proofs.Common.{◌≡◌, ◌∙◌, ◌==◌, ◌&&◌, ◌||◌, ◌≤◌, ◌++◌, ◌∷◌, ℕ, Bool, true, false, not, List, [], Option, Some, None, length, refl, arith}
use Rattle.std.specs.Prelude.{ltb, is_some}
use Rattle.std.specs.List.{filter, flat_map}
use Rattle.std.specs.Option.{option_map_or}
use Rattle.nc_names.specs.declared.cause.CauseKind.TheVariants.{Mandatory, TooFew, TooMany}
use Rattle.nc_names.specs.declared.path.Step.{Step}
use Rattle.nc_schema.specs.Kinds.{has_entries, is_leaf}
use Rattle.nc_schema.specs.Places.{Place, parts_of, places_of}
use Rattle.nc_schema.specs.Tables.{Tables}
use Rattle.nc_schema.specs.Violations.{child_violations, choice_violations, is_choice_before, is_required, unique_violations, violated}
use Rattle.nc_schema.specs.declared.node.Node.{Node}
use Rattle.nc_validate.proofs.CountLemmas.{at_most, not_below}

leaf_off : (leaf mandatory none required : Bool) → mandatory ≡ false → (leaf && mandatory && none && required) ≡ false
leaf_off leaf true none required e = absurd (cc e)
leaf_off true false none required e = refl
leaf_off false false none required e = refl

few_off : (entries few required : Bool) → few ≡ false → (entries && few && required) ≡ false
few_off entries true required e = absurd (cc e)
few_off true false required e = refl
few_off false false required e = refl

many_off : (entries : Bool) (most : Option ℕ) (count : ℕ) → is_some most ≡ false → (entries && option_map_or (λ most. ltb most count) most false) ≡ false
many_off entries (Some most) count e = absurd (cc e)
many_off true None count e = refl
many_off false None count e = refl

first_off : (a b c : Bool) → (a || (b || c)) ≡ false → (a ≡ false) × (b ≡ false) × (c ≡ false)
first_off true b c e = absurd (cc e)
first_off false true c e = absurd (cc e)
first_off false false true e = absurd (cc e)
first_off false false false e = (refl, refl, refl)

no_pieces : (node : Node) (count : ℕ) (child : List Step) (required : Bool) → node.mandatory ≡ false → ltb 0 node.least ≡ false → is_some node.most ≡ false →
    violated (is_leaf node.kind && node.mandatory && count == 0 && required) Mandatory child
    ++ violated (has_entries node.kind && ltb count node.least && required) TooFew child
    ++ violated (has_entries node.kind && option_map_or (λ most. ltb most count) node.most false) TooMany child
    ++ [] ≡ []
no_pieces node count child required leaf few many =
    let least : node.least ≤ 0 = at_most 0 node.least few in
    let enough : ltb count node.least ≡ false = not_below count node.least (omega (arith, least)) in
    (λ i. violated (leaf_off (is_leaf node.kind) node.mandatory (count == 0) required leaf i) Mandatory child
    ++ violated (few_off (has_entries node.kind) (ltb count node.least) required enough i) TooFew child
    ++ violated (many_off (has_entries node.kind) node.most count many i) TooMany child
    ++ [])

pub none_asked : (tables : Tables) (place : Place) (number : ℕ) (node : Node) → node.cases ≡ [] → node.uniques ≡ [] → (node.mandatory || (ltb 0 node.least || is_some node.most)) ≡ false →
    child_violations tables place number node ≡ []
none_asked tables place number node no_cases no_uniques unbounded =
    let off = first_off node.mandatory (ltb 0 node.least) (is_some node.most) unbounded in
    (λ i. flat_map (λ one. choice_violations tables place one.choice) (filter (λ one. not (is_choice_before tables number one.choice)) (no_cases i))
    ++ (violated (is_leaf node.kind && node.mandatory && length (parts_of place number) == 0 && is_required tables place node.cases) Mandatory (place.steps ++ record { node = number; keys = [] } ∷ [])
    ++ violated (has_entries node.kind && ltb (length (parts_of place number)) node.least && is_required tables place node.cases) TooFew (place.steps ++ record { node = number; keys = [] } ∷ [])
    ++ violated (has_entries node.kind && option_map_or (λ most. ltb most (length (parts_of place number))) node.most false) TooMany (place.steps ++ record { node = number; keys = [] } ∷ [])
    ++ flat_map (unique_violations tables (places_of tables place number node)) (no_uniques i)))
    ∙ no_pieces node (length (parts_of place number)) (place.steps ++ record { node = number; keys = [] } ∷ []) (is_required tables place node.cases) off.0 off.1 off.2
