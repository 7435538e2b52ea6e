-- The violations of a place, one data node and one choice after another.
use Rattle.std.proofs.Common.{◌≡◌, ◌==◌, ◌&&◌, ◌||◌, ◌++◌, ◌+◌, ℕ, zero, suc, Bool, true, false, List, [], ◌∷◌, length, drop, refl, sym, ap, ◌∙◌, arith, if◌then◌else◌}
use Rattle.std.specs.Prelude.{Option, Some, None, slice_get, is_some, map, ltb}
use Rattle.std.specs.List.{flat_map}
use Rattle.std.specs.Option.{option_map_or}
use Rattle.std.proofs.lemmas.Bool.Decides.{nat_tests}
use Rattle.std.proofs.lemmas.List.Folds.{flat_map-map}
use Rattle.nc_names.specs.declared.path.Row.{Row}
use Rattle.nc_defaults.specs.Within.{place_here, places_in}
use Rattle.nc_defaults.specs.declared.spots.Spot.{Spot}
use Rattle.nc_names.specs.declared.cause.CauseKind.{CauseKind}
use Rattle.nc_names.specs.declared.cause.CauseKind.TheVariants.{Mandatory, MandatoryChoice, TooFew, TooMany}
use Rattle.nc_names.specs.declared.path.Step.{Step}
use Rattle.nc_schema.specs.Kinds.{has_entries, holds_nodes, is_leaf}
use Rattle.nc_schema.specs.Places.{Part, Place, or_empty, parts_of, place_of, place_parts, places_of}
use Rattle.nc_schema.specs.Tables.{Tables}
use Rattle.nc_schema.specs.Violations.{child_violations, choice_violations, is_choice_before, is_required, structural_violations, unique_violations, violated, violations_at}
use Rattle.nc_schema.specs.declared.node.Case.{Case}
use Rattle.nc_schema.specs.declared.node.Kind.{Kind}
use Rattle.nc_schema.specs.declared.node.Kind.TheVariants.{Container, Leaf, LeafList, List as ListKind}
use Rattle.nc_schema.specs.declared.node.Node.{Node}
use Rattle.nc_validate.specs.inner.Children.{begun_choices, begun_violations, choice_lacks, count_fault, count_violations, uniques_of}
use Rattle.nc_validate.specs.inner.First.{first}
use Rattle.nc_validate.proofs.FirstLemmas.{first_get, flat_filter}

pub cut_at : {X : Type 0} (xs : List X) (at : ℕ) (x : X) → slice_get xs at ≡ Some x → drop at xs ≡ x ∷ drop (at + 1) xs
cut_at [] at x found = absurd (let clash = found in cc)
cut_at (n ∷ xs) zero x found = cc
cut_at (n ∷ xs) (suc at) x found =
    let next : suc at + 1 ≡ suc (at + 1) = omega arith in
    cut_at xs at x found ∙ ap (λ k. x ∷ drop k (n ∷ xs)) (sym next)

pub none_left : {X : Type 0} (xs : List X) (at : ℕ) → slice_get xs at ≡ None → drop at xs ≡ []
none_left [] zero none = refl
none_left [] (suc at) none = refl
none_left (x ∷ xs) zero none = absurd (let clash = none in cc)
none_left (x ∷ xs) (suc at) none = none_left xs at none

pub none_later : {X : Type 0} (xs : List X) (at : ℕ) → slice_get xs at ≡ None → drop (at + 1) xs ≡ []
none_later {X = X} xs at none = ap (λ n. drop n xs) next ∙ go xs at none
  where
    next : at + 1 ≡ suc at
    next = omega arith

    go : (xs : List X) (at : ℕ) → slice_get xs at ≡ None → drop (suc at) xs ≡ []
    go [] at none = refl
    go (x ∷ xs) zero none = absurd (let clash = none in cc)
    go (x ∷ xs) (suc at) none = go xs at none

-- ---- the parts of what a data node breaks
pub child_is : (tables : Tables) (place : Place) (number : ℕ) (node : Node) →
    child_violations tables place number node ≡ begun_choices tables place number node.cases ++ (count_violations tables place number node ++ uniques_of tables place number node)
child_is tables place number node = refl

-- ---- choices
pub begun_is : (tables : Tables) (place : Place) (number : ℕ) (cases : List Case) →
    begun_choices tables place number cases ≡ flat_map (λ one. begun_violations tables place number one.choice) cases
begun_is tables place number cases = flat_filter (λ one. choice_violations tables place one.choice) (λ one. is_choice_before tables number one.choice) cases

pub begun_none : (tables : Tables) (place : Place) (number choice : ℕ) → choice_lacks tables place choice ≡ false →
    None ≡ first (begun_violations tables place number choice)
begun_none tables place number choice none = by (is_choice_before tables number choice)
  where
    by : (b : Bool) → None ≡ first (if b then [] else violated (choice_lacks tables place choice) MandatoryChoice place.steps)
    by true = refl
    by false = ap (λ b. first (violated b MandatoryChoice place.steps)) (sym none)

pub begun_before : (tables : Tables) (place : Place) (number choice : ℕ) → is_choice_before tables number choice ≡ true →
    None ≡ first (begun_violations tables place number choice)
begun_before tables place number choice before =
    ap (λ b. first (if b then [] else choice_violations tables place choice)) (sym before)

-- ---- counts
pub counted : (tables : Tables) (place : Place) (number count : ℕ) (node : Node) (required : Bool) → count ≡ length (parts_of place number) →
    required ≡ is_required tables place node.cases →
    first (count_violations tables place number node)
    ≡ option_map_or (λ kind. Some (record { kind = kind; path = record { steps = place.steps ++ record { node = number; keys = [] } ∷ [] } })) (count_fault node count required) None
counted tables place number count node required many is =
    by (is_leaf node.kind && node.mandatory && length (parts_of place number) == 0 && is_required tables place node.cases)
    (has_entries node.kind && ltb (length (parts_of place number)) node.least && is_required tables place node.cases)
    (has_entries node.kind && option_map_or (λ most. ltb most (length (parts_of place number))) node.most false)
    ∙ (λ i. option_map_or (λ kind. Some (record { kind = kind; path = record { steps = child } })) (count_fault node (sym many i) (sym is i)) None)
  where
    child : List Step
    child = place.steps ++ record { node = number; keys = [] } ∷ []

    by : (a b c : Bool) →
        first (violated a Mandatory child ++ violated b TooFew child ++ violated c TooMany child)
        ≡ option_map_or (λ (kind : CauseKind). Some (record { kind = kind; path = record { steps = child } })) (if a then Some Mandatory else (if b then Some TooFew else (if c then Some TooMany else None))) None
    by true b c = refl
    by false true c = refl
    by false false true = refl
    by false false false = refl

pub unbounded : (tables : Tables) (place : Place) (number : ℕ) (node : Node) → (node.mandatory || (ltb 0 node.least || is_some node.most)) ≡ false →
    None ≡ first (count_violations tables place number node)
unbounded tables place number node free =
    by node.mandatory node.least node.most free (is_leaf node.kind) (has_entries node.kind) (length (parts_of place number)) (is_required tables place node.cases)
  where
    child : List Step
    child = place.steps ++ record { node = number; keys = [] } ∷ []

    positive : (least : ℕ) → ltb 0 (suc least) ≡ true
    positive least = grind (arith, nat_tests)

    never : (count : ℕ) → ltb count 0 ≡ false
    never count = grind (arith, nat_tests)

    by : (mandatory : Bool) (least : ℕ) (most : Option ℕ) → (mandatory || (ltb 0 least || is_some most)) ≡ false → (a b : Bool) (count : ℕ) (required : Bool) →
        None ≡ first (violated (a && mandatory && count == 0 && required) Mandatory child ++ violated (b && ltb count least && required) TooFew child
        ++ violated (b && option_map_or (λ most. ltb most count) most false) TooMany child)
    by true least most free a b count required = let clash : true ≡ false = free in cc
    by false (suc least) most free a b count required = let clash : true ≡ false = ap (λ x. x || is_some most) (sym (positive least)) ∙ free in cc
    by false zero (Some most) free a b count required = let clash : true ≡ false = free in cc
    by false zero None free true true count required = ap (λ x. first (violated (x && required) TooFew child ++ [])) (sym (never count))
    by false zero None free true false count required = refl
    by false zero None free false true count required = ap (λ x. first (violated (x && required) TooFew child ++ [])) (sym (never count))
    by false zero None free false false count required = refl

-- ---- all places
pub walk_is : (tables : Tables) (rows : List Row) (spots : List Spot) → flat_map (violations_at tables) (places_in rows spots) ≡ structural_violations tables rows →
    first (flat_map (λ spot. violations_at tables (place_here rows spot.steps spot.here)) spots) ≡ slice_get (structural_violations tables rows) 0
walk_is tables rows spots are =
    ap first (sym (flat_map-map (violations_at tables) (λ (spot : Spot). place_here rows spot.steps spot.here) spots) ∙ are)
    ∙ first_get (structural_violations tables rows)

-- ---- the `unique` statements of a data node
pub no_uniques : (tables : Tables) (place : Place) (number : ℕ) (node : Node) → node.uniques ≡ [] → None ≡ first (uniques_of tables place number node)
no_uniques tables place number node none =
    ap (λ (uniques : List (List ℕ)). first (flat_map (unique_violations tables (places_of tables place number node)) uniques)) (sym none)

no_entries : (tables : Tables) (uniques : List (List ℕ)) → flat_map (unique_violations tables []) uniques ≡ []
no_entries tables [] = refl
no_entries tables (leafs ∷ uniques) = no_entries tables uniques

pub no_places : (tables : Tables) (place : Place) (number : ℕ) (node : Node) → holds_nodes node.kind ≡ false → None ≡ first (uniques_of tables place number node)
no_places tables place number node none = sym (by node.kind none)
  where
    by : (kind : Kind) → holds_nodes kind ≡ false → first (flat_map (unique_violations tables (map (place_of tables place node) (place_parts place number kind))) node.uniques) ≡ None
    by (Container presence) e = let clash : true ≡ false = e in cc
    by Leaf e = ap first (no_entries tables node.uniques)
    by LeafList e = ap first (no_entries tables node.uniques)
    by ListKind e = let clash : true ≡ false = e in cc

-- an absent container without presence has no entry before it
pub uniques_listed : (tables : Tables) (place : Place) (number : ℕ) (node : Node) → holds_nodes node.kind ≡ true →
    flat_map (unique_violations tables (map (place_of tables place node) (parts_of place number))) node.uniques ≡ uniques_of tables place number node
uniques_listed tables place number node holds = by node.kind holds
  where
    empty : (presence : Bool) (parts : List Part) →
        flat_map (unique_violations tables (map (place_of tables place node) parts)) node.uniques
        ≡ flat_map (unique_violations tables (map (place_of tables place node) (or_empty presence number parts))) node.uniques
    empty true [] = refl
    empty false [] = refl
    empty true (part ∷ parts) = refl
    empty false (part ∷ parts) = refl

    by : (kind : Kind) → holds_nodes kind ≡ true →
        flat_map (unique_violations tables (map (place_of tables place node) (parts_of place number))) node.uniques
        ≡ flat_map (unique_violations tables (map (place_of tables place node) (place_parts place number kind))) node.uniques
    by (Container presence) e = empty presence (parts_of place number)
    by Leaf e = let clash : false ≡ true = e in cc
    by LeafList e = let clash : false ≡ true = e in cc
    by ListKind e = refl
