-- A count that stops where one instance more makes no difference.
use Rattle.std.proofs.Common.{◌≡◌, ◌==◌, ◌&&◌, ◌<◌, ◌≤◌, ◌-◌, ℕ, zero, suc, Bool, true, false, cond, List, [], ◌∷◌, Option, Some, None, length, refl, sym, ap, ◌∙◌, arith}
use Rattle.std.specs.Prelude.{ltb, IfSome, slice_get, if◌then◌else◌}
use Rattle.std.specs.List.{filter}
use Rattle.std.specs.Option.{option_map_or}
use Rattle.std.proofs.lemmas.Bool.Decides.{Decides-ltb, nat_tests}
use Rattle.nc_names.specs.declared.cause.CauseKind.TheVariants.{Mandatory, TooFew, TooMany}
use Rattle.nc_names.specs.declared.path.Row.{Row}
use Rattle.nc_names.specs.declared.path.Step.{Step}
use Rattle.nc_schema.specs.Kinds.{has_entries, is_leaf}
use Rattle.nc_schema.specs.Places.{Part, is_same_next, onto_first, parts}
use Rattle.nc_schema.specs.declared.node.Node.{Node}
use Rattle.nc_defaults.specs.Within.{rows_between}
use Rattle.nc_defaults.proofs.Runs.{length_between}
use Rattle.nc_validate.specs.inner.Children.{IsEnough, count_fault}

-- ---- no more parts than rows
one_onto : (step : Option Step) (row : Row) (ps : List Part) → length (onto_first step row ps) ≤ suc (length ps)
one_onto step row [] = omega arith
one_onto step row (part ∷ more) = go (is_same_next step part.step)
  where
    go : (b : Bool) → length (cond b (record { step = part.step; rows = row ∷ part.rows } ∷ more) (record { step = step; rows = row ∷ [] } ∷ part ∷ more)) ≤ suc (suc (length more))
    go true = omega arith
    go false = omega arith

few_parts : (depth : ℕ) (rows : List Row) → length (parts depth rows) ≤ length rows
few_parts depth [] = omega arith
few_parts depth (row ∷ rows) =
    let more = one_onto (slice_get row.path.steps depth) row (parts depth rows) in
    let few = few_parts depth rows in
    omega (arith, more, few)

few_pass : {X : Type 0} (p : X → Bool) (xs : List X) → length (filter p xs) ≤ length xs
few_pass p [] = omega arith
few_pass p (x ∷ xs) = go (p x) (few_pass p xs)
  where
    go : (b : Bool) → length (filter p xs) ≤ length xs → length (cond b (x ∷ filter p xs) (filter p xs)) ≤ suc (length xs)
    go true few = omega (arith, few)
    go false few = omega (arith, few)

pub few_between : (p : Part → Bool) (depth from to : ℕ) (rows : List Row) → to ≤ length rows →
    length (filter p (parts depth (rows_between rows from to))) ≤ to - from
few_between p depth from to rows fits =
    let pass = few_pass p (parts depth (rows_between rows from to)) in
    let few = few_parts depth (rows_between rows from to) in
    let long = length_between from to rows fits in
    omega (arith, pass, few, long)

-- ---- the same is broken by both counts
none_of : (count enough : ℕ) → 1 ≤ enough → enough ≤ count → (count == 0) ≡ false
none_of zero enough some up = absurd (omega (arith, some, up))
none_of (suc count) enough some up = grind (arith, nat_tests)

pub not_below : (a b : ℕ) → b ≤ a → ltb a b ≡ false
not_below a b up = grind (arith, nat_tests)

pub at_most : (a b : ℕ) → ltb a b ≡ false → b ≤ a
at_most a b is = grind (arith, nat_tests)

below : (a b : ℕ) → a < b → ltb a b ≡ true
below a b less = grind (arith, nat_tests)

same_past : (most : Option ℕ) (rows enough count total : ℕ) → IfSome most (λ most. most < rows → most < enough) → enough ≤ count → count ≤ total → total ≤ rows →
    option_map_or (λ most. ltb most count) most false ≡ option_map_or (λ most. ltb most total) most false
same_past None rows enough count total bound up less few = refl
same_past (Some most) rows enough count total bound up less few = go (ltb most rows) refl
  where
    go : (b : Bool) → ltb most rows ≡ b → ltb most count ≡ ltb most total
    go true is =
        let wide : most < rows = (Decides-ltb most rows).0 is in
        let past = bound wide in
        below most count (omega (arith, past, up)) ∙ sym (below most total (omega (arith, past, up, less)))
    go false is =
        let narrow : rows ≤ most = at_most most rows is in
        not_below most count (omega (arith, narrow, few, less)) ∙ sym (not_below most total (omega (arith, narrow, few)))

pub enough_counted : (node : Node) (rows enough count total : ℕ) (required : Bool) → IsEnough node rows enough → count ≤ total → total ≤ rows →
    (count < enough → count ≡ total) → count_fault node count required ≡ count_fault node total required
enough_counted node rows enough count total required bound less few all = go (ltb count enough) refl
  where
    past : enough ≤ count → count_fault node count required ≡ count_fault node total required
    past up =
        let none = none_of count enough bound.some up ∙ sym (none_of total enough bound.some (omega (arith, up, less))) in
        let many = not_below count node.least (omega (arith, up, bound.least)) ∙ sym (not_below total node.least (omega (arith, up, less, bound.least))) in
        let most = same_past node.most rows enough count total bound.most up less few in
        λ i. if is_leaf node.kind && node.mandatory && none i && required then Some Mandatory
        else (if has_entries node.kind && many i && required then Some TooFew
        else (if has_entries node.kind && most i then Some TooMany else None))

    go : (b : Bool) → ltb count enough ≡ b → count_fault node count required ≡ count_fault node total required
    go true is = ap (λ n. count_fault node n required) (all ((Decides-ltb count enough).0 is))
    go false is = past (at_most count enough is)
