-- Steps to nodes: the steps but the last, and whether two lists of steps are the same.
use Rattle.std.proofs.Common.{◌≡◌, ◌-◌, ◌||◌, ℕ, suc, Bool, true, false, List, [], ◌∷◌, ◌++◌, take, length, refl, sym, ap, ◌∙◌, ◌⊎◌, inl, inr, arith}
use Rattle.std.proofs.lemmas.List.{append-nil, append_assoc}
use Rattle.nc_names.proofs.StepOrder.{same_itself, same_path}
use Rattle.nc_names.specs.Same.{is_at_or_below, is_same_path}
use Rattle.nc_names.specs.declared.path.Path.{Path}
use Rattle.nc_names.specs.declared.path.Step.{Step}
use Rattle.nc_schema.specs.Blocks.{above_last, above_from}
use Rattle.nc_protocol.proofs.ListLemmas.{last_cut}
use Rattle.nc_protocol.proofs.PlaceLemmas.{below_is_below}

take_from : (step : Step) (steps : List Step) → take (length steps) (step ∷ steps) ≡ above_from step steps
take_from step [] = refl
take_from step (next ∷ steps) = ap (λ n. take n (step ∷ next ∷ steps)) (one_more (length steps)) ∙ ap (λ more. step ∷ more) (take_from next steps)
  where
    one_more : (n : ℕ) → length (next ∷ steps) ≡ suc (length steps)
    one_more n = omega arith

pub take_above : (steps : List Step) → take (length steps - 1) steps ≡ above_last steps
take_above [] = refl
take_above (step ∷ steps) = ap (λ n. take n (step ∷ steps)) less ∙ take_from step steps
  where
    less : length (step ∷ steps) - 1 ≡ length steps
    less = omega arith

-- two tests say the same where each implies the other
pub same_test : (a b : Bool) → (a ≡ true → b ≡ true) → (b ≡ true → a ≡ true) → a ≡ b
same_test true b there back = sym (there refl)
same_test false true there back = back refl
same_test false false there back = refl

pub either : (a b : Bool) → (a || b) ≡ true → (a ≡ true) ⊎ (b ≡ true)
either true b e = inl refl
either false b e = inr e

pub or_first : (a b : Bool) → a ≡ true → (a || b) ≡ true
or_first a b e = ap (λ (x : Bool). x || b) e

pub or_second : (a b : Bool) → b ≡ true → (a || b) ≡ true
or_second true b e = refl
or_second false b e = e

abbrev path_to : List Step → Path
path_to steps = record { steps = steps }

-- a node is at or below the nodes above another, and that one
pub below_push : (at steps : List Step) (step : Step) →
    is_at_or_below at (record { steps = steps ++ step ∷ [] }) ≡ (is_at_or_below at (record { steps = steps }) || is_same_path (steps ++ step ∷ []) at)
below_push at steps step = same_test (is_at_or_below at (path_to (steps ++ step ∷ []))) (is_at_or_below at (path_to steps) || is_same_path (steps ++ step ∷ []) at)
    (λ e. there ((below_is_below at (path_to (steps ++ step ∷ []))).0 e))
    (λ e. back (either (is_at_or_below at (path_to steps)) (is_same_path (steps ++ step ∷ []) at) e))
  where
    there : (rest : List Step) × (steps ++ step ∷ [] ≡ at ++ rest) → (is_at_or_below at (path_to steps) || is_same_path (steps ++ step ∷ []) at) ≡ true
    there (rest, is) = by (last_cut steps at rest step is)
      where
        by : (rest ≡ []) ⊎ ((more : List Step) × (steps ≡ at ++ more)) → (is_at_or_below at (path_to steps) || is_same_path (steps ++ step ∷ []) at) ≡ true
        by (inl none) = or_second (is_at_or_below at (path_to steps)) (is_same_path (steps ++ step ∷ []) at)
            (same_itself (steps ++ step ∷ []) at (is ∙ ap (λ more. at ++ more) none ∙ append-nil at))
        by (inr more) = or_first (is_at_or_below at (path_to steps)) (is_same_path (steps ++ step ∷ []) at) ((below_is_below at (path_to steps)).1 more)

    back : (is_at_or_below at (path_to steps) ≡ true) ⊎ (is_same_path (steps ++ step ∷ []) at ≡ true) → is_at_or_below at (path_to (steps ++ step ∷ [])) ≡ true
    back (inl e) =
        let below = (below_is_below at (path_to steps)).0 e in
        (below_is_below at (path_to (steps ++ step ∷ []))).1 (below.0 ++ step ∷ [], ap (λ (more : List Step). more ++ step ∷ []) below.1 ∙ append_assoc at below.0 (step ∷ []))
    back (inr e) = (below_is_below at (path_to (steps ++ step ∷ []))).1 ([], same_path (steps ++ step ∷ []) at e ∙ sym (append-nil at))

-- only the root is above the root
pub below_root : (at : List Step) → is_at_or_below at (record { steps = [] }) ≡ is_same_path [] at
below_root [] = refl
below_root (step ∷ at) = refl
