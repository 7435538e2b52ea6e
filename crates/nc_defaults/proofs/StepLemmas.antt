-- The steps to a place, and to one below it.
use Rattle.std.proofs.Common.{◌≡◌, ◌+◌, ◌++◌, ◌<◌, ℕ, List, [], ◌∷◌, Option, Some, length, take, refl, sym, ap, ◌∙◌}
use Rattle.std.specs.List.{last_or}
use Rattle.std.specs.Prelude.{slice_get, option_and_then}
use Rattle.std.proofs.lemmas.List.{take_more}
use Rattle.std.proofs.lemmas.Option.{get_or_from_slice_get, slice_get_within}
use Rattle.nc_names.specs.declared.path.Row.{Row}
use Rattle.nc_names.specs.declared.path.Step.{Step}
use Rattle.nc_defaults.specs.inner.Runs.{next_at}

-- the first steps of a path, with the next one
pub one_more : (path steps above front : List Step) (depth : ℕ) (step : Step) → depth ≡ length steps → above ≡ take depth path → above ≡ steps →
    front ≡ take (depth + 1) path → slice_get path (length steps) ≡ Some step → front ≡ steps ++ step ∷ []
one_more path steps above front depth step long is same more there =
    let here : slice_get path depth ≡ Some step = ap (slice_get path) long ∙ there in
    let within : depth < length path = slice_get_within path depth step here in
    more ∙ take_more path depth step within ∙ (λ i. (sym is ∙ same) i ++ get_or_from_slice_get path depth step step here i ∷ [])

-- the next step of a row is one of its path
pub next_in : (depth at : ℕ) (rows : List Row) (row : Row) (step : Step) → slice_get rows at ≡ Some row → next_at depth rows at ≡ Some step →
    slice_get row.path.steps depth ≡ Some step
next_in depth at rows row step is next = sym (ap (λ (o : Option Row). option_and_then (λ (one : Row). slice_get one.path.steps depth) o) is) ∙ next

-- the last of some steps with one more
pub last_push : (before : Option Step) (above : List Step) (step : Step) → last_or before (above ++ step ∷ []) ≡ Some step
last_push before [] step = refl
last_push before (first ∷ above) step = last_push (Some first) above step
