-- The entry before another, found one entry after another, is the last of those before it.
use Rattle.std.proofs.Common.{◌≡◌, ℕ, Bool, true, false, cond, not, List, [], ◌∷◌, Option, Some, None, refl, sym, ap, ◌∙◌}
use Rattle.std.proofs.lemmas.List.Sums.{take_while-cons}
use Rattle.std.specs.List.{last_or, take_while}
use Rattle.nc_names.specs.Same.{is_same_keys}
use Rattle.nc_protocol.specs.Changes.{entry_above}
use Rattle.nc_changes.specs.inner.Entries.{entry_from}

from_is : (keys : List (List ℕ)) (above : Option (List (List ℕ))) (order : List (List (List ℕ))) →
    entry_from keys above order ≡ last_or above (take_while (λ entry. not (is_same_keys entry keys)) order)
from_is keys above [] = refl
from_is keys above (entry ∷ order) = by (is_same_keys entry keys) (from_is keys (Some entry) order) ∙ sym (ap (last_or above) (take_while-cons (λ e. not (is_same_keys e keys)) entry order))
  where
    by : (b : Bool) → entry_from keys (Some entry) order ≡ last_or (Some entry) (take_while (λ e. not (is_same_keys e keys)) order) →
        cond b above (entry_from keys (Some entry) order) ≡ last_or above (cond (not b) (entry ∷ take_while (λ e. not (is_same_keys e keys)) order) [])
    by true rest = refl
    by false rest = rest

pub entry_is : (keys : List (List ℕ)) (order : List (List (List ℕ))) → entry_from keys None order ≡ entry_above keys order
entry_is keys order = from_is keys None order
