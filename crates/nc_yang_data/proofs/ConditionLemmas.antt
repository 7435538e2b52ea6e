-- Conditions of keys, one after another.
use Rattle.std.proofs.Common.{◌≡◌, ◌<◌, ◌+◌, ◌++◌, ℕ, List, [], drop, length, Option, Some, None, slice_get, sym, ap, ◌∙◌}
use Rattle.std.specs.List.{flat_map}
use Rattle.std.specs.Option.{option_map_or}
use Rattle.nc_yang_statements.proofs.Firsts.{first_none, first_some}
use Rattle.nc_yang_statements.specs.Rules.{first}
use Rattle.nc_yang_nodes.proofs.ListLemmas.{drop_next, got}

-- the first of what the elements of a list give
module _ {A B : Type 0} (f : A → List B) (xs : List A) where
  next : (i : ℕ) (x : A) → slice_get xs i ≡ Some x → first (flat_map f (drop i xs)) ≡ first (f x ++ flat_map f (drop (i + 1) xs))
  next i x is = ap (λ ys. first (flat_map f ys)) (drop_next xs i x is)

  -- one that gives nothing, and one that gives something
  pub passed_at : (i : ℕ) (x : A) (whole : Option B) → slice_get xs i ≡ Some x → first (f x) ≡ None → whole ≡ first (flat_map f (drop i xs)) →
      whole ≡ first (flat_map f (drop (i + 1) xs))
  passed_at i x whole is none old = old ∙ next i x is ∙ first_none (f x) (flat_map f (drop (i + 1) xs)) none

  pub stopped_at : (i : ℕ) (x : A) (whole : Option B) (found : B) → slice_get xs i ≡ Some x → first (f x) ≡ Some found → whole ≡ first (flat_map f (drop i xs)) →
      Some found ≡ whole
  stopped_at i x whole found is some old = sym (old ∙ next i x is ∙ first_some (f x) (flat_map f (drop (i + 1) xs)) found some)

  -- the same by the numbers of elements
  pub passed_by : (i : ℕ) (whole : Option B) → i < length xs → first (option_map_or f (slice_get xs i) []) ≡ None → whole ≡ first (flat_map f (drop i xs)) →
      whole ≡ first (flat_map f (drop (i + 1) xs))
  passed_by i whole less none old =
      let x = got xs i less in
      passed_at i x.0 whole x.1 (sym (ap (λ o. first (option_map_or f o [])) x.1) ∙ none) old

  pub stopped_by : (i : ℕ) (whole : Option B) (found : B) → i < length xs → first (option_map_or f (slice_get xs i) []) ≡ Some found → whole ≡ first (flat_map f (drop i xs)) →
      Some found ≡ whole
  stopped_by i whole found less some old =
      let x = got xs i less in
      stopped_at i x.0 whole found x.1 (sym (ap (λ o. first (option_map_or f o [])) x.1) ∙ some) old
