-- The order of steps, and of lists of steps, says that two are the same exactly where they are.
use Rattle.std.proofs.Common.{◌≡◌, ◌&&◌, true, List, refl, sym, ◌∙◌}
use Rattle.std.specs.Cmp.{unsigned_tied}
use Rattle.std.specs.Cmp.Lexicographic.{lists_ties, slice_cmp}
use Rattle.std.specs.Ordering.{is_eq, nat_cmp, ordering_then}
use Rattle.std.specs.declared.cmp.Ordering.{Ordering}
use Rattle.std.specs.declared.cmp.Ordering.TheVariants.{Less, Equal, Greater}
use Rattle.std.proofs.lemmas.Map.Text.{is_eq-slice_cmp}
use Rattle.nc_names.specs.Same.{is_same_path, is_same_step}
use Rattle.nc_names.specs.contracts.path.StepOrd.TheImpl.{ghosts}
use Rattle.nc_names.specs.declared.path.Step.{Step}
use Rattle.nc_names.proofs.SameLemmas.{path_decide}

is_eq_then : (a b : Ordering) → is_eq (ordering_then a b) ≡ (is_eq a && is_eq b)
is_eq_then Less b = refl
is_eq_then Equal b = refl
is_eq_then Greater b = refl

pub step_ties : (x y : Step) → is_eq (ghosts.cmp x y) ≡ is_same_step x y
step_ties x y = is_eq_then (nat_cmp x.node y.node) (slice_cmp (slice_cmp nat_cmp) x.keys y.keys)
    ∙ (λ i. unsigned_tied x.node y.node i
    && sym (lists_ties (slice_cmp nat_cmp) (λ a b. sym (is_eq-slice_cmp a b)) x.keys y.keys) i)

pub order_ties : (key other : List Step) → is_eq (slice_cmp ghosts.cmp key other) ≡ is_same_path key other
order_ties key other = sym (lists_ties ghosts.cmp (λ x y. sym (step_ties x y)) key other)

pub same_path : (a b : List Step) → is_same_path a b ≡ true → a ≡ b
same_path a b e = (path_decide a b).0 e

pub same_itself : (a b : List Step) → a ≡ b → is_same_path a b ≡ true
same_itself a b e = (path_decide a b).1 e
