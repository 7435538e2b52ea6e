-- Nodes that come in the order of their steps stand there once each.
use Rattle.std.proofs.Common.{◌≡◌, ◌&&◌, Bool, true, false, cond, not, List, [], ◌∷◌, refl, sym, ap, ◌∙◌}
use Rattle.std.specs.List.{AllByRecursion as Each, filter}
use Rattle.std.specs.Ordering.{is_eq, is_lt}
use Rattle.std.specs.declared.cmp.Ordering.{Ordering}
use Rattle.std.specs.declared.cmp.Ordering.TheVariants.{Less, Equal, Greater}
use Rattle.nc_names.proofs.StepOrder.{order_ties}
use Rattle.nc_names.specs.declared.path.Path.{Path}
use Rattle.nc_names.specs.declared.path.Step.{Step}
use Rattle.nc_model.specs.Verdict.{each_once}
use Rattle.nc_partial.specs.inner.Entries.{steps_cmp}
use Rattle.nc_partial.specs.inner.Rising.{rises, rises_from}
use Rattle.nc_partial.proofs.OnceLemmas.{other_than, same_turned}
use Rattle.nc_partial.proofs.OrderLemmas.{steps_total}
use Rattle.nc_partial.proofs.SeenLemmas.{once_seen}

first_true : (a b : Bool) → (a && b) ≡ true → a ≡ true
first_true true b e = refl
first_true false b e = e

second_true : (a b : Bool) → (a && b) ≡ true → b ≡ true
second_true true b e = e
second_true false b e = absurd (cc e)

less_is : (o : Ordering) → is_lt o ≡ true → o ≡ Less
less_is Less e = refl
less_is Equal e = absurd (cc e)
less_is Greater e = absurd (cc e)

weaker : {X : Type 0} (P R : X → Type 0) → ((x : X) → P x → R x) → (xs : List X) → Each P xs → Each R xs
weaker P R more [] p = tt
weaker P R more (x ∷ xs) p = (more x p.0, weaker P R more xs p.1)

later : (steps : List Step) (paths : List Path) → rises_from steps paths ≡ true → Each (λ path. steps_cmp steps path.steps ≡ Less) paths
later steps [] is = tt
later steps (path ∷ paths) is =
    let here : steps_cmp steps path.steps ≡ Less = less_is _ (first_true _ (rises_from path.steps paths) is) in (
      here,
      weaker (λ (one : Path). steps_cmp path.steps one.steps ≡ Less) (λ (one : Path). steps_cmp steps one.steps ≡ Less)
          (λ one after. steps_total.trans steps path.steps one.steps here after) paths
          (later path.steps paths (second_true (is_lt (steps_cmp steps path.steps)) _ is)),
    )

-- a node that comes later is another
is_other : (path other : Path) → steps_cmp path.steps other.steps ≡ Less → other_than path other ≡ true
is_other path other less = ap not (same_turned other.steps path.steps ∙ sym (order_ties path.steps other.steps) ∙ ap is_eq less)

kept_each : {X : Type 0} (test : X → Bool) (xs : List X) → Each (λ x. test x ≡ true) xs → filter test xs ≡ xs
kept_each test [] each = refl
kept_each test (x ∷ xs) each = (λ i. cond (each.0 i) (x ∷ kept_each test xs each.1 i) (kept_each test xs each.1 i))

rises_on : (steps : List Step) (paths : List Path) → rises_from steps paths ≡ true → rises paths ≡ true
rises_on steps [] is = refl
rises_on steps (path ∷ paths) is = second_true (is_lt (steps_cmp steps path.steps)) _ is

rising_once : (paths : List Path) → rises paths ≡ true → each_once paths ≡ paths
rising_once [] is = refl
rising_once (path ∷ paths) is =
    ap (λ (more : List Path). path ∷ filter (other_than path) more) (rising_once paths (rises_on path.steps paths is))
    ∙ ap (λ (more : List Path). path ∷ more)
    (kept_each (other_than path) paths
    (weaker (λ (one : Path). steps_cmp path.steps one.steps ≡ Less) (λ (one : Path). other_than path one ≡ true) (is_other path) paths (later path.steps paths is)))

pub risen_seen : (f : Path → Bool) (paths kept : List Path) → rises paths ≡ true → kept ≡ filter f paths → kept ≡ each_once (filter f paths)
risen_seen f paths kept is kept_is = once_seen f paths paths kept (sym (rising_once paths is)) kept_is
