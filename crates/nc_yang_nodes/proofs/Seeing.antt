-- The cases of a choice from a place on.
use Rattle.std.proofs.Common.{◌≡◌, ◌<◌, ◌≤◌, ◌+◌, ℕ, Bool, true, false, cond, List, ◌∷◌, length, drop, refl, sym, ap, ◌∙◌, arith}
use Rattle.std.specs.Prelude.{Option, Some, None, slice_get, option_map, position}
use Rattle.std.specs.List.{filter, position_from}
use Rattle.std.proofs.lemmas.Iterator.Adapters.{position_from-zero}
use Rattle.nc_yang_words.specs.declared.statement.Statement.{Statement}
use Rattle.nc_yang_statements.specs.Statements.{below}
use Rattle.nc_yang_scopes.specs.Scopes.{Located, Scoping}
use Rattle.nc_yang_nodes.specs.Cases.{has_name, is_there}
use Rattle.nc_yang_nodes.specs.Roles.{FeatureTest, children}
use Rattle.nc_yang_nodes.specs.inner.Seen.{Sees}
use Rattle.nc_yang_nodes.specs.inner.Tables.{children_at}
use Rattle.nc_yang_nodes.proofs.TableLemmas.{children_is, count_is}
use Rattle.nc_yang_nodes.proofs.ListLemmas.{drop_next, drop_past, got}

abbrev pub from : {A : Type 0} (q p : A → Bool) → ℕ → ℕ → List A → Option ℕ
from q p n place xs = position_from p n (filter q (drop place xs))

pub from_start : {A : Type 0} (q p : A → Bool) (xs : List A) → from q p 0 0 xs ≡ position p (filter q xs)
from_start q p xs = sym (position_from-zero p (filter q xs))

pub from_end : {A : Type 0} (q p : A → Bool) (xs : List A) (n place : ℕ) → length xs ≤ place → from q p n place xs ≡ None
from_end q p xs n place le = ap (λ z. position_from p n (filter q z)) (drop_past xs place le)

-- what is found from an element on, by what is seen of it
abbrev onward : Option Bool → ℕ → Option ℕ → Option ℕ → Option ℕ
onward None n same next = same
onward (Some true) n same next = Some n
onward (Some false) n same next = next

step : {A : Type 0} (q p : A → Bool) (x : A) (rest : List A) (n : ℕ) (a b : Bool) → q x ≡ a → p x ≡ b
    → position_from p n (filter q (x ∷ rest)) ≡ onward (cond a (Some b) None) n (position_from p n (filter q rest)) (position_from p (n + 1) (filter q rest))
step q p x rest n false b e f = ap (λ c. position_from p n (cond c (x ∷ filter q rest) (filter q rest))) e
step q p x rest n true true e f =
    ap (λ c. position_from p n (cond c (x ∷ filter q rest) (filter q rest))) e ∙ ap (λ c. cond c (Some n) (position_from p (n + 1) (filter q rest))) f
step q p x rest n true false e f =
    ap (λ c. position_from p n (cond c (x ∷ filter q rest) (filter q rest))) e ∙ ap (λ c. cond c (Some n) (position_from p (n + 1) (filter q rest))) f

pub from_next : {A : Type 0} (q p : A → Bool) (xs : List A) (n place : ℕ) (r : Option Bool) → place < length xs
    → ((x : A) → slice_get xs place ≡ Some x → r ≡ cond (q x) (Some (p x)) None)
    → from q p n place xs ≡ onward r n (from q p n (place + 1) xs) (from q p (n + 1) (place + 1) xs)
from_next q p xs n place r lt h =
    let x = got xs place lt in
    ap (λ z. position_from p n (filter q z)) (drop_next xs place x.0 x.1)
    ∙ step q p x.0 (drop (place + 1) xs) n (q x.0) (p x.0) refl refl
    ∙ ap (λ o. onward o n (from q p n (place + 1) xs) (from q p (n + 1) (place + 1) xs)) (sym (h x.0 x.1))

module _ (scoping : Scoping) (on : FeatureTest) (number place n : ℕ) (word : List ℕ) (s : Statement) (l : Located) (total : Option ℕ)
    (has : option_map (λ l. l.statement) (slice_get scoping.located number) ≡ Some s) (at : slice_get scoping.located number ≡ Some l)
    (so_far : from (is_there scoping.texts on) (has_name word) n place (children l) ≡ total) where
  abbrev from_it : ℕ → Option ℕ
  from_it k = from (is_there scoping.texts on) (has_name word) k (place + 1) (children l)

  pub seen_end : length (below s) ≤ place → None ≡ total
  seen_end le =
      let e = count_is scoping number s l has at in
      sym (from_end (is_there scoping.texts on) (has_name word) (children l) n place (omega (arith, e))) ∙ so_far

  module _ (r : Option Bool) (lt : place < length (below s))
      (h : (t : Located) → slice_get (children_at scoping number) place ≡ Some t → Sees scoping.texts on word t r) where
    next : onward r n (from_it n) (from_it (n + 1)) ≡ total
    next =
        let e = count_is scoping number s l has at in
        sym (from_next (is_there scoping.texts on) (has_name word) (children l) n place r (omega (arith, e))
        (λ t is. h t (ap (λ ls. slice_get ls place) (children_is scoping number l at) ∙ is))) ∙ so_far

    pub seen_it : r ≡ Some true → Some n ≡ total
    seen_it e = sym (ap (λ o. onward o n (from_it n) (from_it (n + 1))) e) ∙ next

    pub seen_other : r ≡ Some false → (k : ℕ) → k ≡ n + 1 → from_it k ≡ total
    seen_other e k is = ap from_it is ∙ sym (ap (λ o. onward o n (from_it n) (from_it (n + 1))) e) ∙ next

    pub seen_none : r ≡ None → (k : ℕ) → k ≡ n → from_it k ≡ total
    seen_none e k is = ap from_it is ∙ sym (ap (λ o. onward o n (from_it n) (from_it (n + 1))) e) ∙ next
