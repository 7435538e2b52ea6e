-- Induction on statements.
use Rattle.std.proofs.Common.{◌≡◌, ℕ, zero, suc, List, [], ◌∷◌, map, sym, subst}
use Rattle.std.specs.Prelude.{slice_get, Some}
use Rattle.nc_yang_words.specs.declared.statement.Statement.{Statement}
use Rattle.nc_yang_words.specs.declared.statement.Statement.TheViews.{roll-Statement, out-roll-Statement}
use Rattle.nc_yang_words.specs.declared.statement.Statement.TheFolds.{ind-Statement}
use Rattle.nc_yang_statements.specs.Statements.{below}

-- what is so of each pair
of_pair : (P : Statement → Type 0) (ys : List ((s : Statement) × P s)) (i : ℕ) (t : Statement) → slice_get (map (λ e. e.0) ys) i ≡ Some t → P t
of_pair P [] i t e = absurd (cc)
of_pair P (y ∷ ys) zero t e = let same : y.0 ≡ t = cc in subst P same y.1
of_pair P (y ∷ ys) (suc i) t e = of_pair P ys i t e

-- what is so of a statement where it is so of those directly in it is so of each
pub tree : (P : Statement → Type 0) → ((s : Statement) → ((i : ℕ) (t : Statement) → slice_get (below s) i ≡ Some t → P t) → P s) → (s : Statement) → P s
tree P step = ind-Statement P (λ x y is. step (roll-Statement x) (λ i t e.
    let there : slice_get x.below i ≡ Some t = subst (λ z. slice_get z.below i ≡ Some t) (out-roll-Statement x) e in
    of_pair P y.below i t (subst (λ z. slice_get z.below i ≡ Some t) (sym is) there)))
