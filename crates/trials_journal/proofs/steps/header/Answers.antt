use Rattle.std.proofs.Common.{◌≡◌, ℕ, zero, suc, ◌<◌, ◌^◌, List, [], ◌∷◌, length, get_or, All, refl, arith}
use Rattle.nc_journal.specs.Format.{number}
use Rattle.nc_journal.specs.Header.{short_number}
use Rattle.trials_journal.proofs.steps.header.Goals as goal

pub returns : goal.returns
unfolding short_number number
returns c = ((109 ∷ []) ∷ [], 102 ∷ [], record { is = refl; few = omega arith; small = small; fits = omega arith })
  where
    small : (k : ℕ) (d : List ℕ) → k < 1 → length (get_or ((109 ∷ []) ∷ []) k d) < 2 ^ 32
    small zero d within = omega arith
    small (suc k) d within = absurd (omega arith)
