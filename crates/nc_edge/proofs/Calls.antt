-- Calls of a disk that tells nothing.
use Rattle.std.proofs.Common.{◌≡◌, ◌≤◌, ℕ, Result, Err, inl, refl, subst, arith}
use Rattle.nc_names.specs.Counts.{Rose}
use Rattle.nc_outside.specs.Causes.{HasCause}
use Rattle.nc_outside.specs.Disks.{CutTo, Follows, Torn}
use Rattle.nc_outside.specs.declared.fault.Failed.{Failed}

-- a call that failed, and was counted
pub failed_call : {T : Type 0} (before middle now : ℕ) (fault : Failed) → middle ≡ before → middle ≤ now → Rose middle now
    → (let r : Result T Failed = Err fault in HasCause before now r)
failed_call {T} before middle now fault same later rose =
    subst (λ (n : ℕ). let r : Result T Failed = Err fault in HasCause n now r) same (record { later = later; same = tt; failed = rose })

-- a crash may leave anything, so also what a write or a cut makes of it
pub any_torn : (place n : ℕ) → Follows (Torn place n) (λ c. Unit {0}) (λ c. Unit {0})
any_torn place n = λ c left. record {
  from = c;
  was = tt;
  did = record { before = refl; after = refl; no_shorter = omega arith; no_longer = omega arith };
}

pub any_cut : (size : ℕ) → Follows (CutTo size) (λ c. Unit {0}) (λ c. Unit {0})
any_cut size = λ c left. record { from = c; was = tt; did = inl refl }
