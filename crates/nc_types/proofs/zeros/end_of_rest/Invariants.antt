-- What is dropped so far are zeros.
use Rattle.std.proofs.Common.{◌≡◌, ◌≤◌, ℕ, eqb, length, take}
use Rattle.std.specs.Prelude.{IsCharBoundary}
use Rattle.nc_names.specs.Ends.{without_last}
use Rattle.nc_schema.specs.NumberTexts.{zero_digit}
use Rattle.nc_types.proofs.zeros.end_of_rest.Given as goal

abbrev pub invariant-loop-end : goal.invariant-loop-end
invariant-loop-end l = record {
  same : without_last (λ (digit : ℕ). eqb digit zero_digit) l.bytes ≡ without_last (λ (digit : ℕ). eqb digit zero_digit) (take l.end l.bytes);
  within : l.end ≤ length l.bytes;
  cut : IsCharBoundary l.bytes l.end;
}

abbrev pub decreases-loop-end : goal.decreases-loop-end
decreases-loop-end l = l.end
