use Rattle.std.proofs.Common.{◌≡◌, ◌<◌, ◌≤◌, ◌-◌, ℕ}
use Rattle.nc_defaults.specs.inner.Runs.{next_at}
use Rattle.nc_defaults.proofs.parts.run_end.Given as goal

abbrev pub invariant-run : goal.invariant-run
invariant-run l = record {
  later : l.from < l.at;
  within : l.at ≤ l.to;
  same : (k : ℕ) → l.from ≤ k → k < l.at → next_at l.depth l.config k ≡ next_at l.depth l.config l.from;
}

abbrev pub decreases-run : goal.decreases-run
decreases-run l = l.to - l.at
