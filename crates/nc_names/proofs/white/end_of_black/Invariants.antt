-- What is dropped so far passes.
use Rattle.std.proofs.Common.{◌≡◌, ◌≤◌, length, take}
use Rattle.std.specs.Prelude.{IsCharBoundary}
use Rattle.nc_names.specs.Ends.{without_last}
use Rattle.nc_names.specs.Signs.{is_white}
use Rattle.nc_names.proofs.white.end_of_black.Given as goal

abbrev pub invariant-loop-end : goal.invariant-loop-end
invariant-loop-end l = record {
  same : without_last is_white l.bytes ≡ without_last is_white (take l.end l.bytes);
  within : l.end ≤ length l.bytes;
  cut : IsCharBoundary l.bytes l.end;
}

abbrev pub decreases-loop-end : goal.decreases-loop-end
decreases-loop-end l = l.end
