use Rattle.std.proofs.Common.{◌≡◌, ◌≤◌, ◌++◌, length}
use Rattle.nc_frames.specs.Framing.{HasNoMark, marked_limit}
use Rattle.nc_frames.proofs.marks.read_to_mark.Given as goal

abbrev pub invariant-loop-message : goal.invariant-loop-message
invariant-loop-message l = record {
  unmarked : HasNoMark l.message;
  within : length l.message ≤ marked_limit;
  joined : l.message ++ l.waiting ≡ l.fn.message ++ l.fn.waiting;
}

abbrev pub decreases-loop-message : goal.decreases-loop-message
decreases-loop-message l = length l.waiting
