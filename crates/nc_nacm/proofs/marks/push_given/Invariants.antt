use Rattle.std.proofs.Common.{◌≡◌, ◌++◌, drop}
use Rattle.nc_nacm.specs.inner.Marks.{given_marks}
use Rattle.nc_nacm.proofs.marks.push_given.Given as goal

abbrev pub invariant-loop-at : goal.invariant-loop-at
invariant-loop-at l = l.marks ++ given_marks l.node l.at (drop l.at l.keys) ≡ l.fn.marks ++ given_marks l.node 0 l.keys
