-- The outputs so far.
use Rattle.std.proofs.Common.{◌≡◌, map}
use Rattle.nc_script.specs.inner.Talking.{told_of}
use Rattle.nc_script.proofs.talks.outputs_of.Given as goal

abbrev pub invariant-loop-talk : goal.invariant-loop-talk
invariant-loop-talk l = l.outputs ≡ map told_of l.yielded
