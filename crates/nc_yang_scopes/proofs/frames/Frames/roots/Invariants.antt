use Rattle.std.proofs.Common.{◌≡◌, ◌++◌, drop}
use Rattle.nc_yang_scopes.specs.Numbers.{roots}
use Rattle.nc_yang_scopes.proofs.frames.Frames.roots.Given as goal

abbrev pub invariant-loop-text : goal.invariant-loop-text
invariant-loop-text l = l.frames ++ roots l.text (drop l.text l.texts) ≡ roots 0 l.texts
