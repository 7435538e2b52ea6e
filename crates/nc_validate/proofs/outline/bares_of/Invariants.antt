-- The choices so far, and those to come.
use Rattle.std.proofs.Common.{◌≡◌, ◌++◌, drop, map}
use Rattle.nc_validate.specs.inner.Choices.{bares_from}
use Rattle.nc_validate.proofs.outline.bares_of.Given as goal

abbrev pub invariant-loop-number : goal.invariant-loop-number
invariant-loop-number l = map (λ one. one.now) l.bares ++ bares_from l.firsts l.number (drop l.number l.among) ≡ bares_from l.firsts 0 l.among
