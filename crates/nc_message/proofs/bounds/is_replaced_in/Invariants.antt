use Rattle.std.proofs.Common.{◌≡◌, drop}
use Rattle.nc_message.specs.inner.Levels.{is_replaced}
use Rattle.nc_message.proofs.bounds.is_replaced_in.Given as goal

-- the answer is that of the rest
abbrev pub invariant-loop-level : goal.invariant-loop-level
invariant-loop-level l = is_replaced l.later l.prefix ≡ is_replaced (drop l.level-index l.later) l.prefix
