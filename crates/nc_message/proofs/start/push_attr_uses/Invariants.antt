use Rattle.std.proofs.Common.{map, take}
use Rattle.nc_message.specs.Written.{use_of}
use Rattle.nc_message.specs.inner.Declaring.{Declares}
use Rattle.nc_message.proofs.start.push_attr_uses.Given as goal

-- the uses so far are declared
abbrev pub invariant-loop-attr : goal.invariant-loop-attr
invariant-loop-attr l = Declares l.fn.seen.seen l.seen.seen l.fn.out l.out (map use_of (take l.attr-index l.attrs))
