use Rattle.std.proofs.Common.{◌≡◌, ◌++◌, take}
use Rattle.std.specs.List.{flat_map}
use Rattle.nc_message.specs.Written.{attribute}
use Rattle.nc_message.proofs.start.push_attributes.Given as goal

-- the attributes so far are written
abbrev pub invariant-loop-attr : goal.invariant-loop-attr
invariant-loop-attr l = l.out ≡ l.fn.out ++ flat_map attribute (take l.attr-index l.attrs)
