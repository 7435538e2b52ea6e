use Rattle.std.proofs.Common.{◌≡◌, take}
use Rattle.nc_message.proofs.tree.+copy.Given as goal

-- the copies so far are the first parts
abbrev pub invariant-copy_elem-loop-part : goal.invariant-copy_elem-loop-part
invariant-copy_elem-loop-part l = l.parts ≡ take l.part-index l.part-items
