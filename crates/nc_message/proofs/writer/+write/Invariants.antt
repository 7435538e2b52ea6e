use Rattle.std.proofs.Common.{◌≡◌, ◌++◌, ◌∷◌, [], take}
use Rattle.std.specs.List.{flat_map}
use Rattle.nc_message.specs.Written.{start_of, written_part}
use Rattle.nc_message.proofs.writer.+write.Given as goal

-- the start tag and the parts so far are written
abbrev pub invariant-write_elem-loop-part : goal.invariant-write_elem-loop-part
invariant-write_elem-loop-part l =
    l.out ≡ l.fn.out ++ start_of l.above l.elem.name l.elem.bounds l.elem.attrs l.elem.parts ++ 62 ∷ []
    ++ flat_map (written_part l.elem.name.space) (take l.part-index l.part-items)
