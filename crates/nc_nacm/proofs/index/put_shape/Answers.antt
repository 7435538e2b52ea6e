use Rattle.std.specs.Ordering.{is_eq}
use Rattle.nc_nacm.specs.inner.Keys.{shape_cmp}
use Rattle.nc_nacm.specs.inner.Tables.{has_shape}
use Rattle.nc_nacm.proofs.Shapes.{put_shape}
use Rattle.nc_nacm.proofs.index.put_shape.Goals as goal

pub returns : goal.returns
returns c = λ other.
    put_shape (is_eq (shape_cmp c.args.shape other)) (has_shape c.args.shapes other) (has_shape c.insert.new.self other) (c.in_ok-insert.ensures.updates.0 other)
