use Rattle.std.proofs.Common.{map}
use Rattle.std.specs.Prelude.{IfSome}
use Rattle.nc_filter.specs.inner.Front.{AreLikes}
use Rattle.nc_filter.proofs.front.fewest.Given as goal

abbrev pub invariant-loop-elem : goal.invariant-loop-elem
invariant-loop-elem l =
    IfSome l.best (λ found. AreLikes l.schema (map (λ elem. elem.now) l.level) (map (λ row. row.now) l.rows) (map (λ row. row.now) found))
