use Rattle.std.proofs.Common.{◌≡◌, drop, map}
use Rattle.std.specs.Prelude.{None, fold, option_map}
use Rattle.nc_edit.specs.inner.Denied.{meaning, next_denied, dropped_of}
use Rattle.nc_edit.proofs.asked.ask_dropped.Given as goal

abbrev pub invariant-loop-row : goal.invariant-loop-row
invariant-loop-row g l =
    fold (next_denied l.schema (g.R.Rights.decided l.rights) l.config) (option_map meaning l.first) (dropped_of l.schema l.block (map (λ row. row.now) (drop l.row-index l.old)))
    ≡ fold (next_denied l.schema (g.R.Rights.decided l.rights) l.config) None (dropped_of l.schema l.block (map (λ row. row.now) l.old))
