use Rattle.std.proofs.Common.{◌≡◌, drop}
use Rattle.std.specs.Prelude.{fold, option_map}
use Rattle.std.specs.List.{filter_map}
use Rattle.nc_protocol.specs.Edited.{change_at}
use Rattle.nc_edit.specs.inner.Denied.{meaning, next_denied}
use Rattle.nc_edit.proofs.asked.ask_new.Given as goal

abbrev pub invariant-loop-row : goal.invariant-loop-row
invariant-loop-row g l =
    (fold (next_denied l.schema (g.R.Rights.decided l.rights) l.config) (option_map meaning l.first) (filter_map (change_at l.schema l.config l.after) (drop l.row-index l.row-items))
    ≡ fold (next_denied l.schema (g.R.Rights.decided l.rights) l.config) (option_map meaning l.fn.so_far) (filter_map (change_at l.schema l.config l.after) l.block))
    × (l.differing ≡ record { old = l.config; new = l.after })
