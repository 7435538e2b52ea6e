use Rattle.std.proofs.Common.{◌∙◌, ap, sym}
use Rattle.std.specs.Option.{option_copied}
use Rattle.nc_changes.proofs.TopLemmas.{none_apart}
use Rattle.nc_changes.proofs.tops.are_tops_apart.Goals as goal

pub loop-top-init : goal.loop-top-init
loop-top-init c = λ is. is

pub returns-in_default : goal.returns-in_default
returns-in_default c = λ is.
    c.loop-top.invariant (none_apart c.loop-top.rest (sym c.row.ensures ∙ ap option_copied c.in_default.is))

pub loop-top-preserved : goal.loop-top-preserved
loop-top-preserved c = λ left. c.loop-top.invariant (c.in_ok-apart.ensures c.if-not-apart.false left)
