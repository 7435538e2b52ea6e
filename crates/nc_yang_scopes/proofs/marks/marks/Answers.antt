use Rattle.std.proofs.Common.{◌≤◌, ◌∙◌, ap, length, arith}
use Rattle.std.specs.Prelude.{false, replicate}
use Rattle.nc_yang_scopes.proofs.Marking.{marks_begin, marks_end}
use Rattle.nc_yang_scopes.proofs.marks.marks.Goals as goal

pub loop-text-init : goal.loop-text-init
loop-text-init c =
    marks_begin c.args.scopes.now c.args.sort c.in_ok-marks.marks (c.in_ok-marks.ensures ∙ ap (λ n. replicate n false) c.len.ensures)

pub returns : goal.returns
returns c =
    let le : length c.args.scopes.now.texts ≤ c.loop-text.text = omega arith in
    marks_end c.args.scopes.now c.args.sort c.loop-text.text c.loop-text.marks le c.loop-text.invariant
