use Rattle.std.proofs.Common.{◌≡◌, ◌+◌, ◌≤◌, length, Some, ap, subst, sym, ◌∙◌, arith}
use Rattle.std.specs.Option.{option_copied}
use Rattle.nc_branches.specs.inner.Putting.{Aiming, Laying}
use Rattle.nc_branches.specs.inner.Turning.{AreTurned, IsTurned}
use Rattle.nc_branches.specs.declared.labels.Turn.{Turn}
use Rattle.nc_branches.proofs.Turned.{turned_last}
use Rattle.nc_branches.proofs.aim.Aim.turn_at.Goals as goal
use Rattle.nc_branches.proofs.aim.Aim.turn_at.Goals.{else-self-depth-via-then-self-depth+else-self-depth-gt1, else-self-depth-via-else-self-depth}

pub returns : goal.returns
returns c = λ rows part.
    let aim = c.args.self.now in
    let steps = ap (λ (a : Aiming). length a.steps) c.self.view_is in
    let short : length aim.steps ≤ c.args.depth + 1 =
    elim c.else-self-depth.branch [ else-self-depth-via-then-self-depth+else-self-depth-gt1 w ↦ omega (arith, steps) | else-self-depth-via-else-self-depth w ↦ omega (arith, steps) ] in
    let lay : aim.lay ≡ Some c.in-Some.lay.now = ap (λ (a : Aiming). a.lay) (sym c.self.view_is) ∙ ap option_copied c.in-Some.is in
    let all : AreTurned aim = subst AreTurned c.self.view_is c.self.invariant.turned in
    subst (λ (t : Turn). IsTurned t aim c.args.depth rows) (sym (ap (λ (l : Laying). l.turn) c.lay.view_is)) (turned_last aim c.in-Some.lay.now c.args.depth rows lay short all part)
