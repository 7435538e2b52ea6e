use Rattle.std.proofs.Common.{◌≡◌, ◌<◌, ℕ, true, false}
use Rattle.std.specs.Prelude.{Some, slice_get}
use Rattle.nc_yang_types.specs.declared.planned.Planned.{Planned}
use Rattle.nc_yang_leafs.specs.Marks.{is_marked, is_plain}
use Rattle.nc_yang_leafs.proofs.marks.are_marks.Given as goal

abbrev pub invariant-loop-plan : goal.invariant-loop-plan
invariant-loop-plan l =
    (plan : ℕ) (planned : Planned) → plan < l.plan → slice_get l.plans plan ≡ Some planned → is_marked l.marks plan ≡ false →
    is_plain l.meanings.findings l.marks planned ≡ true
