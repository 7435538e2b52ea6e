use Rattle.std.proofs.Common.{◌≡◌, drop}
use Rattle.std.specs.Prelude.{fold}
use Rattle.nc_changes.specs.inner.Marks.{marked, with_text}
use Rattle.nc_changes.proofs.marks.with_step.Given as goal

abbrev pub invariant-loop-key : goal.invariant-loop-key
invariant-loop-key l = fold with_text l.mark (drop l.key-index l.key-items) ≡ fold with_text (marked l.fn.mark l.step.node) l.step.keys
