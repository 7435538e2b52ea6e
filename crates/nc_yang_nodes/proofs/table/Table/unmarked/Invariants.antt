use Rattle.std.proofs.Common.{◌≡◌, ℕ, true}
use Rattle.std.specs.Prelude.{Some, slice_get}
use Rattle.nc_yang_nodes.proofs.table.Table.unmarked.Given as goal

abbrev pub invariant-loop : goal.invariant-loop
invariant-loop l = (k : ℕ) → slice_get l.barren k ≡ Some true → ⊥
