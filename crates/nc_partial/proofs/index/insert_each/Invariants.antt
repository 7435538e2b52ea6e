use Rattle.std.proofs.Common.{◌≤◌, ◌+◌, vec_capacity, vec_len}
use Rattle.nc_partial.specs.inner.Entries.{Adds, IsAscending}
use Rattle.nc_partial.proofs.index.insert_each.Given as goal

-- those so far are in, in order, and there is room for the others
pub record Put (l : goal.Live-loop-entry) : Type 0 where
  pub order : IsAscending l.index.items
  pub added : Adds l.yielded l.fn.index.items l.index.items
  pub room : vec_len l.index + l.entry-iterator.rest.len ≤ vec_capacity l.index

abbrev pub invariant-loop-entry : goal.invariant-loop-entry
invariant-loop-entry l = Put l
