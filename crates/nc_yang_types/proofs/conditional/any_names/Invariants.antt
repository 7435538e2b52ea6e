-- One of the statements lists it where one of the rest does.
use Rattle.std.proofs.Common.{◌≡◌, drop}
use Rattle.std.specs.List.{list_any}
use Rattle.nc_yang_types.specs.inner.Judging.{names_at}
use Rattle.nc_yang_types.proofs.conditional.any_names.Given as goal

abbrev pub invariant-loop-member : goal.invariant-loop-member
invariant-loop-member l =
    list_any (λ n. names_at l.meanings n l.text) l.members ≡ list_any (λ n. names_at l.meanings n l.text) (drop l.member-index l.members)
