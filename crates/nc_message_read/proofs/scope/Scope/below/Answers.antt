use Rattle.std.proofs.Common.{List, Option, sym, subst, ◌∙◌}
use Rattle.std.specs.Prelude.{IfSome}
use Rattle.nc_names.specs.declared.name.Bound.{Bound}
use Rattle.nc_message_read.specs.declared.marked.Marked.{Marked}
use Rattle.nc_message_read.specs.inner.Marks.{IsBeside}
use Rattle.nc_message_read.proofs.scope.Scope.below.Goals as goal

pub invariant_of-result : goal.invariant_of-result
invariant_of-result c =
    let outer = c.self.inside.bounds in
    let is = subst (λ (o : Option Marked). IfSome o (IsBeside outer)) c.in-Some.is c.self.invariant in
    subst (λ (b : List Bound). IsBeside b c.in_ok-below-in-Some.field-0) (sym c.in_ok-bounds.ensures)
    (c.in_ok-below-in-Some.ensures outer c.said.inside.level is (c.as_slice.ensures ∙ c.said.invariant))
