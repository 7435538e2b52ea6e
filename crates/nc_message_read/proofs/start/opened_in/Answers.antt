use Rattle.std.proofs.Common.{List, sym, subst, ◌∙◌}
use Rattle.nc_names.specs.declared.name.Bound.{Bound}
use Rattle.nc_message_read.specs.inner.Marks.{AreNamed}
use Rattle.nc_message_read.proofs.Marking.{all_named}
use Rattle.nc_message_read.proofs.start.opened_in.Goals as goal

pub differ-requires : goal.differ-requires
differ-requires c =
    let attrs = c.in-Some-2.attrs in
    subst (AreNamed c.args.scope.now) (sym c.as_slice-2.ensures)
    (subst (λ (bounds : List Bound). AreNamed bounds attrs) c.bounds-2.ensures
    (all_named c.bounds-2.result.now c.as_slice.result.now attrs (sym c.in_ok-attrs.ensures ∙ c.in-Some-2.is)))
