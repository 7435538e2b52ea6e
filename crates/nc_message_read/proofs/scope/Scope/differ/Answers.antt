use Rattle.std.proofs.Common.{List, subst, sym}
use Rattle.nc_names.specs.declared.name.Bound.{Bound}
use Rattle.nc_message_read.specs.inner.Marks.{AreNamed}
use Rattle.nc_message_read.proofs.Marking.{all_found}
use Rattle.nc_message_read.proofs.scope.Scope.differ.Goals as goal

pub are_apart-requires : goal.are_apart-requires
are_apart-requires c =
    all_found c.self.inside.marked c.self.inside.bounds c.args.attrs.now c.self.invariant
    (subst (λ (b : List Bound). AreNamed b c.args.attrs.now) (sym c.self.view_is) c.requires)
