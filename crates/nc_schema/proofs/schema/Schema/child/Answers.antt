-- Proof that `Schema::child` gives the number of the child.
use Rattle.std.proofs.Common.{subst}
use Rattle.nc_schema.specs.Children.{IsFirstChild}
use Rattle.nc_schema.specs.Tables.{Tables}
use Rattle.nc_schema.proofs.ChildLemmas.{child_is}
use Rattle.nc_schema.proofs.schema.Schema.child.Goals as goal

pub returns-clause-number : goal.returns-clause-number
returns-clause-number c =
    child_is c.args.self.now c.args.parent c.args.name.now c.child.result
    (subst (λ (v : Tables). IsFirstChild v.nodes c.args.parent c.args.name.now c.child.result) c.self.view_is c.child.ensures)
