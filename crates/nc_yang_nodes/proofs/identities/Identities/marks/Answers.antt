use Rattle.nc_yang_nodes.proofs.DerivedLemmas.{marks_lost, marks_made}
use Rattle.nc_yang_nodes.proofs.identities.Identities.marks.Goals as goal

pub returns-in_default : goal.returns-in_default
returns-in_default c = marks_lost c.self.inside.places c.args.self.now c.self.view_is c.args.base c.in_default.ensures c.new.result c.new.ensures

pub returns : goal.returns
returns c =
    marks_made c.self.inside.places c.args.self.now c.self.view_is c.self.inside.graph c.self.invariant c.args.base c.in-Some.from c.in-Some.ensures c.as_slice-graph.result.now c.as_slice-graph.ensures
    c.row.result.now c.row.ensures c.in_ok-reach.reach c.in_ok-reach.ensures c.marks_of.result c.marks_of.ensures
