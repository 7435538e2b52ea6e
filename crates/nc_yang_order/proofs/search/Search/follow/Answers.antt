use Rattle.std.proofs.Common.{subst, sym}
use Rattle.nc_yang_order.specs.inner.Searches.{IsSearch}
use Rattle.nc_yang_order.proofs.Searching.{search_entered, none_lead, visited}
use Rattle.nc_yang_order.proofs.search.Search.follow.Goals as goal

pub run-requires-clause-search : goal.run-requires-clause-search
run-requires-clause-search c =
    subst (IsSearch c.args.graph.now) (sym c.in_ok-enter.ensures)
    (search_entered c.args.graph.now c.args.self.now c.args.number c.requires.search c.requires.unseen
    (none_lead c.args.graph.now c.args.self.now c.args.number c.requires.empty))

pub returns : goal.returns
returns c =
    visited c.args.graph.now c.args.self.now c.enter.new.self c.run.new.self c.args.number c.run.result c.in_ok-enter.ensures c.requires.unseen
    c.requires.search c.requires.empty c.run.ensures
