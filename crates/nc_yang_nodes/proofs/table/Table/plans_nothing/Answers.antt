use Rattle.std.proofs.Common.{rules, sym, arith}
use Rattle.nc_yang_nodes.specs.inner.Tables.{children_at, test_of}
use Rattle.nc_yang_nodes.proofs.TableLemmas.{barren_next, barren_past, count_at}
use Rattle.nc_yang_nodes.proofs.table.Table.plans_nothing.Goals as goal

pub loop-place-preserved : goal.loop-place-preserved
loop-place-preserved c = λ rest.
    let count = count_at c.args.self.now.scopes.now c.args.number c.in-Some.statement.now (sym c.in-Some.ensures) in
    c.loop-place.invariant (barren_next c.args.self.now.scopes.now (test_of c.args.self.now) (children_at c.args.self.now.scopes.now c.args.number)
    c.loop-place.place (omega (arith, count)) (c.adds_nothing.ensures (search rules)) rest)

pub returns : goal.returns
returns c = λ e.
    let count = count_at c.args.self.now.scopes.now c.args.number c.in-Some.statement.now (sym c.in-Some.ensures) in
    c.loop-place.invariant (barren_past c.args.self.now.scopes.now (test_of c.args.self.now) (children_at c.args.self.now.scopes.now c.args.number)
    c.loop-place.place (omega (arith, count)))
