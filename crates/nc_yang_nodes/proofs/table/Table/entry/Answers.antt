use Rattle.std.proofs.Common.{sym}
use Rattle.nc_yang_nodes.specs.inner.Tables.{test_of}
use Rattle.nc_yang_nodes.proofs.TableLemmas.{kept, left_out}
use Rattle.nc_yang_nodes.proofs.table.Table.entry.Goals as goal

pub returns-in-Some : goal.returns-in-Some
returns-in-Some c = λ l at.
    left_out c.args.self.now.scopes.now (test_of c.args.self.now) l c.in_ok-entry.entry c.in-Some.block c.in-Some.is
    (c.requires.barren c.in-Some.block (c.is_barren.ensures c.if-is_barren.true)) (c.requires.stored c.args.number l c.in_ok-entry.entry at (sym c.in_ok-entry.ensures))

pub returns-in_default : goal.returns-in_default
returns-in_default c = λ l at.
    kept c.args.self.now.scopes.now (test_of c.args.self.now) l c.in_ok-entry.entry (c.requires.stored c.args.number l c.in_ok-entry.entry at (sym c.in_ok-entry.ensures))

pub returns-in_default-2 : goal.returns-in_default-2
returns-in_default-2 c = λ l at.
    kept c.args.self.now.scopes.now (test_of c.args.self.now) l c.in_ok-entry.entry (c.requires.stored c.args.number l c.in_ok-entry.entry at (sym c.in_ok-entry.ensures))
