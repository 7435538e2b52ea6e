use Rattle.std.proofs.Common.{rules, ◌≡◌, sym, ◌∙◌}
use Rattle.std.specs.Prelude.{None}
use Rattle.nc_yang_nodes.specs.inner.Tables.{test_of}
use Rattle.nc_yang_nodes.proofs.TableLemmas.{nothing_given, nothing_passed}
use Rattle.nc_yang_nodes.proofs.table.Table.adds_nothing.Goals as goal

pub returns-in-None : goal.returns-in-None
returns-in-None c = λ e.
    nothing_passed c.args.self.now.scopes.now (test_of c.args.self.now) c.args.number c.args.place c.in-Some.child c.in-Some-entry.entry c.in-Some.ensures
    (c.in-Some-entry.ensures c.in-Some.ensures.statement c.in-Some.ensures.located) c.in-None.is

pub returns-then-is_plain : goal.returns-then-is_plain
returns-then-is_plain c = λ e.
    let shut : c.in-Some-entry.entry.block ≡ None = search rules in
    nothing_given c.args.self.now.scopes.now (test_of c.args.self.now) c.args.number c.args.place c.in-Some.child c.in-Some-entry.entry c.in-Some.ensures
    (c.in-Some-entry.ensures c.in-Some.ensures.statement c.in-Some.ensures.located) c.in-Some-role.role c.in-Some-role.is (sym c.is_plain.ensures ∙ c.if-is_plain.true) shut
