use Rattle.std.proofs.Common.{◌≡◌, ◌-◌, ◌∙◌, ap, sym}
use Rattle.std.specs.Prelude.{true, false}
use Rattle.nc_yang_statements.specs.declared.keyword.Keyword.TheVariants.{Typedef}
use Rattle.nc_yang_statements.specs.Keywords.{is_same_keyword}
use Rattle.nc_yang_scopes.proofs.Misnaming.{child_there}
use Rattle.nc_yang.proofs.TypedefNumbers.{all_in, begins, ends, one_more, own}
use Rattle.nc_yang.proofs.typedefs.+push.Goals as goal

pub returns-then-is_end : goal.returns-then-is_end
returns-then-is_end t c = λ l here.
    ends c.args.scopes.now c.args.number c.args.statement.now c.requires l here c.args.levels c.args.numbers.now c.keep_if.new.kept
    (sym c.if-is_end.ensures)
    (own c.args.scopes.now c.args.number c.args.statement.now c.requires l here c.is_same_keyword.result c.args.numbers.now c.keep_if.new.kept
    (c.is_same_keyword.ensures ∙ ap (is_same_keyword Typedef) c.kind.ensures) c.in_ok-keep_if.ensures)

pub loop-place-init : goal.loop-place-init
loop-place-init t c = λ l here.
    begins c.args.scopes.now c.args.number c.args.statement.now c.requires l here (c.args.levels - 1) c.args.numbers.now c.keep_if.new.kept
    (own c.args.scopes.now c.args.number c.args.statement.now c.requires l here c.is_same_keyword.result c.args.numbers.now c.keep_if.new.kept
    (c.is_same_keyword.ensures ∙ ap (is_same_keyword Typedef) c.kind.ensures) c.in_ok-keep_if.ensures)

pub child-child-requires : goal.child-child-requires
child-child-requires t c =
    child_there c.args.scopes.now c.args.number c.args.statement.now c.requires c.as_slice-among.result.now c.as_slice-among.ensures c.loop-place.place
    c.index-among-place.result c.loop-place-test.true c.index-among-place.is

pub loop-place-preserved : goal.loop-place-preserved
loop-place-preserved t c = λ l here.
    one_more c.args.scopes.now c.args.number c.args.statement.now c.requires l here c.as_slice-among.result.now c.as_slice-among.ensures
    (c.args.levels - 1) c.loop-place.place c.child-child.result c.index-among-place.result c.args.numbers.now c.loop-place.numbers c.push.new.numbers
    c.loop-place-test.true c.index-among-place.is c.child-child.ensures c.in_ok-push.ensures (c.loop-place.invariant l here)

pub returns : goal.returns
returns t c = λ l here.
    all_in c.args.scopes.now c.args.number c.args.statement.now c.requires l here c.as_slice-among.result.now c.as_slice-among.ensures
    c.args.levels c.loop-place.place c.args.numbers.now c.loop-place.numbers (sym c.if-is_end.ensures) c.loop-place-test.false (c.loop-place.invariant l here)
