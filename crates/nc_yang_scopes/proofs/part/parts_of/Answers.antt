use Rattle.std.proofs.Common.{sym, ap, ◌∙◌}
use Rattle.nc_yang_statements.specs.Keywords.{is_same_keyword}
use Rattle.nc_yang_scopes.proofs.PartLemmas.{parts_more, parts_same}
use Rattle.nc_yang_scopes.proofs.part.parts_of.Goals as goal
use Rattle.nc_yang_scopes.proofs.part.parts_of.Goals.{then-is_same_keyword+in_ok-push, else-is_same_keyword}

pub loop-place-preserved : goal.loop-place-preserved
loop-place-preserved c = elim c.if-is_same_keyword.branch [
  | then-is_same_keyword+in_ok-push w ↦
      parts_more c.args.scopes.now c.args.number c.in-Some.statement.now c.as_slice-among.result.now (sym c.in-Some.ensures) c.as_slice-among.ensures c.args.keyword
      c.loop-place.place w.child.result c.index-among-place.result c.loop-place.found c.loop-place.invariant c.loop-place-test.true c.index-among-place.is
      (sym (ap (is_same_keyword c.args.keyword) c.kind.ensures) ∙ sym w.if-is_same_keyword.ensures) w.child.ensures c.if-is_same_keyword.found (w.found-is ∙ w.in_ok-push.ensures.ok)
  | else-is_same_keyword w ↦
      parts_same c.args.scopes.now c.args.number c.in-Some.statement.now c.as_slice-among.result.now (sym c.in-Some.ensures) c.as_slice-among.ensures c.args.keyword
      c.loop-place.place c.index-among-place.result c.loop-place.found c.loop-place.invariant c.loop-place-test.true c.index-among-place.is
      (sym (ap (is_same_keyword c.args.keyword) c.kind.ensures) ∙ sym w.if-is_same_keyword.ensures) c.if-is_same_keyword.found w.found-is
]
