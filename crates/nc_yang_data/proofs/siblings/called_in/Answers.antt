use Rattle.std.proofs.Common.{◌∙◌, ap, subst, sym}
use Rattle.std.specs.Prelude.{Some}
use Rattle.std.proofs.lemmas.List.{take_all}
use Rattle.std.proofs.lemmas.Option.{slice_get-get_or}
use Rattle.nc_yang_data.specs.inner.Called.{CallsEach}
use Rattle.nc_yang_data.proofs.TwinLemmas.{called_next}
use Rattle.nc_yang_data.proofs.siblings.called_in.Goals as goal

pub loop-number-preserved : goal.loop-number-preserved
loop-number-preserved c =
    called_next c.args.scopes.now c.args.choices.now c.loop-number.number c.index-choices-number.result c.loop-number.called c.in_ok-called.called
    (slice_get-get_or c.args.choices.now c.loop-number.number c.index-choices-number.result c.loop-number-test.true ∙ ap Some (sym c.index-choices-number.is))
    c.in_ok-called.ensures c.loop-number.invariant

pub returns : goal.returns
returns c = subst (λ cs. CallsEach c.args.scopes.now cs c.loop-number.called) (take_all c.loop-number.number c.args.choices.now c.loop-number-test.false) c.loop-number.invariant
