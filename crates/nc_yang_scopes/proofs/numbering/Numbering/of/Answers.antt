use Rattle.nc_yang_scopes.specs.inner.Frames.{entry_of}
use Rattle.nc_yang_scopes.proofs.Numbered.{begins_at, opens_at, ends_at}
use Rattle.nc_yang_scopes.proofs.numbering.Numbering.of.Goals as goal

pub loop-number-init : goal.loop-number-init
loop-number-init c = begins_at c.args.texts.now c.in_ok-roots.field-0 c.new.result c.in_ok-roots.ensures c.new.ensures

pub returns-in_default : goal.returns-in_default
returns-in_default c =
    ends_at c.args.texts.now c.loop-number.numbering.frames c.loop-number.numbering.firsts c.loop-number.number c.in_default.ensures.value
    c.loop-number.invariant

pub loop-number-preserved : goal.loop-number-preserved
loop-number-preserved c =
    opens_at c.args.texts.now c.loop-number.numbering.frames c.loop-number.numbering.firsts c.loop-number.number (entry_of c.in-Some.frame)
    c.in_ok-numbering.numbering.frames c.in_ok-numbering.numbering.firsts c.in-Some.ensures.value c.loop-number.invariant c.in_ok-numbering.ensures
