use Rattle.std.proofs.Common.{◌∙◌, arith}
use Rattle.nc_yang_data.proofs.TextLemmas.{space_more}
use Rattle.nc_yang_data.proofs.texts.namespaces.Goals as goal

pub loop-text-preserved : goal.loop-text-preserved
loop-text-preserved c =
    let less = c.loop-text-test.true in
    let size = c.texts-text-end.ensures in
    c.in_ok-push.ensures.ok
    ∙ space_more c.args.scopes.now.texts c.loop-text.text c.loop-text.spaces c.in_ok-namespace_of.field-0 (omega (arith, less, size)) c.loop-text.invariant
    c.in_ok-namespace_of.ensures
