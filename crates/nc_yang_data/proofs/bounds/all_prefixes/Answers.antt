use Rattle.std.proofs.Common.{arith}
use Rattle.nc_yang_data.proofs.PrefixLemmas.{all_are, one_more}
use Rattle.nc_yang_data.proofs.bounds.all_prefixes.Goals as goal

pub loop-text-preserved : goal.loop-text-preserved
loop-text-preserved c =
    one_more c.args.scopes.now.texts c.loop-text.text c.loop-text.all c.push.new.self c.in_ok-prefixes.field-0 c.loop-text.invariant
    c.in_ok-prefixes.ensures c.in_ok-push.ensures.ok

pub returns : goal.returns
returns c =
    all_are c.args.scopes.now.texts c.loop-text.text c.loop-text.all c.loop-text.invariant
    (omega (arith, c.loop-text-test.false, c.loop-text.auto.text-end, c.texts-text-end.ensures))
