use Rattle.std.proofs.Common.{◌≤◌, length, arith}
use Rattle.nc_yang_scopes.proofs.Misnaming.{texts_all, texts_more}
use Rattle.nc_yang_scopes.proofs.naming.first_misnamed.Goals as goal

pub loop-text-preserved : goal.loop-text-preserved
loop-text-preserved c = texts_more c.args.scopes.now.texts c.loop-text.text c.in_default.ensures c.loop-text.invariant

pub returns : goal.returns
returns c =
    let all : length c.args.scopes.now.texts ≤ c.loop-text.text = omega arith in
    texts_all c.args.scopes.now.texts c.loop-text.text all c.loop-text.invariant
