use Rattle.std.proofs.Common.{◌<◌, ◌≤◌, length, arith}
use Rattle.nc_yang_scopes.proofs.Revising.{found_text, no_text, passed_text}
use Rattle.nc_yang_scopes.proofs.revision.first_unrevised.Goals as goal

pub returns-in-Some : goal.returns-in-Some
returns-in-Some c =
    let less : c.loop-text.text < length c.args.scopes.now.texts = omega arith in
    found_text c.args.scopes.now.texts c.loop-text.text c.in-Some.found less c.loop-text.invariant c.in-Some.ensures

pub loop-text-preserved : goal.loop-text-preserved
loop-text-preserved c =
    let less : c.loop-text.text < length c.args.scopes.now.texts = omega arith in
    passed_text c.args.scopes.now.texts c.loop-text.text less c.loop-text.invariant c.in_default.ensures

pub returns : goal.returns
returns c =
    let le : length c.args.scopes.now.texts ≤ c.loop-text.text = omega arith in
    no_text c.args.scopes.now.texts c.loop-text.text le c.loop-text.invariant
