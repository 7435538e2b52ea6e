use Rattle.std.proofs.Common.{arith, sym, ◌∙◌}
use Rattle.nc_nacm.proofs.Chaining.{is_found, is_missing, rules_long, rules_of}
use Rattle.nc_nacm.proofs.chained.first_chained.Goals as goal

pub returns-then-place-limit : goal.returns-then-place-limit
returns-then-place-limit c =
    is_found c.args.wanted.now.name.now c.args.wanted.now.steps.now c.args.wanted.now.right c.args.chains.now.marks (rules_of c.args.rules.now)
    _ c.first_below-place.result c.requires.anchored (omega (arith, c.if-limit-rules.true, rules_long c.args.rules.now)) c.if-place-limit.true c.first_below-place.ensures

pub returns-then-last-rules : goal.returns-then-last-rules
returns-then-last-rules c =
    is_found c.args.wanted.now.name.now c.args.wanted.now.steps.now c.args.wanted.now.right c.args.chains.now.marks (rules_of c.args.rules.now)
    _ c.first_below-last.result c.requires.anchored (omega (arith, rules_long c.args.rules.now)) c.if-last-rules.true c.first_below-last.ensures

pub returns-else-last-rules : goal.returns-else-last-rules
returns-else-last-rules c =
    is_missing c.args.wanted.now.name.now c.args.wanted.now.steps.now c.args.wanted.now.right c.args.chains.now.marks (rules_of c.args.rules.now)
    _ c.first_below-last.result c.requires.anchored (sym (rules_long c.args.rules.now)) c.if-last-rules.false c.first_below-last.ensures
