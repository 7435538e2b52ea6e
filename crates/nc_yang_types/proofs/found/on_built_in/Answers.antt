use Rattle.nc_yang_types.proofs.FoundLemmas.{found_broken, found_plan}
use Rattle.nc_yang_types.proofs.found.on_built_in.Goals as goal

pub returns-in-Ok-Some : goal.returns-in-Ok-Some
returns-in-Ok-Some g c = λ l here built plans.
    found_plan c.args.scopes.now c.args.number c.args.statement.now c.requires.statement (g.F.Features.on c.args.features.now) l here c.args.one built plans
    c.in-Ok-Some.field-0 c.in-Ok-Some.planned c.in-Ok-Some.field-0-is c.in-Ok-Some.ensures.kept (c.in-Ok-Some.ensures.ok l here)

pub returns-in-Err-Broken : goal.returns-in-Err-Broken
returns-in-Err-Broken g c = λ l here built plans.
    found_broken c.args.scopes.now c.args.number c.args.statement.now c.requires.statement (g.F.Features.on c.args.features.now) l here c.args.one built plans
    c.in-Err-Broken.field-0 c.in-Err-Broken.fault c.in-Err-Broken.field-0-is c.in-Err-Broken.ensures.fault
