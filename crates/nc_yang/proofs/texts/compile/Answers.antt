use Rattle.nc_yang_leafs.specs.Patterns.{refusing}
use Rattle.nc_yang.proofs.ProperSchema.{canonical, proper}
use Rattle.nc_yang.proofs.Reasons.{rose_of}
use Rattle.nc_yang.proofs.texts.compile.Goals as goal

pub returns-clause-proper : goal.returns-clause-proper
returns-clause-proper g c =
    proper c.args.modules.now c.args.lines.now
    (refusing (g.M.Maker.refusals c.args.maker.now) (g.M.Maker.refusals c.of_modules.new.maker) (g.M.Maker.last_refused c.of_modules.new.maker)) c.of_modules.result c.of_modules.ensures

pub returns-clause-canonical : goal.returns-clause-canonical
returns-clause-canonical g c =
    canonical c.args.modules.now c.args.lines.now
    (refusing (g.M.Maker.refusals c.args.maker.now) (g.M.Maker.refusals c.of_modules.new.maker) (g.M.Maker.last_refused c.of_modules.new.maker)) c.of_modules.result c.of_modules.ensures

pub returns-clause-refused : goal.returns-clause-refused
returns-clause-refused g c =
    rose_of c.args.modules.now c.args.lines.now
    (refusing (g.M.Maker.refusals c.args.maker.now) (g.M.Maker.refusals c.of_modules.new.maker) (g.M.Maker.last_refused c.of_modules.new.maker)) c.of_modules.result c.of_modules.ensures
