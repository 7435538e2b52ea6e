use Rattle.nc_device.specs.Outside.{making}
use Rattle.nc_reports.proofs.load_test.load.Goals as goal

pub returns-in-Ok-set_up : goal.returns-in-Ok-set_up
returns-in-Ok-set_up g c =
    c.load_at.ensures (making (g.P.Maker.refusals c.args.maker.now) (g.P.Maker.last_refused c.args.maker.now))
    (making (g.P.Maker.refusals c.set_up.new.maker) (g.P.Maker.last_refused c.set_up.new.maker))
