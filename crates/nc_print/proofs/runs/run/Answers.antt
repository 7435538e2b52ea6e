use Rattle.std.proofs.Common.{ap}
use Rattle.std.specs.Prelude.{map}
use Rattle.nc_protocol.specs.Printed as printed
use Rattle.nc_print.proofs.RunLemmas.{is_run}
use Rattle.nc_print.proofs.runs.run.Goals as goal

pub returns-in-Some : goal.returns-in-Some
returns-in-Some c =
    is_run (printed.goes_on c.args.depth) c.in-Some.first.now.now (map (λ row. row.now) c.in-Some.more.now)
    (map (λ row. row.now) c.args.rows.now) c.count_run.result (ap (map (λ row. row.now)) c.in-Some.ensures.cases.0)
    c.count_run.ensures
