-- None of the paths so far is in use.
use Rattle.std.proofs.Common.{◌≡◌, drop}
use Rattle.std.specs.Prelude.{map}
use Rattle.nc_protocol.specs.Edited.{first_cause}
use Rattle.nc_model.specs.Verdict.{in_use_at}
use Rattle.nc_machine.proofs.server.Server.first_in_use.Given as goal

abbrev pub invariant-loop-path : goal.invariant-loop-path
invariant-loop-path l =
    first_cause (map (in_use_at l.self l.session) (drop l.path-index l.paths)) ≡ first_cause (map (in_use_at l.self l.session) l.paths)
