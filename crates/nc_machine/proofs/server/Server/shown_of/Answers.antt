use Rattle.std.proofs.Common.{◌∙◌, ap}
use Rattle.nc_schema.specs.Tables.{Tables}
use Rattle.nc_protocol.specs.Filter.{selected}
use Rattle.nc_machine.proofs.Shown.{shown_is}
use Rattle.nc_machine.proofs.server.Server.shown_of.Goals as goal

pub returns : goal.returns
returns c =
    c.in_ok-shown.ensures
    ∙ shown_is c.args.self.now c.args.session c.args.filter.now c.args.config.now c.in_ok-part.part c.in_ok-seen.seen c.in_ok-kept.kept c.requires.proper c.requires.configuration
    c.in_ok-part.ensures c.in_ok-seen.ensures
    (c.in_ok-kept.ensures ∙ ap (λ (tables : Tables). selected tables c.args.filter.now c.in_ok-seen.seen) c.schema.ensures)
