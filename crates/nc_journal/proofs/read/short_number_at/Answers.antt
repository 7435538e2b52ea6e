use Rattle.std.proofs.Common.{◌∙◌, sym, subst}
use Rattle.nc_journal.specs.Files.{At}
use Rattle.nc_journal.proofs.read.short_number_at.Goals as goal

pub returns-clause-sound : goal.returns-clause-sound
returns-clause-sound g c = λ file told.
    subst (λ l. At c.args.at l file) (sym c.short_number_in.ensures)
    (c.in_ok-fill.ensures.whole c.if-not-branch.false file told).0
