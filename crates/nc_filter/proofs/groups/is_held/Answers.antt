use Rattle.std.proofs.Common.{◌∙◌, ◌&&◌, ap, sym}
use Rattle.nc_filter.specs.inner.Runs.{at_number, holds_in}
use Rattle.nc_filter.proofs.groups.is_held.Goals as goal

pub returns-then-is_set : goal.returns-then-is_set
returns-then-is_set c =
    c.holds_at.ensures ∙ ap (λ b. b && at_number c.args.runs.now (holds_in c.args.keys.now) c.args.number) (sym c.if-is_set.true ∙ c.is_set.ensures)

pub returns : goal.returns
returns c = ap (λ b. b && at_number c.args.runs.now (holds_in c.args.keys.now) c.args.number) (sym c.if-is_set.false ∙ c.is_set.ensures)
