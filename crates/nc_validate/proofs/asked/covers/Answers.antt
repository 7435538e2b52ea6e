use Rattle.std.proofs.Common.{◌∙◌, sym}
use Rattle.nc_validate.proofs.asked.covers.Goals as goal

pub returns : goal.returns
returns c = λ yes. record {
  choices = sym c.covers_choices.ensures ∙ c.if-not-covers_choices.false;
  nodes = c.covers_nodes.ensures yes;
}
