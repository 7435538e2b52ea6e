use Rattle.std.proofs.Common.{◌∙◌}
use Rattle.nc_validate.specs.inner.Choices.{bares_from}
use Rattle.nc_validate.proofs.outline.outline_of.Goals as goal

pub returns-clause-outline : goal.returns-clause-outline
returns-clause-outline c = record {
  children = c.in_ok-children.ensures;
  firsts = c.in_ok-firsts.ensures;
  bares = c.in_ok-bares.ensures ∙ (λ i. bares_from (c.as_slice.ensures i) 0 (c.choices.ensures i));
}
