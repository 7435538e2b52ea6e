use Rattle.std.proofs.Common.{ap, ◌∙◌, ◌++◌, ◌∷◌, []}
use Rattle.nc_yang.proofs.access.all_statements.Goals as goal

pub returns : goal.returns
returns c = record {
  access = c.in_ok-access.access;
  spells = c.in_ok-access.ensures;
  roots = c.in_ok-roots.roots;
  read = c.in_ok-roots.ensures;
  are =
      c.in_ok-append.ensures.ok
      ∙ ap (λ z. z ++ c.in_ok-roots.roots) (c.in_ok-push.ensures.ok ∙ ap (λ z. z ++ c.in_ok-access.access ∷ []) c.new-all.ensures);
}
