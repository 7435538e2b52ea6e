use Rattle.std.proofs.Common.{ap, subst, refl, ◌∙◌}
use Rattle.std.specs.Prelude.{Contains}
use Rattle.nc_names.specs.Counts.{one_more}
use Rattle.nc_outside.proofs.listener.MemListenerListener.accept.Goals as goal

pub returns-then-fails-clause-memory : goal.returns-then-fails-clause-memory
returns-then-fails-clause-memory g c = record {
  gives = ap (λ s. s.waiting) c.self.view_is;
  fails = (
    λ _. subst (λ s. Contains s.failing (one_more s.calls)) c.self.view_is
        (c.fails.ensures.named.0 c.if-fails.true),
    λ _. refl,
  );
  calls = c.fails.ensures.calls ∙ ap (λ s. one_more s.calls) c.self.view_is;
  failing = c.fails.ensures.failing ∙ ap (λ s. s.failing) c.self.view_is;
}
