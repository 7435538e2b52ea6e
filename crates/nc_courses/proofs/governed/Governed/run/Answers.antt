-- What was running stays, with the policy that it holds.
use Rattle.std.proofs.Common.{◌∙◌, sym, ap, refl, Option, List}
use Rattle.std.specs.Prelude.{unwrap_or}
use Rattle.nc_names.specs.declared.path.Row.{Row}
use Rattle.nc_model.specs.Policy.{policy_of}
use Rattle.nc_courses.specs.inner.Governing.{Governing}
use Rattle.nc_courses.proofs.governed.Governed.run.Goals as goal

pub invariant_of-self-in_default : goal.invariant_of-self-in_default
invariant_of-self-in_default c = record {
  policy_is = c.requires
      ∙ (ap (λ (rows : Option (List Row)). policy_of c.args.self.now.tables (unwrap_or rows c.args.self.now.running)) c.in_default.is
      ∙ sym (ap (λ (g : Governing). policy_of g.tables g.running) c.self.view_is));
  earlier_is = refl;
  nobody_is = c.self.invariant.nobody_is;
}
