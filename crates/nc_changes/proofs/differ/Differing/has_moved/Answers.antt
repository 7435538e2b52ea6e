use Rattle.std.proofs.Common.{rules, ◌∙◌, sym}
use Rattle.nc_protocol.specs.Changes.{has_moved}
use Rattle.nc_changes.proofs.RankLemmas.{none_moved, one_moved}
use Rattle.nc_changes.proofs.differ.Differing.has_moved.Goals as goal

pub returns-then-not-is_by_user : goal.returns-then-not-is_by_user
returns-then-not-is_by_user c =
    none_moved c.args.schema.now c.args.self.now.old c.args.self.now.new c.args.path.now.steps c.in-Some.above.now c.in-Some.step.now (sym c.as_slice.ensures ∙ c.in-Some.ensures.cases.0)
    (search rules)

pub returns-in-Some-has_moved : goal.returns-in-Some-has_moved
returns-in-Some-has_moved c =
    one_moved c.args.schema.now c.self.inside.old.now c.self.inside.new.now c.args.path.now.steps c.in-Some.above.now c.in-Some.step.now c.in-Some-has_moved.moved
    (sym c.as_slice.ensures ∙ c.in-Some.ensures.cases.0) (search rules) (c.in-Some-has_moved.ensures c.self.inside.old.now c.self.inside.new.now c.self.invariant)
    ∙ (λ i. has_moved c.args.schema.now (c.self.view_is i).old (c.self.view_is i).new c.args.path.now.steps)
