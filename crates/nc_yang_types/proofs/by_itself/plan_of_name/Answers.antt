use Rattle.std.proofs.Common.{true, ap, ◌∙◌}
use Rattle.nc_schema.specs.declared.value_type.ValueType.TheVariants.{Chars}
use Rattle.nc_yang_types.specs.declared.planned.Planned.TheVariants.{Finished}
use Rattle.nc_yang_types.proofs.FoundLemmas.{plan_of_none, plan_of_some}
use Rattle.nc_yang_types.proofs.by_itself.plan_of_name.Goals as goal

pub returns-then-is_empty : goal.returns-then-is_empty
returns-then-is_empty c =
    plan_of_none c.args.lengths c.args.starless c.args.numbers c.args.patterns c.args.names (c.is_empty.ensures.0 c.if-is_empty.true)

pub returns : goal.returns
returns c =
    ap (λ z. Finished (Chars c.args.lengths true c.args.numbers) z c.args.names) c.new.ensures
    ∙ plan_of_some c.args.lengths c.args.starless c.args.numbers c.args.patterns c.args.names
    (λ none. let yes = c.is_empty.ensures.1 none in let no = c.if-is_empty.false in cc)
