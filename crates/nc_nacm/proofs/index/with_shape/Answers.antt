use Rattle.std.proofs.Common.{sym, ◌∙◌, ap}
use Rattle.std.specs.Option.{option_copied}
use Rattle.nc_nacm.proofs.Shapes.{no_shape, put_its_shape}
use Rattle.nc_nacm.proofs.index.with_shape.Goals as goal

pub returns-in_default : goal.returns-in_default
returns-in_default c = λ rules so.
    no_shape c.args.shapes.keys rules c.args.rule.now (sym c.pattern_in.ensures ∙ ap option_copied c.in_default.is) so

pub returns : goal.returns
returns c =
    put_its_shape c.put_shape.result c.args.shapes c.args.rule.now c.in-Some.pattern.now c.in_ok-shape.shape
    (sym c.pattern_in.ensures ∙ ap option_copied c.in-Some.is) c.in_ok-shape.ensures c.put_shape.ensures
