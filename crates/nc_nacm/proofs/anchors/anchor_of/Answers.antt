use Rattle.std.proofs.Common.{◌≡◌, ◌∷◌, sym, ◌∙◌, ap}
use Rattle.std.specs.Option.{option_copied}
use Rattle.nc_nacm.specs.inner.Marks.{is_among, module_mark, pattern_marks}
use Rattle.nc_nacm.proofs.Marking.{any_anchor, is_anchor}
use Rattle.nc_nacm.proofs.anchors.anchor_of.Goals as goal

pub returns-in_default : goal.returns-in_default
returns-in_default c = any_anchor c.args.rule.now 0 (sym c.pattern_in.ensures ∙ ap option_copied c.in_default.is)

pub returns : goal.returns
returns c =
    let first_is : c.module_mark.result ≡ module_mark c.args.rule.now.module = c.module_mark.ensures ∙ ap module_mark c.as_str.ensures in
    let others_are : c.in_ok-marks.marks ≡ pattern_marks c.in-Some.pattern.now = c.in_ok-marks.ensures in
    is_anchor c.args.rule.now c.in-Some.pattern.now c.rarest.result (sym c.pattern_in.ensures ∙ ap option_copied c.in-Some.is)
    ((λ i. is_among (sym first_is i ∷ sym others_are i) c.rarest.result) ∙ c.rarest.ensures)
