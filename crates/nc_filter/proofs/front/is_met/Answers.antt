use Rattle.std.proofs.Common.{◌∙◌, false, refl, rules, sym, take, true}
use Rattle.std.specs.List.{list_any}
use Rattle.nc_names.specs.Same.{is_at_or_below}
use Rattle.nc_schema.specs.Blocks.{above_last}
use Rattle.nc_protocol.specs.Filter.{is_key_of_entry}
use Rattle.nc_filter.proofs.FrontLemmas.{met_is}
use Rattle.nc_filter.proofs.front.is_met.Goals as goal

pub returns-then-has : goal.returns-then-has
returns-then-has c = λ likes are.
    let steps = c.as_slice-steps.result.now in
    met_is c.args.schema.now likes c.args.depth c.args.row.now steps c.front.result.now (above_last steps) (take c.args.depth (above_last steps))
    true (is_key_of_entry c.args.schema.now steps) (list_any (λ other. is_at_or_below (take c.args.depth (above_last steps)) other.path) likes)
    c.as_slice-steps.ensures c.front.ensures refl refl (sym c.if-has.true ∙ c.has.ensures likes are) refl refl

pub returns-then-not-is_key_of_entry : goal.returns-then-not-is_key_of_entry
returns-then-not-is_key_of_entry c = λ likes are.
    let steps = c.as_slice-steps.result.now in
    met_is c.args.schema.now likes c.args.depth c.args.row.now steps c.front.result.now (above_last steps) (take c.args.depth (above_last steps))
    false false (list_any (λ other. is_at_or_below (take c.args.depth (above_last steps)) other.path) likes)
    c.as_slice-steps.ensures c.front.ensures refl refl (sym c.if-has.false ∙ c.has.ensures likes are) (search rules) refl

pub returns : goal.returns
returns c = λ likes are.
    met_is c.args.schema.now likes c.args.depth c.args.row.now c.as_slice-steps.result.now c.front.result.now c.above_last.result.now c.front-2.result.now
    false true c.has-2.result
    c.as_slice-steps.ensures c.front.ensures c.above_last.ensures c.front-2.ensures (sym c.if-has.false ∙ c.has.ensures likes are) (search rules) (c.has-2.ensures likes are)
