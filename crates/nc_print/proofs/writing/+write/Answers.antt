use Rattle.std.proofs.Common.{◌+◌, ◌++◌, ◌∙◌, map, sym, ap}
use Rattle.std.specs.Option.{option_copied}
use Rattle.nc_print.specs.inner.Texts.{parts_text, some_text}
use Rattle.nc_print.proofs.WriteLemmas.{run_written}
use Rattle.nc_print.proofs.writing.+write.Goals as goal

pub write_run-returns : goal.write_run-returns
write_run-returns t c =
    let rows = map (λ row. row.now) c.args.rows.now in
    run_written c.write_ending.result c.args.above.now c.args.schema.now c.args.levels c.args.depth rows
    c.in-Some.row.now c.in-Some-get.step.now c.in-Some-node.node.now (option_copied c.some_text-text.result)
    c.len-inside.result c.args.out.now c.write_opening.new.out c.write_parts.new.out c.write_ending.new.out
    (sym c.in-Some.ensures) (sym c.in-Some-get.ensures.value) (sym c.in-Some-node.ensures)
    (c.some_text-text.ensures ∙ ap some_text c.own_value.ensures) c.in_ok-write_opening.ensures c.len-inside.ensures
    (c.in_ok-write_parts.ensures
    ∙ ap (λ space. c.write_opening.new.out ++ parts_text space c.args.schema.now c.args.levels (c.args.depth + 1) rows)
    c.as_str-space.ensures)
    c.write_ending.ensures
