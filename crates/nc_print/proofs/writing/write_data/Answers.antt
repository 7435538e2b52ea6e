use Rattle.std.proofs.Common.{◌++◌, ◌∙◌, map, ap}
use Rattle.nc_print.specs.inner.Texts.{parts_text}
use Rattle.nc_protocol.specs.Printed.{longest}
use Rattle.nc_print.proofs.WriteLemmas.{data_written}
use Rattle.nc_print.proofs.writing.write_data.Goals as goal

pub returns : goal.returns
returns c =
    let rows_are = ap (map (λ row. row.now)) c.as_slice-rows.ensures ∙ c.in_ok-listed.ensures in
    data_written c.end_plain.result c.args.above.now c.args.schema.now c.args.rows.now c.in_ok-name.name c.len-inside.result
    c.longest.result c.args.out.now c.write_plain.new.out c.write_parts.new.out c.end_plain.new.out
    c.in_ok-name.ensures (c.longest.ensures ∙ ap longest rows_are) c.in_ok-write_plain.ensures c.len-inside.ensures
    (c.in_ok-write_parts.ensures
    ∙ ap (λ space. c.write_plain.new.out ++ parts_text space c.args.schema.now c.longest.result 0
    (map (λ row. row.now) c.as_slice-rows.result.now)) c.as_str.ensures
    ∙ ap (λ rows. c.write_plain.new.out ++ parts_text c.in_ok-name.name.space c.args.schema.now c.longest.result 0 rows)
    rows_are)
    c.end_plain.ensures
