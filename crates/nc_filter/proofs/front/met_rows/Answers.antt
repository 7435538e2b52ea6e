use Rattle.std.proofs.Common.{◌∙◌, ap, map}
use Rattle.nc_filter.proofs.FrontLemmas.{met_found}
use Rattle.nc_filter.proofs.front.met_rows.Goals as goal

pub returns : goal.returns
returns c =
    met_found c.met_by.result c.args.schema.now c.args.filter.now c.in_ok-way.way c.args.config.now c.as_slice-2.result.now c.in-Some.likes c.as_slice-3.result.now
    c.as_slice.result.now c.in_ok-likes.field-0 c.len-3.result c.in_ok-way.ensures c.as_slice.ensures (ap (map (λ row. row.now)) c.as_slice-2.ensures ∙ c.in_ok-rows.ensures) c.in-Some.is c.in_ok-likes.ensures
    c.as_slice-3.ensures c.len-3.ensures c.met_by.ensures
