use Rattle.std.proofs.Common.{◌∙◌, ap, map}
use Rattle.nc_partial.proofs.SeenLemmas.{plain_seen}
use Rattle.nc_partial.proofs.seen.is_seen.Goals as goal

pub returns : goal.returns
returns g c =
    plain_seen c.args.schema.now (g.S.Sees.seen c.args.sees.now) c.args.rows.now c.args.path.now c.as_slice.result.now c.leads_to_plain.result c.is_any_seen.result
    c.leads_to_plain.ensures c.if-not-leads_to_plain.false (ap (map (λ row. row.now)) c.as_slice.ensures ∙ c.in_ok-block.ensures) c.is_any_seen.ensures
