-- `../` is read, or the text stops in it.
use Rattle.std.proofs.Common.{◌≡◌, ◌-◌, ◌∙◌, length, ap, arith, rules}
use Rattle.nc_path_places.specs.inner.Candidates.{common}
use Rattle.nc_path_places.specs.inner.Leafrefs.{up}
use Rattle.nc_path_places.proofs.LeafrefPlaces.{rise_missed, rise_read}
use Rattle.nc_path_places.proofs.leafref_place.rise.Goals as goal

pub returns-in-Some-after_up-clause-ok : goal.returns-in-Some-after_up-clause-ok
returns-in-Some-after_up-clause-ok c =
    rise_read c.args.ways.now c.requires c.args.above c.in-Some.number c.parent_of-next.result c.args.text.now c.in-Some-after_up.rest.now c.in-Some.is c.parent_of-next.ensures
    (c.is_open.ensures.yes (search rules)) c.in-Some-after_up.ensures

pub returns-in-None-clause-here : goal.returns-in-None-clause-here
returns-in-None-clause-here c =
    let text = c.args.text.now in
    let far : c.far_up.result ≡ common text up = c.far_up.ensures ∙ ap (λ t. common t up) c.as_bytes.ensures.value in
    rise_missed c.args.ways.now c.requires c.args.above c.in-Some.number c.parent_of-next.result text c.saturating_sub.result c.in-Some.is c.parent_of-next.ensures
    (c.is_open.ensures.yes (search rules)) c.in-None.ensures (let long : c.saturating_sub.result ≡ length text - common text up = omega (arith, far) in long)
