use Rattle.std.proofs.Common.{◌∙◌, ◌||◌, List, None, ap, subst, sym}
use Rattle.std.specs.Prelude.{map}
use Rattle.std.specs.List.{list_any}
use Rattle.nc_filter.specs.declared.rows.Spot.{Spot}
use Rattle.nc_filter.specs.declared.wants.Want.{Want}
use Rattle.nc_filter.specs.inner.Instances.{elems_pick, wants_pick}
use Rattle.nc_filter.specs.inner.Labels.{AreFirst}
use Rattle.nc_filter.proofs.InstanceLemmas.{first_told}
use Rattle.nc_filter.proofs.walk.pick_guarded.Goals as goal

pub returns : goal.returns
returns c = λ all index.
    first_told c.args.basis.now.schema.now all c.args.depth (map (λ elem. elem.now) c.args.elems.now) c.as_slice-some.result.now c.new-none.result c.in_ok-spots.spots (map (λ row. row.now) c.args.out)
    (map (λ row. row.now) c.in_ok-found.found) (map (λ row. row.now) c.args.rows.now) c.new-none.ensures
    (subst (λ (wants : List Want). AreFirst (map (λ elem. elem.now) c.args.elems.now) wants) (sym c.as_slice-some.ensures) c.in_ok-wants.ensures)
    c.in_ok-spots.ensures
    (λ test. c.in_ok-found.ensures all index tt test
    ∙ ap (λ (spots : List Spot). list_any test (map (λ row. row.now) c.args.out) || list_any (wants_pick (elems_pick c.args.basis.now.schema.now all c.args.depth None) c.as_slice-some.result.now test) spots) c.as_slice-places.ensures)
