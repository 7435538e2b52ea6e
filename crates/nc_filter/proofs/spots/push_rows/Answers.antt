use Rattle.std.proofs.Common.{◌∙◌, ◌||◌, ap, refl, sym}
use Rattle.std.specs.Prelude.{map}
use Rattle.std.specs.List.{list_any}
use Rattle.nc_filter.proofs.SpotLemmas.{rows_spotted}
use Rattle.nc_filter.proofs.TableLemmas.{taken_all}
use Rattle.nc_filter.proofs.Unions.{or_false}
use Rattle.nc_filter.proofs.spots.push_rows.Goals as goal

pub loop-row-init : goal.loop-row-init
loop-row-init c = λ f. sym (or_false (list_any (λ spot. f spot.number spot.row.now) c.args.spots))

pub loop-row-preserved : goal.loop-row-preserved
loop-row-preserved c =
    rows_spotted c.loop-row.spots c.push.new.self c.args.rows.now c.args.number c.loop-row.row-index c.row-item.result (record { number = c.args.number; row = c.row-item.result })
    (λ f. list_any (λ spot. f spot.number spot.row.now) c.args.spots) c.loop-row-test.true c.row-item.is refl refl c.in_ok-push.ensures.ok c.loop-row.invariant

pub returns : goal.returns
returns c = λ f.
    c.loop-row.invariant f
    ∙ ap (λ rows. list_any (λ spot. f spot.number spot.row.now) c.args.spots || list_any (f c.args.number) (map (λ row. row.now) rows)) (taken_all c.args.rows.now c.loop-row.row-index c.loop-row-test.false)
