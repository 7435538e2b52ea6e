use Rattle.std.proofs.Common.{sym}
use Rattle.nc_yang_scopes.proofs.PartLemmas.{part_found, part_lost}
use Rattle.nc_yang_scopes.proofs.part.part_of.Goals as goal

pub returns-in-Some-place_of : goal.returns-in-Some-place_of
returns-in-Some-place_of c =
    part_found c.args.scopes.now c.args.number c.in-Some.statement.now c.as_slice-among.result.now (sym c.in-Some.ensures) c.as_slice-among.ensures
    c.args.keyword c.in-Some-place_of.place c.child.result (sym c.in-Some-place_of.ensures) c.child.ensures

pub returns-in-None : goal.returns-in-None
returns-in-None c =
    part_lost c.args.scopes.now c.args.number c.in-Some.statement.now c.as_slice-among.result.now (sym c.in-Some.ensures) c.as_slice-among.ensures
    c.args.keyword (sym c.in-None.ensures)
