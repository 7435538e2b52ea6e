use Rattle.std.proofs.Common.{sym}
use Rattle.nc_names.specs.Same.{is_same_name}
use Rattle.nc_requests.specs.inner.Parameters.{means}
use Rattle.nc_requests.proofs.ContentLemmas.{found_at, found_nowhere}
use Rattle.nc_requests.proofs.asking.taken.Goals as goal

pub returns-in-None : goal.returns-in-None
returns-in-None c =
    found_nowhere (λ elem. is_same_name elem.name (means c.args.parameter).name) c.args.elems (sym c.in-None.ensures)

pub returns-in-Some : goal.returns-in-Some
returns-in-Some c =
    found_at (λ elem. is_same_name elem.name (means c.args.parameter).name) c.args.elems c.in-Some.place c.remove.result
    (sym c.in-Some.ensures) c.remove.ensures.item
