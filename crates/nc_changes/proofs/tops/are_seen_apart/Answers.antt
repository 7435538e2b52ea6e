use Rattle.std.proofs.Common.{List, subst, ◌≡◌, true}
use Rattle.std.specs.Prelude.{IfOk}
use Rattle.nc_names.specs.declared.path.Row.{Row}
use Rattle.nc_changes.specs.Apart.{AreApart}
use Rattle.nc_changes.proofs.tops.are_seen_apart.Goals as goal

pub returns : goal.returns
returns c =
    subst (λ (rows : List Row). IfOk c.are_tops_apart-seen.result (λ it. it ≡ true → AreApart rows)) c.in_ok-rest.ensures
    c.are_tops_apart-seen.ensures
