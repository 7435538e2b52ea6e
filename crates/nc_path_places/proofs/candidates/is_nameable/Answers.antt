-- By the bindings that count.
use Rattle.std.proofs.Common.{ap, sym, ◌∙◌}
use Rattle.std.specs.List.{list_any}
use Rattle.nc_path_places.specs.inner.Candidates.{fits}
use Rattle.nc_path_places.specs.inner.Counted.{reading_of}
use Rattle.nc_path_places.proofs.FarLemmas.{any_of_usable}
use Rattle.nc_path_places.proofs.candidates.is_nameable.Goals as goal

pub returns-in-Some : goal.returns-in-Some
returns-in-Some c =
    let names = c.args.names.now in
    c.any_fits.ensures ∙ ap (list_any (fits c.in-Some.node.now)) c.as_slice.ensures ∙ sym (any_of_usable (reading_of names) names.usable c.args.number c.in-Some.node.now c.requires.is (sym c.in-Some.ensures))
