-- By the bindings that count.
use Rattle.std.proofs.Common.{ap, sym, ◌∙◌}
use Rattle.nc_path_places.specs.inner.Candidates.{far_among}
use Rattle.nc_path_places.specs.inner.Counted.{reading_of}
use Rattle.nc_path_places.proofs.FarLemmas.{far_of_usable}
use Rattle.nc_path_places.proofs.candidates.far_of.Goals as goal

pub returns-in-Some : goal.returns-in-Some
returns-in-Some c =
    let names = c.args.names.now in
    c.far_among.ensures ∙ ap (far_among c.in-Some.node.now c.args.text.now) c.as_slice.ensures ∙ sym (far_of_usable (reading_of names) names.usable c.args.text.now c.args.number c.in-Some.node.now c.requires.is (sym c.in-Some.ensures))
