use Rattle.std.proofs.Common.{◌∙◌, refl, ap}
use Rattle.std.specs.Prelude.{map}
use Rattle.std.specs.List.{flat_map, list_any}
use Rattle.nc_filter.specs.inner.Labels.{below_of, level_labels}
use Rattle.nc_filter.proofs.wants.want_of.Goals as goal

pub returns : goal.returns
returns c = (
  refl,
  λ test. c.in_ok-all.ensures test ∙ ap (λ elems. list_any test (flat_map level_labels (map (λ elem. elem.now) elems))) c.as_slice-some.ensures,
  c.in_ok-below.ensures ∙ ap (λ elems. below_of (map (λ elem. elem.now) elems)) c.as_slice-some.ensures,
)
