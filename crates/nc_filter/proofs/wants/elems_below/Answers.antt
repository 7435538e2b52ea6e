use Rattle.std.proofs.Common.{◌∙◌, ap}
use Rattle.std.specs.Prelude.{map}
use Rattle.std.specs.List.{filter}
use Rattle.nc_protocol.specs.Filter.{is_containment}
use Rattle.nc_filter.proofs.wants.elems_below.Goals as goal

pub returns : goal.returns
returns c = c.in_ok-found.ensures ∙ ap (λ elems. filter is_containment (map (λ elem. elem.now) elems)) c.as_slice.ensures ∙ ap (filter is_containment) c.in_ok-below.ensures
