use Rattle.std.proofs.Common.{◌∙◌, ap}
use Rattle.std.specs.List.{list_any}
use Rattle.nc_filter.proofs.ListLemmas.{sorted_is}
use Rattle.nc_filter.proofs.groups.sorted_lists.Goals as goal

pub returns : goal.returns
returns c = λ test.
    ap (list_any test) c.from_vec.ensures ∙ sorted_is c.into_vec-items.result.items c.sort_by.new.self.items c.sort_by.ensures.permutation test ∙ ap (list_any test) c.into_vec-items.ensures
