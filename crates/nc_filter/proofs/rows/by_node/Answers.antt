use Rattle.std.proofs.Common.{◌∙◌, ap}
use Rattle.std.specs.Prelude.{map}
use Rattle.std.specs.List.{list_any}
use Rattle.nc_filter.proofs.ListLemmas.{moved_is}
use Rattle.nc_filter.proofs.rows.by_node.Goals as goal

pub returns : goal.returns
returns c = λ test.
    ap (λ rows. list_any test (map (λ row. row.now) rows)) c.from_vec.ensures
    ∙ moved_is (λ row. row.now) c.into_vec-items.result.items c.sort_by_key.new.self.items c.sort_by_key.ensures.permutation test
    ∙ ap (λ rows. list_any test (map (λ row. row.now) rows)) c.into_vec-items.ensures
