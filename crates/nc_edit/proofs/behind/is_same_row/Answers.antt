use Rattle.std.proofs.Common.{◌≡◌, rules}
use Rattle.std.proofs.lemmas.Bool.Decides.{Decides-at}
use Rattle.nc_names.proofs.SameLemmas.{row_decide}
use Rattle.nc_names.specs.Same.{is_same_row}
use Rattle.nc_edit.proofs.behind.is_same_row.Goals as goal

pub returns : goal.returns
returns c =
    let word : c.eq.result ≡ is_same_row c.args.row.now c.args.other.now = search rules in
    Decides-at c.eq.result (is_same_row c.args.row.now c.args.other.now) word (row_decide c.args.row.now c.args.other.now)
