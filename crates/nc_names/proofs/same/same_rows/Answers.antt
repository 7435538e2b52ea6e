use Rattle.std.proofs.Common.{◌≡◌, ◌∙◌, sym, rules}
use Rattle.nc_names.specs.Same.{is_same_rows}
use Rattle.nc_names.proofs.SameLemmas.{rows_decide}
use Rattle.nc_names.proofs.same.same_rows.Goals as goal

pub returns-clause-same : goal.returns-clause-same
returns-clause-same c =
    let decide = rows_decide c.args.a.now c.args.b.now in
    let word : c.eq.result ≡ is_same_rows c.args.a.now c.args.b.now = search rules in
    ((λ e. decide.0 (sym word ∙ e)), (λ e. word ∙ decide.1 e))
