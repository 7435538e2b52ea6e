use Rattle.std.proofs.Common.{◌≡◌, ◌∙◌, sym, rules}
use Rattle.std.specs.Cmp.Lexicographic.{pointwise}
use Rattle.nc_message.specs.Bindings.{is_same_bound}
use Rattle.nc_print.proofs.BoundLemmas.{bounds_decide}
use Rattle.nc_print.proofs.latest.same_names.Goals as goal

pub returns : goal.returns
returns c =
    let decide = bounds_decide c.args.names.now c.args.others.now in
    let word : c.eq.result ≡ pointwise is_same_bound c.args.names.now c.args.others.now = search rules in
    ((λ e. decide.0 (sym word ∙ e)), (λ e. word ∙ decide.1 e))
