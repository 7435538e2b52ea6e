use Rattle.std.proofs.Common.{◌∙◌, sym}
use Rattle.std.proofs.lemmas.Result.{IfOk-weaker}
use Rattle.nc_yang_leafs.proofs.UseLemmas.{typed}
use Rattle.nc_yang_leafs.proofs.paths.type_paths.Goals as goal

pub returns : goal.returns
returns c =
    IfOk-weaker c.plan_paths.result _ _
    (λ paths h. typed c.args.meanings.now c.args.statement c.in-Some.plan paths (sym c.plan_at.ensures ∙ c.in-Some.is) h) c.plan_paths.ensures
