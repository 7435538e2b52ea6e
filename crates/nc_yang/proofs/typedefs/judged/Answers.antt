use Rattle.std.proofs.Common.{[], arith, subst, sym}
use Rattle.std.proofs.lemmas.Option.{slice_get-get_or}
use Rattle.nc_yang_scopes.specs.Numbers.{AreNumbers}
use Rattle.nc_yang_nodes.specs.Picks.{PicksNumbers}
use Rattle.nc_yang_nodes.proofs.PickLemmas.{looked_all, looks_at, picks_nothing}
use Rattle.nc_yang.specs.Typedefs.{IsJudged, typedefs}
use Rattle.nc_yang.proofs.typedefs.judged.Goals as goal

pub loop-number-init : goal.loop-number-init
loop-number-init c = λ on are.
    subst (PicksNumbers c.args.scopes.now.located (IsJudged on c.args.scopes.now.texts) []) (sym c.new-kept.ensures)
    (picks_nothing c.args.scopes.now.located (IsJudged on c.args.scopes.now.texts))

pub loop-number-preserved : goal.loop-number-preserved
loop-number-preserved c = λ on are.
    looks_at c.args.scopes.now.located (IsJudged on c.args.scopes.now.texts) c.as_slice-list.result.now (typedefs c.args.scopes.now.texts) c.loop-number.number-index _ c.is_judged.result c.loop-number.kept c.keep_if.new.kept
    (subst (λ ns. AreNumbers c.args.scopes.now.located ns (typedefs c.args.scopes.now.texts)) (sym c.as_slice-list.ensures) c.in_ok-all.ensures)
    (slice_get-get_or c.as_slice-list.result.now c.loop-number.number-index _ c.loop-number-test.true)
    (c.is_judged.ensures on are) (c.loop-number.invariant on are) c.in_ok-keep_if.ensures

pub returns : goal.returns
returns c = λ on are.
    looked_all c.args.scopes.now.located (IsJudged on c.args.scopes.now.texts) c.as_slice-list.result.now (typedefs c.args.scopes.now.texts) c.loop-number.number-index c.loop-number.kept
    (subst (λ ns. AreNumbers c.args.scopes.now.located ns (typedefs c.args.scopes.now.texts)) (sym c.as_slice-list.ensures) c.in_ok-all.ensures)
    (omega arith) (c.loop-number.invariant on are)
