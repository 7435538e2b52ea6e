use Rattle.std.proofs.Common.{[], arith, subst, sym}
use Rattle.std.proofs.lemmas.Option.{slice_get-get_or}
use Rattle.nc_yang_nodes.specs.FeaturesOn.{is_on}
use Rattle.nc_yang_scopes.specs.Numbers.{AreNumbers}
use Rattle.nc_yang_scopes.specs.Scopes.{Scoping}
use Rattle.nc_yang_nodes.specs.Identities.{identities}
use Rattle.nc_yang_nodes.specs.Picks.{PicksNumbers}
use Rattle.nc_yang_nodes.specs.Values.{IsValue}
use Rattle.nc_yang_nodes.proofs.PickLemmas.{looked_all, looks_at, picks_nothing, supported_here}
use Rattle.nc_yang_nodes.proofs.identities.Identities.supported.Goals as goal

pub loop-number-init : goal.loop-number-init
loop-number-init c =
    subst (PicksNumbers c.args.self.now.located (IsValue c.args.self.now.texts (is_on c.args.features.now) []) []) (sym c.new-kept.ensures)
    (picks_nothing c.args.self.now.located (IsValue c.args.self.now.texts (is_on c.args.features.now) []))

pub loop-number-preserved : goal.loop-number-preserved
loop-number-preserved c =
    looks_at c.args.self.now.located (IsValue c.args.self.now.texts (is_on c.args.features.now) []) c.list-list.result.now (identities c.args.self.now.texts) c.loop-number.number-index _ c.is_supported_at.result c.loop-number.kept c.keep_if.new.kept
    (subst (λ (s : Scoping). AreNumbers s.located c.list-list.result.now (identities s.texts)) c.self.view_is c.list-list.ensures)
    (slice_get-get_or c.list-list.result.now c.loop-number.number-index _ c.loop-number-test.true)
    (supported_here c.self.inside.places c.args.self.now c.scopes-scopes.result.now c.self.view_is c.scopes-scopes.ensures (is_on c.args.features.now) _ c.is_supported_at.result c.is_supported_at.ensures)
    c.loop-number.invariant c.in_ok-keep_if.ensures

pub returns : goal.returns
returns c =
    looked_all c.args.self.now.located (IsValue c.args.self.now.texts (is_on c.args.features.now) []) c.list-list.result.now (identities c.args.self.now.texts) c.loop-number.number-index c.loop-number.kept
    (subst (λ (s : Scoping). AreNumbers s.located c.list-list.result.now (identities s.texts)) c.self.view_is c.list-list.ensures) (omega arith) c.loop-number.invariant
