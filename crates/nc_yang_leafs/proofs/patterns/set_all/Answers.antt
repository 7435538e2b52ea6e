use Rattle.std.proofs.Common.{◌≡◌, Some, refl, ◌∙◌, ap, sym, subst, rules}
use Rattle.std.specs.Prelude.{slice_get}
use Rattle.std.proofs.lemmas.Option.{slice_get-get_or}
use Rattle.std.proofs.lemmas.Result.{err_from_is_err_and}
use Rattle.std.specs.List.{All}
use Rattle.nc_yang_leafs.specs.Patterns.{IsReadable}
use Rattle.nc_yang_leafs.specs.inner.Adding.{SetsType}
use Rattle.nc_yang_leafs.proofs.PatternLemmas.{all_at}
use Rattle.nc_yang_leafs.specs.inner.Assembly.{both}
use Rattle.nc_yang_leafs.proofs.AddingLemmas.{has_none, has_turn, none_known, refused_type_on}
use Rattle.nc_yang_leafs.proofs.patterns.set_all.Goals as goal

pub loop-number-init : goal.loop-number-init
loop-number-init g c = (
  has_none c.args.scopes.now.located (both c.args.schema.now c.args.patterns.now) c.args.schema.now refl,
  none_known c.args.scopes.now.located c.args.schema.now.patterns c.len.result c.in_ok-known.known c.in_ok-known.ensures,
  refl,
)

pub set_patterns-requires-clause-readable : goal.set_patterns-requires-clause-readable
set_patterns-requires-clause-readable g c =
    all_at (All (IsReadable c.args.scopes.now.located)) c.args.patterns.now c.loop-number.number c.as_slice.result.now c.requires
    (slice_get-get_or c.args.patterns.now c.loop-number.number _ c.loop-number-test.true ∙ ap Some (sym c.index-patterns-number.is) ∙ ap Some (sym c.as_slice.ensures))

pub loop-number-preserved : goal.loop-number-preserved
loop-number-preserved g c =
    let here : slice_get c.args.patterns.now c.loop-number.number ≡ Some c.as_slice.result.now =
    (slice_get-get_or c.args.patterns.now c.loop-number.number _ c.loop-number-test.true ∙ ap Some (sym c.index-patterns-number.is) ∙ ap Some (sym c.as_slice.ensures)) in
    let place : c.in-Ok.place ≡ c.loop-number.number = search rules in (
      has_turn c.args.scopes.now.located (both c.args.schema.now c.args.patterns.now) c.loop-number.number c.as_slice.result.now c.loop-number.schema c.set_patterns.new.schema here
          c.loop-number.invariant.0 (subst (λ z. SetsType c.args.scopes.now.located z c.as_slice.result.now c.loop-number.schema c.set_patterns.new.schema) place c.in_ok-set_patterns.ensures.ok),
      c.in_ok-set_patterns.ensures.known,
      c.in_ok-set_patterns.ensures.same ∙ c.loop-number.invariant.2,
    )

pub returns-in_err-set_patterns-clause-fault : goal.returns-in_err-set_patterns-clause-fault
returns-in_err-set_patterns-clause-fault g c =
    let p = err_from_is_err_and c.from_residual-in_err-set_patterns.result c.from_residual-in_err-set_patterns.ensures.1 in
    let here : slice_get c.args.patterns.now c.loop-number.number ≡ Some c.as_slice.result.now =
    (slice_get-get_or c.args.patterns.now c.loop-number.number _ c.loop-number-test.true ∙ ap Some (sym c.index-patterns-number.is) ∙ ap Some (sym c.as_slice.ensures)) in
    rw (p.1, p.2)
    (refused_type_on c.args.scopes.now.located (both c.args.schema.now c.args.patterns.now) c.loop-number.number c.as_slice.result.now (g.M.Maker.refusals c.loop-number.maker)
    (g.M.Maker.refusals c.args.maker.now) (g.M.Maker.refusals c.set_patterns.new.maker) (g.M.Maker.last_refused c.set_patterns.new.maker) c.in_err-set_patterns.field-0.0
    c.loop-number.invariant.2 here c.in_err-set_patterns.ensures.fault)
