use Rattle.std.proofs.Common.{get_or, sym, ◌∙◌}
use Rattle.std.specs.List.{flat_map}
use Rattle.std.proofs.lemmas.Option.{slice_get-get_or}
use Rattle.nc_yang_statements.specs.Rules.{first}
use Rattle.nc_yang_data.specs.Conditions.{key_conditions}
use Rattle.nc_yang_data.proofs.ConditionLemmas.{passed_at, stopped_at}
use Rattle.nc_yang_data.proofs.conditions.first_of_keys.Goals as goal

pub loop-key-preserved : goal.loop-key-preserved
loop-key-preserved c =
    let f = key_conditions c.args.scopes.now c.args.plan.now in
    let keys = c.args.keys.now in
    passed_at f keys c.loop-key.key-index (get_or keys c.loop-key.key-index 0) (first (flat_map f keys))
    (slice_get-get_or keys c.loop-key.key-index 0 c.loop-key-test.true)
    (sym c.key_condition.ensures ∙ c.in-None.is) c.loop-key.invariant

pub returns-in-Some : goal.returns-in-Some
returns-in-Some c =
    let f = key_conditions c.args.scopes.now c.args.plan.now in
    let keys = c.args.keys.now in
    stopped_at f keys c.loop-key.key-index (get_or keys c.loop-key.key-index 0) (first (flat_map f keys)) c.in-Some.found
    (slice_get-get_or keys c.loop-key.key-index 0 c.loop-key-test.true)
    (sym c.key_condition.ensures ∙ c.in-Some.is) c.loop-key.invariant
