-- One more step is read.
use Rattle.std.proofs.Common.{◌≡◌, ◌+◌, ◌-◌, List, length, subst, sym, rules, arith}
use Rattle.nc_schema.specs.PathWords.{steps_within, written_steps}
use Rattle.nc_schema.specs.declared.written.WrittenStep.{WrittenStep}
use Rattle.nc_paths.specs.inner.Prepend.{before}
use Rattle.nc_paths.proofs.StepLemmas.{next_step, some_length}
use Rattle.nc_paths.proofs.steps.steps.Goals as goal

pub loop-turn-preserved : goal.loop-turn-preserved
loop-turn-preserved c =
    let text = c.args.text.now in
    let ok = c.in_ok-rest.ensures.ok in (
      subst (λ (found : List WrittenStep). written_steps text ≡ before found (steps_within (length text - (c.loop-turn.turn + 1)) c.in_ok-rest.rest.now)) (sym ok.2)
          (next_step (written_steps text) (length text) c.loop-turn.turn c.loop-turn.steps c.loop-turn.rest.now c.in_ok-rest.rest.now ok.0 c.loop-turn.invariant.0 (omega arith) ok.1 (some_length c.loop-turn.rest.now (search rules))),
      search rules,
    )
