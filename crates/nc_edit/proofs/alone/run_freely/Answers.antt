use Rattle.std.proofs.Common.{◌≡◌, ◌≤◌, ◌-◌, ◌∙◌, List, [], ap, arith, drop, length, subst, take}
use Rattle.std.proofs.lemmas.List.{length-drop, take_all}
use Rattle.std.specs.Prelude.{fold}
use Rattle.nc_protocol.specs.Applied.{Applied}
use Rattle.nc_protocol.specs.Unchecked.{every_right}
use Rattle.nc_protocol.specs.declared.edit.Edit.{Edit}
use Rattle.nc_edit.specs.inner.Turns.{turn}
use Rattle.nc_edit.proofs.AloneLemmas.{run_more}
use Rattle.nc_edit.proofs.alone.run_freely.Goals as goal

pub edits-preserved : goal.edits-preserved
edits-preserved c =
    let edits = c.args.edits.now in
    let done = c.edits.done in
    let more = c.in_ok-done.field-0 in
    let start : Applied = record { rows = c.args.config.now; causes = [] } in
    let before : Applied = record { rows = c.edits.config; causes = c.edits.causes } in
    let after : Applied = record { rows = c.stretch.new.config; causes = c.stretch.new.causes } in
    let rest : take (length edits - done) (drop done edits) ≡ drop done edits = take_all (length edits - done) (drop done edits) (omega (arith, length-drop done edits)) in
    let within : more ≤ length (drop done edits) = subst (λ (some : List Edit). more ≤ length some) rest c.in_ok-done.ensures.len in (
      omega (arith, c.edits.invariant.0, within, length-drop done edits),
      run_more (turn c.args.schema.now every_right c.args.goes_on) start before after edits done more c.edits.invariant.0 c.edits.invariant.1
          (c.in_ok-done.ensures.ok ∙ ap (λ (some : List Edit). fold (turn c.args.schema.now every_right c.args.goes_on) before (take more some)) rest),
    )
