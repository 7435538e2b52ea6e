use Rattle.std.proofs.Common.{◌∙◌, ℕ, List, refl, subst, sym, arith}
use Rattle.nc_names.specs.declared.path.Row.{Row}
use Rattle.nc_names.specs.declared.path.Step.{Step}
use Rattle.nc_edit.specs.inner.Behind.{IsAgain, MakeBehind}
use Rattle.nc_edit.proofs.BehindLemmas.{one_again, one_behind}
use Rattle.nc_edit.proofs.behind.push_behind.Goals as goal

pub loop-edit-init : goal.loop-edit-init
loop-edit-init c = (refl, c.requires.earlier, λ goes_on causes goes. refl)

pub loop-edit-preserved-then-is_again : goal.loop-edit-preserved-then-is_again
loop-edit-preserved-then-is_again c =
    let again : IsAgain c.args.path.now.steps c.loop-edit.rows c.in_ok-more.more =
    subst (λ (steps : List Step). IsAgain steps c.loop-edit.rows c.in_ok-more.more) c.as_slice.ensures
    (subst (λ (rows : List Row). IsAgain c.as_slice.result.now rows c.in_ok-more.more) c.as_slice-in-loop-edit.ensures
    (subst (λ (more : List Row). IsAgain c.as_slice.result.now c.as_slice-in-loop-edit.result.now more) c.as_slice-in-loop-edit-2.ensures
    (c.is_again.ensures c.if-is_again.true))) in (
      omega (arith, c.loop-edit.invariant.0),
      c.loop-edit.invariant.1,
      one_again c.args.schema.now c.args.path.now c.args.rows.now c.loop-edit.rows c.in_ok-more.more c.len-depth.result c.args.edits.now
          c.loop-edit.edit-index c.edit-item.result c.in-Some.step.now c.len-depth.ensures c.requires.free c.requires.below (omega arith)
          c.edit-item.is c.in-Some.ensures c.in_ok-more.ensures again c.loop-edit.invariant.2,
    )

pub loop-edit-preserved : goal.loop-edit-preserved
loop-edit-preserved c =
    let more = one_behind c.args.schema.now c.args.path.now c.args.rows.now c.loop-edit.rows c.append.new.self c.in_ok-more.more
    c.loop-edit.least c.len-depth.result c.keys_of-keys.result.now c.args.edits.now c.loop-edit.edit-index c.edit-item.result
    c.in-Some.step.now c.keys_of-keys.ensures c.len-depth.ensures c.requires.free c.requires.below (omega arith) c.edit-item.is
    c.in-Some.ensures (c.is_next.ensures c.if-not-is_next.false) c.in_ok-more.ensures c.in_ok-append.ensures.ok c.loop-edit.invariant.1
    c.loop-edit.invariant.2 in
    (omega (arith, c.loop-edit.invariant.0), more.0, more.1)

pub returns-in_default-clause-made : goal.returns-in_default-clause-made
returns-in_default-clause-made c =
    subst (λ (count : ℕ). MakeBehind c.args.schema.now c.args.path.now.steps c.args.rows.now c.loop-edit.rows c.args.edits.now count)
    (sym c.loop-edit.invariant.0) c.loop-edit.invariant.2

pub returns-then-not-is_next-clause-made : goal.returns-then-not-is_next-clause-made
returns-then-not-is_next-clause-made c =
    subst (λ (count : ℕ). MakeBehind c.args.schema.now c.args.path.now.steps c.args.rows.now c.loop-edit.rows c.args.edits.now count)
    (sym c.loop-edit.invariant.0) c.loop-edit.invariant.2

pub returns-clause-made : goal.returns-clause-made
returns-clause-made c =
    subst (λ (count : ℕ). MakeBehind c.args.schema.now c.args.path.now.steps c.args.rows.now c.loop-edit.rows c.args.edits.now count)
    (sym c.loop-edit.invariant.0) c.loop-edit.invariant.2
