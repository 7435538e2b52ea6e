use Rattle.std.proofs.Common.{◌≡◌, ◌∙◌, Bool, true, ap, length, sym}
use Rattle.std.proofs.lemmas.List.{nil_from_length}
use Rattle.nc_payload.specs.declared.gather.Gathered.{Gathered}
use Rattle.nc_payload.specs.inner.Gathered.{IsNoted, TakesBlock, TakesRows}
use Rattle.nc_payload.proofs.GatherLemmas.{block_taken, no_rows_taken}
use Rattle.nc_payload.proofs.NotedLemmas.{place_noted, row_at}
use Rattle.nc_payload.proofs.PlacesLemmas.{ok_more}
use Rattle.nc_payload.proofs.gather.Gathered.take_block.Goals as goal

pub returns-in_default : goal.returns-in_default
returns-in_default c =
    let plan = c.args.plan.now in
    λ taken before is. no_rows_taken plan.schema.now plan.turns before c.args.self.now c.args.path.now c.args.block.now
    (nil_from_length c.args.block.now (ap length (sym c.as_slice.ensures) ∙ c.in_default.ensures.cases))
    (place_noted plan.schema.now plan.turns before c.args.self.now c.args.path.now.steps c.args.number is (c.has_no_turn.ensures taken))

pub returns : goal.returns
returns c =
    let plan = c.args.plan.now in
    let first = c.in-Some.first.now in
    let at = sym c.as_slice-2.ensures ∙ c.same_steps.ensures.same.0 c.if-not-same_steps.false ∙ c.as_slice-3.ensures in
    ok_more c.take_rows.result (λ (it : Bool). it ≡ true → TakesRows plan.schema.now plan.turns c.put_row.new.self c.in-Some.rest.now c.take_rows.new.self)
    (λ (it : Bool). it ≡ true → (before : Gathered) → IsNoted plan.schema.now plan.turns before c.args.path.now.steps c.args.number c.args.self.now →
    TakesBlock plan.schema.now plan.turns before c.args.path.now c.args.block.now c.take_rows.new.self)
    (λ it taken is before noted. block_taken plan.schema.now plan.turns before c.put_row.new.self c.take_rows.new.self c.args.path.now c.args.block.now c.in-Some.rest.now first
    (sym c.as_slice.ensures ∙ c.in-Some.ensures.cases.0)
    at
    (c.are_below.ensures c.if-not-are_below.false) (c.in_ok-climb.ensures c.if-not-branch.false)
    (c.in_ok-put_row.ensures c.if-not-branch-2.false before (row_at plan.schema.now plan.turns before c.args.self.now first c.args.path.now.steps c.args.number at noted)) (taken is))
    c.take_rows.ensures
