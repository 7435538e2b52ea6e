use Rattle.std.proofs.Common.{◌≡◌, ℕ, Bool, true, Option, subst}
use Rattle.std.specs.Prelude.{IfSome}
use Rattle.nc_names.specs.declared.path.Place.TheVariants.{Kept}
use Rattle.nc_protocol.specs.declared.edit.Action.TheVariants.{Merge}
use Rattle.nc_protocol.specs.declared.edit.Edit.{Edit}
use Rattle.nc_payload.specs.declared.gather.Gathered.{Gathered}
use Rattle.nc_payload.specs.inner.Gathered.{Gathers, IsNoted, IsReady, Stands, TakesBlock}
use Rattle.nc_payload.proofs.GatherLemmas.{block_merged}
use Rattle.nc_payload.proofs.NotedLemmas.{leaf_noted}
use Rattle.nc_payload.proofs.PlacesLemmas.{ok_more}
use Rattle.nc_payload.proofs.gather.Gathered.take_merge.Goals as goal

pub returns-then-branch : goal.returns-then-branch
returns-then-branch c =
    let plan = c.args.plan.now in
    let path = c.args.path.now in
    let edit : Edit = record { path = path; action = Merge c.args.value.now; place = Kept } in
    let ready = subst (λ (o : Option ℕ). IfSome o (λ number. IsReady plan.schema.now plan.turns c.args.self.now path.steps number)) c.in-Some.is c.in_ok-ready.ensures in
    ok_more c.take_block.result
    (λ (it : Bool). it ≡ true → (before : Gathered) → IsNoted plan.schema.now plan.turns before path.steps c.in-Some.number c.note.new.self →
    TakesBlock plan.schema.now plan.turns before path c.in_ok-block.block c.take_block.new.self)
    (λ (it : Bool). it ≡ true → Gathers plan.schema.now plan.turns c.args.self.now edit c.take_block.new.self)
    (λ it taken is. block_merged plan.schema.now plan.turns c.args.self.now c.take_block.new.self path c.args.value.now c.in_ok-block.block c.in_ok-block.ensures
    (taken is c.args.self.now (ready, c.in_ok-note.ensures.noted c.if-branch.true)))
    c.take_block.ensures

pub returns : goal.returns
returns c =
    let plan = c.args.plan.now in
    let path = c.args.path.now in
    let edit : Edit = record { path = path; action = Merge c.args.value.now; place = Kept } in
    ok_more c.stands.result (λ (it : Bool). it ≡ true → Stands plan.schema.now plan.turns c.note.new.self path c.in_ok-block.block)
    (λ (it : Bool). it ≡ true → Gathers plan.schema.now plan.turns c.args.self.now edit c.note.new.self)
    (λ it stands is. leaf_noted plan.schema.now plan.turns c.args.self.now c.note.new.self path c.args.value.now c.in_ok-block.block
    (c.in_ok-note.ensures.stood c.if-branch.false) (stands is) c.in_ok-block.ensures)
    c.stands.ensures
