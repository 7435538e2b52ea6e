use Rattle.std.proofs.Common.{◌≡◌, ℕ, Bool, true, Option, subst}
use Rattle.std.specs.Prelude.{IfSome}
use Rattle.nc_payload.specs.declared.gather.Gathered.{Gathered}
use Rattle.nc_payload.specs.inner.Gathered.{IsNoted, IsReady, TakesRow}
use Rattle.nc_payload.proofs.PlacesLemmas.{ok_more}
use Rattle.nc_payload.proofs.gather.Gathered.take_row.Goals as goal

pub returns : goal.returns
returns c =
    let plan = c.args.plan.now in
    let row = c.args.row.now in
    let ready = subst (λ (o : Option ℕ). IfSome o (λ number. IsReady plan.schema.now plan.turns c.args.self.now row.path.steps number)) c.in-Some.is c.in_ok-ready.ensures in
    ok_more c.put_row.result
    (λ (it : Bool). it ≡ true → (before : Gathered) → IsNoted plan.schema.now plan.turns before row.path.steps c.in-Some.number c.note.new.self → TakesRow plan.schema.now plan.turns before row c.put_row.new.self)
    (λ (it : Bool). it ≡ true → TakesRow plan.schema.now plan.turns c.args.self.now row c.put_row.new.self)
    (λ it taken is. taken is c.args.self.now (ready, c.in_ok-note.ensures.noted c.if-not-branch.false))
    c.put_row.ensures
