use Rattle.std.proofs.Common.{[], subst, sym, ◌∙◌, inl, inr, refl}
use Rattle.nc_message_read.specs.inner.State.{state_of}
use Rattle.nc_message_read.specs.inner.Turn.{Went, Halts}
use Rattle.nc_message_read.proofs.Complete.{spells_of}
use Rattle.nc_message_read.proofs.read.read_all.Goals as goal

pub returns-in-Some : goal.returns-in-Some
returns-in-Some c =
    let bytes = c.args.bytes.now in
    let halts : Halts (state_of c.new.result) bytes c.in-Some.stop = rw c.in-Some.is at c.in_ok-stop.ensures in
    inl (subst (λ s. Halts s bytes c.in-Some.stop) c.new.ensures halts)

pub returns-in-Some-finish : goal.returns-in-Some-finish
returns-in-Some-finish c =
    let bytes = c.args.bytes.now in
    let s = state_of c.take_all.new.self.stack in
    let went : Went (state_of c.new.result) bytes s [] = rw c.in_default.is at c.in_ok-stop.ensures in
    spells_of bytes s c.in-Some-finish.root (subst (λ b. Went b bytes s []) c.new.ensures went) (sym c.finish.ensures ∙ c.in-Some-finish.is)

pub returns-in-None : goal.returns-in-None
returns-in-None c =
    let bytes = c.args.bytes.now in
    let s = state_of c.take_all.new.self.stack in
    let went : Went (state_of c.new.result) bytes s [] = rw c.in_default.is at c.in_ok-stop.ensures in
    inr (s, subst (λ b. Went b bytes s []) c.new.ensures went, sym c.finish.ensures ∙ c.in-None.is, refl, refl)
