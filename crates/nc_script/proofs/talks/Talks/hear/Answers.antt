use Rattle.std.proofs.Common.{refl, sym, subst}
use Rattle.nc_script.proofs.Steppings.{heard_step, stands_at}
use Rattle.nc_script.specs.inner.Boards.{WasBadStep}
use Rattle.nc_script.specs.inner.Talking.{Stands}
use Rattle.nc_script.proofs.talks.Talks.hear.Goals as goal

pub returns-in_default : goal.returns-in_default
returns-in_default g c = λ schema board stand. WasBadStep (c.in_default.ensures.finds schema board stand) refl

pub returns : goal.returns
returns g c = λ schema board stand.
    let at = (c.in-Some.ensures.finds schema board stand).0 in
    let kept = subst (λ t. Stands schema t at.connection) (sym c.index_mut.ensures.value)
    (stands_at schema c.args.self.now board c.args.number c.in-Some.place c.index_mut.result.now stand at) in
    heard_step schema c.args.self.now _ board c.args.number c.in-Some.place c.args.piece.now c.hear.new.self c.args.machine.now
    c.hear.new.machine c.hear.result stand at refl refl refl (c.hear.ensures schema at.connection kept)
