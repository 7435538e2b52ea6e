use Rattle.std.proofs.Common.{◌≡◌, sym, subst, Some}
use Rattle.std.specs.Prelude.{slice_get}
use Rattle.nc_yang_leafs.specs.inner.Adding.{AreKnown}
use Rattle.nc_yang_leafs.proofs.AddingLemmas.{has_one, known_grown}
use Rattle.nc_yang_leafs.proofs.patterns.ask_one.Goals as goal

pub returns-in-Some-clause-ok : goal.returns-in-Some-clause-ok
returns-in-Some-clause-ok g c =
    has_one c.args.scopes.now.located c.args.statement c.args.schema.now c.args.known.now c.in-Some.number c.requires.known
    (subst (λ z. slice_get z c.args.statement ≡ Some (Some c.in-Some.number)) c.as_slice.ensures c.in-Some.ensures)

pub returns-clause-known : goal.returns-clause-known
returns-clause-known g c =
    subst (AreKnown c.args.scopes.now.located c.add_one.new.schema.patterns) (sym c.note.ensures)
    (known_grown c.args.scopes.now.located c.args.statement c.args.schema.now c.add_one.new.schema c.in_ok-number.number c.args.known.now c.requires.known c.in_ok-number.ensures.ok)
