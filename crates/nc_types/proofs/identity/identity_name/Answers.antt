-- A name with a prefix.
use Rattle.std.proofs.Common.{◌≡◌, false, Some, eqb, length, rules}
use Rattle.nc_types.proofs.IdentityLemmas.{colon_name}
use Rattle.nc_types.proofs.identity.identity_name.Goals as goal

pub returns-in_ok-name_in-in-Some-clause-ok : goal.returns-in_ok-name_in-in-Some-clause-ok
returns-in_ok-name_in-in-Some-clause-ok g c =
    let some : eqb (length c.in-Some.prefix.now) 0 ≡ false = search rules in
    colon_name (g.B.Binds.bound c.args.bounds.now) c.args.text.now c.in-Some.prefix.now c.in-Some.name.now (Some c.in_ok-name_in-in-Some.field-0)
    c.in-Some.ensures.0 c.in-Some.ensures.1 c.in-Some.ensures.2 some c.in_ok-name_in-in-Some.ensures.ok
