use Rattle.std.proofs.Common.{map, string_bytes, subst}
use Rattle.std.specs.Prelude.{codes}
use Rattle.nc_edge.specs.Addresses.{IsAddress}
use Rattle.nc_words.proofs.Arguments.{address_named, same_second}
use Rattle.nc_words.proofs.words.read_serve.Goals as goal

pub returns-in-Some : goal.returns-in-Some
returns-in-Some c = record {
  is = c.in_ok-it.ensures;
  address_is = address_named c.in_ok-it.it.second.now c.in-Some.field-0 c.in-Some.ensures.names;
}

pub returns-in-None : goal.returns-in-None
returns-in-None c = λ folder address is. c.in-None.ensures.none (subst IsAddress
    (same_second (codes "serve") (map string_bytes c.args.words.now) folder address c.in_ok-it.it.first.now c.in_ok-it.it.second.now is.is
    c.in_ok-it.ensures) is.address_is)
