use Rattle.std.proofs.Common.{sym}
use Rattle.nc_schema.specs.Values.{canonical}
use Rattle.nc_yang_scopes.specs.Prefixes.{ArePrefixes, prefixes_in}
use Rattle.nc_yang_leafs.proofs.ValueLemmas.{value_read}
use Rattle.nc_yang_leafs.proofs.value.value.Goals as goal

pub returns : goal.returns
returns c =
    let scoping = c.args.scopes.now in
    value_read scoping c.args.schema.now c.args.number c.args.default c.in-Some-Some.statement.now c.in-Some-Some.text c.name-word.result.now
    c.in-Some-Some.ensures c.in-Some-Some.ensures' c.name-word.ensures (sym c.if-is_unread.ensures) (ArePrefixes scoping.texts c.args.prefixes.now) c.if_in_type.result
    (λ are. c.if_in_type.ensures (canonical c.args.schema.now c.args.number c.name-word.result.now (prefixes_in scoping.texts c.in-Some-Some.text)) (c.read.ensures are))
