use Rattle.std.proofs.Common.{refl, map, ap, ◌∙◌, take_all}
use Rattle.nc_yang.specs.inner.Names.{name_at}
use Rattle.nc_yang.proofs.NamingLemmas.{named_more}
use Rattle.nc_yang.proofs.names.names_of.Goals as goal

pub loop-number-preserved : goal.loop-number-preserved
loop-number-preserved c =
    named_more c.args.scopes.now c.args.numbers.now c.loop-number.number-index _ c.loop-number.names c.push.new.self c.in_ok-name_of.field-0
    c.loop-number-test.true refl c.loop-number.invariant c.in_ok-name_of.ensures c.in_ok-push.ensures.ok

pub returns : goal.returns
returns c =
    c.loop-number.invariant
    ∙ ap (map (name_at c.args.scopes.now)) (take_all c.loop-number.number-index c.args.numbers.now c.loop-number-test.false)
