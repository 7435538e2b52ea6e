use Rattle.std.proofs.Common.{◌∙◌, sym}
use Rattle.nc_yang_scopes.proofs.TableLemmas.{one_there, one_put}
use Rattle.nc_yang_scopes.proofs.table.Table.with.Goals as goal

pub returns-then-contains_key : goal.returns-then-contains_key
returns-then-contains_key c = one_there c.args.self c.args.block c.args.word.now c.args.number (sym c.contains_key.ensures ∙ c.if-contains_key.true)

pub returns : goal.returns
returns c =
    one_put c.args.self (record { numbers = c.insert.new.self }) c.args.block c.args.word c.args.number (sym c.contains_key.ensures ∙ c.if-contains_key.false)
    c.in_ok-insert.ensures.updates.0
