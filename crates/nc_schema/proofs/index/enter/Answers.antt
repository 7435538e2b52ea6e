use Rattle.std.proofs.Common.{sym, ◌∙◌}
use Rattle.nc_schema.proofs.IndexLemmas.{entry_known, entry_put}
use Rattle.nc_schema.proofs.index.enter.Goals as goal

pub returns-then-contains_key : goal.returns-then-contains_key
returns-then-contains_key c =
    entry_known c.args.names.now c.args.name.now c.args.number (sym c.contains_key.ensures ∙ c.if-contains_key.true)

pub returns : goal.returns
returns c =
    entry_put c.args.names.now c.insert.new.self c.args.name.now c.in_ok-copy.field-0 c.args.number c.in_ok-copy.ensures
    (sym c.contains_key.ensures ∙ c.if-contains_key.false) c.in_ok-insert.ensures.updates.0
