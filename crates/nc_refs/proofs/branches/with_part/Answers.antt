use Rattle.std.proofs.Common.{sym, ◌∙◌}
use Rattle.nc_refs.proofs.BranchLemmas.{there_stays, one_more}
use Rattle.nc_refs.proofs.branches.with_part.Goals as goal

pub returns-then-contains_key : goal.returns-then-contains_key
returns-then-contains_key c =
    there_stays c.args.table c.args.step c.args.span (sym c.contains_key.ensures ∙ c.if-contains_key.true)

pub returns : goal.returns
returns c =
    one_more c.args.table c.insert.new.self c.args.step c.args.span (sym c.contains_key.ensures ∙ c.if-contains_key.false)
    c.in_ok-insert.ensures.updates.0
