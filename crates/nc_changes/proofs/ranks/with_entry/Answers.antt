use Rattle.std.proofs.Common.{sym, ◌∙◌}
use Rattle.nc_changes.proofs.RankLemmas.{known_above, one_above}
use Rattle.nc_changes.proofs.ranks.with_entry.Goals as goal

pub returns-then-contains_key : goal.returns-then-contains_key
returns-then-contains_key c = λ order known.
    known_above c.args.above c.args.entry order known (sym c.contains_key.ensures ∙ c.if-contains_key.true)

pub returns : goal.returns
returns c = λ order known.
    one_above c.args.above c.args.entry order c.insert.new.self known (sym c.contains_key.ensures ∙ c.if-contains_key.false) c.in_ok-insert.ensures.updates.0
