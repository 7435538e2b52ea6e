use Rattle.std.proofs.Common.{sym, ap, ◌∙◌}
use Rattle.std.specs.Option.{option_copied}
use Rattle.nc_changes.proofs.RankLemmas.{above_none}
use Rattle.nc_changes.proofs.ranks.Above.get.Goals as goal

pub returns-in-None : goal.returns-in-None
returns-in-None c = λ order known. above_none c.args.self.now order c.args.keys known (sym (ap option_copied c.in-None.is) ∙ c.get.ensures.value)
