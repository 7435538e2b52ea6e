use Rattle.nc_changes.proofs.RankLemmas.{rank_put}
use Rattle.nc_changes.proofs.ranks.Ranks.with.Goals as goal

pub returns : goal.returns
returns c = λ are.
    rank_put c.args.old.now c.args.new.now (record { table = c.args.self.table }) (record { table = c.insert.new.self }) c.args.above
    (record { number = c.args.number; moves = c.in_ok-moves.moves }) are c.in_ok-moves.ensures c.in_ok-insert.ensures.updates.0
