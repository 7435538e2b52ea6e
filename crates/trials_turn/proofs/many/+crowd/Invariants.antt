use Rattle.std.proofs.Common.{◌+◌, ◌*◌}
use Rattle.trials_turn.proofs.many.+crowd.Given as goal

abbrev pub decreases-enter_by_each : goal.decreases-enter_by_each
decreases-enter_by_each g l = 2 * l.threads

abbrev pub decreases-far : goal.decreases-far
decreases-far g l = 2 * l.more + 1
