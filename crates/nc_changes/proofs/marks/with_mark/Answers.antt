use Rattle.nc_changes.proofs.MarkLemmas.{mark_added}
use Rattle.nc_changes.proofs.marks.with_mark.Goals as goal

pub returns : goal.returns
returns c = λ rows row is has. mark_added c.args.known c.insert.new.self c.args.mark rows row c.in_ok-insert.ensures.updates.0 is has
