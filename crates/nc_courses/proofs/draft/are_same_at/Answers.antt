use Rattle.nc_courses.proofs.Drafts.{apart_at}
use Rattle.nc_courses.proofs.draft.are_same_at.Goals as goal

pub returns : goal.returns
returns c =
    apart_at c.args.config.now c.args.other.now c.args.path.now.steps c.get.result c.get-2.result c.are_same.result c.get.ensures c.get-2.ensures
    c.are_same.ensures.1
