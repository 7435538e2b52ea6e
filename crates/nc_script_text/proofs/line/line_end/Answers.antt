-- The place of the first line feed.
use Rattle.nc_script_text.proofs.Feeds.{ends_at}
use Rattle.nc_script_text.proofs.line.line_end.Goals as goal

pub returns : goal.returns
returns c = ends_at c.args.text.now c.memchr.result c.memchr.ensures
