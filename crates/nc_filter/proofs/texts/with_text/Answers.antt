use Rattle.nc_filter.proofs.TableLemmas.{text_added}
use Rattle.nc_filter.proofs.texts.with_text.Goals as goal

pub returns : goal.returns
returns c = text_added c.args.items c.insert.new.self c.args.text c.in_ok-insert.ensures.updates.0
