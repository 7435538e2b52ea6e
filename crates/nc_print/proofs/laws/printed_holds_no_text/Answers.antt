use Rattle.nc_print.proofs.PartsLemmas.{printed_holds_no_text}
use Rattle.nc_print.proofs.laws.printed_holds_no_text.Goals as goal

pub returns : goal.returns
returns c = printed_holds_no_text
