use Rattle.nc_yang_words.proofs.Parts.{the_text_is_in_parts}
use Rattle.nc_yang_words.proofs.laws.text_is_in_parts.Goals as goal

pub returns : goal.returns
returns c = the_text_is_in_parts
