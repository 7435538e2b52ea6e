-- The text after a sign.
use Rattle.std.proofs.Common.{sym, ◌∙◌, refl}
use Rattle.nc_paths.proofs.CutLemmas.{cut_first}
use Rattle.nc_paths.proofs.cut.after_byte.Goals as goal

pub split_at-requires : goal.split_at-requires
split_at-requires c = cut_first c.args.byte c.args.text.now c.args.text.now c.requires (sym c.begins_with.ensures ∙ c.if-begins_with.true) refl c.utf8.text
