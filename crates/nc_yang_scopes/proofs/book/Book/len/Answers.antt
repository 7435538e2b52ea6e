use Rattle.std.proofs.Common.{◌∙◌, sym}
use Rattle.nc_yang_scopes.proofs.Places.{length_located}
use Rattle.nc_yang_scopes.proofs.book.Book.len.Goals as goal

pub returns : goal.returns
returns c = c.len.ensures ∙ sym (length_located c.args.self.now.numbering.frames)
