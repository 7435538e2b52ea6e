use Rattle.std.proofs.Common.{◌∙◌}
use Rattle.nc_yang_scopes.proofs.BookLemmas.{text_is}
use Rattle.nc_yang_scopes.proofs.book.Book.text_of.Goals as goal

pub returns : goal.returns
returns c = text_is c.args.self.now.texts.now c.args.name.now c.get.result (c.get.ensures ∙ c.requires.names.modules c.args.name.now)
