use Rattle.std.proofs.Common.{Some, None}
use Rattle.nc_yang_scopes.specs.inner.Frames.{entry_of}
use Rattle.nc_yang_scopes.proofs.BookLemmas.{statement_is}
use Rattle.nc_yang_scopes.proofs.book.Book.statement.Goals as goal

pub returns-in-Some : goal.returns-in-Some
returns-in-Some c =
    let book = c.args.self.now in
    statement_is book.texts.now book.numbering.frames book.numbering.firsts c.requires.whole c.args.number (Some (entry_of c.in-Some.frame))
    c.in-Some.ensures.value

pub returns-in-None : goal.returns-in-None
returns-in-None c =
    let book = c.args.self.now in
    statement_is book.texts.now book.numbering.frames book.numbering.firsts c.requires.whole c.args.number None c.in-None.ensures.value
