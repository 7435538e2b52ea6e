use Rattle.std.proofs.Common.{◌∙◌}
use Rattle.nc_yang_scopes.proofs.BookLemmas.{out_none, out_some}
use Rattle.nc_yang_scopes.proofs.book.Book.is_defined_out.Goals as goal

pub returns-in-Some : goal.returns-in-Some
returns-in-Some c =
    let book = c.args.self.now in
    c.is_some.ensures
    ∙ out_some book.texts.now book.numbering.frames book.numbering.firsts c.requires.book.whole c.args.keyword c.args.word.now c.args.number
    c.in-Some.block c.in-Some.ensures c.nearest.result c.nearest.ensures

pub returns-in-None : goal.returns-in-None
returns-in-None c =
    let book = c.args.self.now in
    out_none book.texts.now book.numbering.frames book.numbering.firsts c.requires.book.whole c.args.keyword c.args.word.now c.args.number
    c.in-None.ensures
