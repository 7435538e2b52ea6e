use Rattle.std.proofs.Common.{◌∙◌}
use Rattle.nc_yang_scopes.specs.Numbers.{located}
use Rattle.nc_yang_scopes.proofs.BookLemmas.{plain_of, top_is, top_past}
use Rattle.nc_yang_scopes.proofs.book.Book.topmost.Goals as goal

pub returns-then-text-self : goal.returns-then-text-self
returns-then-text-self c =
    let book = c.args.self.now in
    top_is book.texts.now book.numbering.frames book.numbering.firsts c.requires.book.whole c.args.keyword c.args.word.now
    (plain_of c.args.keyword c.requires.keyword) c.args.text c.if-text-self.true c.get.result (c.get.ensures ∙ c.table.ensures c.args.text c.args.word.now)

pub returns-else-text-self : goal.returns-else-text-self
returns-else-text-self c =
    top_past c.args.self.now.texts.now (located c.args.self.now.numbering.frames) c.args.keyword c.args.word.now c.args.text c.if-text-self.false
