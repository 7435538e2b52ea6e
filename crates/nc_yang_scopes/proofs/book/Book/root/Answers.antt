use Rattle.nc_yang_scopes.proofs.BookLemmas.{root_is, root_past}
use Rattle.nc_yang_scopes.proofs.book.Book.root.Goals as goal

pub returns-then-text-self : goal.returns-then-text-self
returns-then-text-self c =
    let book = c.args.self.now in
    root_is book.texts.now book.numbering.frames book.numbering.firsts c.requires.whole c.args.text c.if-text-self.true

pub returns-else-text-self : goal.returns-else-text-self
returns-else-text-self c = root_past c.args.self.now.texts.now c.args.text c.if-text-self.false
