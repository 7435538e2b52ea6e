use Rattle.nc_yang_scopes.specs.Numbers.{located}
use Rattle.nc_yang_scopes.proofs.BookLemmas.{resolved_across, resolved_plain}
use Rattle.nc_yang_scopes.proofs.book.Book.resolve.Goals as goal

pub returns-in-None : goal.returns-in-None
returns-in-None c =
    resolved_plain c.args.self.now.texts.now (located c.args.self.now.numbering.frames) c.args.keyword c.args.reference.now c.args.number
    c.nearest.result c.in-None.ensures c.nearest.ensures

pub returns-in-Some : goal.returns-in-Some
returns-in-Some c =
    resolved_across c.args.self.now.texts.now (located c.args.self.now.numbering.frames) c.args.keyword c.args.reference.now c.in-Some.prefix.now
    c.in-Some.word.now c.args.number c.prefixed.result c.in-Some.ensures c.prefixed.ensures
