use Rattle.std.proofs.Common.{◌∙◌, refl}
use Rattle.std.specs.Prelude.{None}
use Rattle.nc_yang_statements.specs.declared.keyword.Keyword.TheVariants.{Revision}
use Rattle.nc_yang_scopes.specs.Numbers.{located}
use Rattle.nc_yang_scopes.proofs.BookLemmas.{revision_is, top_is, top_past}
use Rattle.nc_yang_scopes.proofs.book.Book.has_revision.Goals as goal

pub returns-then-text-self : goal.returns-then-text-self
returns-then-text-self c =
    let book = c.args.self.now in
    c.is_some.ensures
    ∙ revision_is book.texts.now (located book.numbering.frames) c.args.text c.args.date.now c.get.result
    (top_is book.texts.now book.numbering.frames book.numbering.firsts c.requires.whole Revision c.args.date.now refl c.args.text
    c.if-text-self.true c.get.result (c.get.ensures ∙ c.requires.names.revisions c.args.text c.args.date.now))

pub returns-else-text-self : goal.returns-else-text-self
returns-else-text-self c =
    let book = c.args.self.now in
    revision_is book.texts.now (located book.numbering.frames) c.args.text c.args.date.now None
    (top_past book.texts.now (located book.numbering.frames) Revision c.args.date.now c.args.text c.if-text-self.false)
