use Rattle.std.proofs.Common.{◌∙◌, Some, None, ap}
use Rattle.nc_yang_scopes.specs.inner.Frames.{entry_of}
use Rattle.nc_yang_scopes.proofs.BookLemmas.{import_at, import_none}
use Rattle.nc_yang_scopes.proofs.book.Book.imported.Goals as goal

pub returns-in_default : goal.returns-in_default
returns-in_default c =
    let book = c.args.self.now in
    import_none book.texts.now book.numbering.frames book.numbering.firsts c.requires.whole c.args.prefix.now c.args.text c.if-text-self.false
    (c.in_default.ensures ∙ c.requires.names.imports c.args.text c.args.prefix.now)

pub returns-in_default-get : goal.returns-in_default-get
returns-in_default-get c =
    let book = c.args.self.now in
    import_at book.texts.now book.numbering.frames book.numbering.firsts c.requires.whole c.args.prefix.now c.args.text c.if-text-self.false c.in-Some.import
    (c.in-Some.ensures ∙ c.requires.names.imports c.args.text c.args.prefix.now) None c.in_default-get.ensures.value

pub returns : goal.returns
returns c =
    let book = c.args.self.now in
    ap Some c.name.ensures
    ∙ import_at book.texts.now book.numbering.frames book.numbering.firsts c.requires.whole c.args.prefix.now c.args.text c.if-text-self.false c.in-Some.import
    (c.in-Some.ensures ∙ c.requires.names.imports c.args.text c.args.prefix.now) (Some (entry_of c.in-Some-get.frame)) c.in-Some-get.ensures.value
