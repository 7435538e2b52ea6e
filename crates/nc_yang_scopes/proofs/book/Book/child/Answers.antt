use Rattle.std.proofs.Common.{◌∙◌, slice_get, ap, sym}
use Rattle.nc_yang_scopes.specs.Numbers.{located}
use Rattle.nc_yang_scopes.proofs.BookLemmas.{child_is, child_within, no_first}
use Rattle.nc_yang_scopes.proofs.book.Book.child.Goals as goal

pub number-requires : goal.number-requires
number-requires c =
    let book = c.args.self.now in
    child_within book.texts.now book.numbering.frames book.numbering.firsts c.requires.book.whole c.args.number c.args.place c.in-Some.first.now
    c.in-Some.ensures.value c.requires.there

pub returns-in-Some : goal.returns-in-Some
returns-in-Some c =
    let book = c.args.self.now in
    ap (slice_get (located book.numbering.frames)) c.number.ensures
    ∙ child_is book.texts.now book.numbering.frames book.numbering.firsts c.requires.book.whole c.args.number c.args.place c.in-Some.first.now
    (sym c.in-Some.ensures.value) c.requires.there

pub returns-in-None : goal.returns-in-None
returns-in-None c =
    let book = c.args.self.now in
    no_first book.texts.now book.numbering.frames book.numbering.firsts c.requires.book.whole c.args.number c.args.place c.in-None.ensures.value
    c.requires.there
