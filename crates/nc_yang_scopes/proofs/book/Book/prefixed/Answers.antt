use Rattle.nc_yang_scopes.specs.inner.Frames.{entry_of}
use Rattle.nc_yang_scopes.proofs.BookLemmas.{across_nowhere, across_other, across_own, across_unknown}
use Rattle.nc_yang_scopes.proofs.book.Book.prefixed.Goals as goal

pub returns-in_default : goal.returns-in_default
returns-in_default c =
    let book = c.args.self.now in
    across_nowhere book.texts.now book.numbering.frames book.numbering.firsts c.requires.book.whole c.args.keyword c.args.prefix.now c.args.word.now
    c.args.number c.in_default.ensures.value

pub returns-in_default-text_of_prefix : goal.returns-in_default-text_of_prefix
returns-in_default-text_of_prefix c =
    let book = c.args.self.now in
    across_unknown book.texts.now book.numbering.frames book.numbering.firsts c.requires.book.whole c.args.keyword c.args.prefix.now c.args.word.now
    c.args.number (entry_of c.in-Some.frame) c.in-Some.ensures.value c.in_default-text_of_prefix.ensures

pub returns-then-text-frame : goal.returns-then-text-frame
returns-then-text-frame c =
    let book = c.args.self.now in
    across_own book.texts.now book.numbering.frames book.numbering.firsts c.requires.book.whole c.args.keyword c.args.prefix.now c.args.word.now
    c.args.number (entry_of c.in-Some.frame) c.in-Some-text_of_prefix.text c.nearest.result c.in-Some.ensures.value c.in-Some-text_of_prefix.ensures
    c.if-text-frame.true c.nearest.ensures

pub returns-else-text-frame : goal.returns-else-text-frame
returns-else-text-frame c =
    let book = c.args.self.now in
    across_other book.texts.now book.numbering.frames book.numbering.firsts c.requires.book.whole c.args.keyword c.args.prefix.now c.args.word.now
    c.args.number (entry_of c.in-Some.frame) c.in-Some-text_of_prefix.text c.topmost.result c.in-Some.ensures.value c.in-Some-text_of_prefix.ensures
    c.if-text-frame.false c.topmost.ensures
