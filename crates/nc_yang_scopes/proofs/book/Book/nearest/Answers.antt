use Rattle.std.proofs.Common.{◌∙◌, Some, ap, sym, option_map}
use Rattle.nc_yang_scopes.proofs.BookLemmas.{near_end, near_found, near_further, outer_less, plain_of}
use Rattle.nc_yang_scopes.proofs.book.Book.nearest.Goals as goal

pub returns-in-Some-get : goal.returns-in-Some-get
returns-in-Some-get c =
    let book = c.args.self.now in
    near_found book.texts.now book.numbering.frames book.numbering.firsts c.requires.book.whole c.args.keyword c.args.word.now
    (plain_of c.args.keyword c.requires.keyword) c.loop-block.at c.in-Some.block c.in-Some.ensures c.in-Some-get.found
    (c.in-Some-get.ensures ∙ c.table-table.ensures c.in-Some.block c.args.word.now)
    ∙ ap (option_map Some) c.loop-block.invariant

pub loop-block-smaller : goal.loop-block-smaller
loop-block-smaller c =
    let book = c.args.self.now in
    outer_less book.texts.now book.numbering.frames book.numbering.firsts c.requires.book.whole c.loop-block.at c.in-Some.block (sym c.in-Some.ensures)

pub loop-block-preserved : goal.loop-block-preserved
loop-block-preserved c =
    let book = c.args.self.now in
    near_further book.texts.now book.numbering.frames book.numbering.firsts c.requires.book.whole c.args.keyword c.args.word.now
    (plain_of c.args.keyword c.requires.keyword) c.loop-block.at c.in-Some.block c.in-Some.ensures
    (c.in_default-get.ensures ∙ c.table-table.ensures c.in-Some.block c.args.word.now)
    ∙ c.loop-block.invariant

pub returns : goal.returns
returns c =
    let book = c.args.self.now in
    ap (option_map Some) (near_end book.texts.now book.numbering.frames book.numbering.firsts c.requires.book.whole c.args.keyword c.args.word.now
    c.loop-block.at (sym c.in_default.ensures) ∙ c.loop-block.invariant)
