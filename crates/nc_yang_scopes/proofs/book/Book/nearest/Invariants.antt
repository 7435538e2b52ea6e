use Rattle.std.proofs.Common.{◌≡◌}
use Rattle.nc_yang_scopes.specs.inner.Books.{near}
use Rattle.nc_yang_scopes.specs.Numbers.{located}
use Rattle.nc_yang_scopes.proofs.book.Book.nearest.Given as goal

abbrev pub invariant-loop-block : goal.invariant-loop-block
invariant-loop-block l =
    near (located l.self.numbering.frames) l.fn.keyword l.word l.at ≡ near (located l.self.numbering.frames) l.fn.keyword l.word l.fn.number

abbrev pub decreases-loop-block : goal.decreases-loop-block
decreases-loop-block l = l.at
