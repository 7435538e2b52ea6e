use Rattle.std.proofs.Common.{lit<}
use Rattle.nc_yang_scopes.proofs.BookLemmas.{splits}
use Rattle.nc_yang_scopes.proofs.book.split_reference.Goals as goal

pub returns : goal.returns
returns c = splits c.args.reference.now c.split_once.result (c.split_once.ensures.byte (lit< tt) (λ w o h. h))
