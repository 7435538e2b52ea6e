use Rattle.std.proofs.Common.{◌≡◌, ◌+◌, ◌≤◌, length, arith}
use Rattle.nc_journal.proofs.Looking.{if_ok_also}
use Rattle.nc_journal.proofs.header.is_ours.Goals as goal

pub returns-then-header-size-clause-other : goal.returns-then-header-size-clause-other
returns-then-header-size-clause-other g c = λ no file told long within at.
    absurd (omega (arith, c.if-header-size.true, long, within))

pub returns-clause-ours : goal.returns-clause-ours
returns-clause-ours g c = if_ok_also c.matches.result _ _ c.matches.ensures.same (λ it also ours.
    (omega (arith, c.if-header-size.false), also ours))

pub returns-clause-other : goal.returns-clause-other
returns-clause-other g c = if_ok_also c.matches.result _ _ c.matches.ensures.other (λ it also no file told long within.
    also no file told)
