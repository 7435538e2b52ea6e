use Rattle.std.proofs.Common.{◌≡◌, ℕ, ◌+◌, ◌<◌, ◌≤◌, length, take, drop, Option, Some, None, sym, ◌∙◌, ap, subst, arith}
use Rattle.nc_journal.specs.Files.{At}
use Rattle.nc_journal.proofs.Looking.{number_within}
use Rattle.nc_journal.proofs.Once.{numbers_at}
use Rattle.nc_journal.proofs.read.number_at.Goals as goal

pub returns-then-not-branch-clause-number : goal.returns-then-not-branch-clause-number
returns-then-not-branch-clause-number g c = λ file told n fits at.
    absurd (omega (arith, number_within c.args.at n file at, c.in_ok-fill.ensures.short c.if-not-branch.true file told))

pub returns-clause-sound : goal.returns-clause-sound
returns-clause-sound g c = λ file told.
    subst (λ l. At c.args.at l file) (sym c.number_in.ensures) (c.in_ok-fill.ensures.whole c.if-not-branch.false file told).0

pub returns-clause-number : goal.returns-clause-number
returns-clause-number g c = λ file told n fits at.
    ap Some (numbers_at c.args.at c.number_in.result n file c.number_in.type_inv fits (returns-clause-sound g c file told) at)
