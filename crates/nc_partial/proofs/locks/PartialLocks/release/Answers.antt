use Rattle.std.proofs.Common.{◌==◌, not, refl}
use Rattle.nc_partial.proofs.IndexLemmas.{kept_indexed}
use Rattle.nc_partial.proofs.locks.PartialLocks.release.Goals as goal

pub invariant_of-self : goal.invariant_of-self
invariant_of-self c =
    rw (c.keep_without.ensures, c.without_lock.ensures)
    (kept_indexed (λ held. not (held.id == c.args.lock)) (λ entry. not (entry.id == c.args.lock)) (λ held node. refl)
    c.self.inside.locks.items c.self.inside.last c.self.inside.index.items c.self.invariant)
