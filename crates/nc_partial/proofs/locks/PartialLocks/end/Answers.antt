use Rattle.std.proofs.Common.{◌==◌, not, refl}
use Rattle.nc_partial.proofs.IndexLemmas.{kept_indexed}
use Rattle.nc_partial.proofs.locks.PartialLocks.end.Goals as goal

pub invariant_of-self : goal.invariant_of-self
invariant_of-self c =
    rw (c.keep_of_others.ensures, c.without_session.ensures)
    (kept_indexed (λ held. not (held.session == c.args.session)) (λ entry. not (entry.session == c.args.session)) (λ held node. refl)
    c.self.inside.locks.items c.self.inside.last c.self.inside.index.items c.self.invariant)
