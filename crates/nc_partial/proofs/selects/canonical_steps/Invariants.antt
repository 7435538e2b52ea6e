-- What is made canonical so far, and the rest.
use Rattle.std.proofs.Common.{◌≡◌, drop}
use Rattle.nc_schema.specs.Values.{canonical, canonical_steps}
use Rattle.nc_paths.specs.inner.Prepend.{before}
use Rattle.nc_partial.proofs.selects.canonical_steps.Given as goal

abbrev pub invariant-loop-one : goal.invariant-loop-one
invariant-loop-one l =
    canonical_steps l.schema (λ number text. canonical l.schema number text l.bounds) l.steps
    ≡ before l.made (canonical_steps l.schema (λ number text. canonical l.schema number text l.bounds) (drop l.one-index l.steps))
