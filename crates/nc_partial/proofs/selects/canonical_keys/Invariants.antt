-- What is made canonical so far, and the rest.
use Rattle.std.proofs.Common.{◌≡◌, drop}
use Rattle.nc_schema.specs.Values.{canonical, canonical_keys}
use Rattle.nc_paths.specs.inner.Prepend.{before}
use Rattle.nc_partial.proofs.selects.canonical_keys.Given as goal

abbrev pub invariant-loop-place : goal.invariant-loop-place
invariant-loop-place l =
    canonical_keys (λ number text. canonical l.schema number text l.bounds) l.nodes l.keys
    ≡ before l.texts (canonical_keys (λ number text. canonical l.schema number text l.bounds) (drop l.place l.nodes) (drop l.place l.keys))
