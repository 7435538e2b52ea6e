use Rattle.std.proofs.Common.{◌≡◌, [], ◌∷◌, take, drop}
use Rattle.nc_defaults.specs.Within.{places_in}
use Rattle.nc_validate.specs.inner.Alone.{HasValues}
use Rattle.nc_validate.proofs.UniqueLemmas.{found_in}
use Rattle.nc_validate.proofs.alone.first_of_leaf.Given as goal

abbrev pub invariant-loop-entry : goal.invariant-loop-entry
invariant-loop-entry l = record {
  seen : HasValues l.children l.leaf (places_in l.config (take l.entry-index l.entries)) l.seen;
  walk : found_in l.children (l.leaf ∷ []) (places_in l.config (take l.entry-index l.entries)) (places_in l.config (drop l.entry-index l.entries))
      ≡ found_in l.children (l.leaf ∷ []) [] (places_in l.config l.entries);
}
