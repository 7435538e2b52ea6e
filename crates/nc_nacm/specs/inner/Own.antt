-- The names of a user's groups, as a set.
use Rattle.std.specs.Prelude.{◌≡◌, ℕ, Bool, List}
use Rattle.std.specs.BTreeSet.{BTreeSet, contains}
use Rattle.std.specs.Cmp.Lexicographic.{slice_cmp}
use Rattle.std.specs.Ordering.{nat_cmp}
use Rattle.nc_model.specs.Decision.{is_in_group}
use Rattle.nc_protocol.specs.declared.peer.Peer.{Peer}
use Rattle.nc_model.specs.declared.policy.Policy.{Policy}

-- a name is in a set
abbrev pub has : BTreeSet (List ℕ) → List ℕ → Bool
has names name = contains (slice_cmp nat_cmp) names name

-- the set has the names of the groups that a user is in, and no other
abbrev pub HasOwn : BTreeSet (List ℕ) → Policy → Peer → Type 0
HasOwn names policy peer = (name : List ℕ) → has names name ≡ is_in_group policy peer name
