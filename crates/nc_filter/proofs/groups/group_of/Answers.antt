use Rattle.std.proofs.Common.{List, ℕ, refl, subst}
use Rattle.nc_filter.specs.inner.Runs.{AreHeld}
use Rattle.nc_filter.proofs.MemberLemmas.{group_is}
use Rattle.nc_filter.proofs.groups.group_of.Goals as goal

pub returns : goal.returns
returns c = λ here among keys_are.
    group_is c.args.runs.now here (record { members = c.in_ok-members.members; elems = c.args.class.elems }) c.args.class refl
    (subst (λ (keys : List (List ℕ)). AreHeld keys c.args.runs.now here c.in_ok-members.members) c.as_slice.ensures (c.in_ok-members.ensures here among keys_are))
