-- What an `Access` holds besides whose access it is.
use Rattle.std.specs.Prelude.{◌≡◌, List, map}
use Rattle.std.proofs.Common.{Bor}
use Rattle.nc_model.specs.Decision.{rules_for}
use Rattle.nc_protocol.specs.declared.peer.Peer.{Peer}
use Rattle.nc_model.specs.declared.policy.Policy.{Policy}
use Rattle.nc_model.specs.declared.policy.Rule.{Rule}
use Rattle.nc_nacm.specs.declared.finder.Finder.{Finder}
use Rattle.nc_nacm.specs.inner.Finders.{IsFinder}

-- the rules of the lists that apply to the user, in their order, and what finds the first of them that matches
pub record IsReady (policy : Policy) (peer : Peer) (rules : List (Bor Rule)) (finder : Finder) : Type 0 where
  pub rules_are : map (λ (rule : Bor Rule). rule.now) rules ≡ rules_for policy peer
  pub finds : IsFinder (map (λ (rule : Bor Rule). rule.now) rules) finder
