-- What a seat stands for.
use Rattle.std.specs.Prelude.{◌≡◌, List}
use Rattle.nc_model.specs.declared.entry.Entry.{Entry}
use Rattle.nc_model.specs.Desks.{Home}
use Rattle.nc_turn.specs.Passes.{Pass, view, IsOf, IsIdle}
use Rattle.nc_turn.specs.declared.turn.Turn.{Turn}
use Rattle.nc_turn.specs.declared.view.View.{View}

module _ {T : Type 0} where
  -- what a seat has seen, and what it entered itself
  pub record Shows (v : View T) (seen mine : List Entry) : Type 0 where
    pub seen_is : seen ≡ v.seen
    pub mine_is : mine ≡ v.mine

  -- the pass is one of this turn without a ticket, has the parts that it had, and is joined to no more than it was
  pub record IsPassOn (home : T → Home) (turn : Turn T) (old new : Pass T) : Type 0 where
    pub of : IsOf home turn new
    pub idle : IsIdle new
    pub parts : (view new).parts ≡ (view old).parts
    pub alone : (view old).gathered ≡ (view old).mine → (view new).gathered ≡ (view new).mine
