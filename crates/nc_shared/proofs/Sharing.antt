-- What is shared may be used by threads where its value may cross them, and a machine's value may where its keeper and its
-- clock may.
use denote.RattleType.{RattleType}
use denote.Ref.{NamedLft}
use denote.Struct.Field
use denote.Param.Send.{sendable, AllSend, IsSend, IsSync}
use Rattle.std.proofs.Crossing.{crosses}
use Rattle.std.specs.contracts.option.Option as option
use Rattle.atomic_table.proofs.shared.Seat.TheSendSync as seat
use Rattle.atomic_table.specs.contracts.shared.Seat as seats
use Rattle.nc_tree.specs.declared.keeper.Keeper as keeper
use Rattle.nc_turn.proofs.turn.Turn.TheSendSync.{the_field_sync as turn_field_sync}
use Rattle.nc_turn.specs.contracts.view.View as view
use Rattle.nc_turn.specs.declared.stands.Stands as stands
use Rattle.nc_shared.specs.contracts.held.Held as held
use Rattle.nc_shared.specs.contracts.seated.Seated as seated
use Rattle.nc_shared.specs.contracts.shared.Shared as shared
use Rattle.nc_shared.proofs.Sent.{machine_send}

module _ (K C A : RattleType) (k : keeper.Ghosts K.Denot A.Denot) where
  pub held_send : IsSend K → IsSend C → IsSend (held.the_row K C A k)
  held_send sk sc = let m = machine_send K A k sk in search (sendable, crosses) depth 20

module _ (T : RattleType) (s : stands.Ghosts T.Denot) where
  pub shared_sync : IsSend T → IsSync (shared.the_row T s)
  shared_sync sent = search (sent, sendable, turn_field_sync) depth 24

  abbrev passed : RattleType
  passed = seats.the_row (option.the_row T) (view.the_row T)

  pub pass_send : IsSend T → IsSend passed
  pass_send sent =
      let o : IsSend (option.the_row T) = search sendable depth 12 in
      seat.the_send _ _ o

  pub pass_field_send : IsSend T → IsSend (seats.the_field (option.the_row T) (view.the_row T)).row
  pass_field_send sent = pass_send sent

  -- a desk crosses threads where the runtime is shared by them
  module _ (a : NamedLft) (R : RattleType) where
    seated_fields : IsSync R → IsSend T →
        AllSend (denote.Struct.Field.rows (seated.TheInside.the_type a R T s).parts)
    seated_fields rs sent =
        let shared_is = shared_sync sent in
        (search (rs, sendable) depth 12, (search (shared_is, sendable) depth 12, (pass_field_send sent, tt)))

    seated_inside : IsSync R → IsSend T → IsSend (seated.TheInside.the_row a R T s)
    seated_inside rs sent = let fields = seated_fields rs sent in search (fields, sendable) depth 10

    pub seated_send : IsSync R → IsSend T → IsSend (seated.the_row a R T s)
    seated_send rs sent = let inside = seated_inside rs sent in search (inside, sendable) depth 10
