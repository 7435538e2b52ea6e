-- A session at the server of a folder: so much of its history lasts.
use Rattle.std.proofs.Common.{◌≡◌, ℕ, List, Option, None, Some, sym, subst}
use Rattle.std.specs.Coded.{Coded}
use Rattle.std.specs.Prelude.{IfSome}
use Rattle.nc_machine.specs.Lasting.{name_of}
use Rattle.nc_machine.specs.Serving.{Serving}
use Rattle.nc_model.specs.Desks.{Home}
use Rattle.nc_names.specs.declared.path.Row.{Row}
use Rattle.nc_protocol.specs.declared.peer.Peer.{Peer}
use Rattle.nc_session.specs.declared.end.SessionEnd.{SessionEnd}
use Rattle.nc_store.specs.Keeping.{Storing}
use Rattle.nc_device.proofs.Lasting.{held_so}
use Rattle.nc_device.proofs.Serving.{sat_so}
use Rattle.nc_device.specs.Crashes.{BeginsAmong, Held, Lasts, crashing}
use Rattle.nc_device.specs.Devices.{Makes}
use Rattle.nc_device.specs.Outside.{Filing}
use Rattle.nc_device.specs.Sessions.{IsServed, Sitting}
use Rattle.nc_words.specs.Words.{Asks, IsIn, Task}
use Rattle.nc_device.specs.Begun.{IsBegun, IsSeatedAt, Keeps, store_words}
use Rattle.nc_device.specs.declared.device.Device.{Device}

-- what the store of a folder held, where that is known, is what the store of the device that it makes held
pub known_of : (words : List (List ℕ)) (files : Filing) (may_leave : List ℕ → Type 0) (task : Task) (folder : List ℕ)
    (device : Device) → Asks words task → IsIn folder task → Makes files folder device → (held : Option (List (List Row)))
    → IfSome held (Held words files may_leave) → IfSome held (BeginsAmong device may_leave)
known_of words files may_leave task folder device asks is makes None known = tt
known_of words files may_leave task folder device asks is makes (Some among) known = known task folder device asks is makes

pub sat_lasting : {D : Type 0} (seen : D → Option (List ℕ)) (may_leave : D → List ℕ → Type 0) (moment : D → ℕ)
    (left_since : D → ℕ → List ℕ → Type 0) (disk : D) (coded : Coded (Storing D)) (device : Device)
    (machine : Serving (Storing D)) → IsBegun seen may_leave moment left_since disk device machine
    → (held : Option (List (List Row))) → IfSome held (BeginsAmong device (may_leave disk)) → (last : Serving (Storing D))
    (failed : ℕ) (peer : Peer) (before now : Sitting) (end : SessionEnd) → failed ≡ last.state.faults
    → ((home : Home) → IsSeatedAt coded (store_words seen moment left_since) machine before.times home
    → IsServed machine.state last.state.faults
    (Keeps (store_words seen moment left_since) home machine.keeper last.keeper) peer before now end)
    → IsServed machine.state failed (Lasts (crashing seen may_leave moment left_since held disk last.keeper.disk) device machine.state) peer before now end
sat_lasting seen may_leave moment left_since disk coded device machine begun held known last failed peer before now end same serves =
    let lasts = Lasts (crashing seen may_leave moment left_since held disk last.keeper.disk)
    device machine.state in
    let it = held_so seen may_leave moment left_since disk device machine begun before.times (name_of coded machine.keeper)
    held known in
    subst (λ (n : ℕ). IsServed machine.state n lasts peer before now end) (sym same)
    (sat_so machine.state last.state.faults
    (Keeps (store_words seen moment left_since) it.home machine.keeper last.keeper) lasts peer before now end
    (λ history keeps. it.lasts last.keeper history keeps)
    (serves it.home (record { is_home = it.is_home; place_is = it.place_is; stands = it.stands })))
