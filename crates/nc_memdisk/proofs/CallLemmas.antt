-- A disk in memory after one call more.
use Rattle.std.proofs.Common.{◌≡◌, ℕ, ◌≤◌, Bool, List, [], ◌∷◌, ◌++◌, length, Some, sym, ◌∙◌, ap, subst}
use Rattle.nc_outside.specs.Disks.{Torn, CutTo, Follows, Within, Only, Elapses}
use Rattle.nc_memdisk.specs.declared.done.DoneCall.{DoneCall}
use Rattle.nc_memdisk.specs.declared.done.DoneCall.TheVariants.{Write, Cut, Sync}
use Rattle.nc_memdisk.specs.Images.{seen_one}
use Rattle.nc_memdisk.specs.States.{DiskState, told, images, moment_of, images_since, called}
use Rattle.nc_memdisk.proofs.ImageLemmas.{seen-push, write_follows, cut_follows, sync_only, sync_within, elapses_noted}

-- the disk after a call that was counted and noted
abbrev pub next : Bool → DiskState → DoneCall → DiskState
next failed old call = record (called failed old) { log = old.log ++ call ∷ [] }

pub told_next : (failed : Bool) (old new : DiskState) (call : DoneCall) → new ≡ next failed old call
    → (file : List ℕ) → Some (told old) ≡ Some file → Some (told new) ≡ Some (seen_one call file)
told_next failed old new call is file before =
    let same : told old ≡ file = cc in
    ap Some (ap told is ∙ seen-push old.first old.log call ∙ ap (seen_one call) same)

pub time_next : (failed : Bool) (old new : DiskState) (call : DoneCall) → new ≡ next failed old call
    → Elapses (moment_of old) (moment_of new) (images_since old) (images_since new) (images new)
time_next failed old new call is =
    subst (λ (s : DiskState). Elapses (moment_of old) (moment_of s) (images_since old) (images_since s) (images s))
    (sym is) (elapses_noted old.first old.log call)

pub write_next : (failed : Bool) (old new : DiskState) (at : ℕ) (bytes : List ℕ) → at ≤ length (told old)
    → new ≡ next failed old (Write at bytes) → Follows (Torn at (length bytes)) (images old) (images new)
write_next failed old new at bytes le is =
    subst (λ (s : DiskState). Follows (Torn at (length bytes)) (images old) (images s)) (sym is)
    (write_follows old.first old.log at bytes le)

pub cut_next : (failed : Bool) (old new : DiskState) (size : ℕ) → new ≡ next failed old (Cut size)
    → Follows (CutTo size) (images old) (images new)
cut_next failed old new size is =
    subst (λ (s : DiskState). Follows (CutTo size) (images old) (images s)) (sym is)
    (cut_follows old.first old.log size)

pub sync_next : (failed : Bool) (old new : DiskState) → new ≡ next failed old Sync → Within (images old) (images new)
sync_next failed old new is =
    subst (λ (s : DiskState). Within (images old) (images s)) (sym is) (sync_within old.first old.log)

pub sync_leaves : (failed : Bool) (old new : DiskState) → new ≡ next failed old Sync
    → (file : List ℕ) → Some (told old) ≡ Some file → Only file (images new)
sync_leaves failed old new is file before =
    let same : told old ≡ file = cc in
    subst (λ (s : DiskState). Only file (images s)) (sym is) (λ c image. sync_only old.first old.log c image ∙ same)
