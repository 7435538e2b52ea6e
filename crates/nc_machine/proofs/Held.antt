-- The locks of datastores, as they are looked at and changed.
use Rattle.std.proofs.Common.{◌≡◌, ◌==◌, ◌||◌, ℕ, Bool, true, false, not, [], ◌∷◌, refl, sym, ap, ◌∙◌, Option, Some, None}
use Rattle.std.specs.Prelude.{cond, is_some, option_and_then, option_map}
use Rattle.nc_names.specs.declared.cause.CauseKind.TheVariants.{InUseGlobal, LockHeld, NotHeld, NotLiveTarget}
use Rattle.nc_protocol.specs.declared.datastore.Datastore.{Datastore}
use Rattle.nc_protocol.specs.declared.request.Cause.{Cause}
use Rattle.nc_protocol.specs.Asking.{plain_cause}
use Rattle.nc_protocol.specs.Edited.{cause_where}
use Rattle.nc_protocol.specs.Refusals.{datastore_name}
use Rattle.nc_model.specs.State.{State, is_held_by, is_live}
use Rattle.nc_model.specs.Step.{with_holder, with_lock, without_lock}
use Rattle.nc_model.specs.Verdict.{global_lock_cause, holder_of, in_use, is_candidate, kill_refusal, lock_checks, lock_refusal, unlock_checks, unlock_refusal}
use Rattle.nc_model.proofs.SessionLemmas.{all_none, is_false_not, where_none}
use Rattle.nc_courses.specs.declared.course.Change.TheVariants.{Grant, Release}
use Rattle.nc_courses.specs.inner.Courses.{granted, held_refusal, made, unlocked}

-- ---- a lock in the way

pub none_holds : (s : State) (session : ℕ) (store : Datastore) → None ≡ holder_of s.holders store → None ≡ in_use s session store
none_holds s session store is =
    ap (λ (holder : Option ℕ). option_and_then
    (λ other. cause_where (not (other == session)) (global_lock_cause InUseGlobal store other)) holder) is

pub own_holds : (s : State) (session other : ℕ) (store : Datastore) → Some other ≡ holder_of s.holders store →
    true ≡ (other == session) → None ≡ in_use s session store
own_holds s session other store is own =
    ap (λ (b : Bool). cause_where (not b) (global_lock_cause InUseGlobal store other)) own
    ∙ ap (λ (holder : Option ℕ). option_and_then
    (λ it. cause_where (not (it == session)) (global_lock_cause InUseGlobal store it)) holder) is

pub other_holds : (s : State) (session other : ℕ) (store : Datastore) → Some other ≡ holder_of s.holders store →
    false ≡ (other == session) → Some (global_lock_cause InUseGlobal store other) ≡ in_use s session store
other_holds s session other store is apart =
    ap (λ (b : Bool). cause_where (not b) (global_lock_cause InUseGlobal store other)) apart
    ∙ ap (λ (holder : Option ℕ). option_and_then
    (λ it. cause_where (not (it == session)) (global_lock_cause InUseGlobal store it)) holder) is

pub not_held_yet : (s : State) (target : Datastore) → None ≡ holder_of s.holders target → None ≡ held_refusal s target
not_held_yet s target is = ap (option_map (global_lock_cause LockHeld target)) is

pub held_already : (s : State) (other : ℕ) (target : Datastore) → Some other ≡ holder_of s.holders target →
    Some (global_lock_cause LockHeld target other) ≡ held_refusal s target
held_already s other target is = ap (option_map (global_lock_cause LockHeld target)) is

-- ---- a session that is killed
pub kills_itself : (s : State) (session number : ℕ) → true ≡ (number == session) →
    Some (plain_cause NotLiveTarget []) ≡ kill_refusal s session number
kills_itself s session number own =
    ap (λ (b : Bool). cause_where (b || not (is_live s number)) (plain_cause NotLiveTarget [])) own

pub kills_other : (s : State) (session number : ℕ) (live : Bool) → false ≡ (number == session) → live ≡ is_live s number →
    cause_where (not live) (plain_cause NotLiveTarget []) ≡ kill_refusal s session number
kills_other s session number live apart is =
    ap (λ (b : Bool). cause_where (not b) (plain_cause NotLiveTarget [])) is
    ∙ ap (λ (b : Bool). cause_where (b || not (is_live s number)) (plain_cause NotLiveTarget [])) apart

-- ---- what is done where no check fails

unmapped : (f : ℕ → Cause) (holder : Option ℕ) → option_map f holder ≡ None → is_some holder ≡ false
unmapped f None is = refl
unmapped f (Some other) is = absurd (none_told is)
  where
    none_told : Some (f other) ≡ None → ⊥
    none_told same = cc

pub lock_granted : (s : State) (session : ℕ) (target : Datastore) → lock_refusal s session target ≡ None →
    with_lock s session target ≡ made s session (Grant target)
unfolding made granted
lock_granted s session target free =
    let none : is_some (holder_of s.holders target) ≡ false
    = unmapped (global_lock_cause LockHeld target) (holder_of s.holders target) (all_none (lock_checks s session target) free).1.0 in
    sym (ap (λ (b : Bool). record s { holders = cond b s.holders (with_holder s.holders target (Some session)) }) none)

pub lock_released : (s : State) (session : ℕ) (target : Datastore) → unlock_refusal s session target ≡ None →
    without_lock s target ≡ made s session (Release target)
unfolding made unlocked
lock_released s session target free =
    let own : is_held_by session (holder_of s.holders target) ≡ true
    = is_false_not (is_held_by session (holder_of s.holders target))
    (where_none (not (is_held_by session (holder_of s.holders target))) (plain_cause NotHeld (datastore_name target ∷ []))
    (all_none (unlock_checks s session target) free).1.0) in
    sym (ap (λ (b : Bool). record s {
      holders = cond b (with_holder s.holders target None) s.holders;
      candidate = cond (is_candidate target) None s.candidate;
    }) own)
