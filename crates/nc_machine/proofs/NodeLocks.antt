-- Partial locks, as they are looked at and changed.
use Rattle.std.proofs.Common.{◌≡◌, ◌≢◌, ◌<◌, ◌≤◌, ◌==◌, ◌&&◌, ◌+◌, ◌++◌, ℕ, Bool, true, false, not, cond, List, [], ◌∷◌, drop, get_or, refl, sym, ap, ◌∙◌, Option, Some, None, Result, Ok, Err}
use Rattle.std.specs.Prelude.{IfOk, OnErr, length, map, option_map}
use Rattle.std.specs.List.{filter_map, find}
use Rattle.std.specs.Option.{option_or}
use Rattle.nc_names.specs.declared.cause.CauseKind.{CauseKind}
use Rattle.nc_names.specs.declared.cause.CauseKind.TheVariants.{BadParameter, BadSelect, InUsePartial, Limit, LockPartial, LockPending, NoMatch}
use Rattle.nc_names.specs.declared.path.Path.{Path}
use Rattle.nc_names.specs.declared.path.Row.{Row}
use Rattle.nc_schema.proofs.GivenLemmas.{item_there, nothing_left}
use Rattle.nc_schema.specs.Tables.{Tables}
use Rattle.nc_protocol.specs.declared.asked.Select.{Select}
use Rattle.nc_protocol.specs.declared.changes.Changes.{Changes}
use Rattle.nc_protocol.specs.declared.datastore.Datastore.{Datastore}
use Rattle.nc_protocol.specs.declared.datastore.Datastore.TheVariants.{Running}
use Rattle.nc_protocol.specs.declared.request.Cause.{Cause}
use Rattle.nc_protocol.specs.declared.verdict.Verdict.TheVariants.{Locked}
use Rattle.nc_protocol.specs.Asking.{plain_cause}
use Rattle.nc_protocol.specs.Edited.{cause_where, first_cause}
use Rattle.nc_protocol.specs.Words.{lock_id_word}
use Rattle.nc_model.specs.Access.{visible}
use Rattle.nc_model.specs.Sight.{Viewer, may_see}
use Rattle.nc_model.specs.State.{NodeLock, Pending, State, last_lock_id, locks_of, locks_some, most_locks}
use Rattle.nc_model.specs.Step.{with_partial, without_partial}
use Rattle.nc_model.specs.Verdict.{are_selects, covers_path, has_lock, in_use_at, in_use_partial, is_none_of, is_running, lock_of_other, nodes_selected, partial_lock_cause, partial_lock_checks, partial_lock_refusal, partial_unlock_refusal, partly_locked, pending_cause, pending_of_other, selected_path}
use Rattle.nc_model.specs.Words.{partial_locks_word, lock_ids_word}
use Rattle.nc_model.proofs.SessionLemmas.{all_none, is_false_not, where_none}
use Rattle.nc_partial.specs.declared.locks.PartialFault.{PartialFault}
use Rattle.nc_partial.specs.declared.locks.PartialFault.TheVariants.{Taken, TooMany, IdsSpent, Memory as NoMemory}
use Rattle.nc_partial.specs.Granted.{Granted, IsTold, covered_cause, covered_of, granted_of, lock_given, refusal}
use Rattle.nc_partial.specs.inner.Given.{told_of}
use Rattle.nc_partial.specs.Selects.{nodes_among, nodes_seen, paths_of}
use Rattle.nc_courses.specs.declared.course.Change.TheVariants.{Nothing, GrantNodes, ReleaseNodes}
use Rattle.nc_courses.specs.declared.course.Course.{Course}
use Rattle.nc_courses.specs.declared.course.Course.TheVariants.{Answer}
use Rattle.nc_courses.specs.inner.Governing.{viewer_of}
use Rattle.nc_courses.specs.inner.Courses.{done_unless, held_refusal, made, nodes_course, partial_lock_course, partly_granted, partly_hindered, partly_released, refused_course, running_opposed, running_refusal, selects_course, told_course, unless_refused, wants_memory, with_given}

-- ---- running's lock
pub running_by : (s : State) (session : ℕ) (target : Datastore) → target ≡ Running →
    running_opposed s session ≡ running_refusal s session target
running_by s session target is = ap (running_refusal s session) (sym is)

pub other_by : (s : State) (session : ℕ) (target : Datastore) → is_running target ≡ false → None ≡ running_refusal s session target
other_by s session target is =
    sym (ap (λ (b : Bool). option_or (cond b (pending_of_other session s.pending) None) (cond b (partly_locked s session) None)) is)

-- ---- what partial locks stand in the way of

-- the cause that names a lock
pub named : (kind : CauseKind) (found : Option NodeLock) →
    option_map (covered_cause kind) (option_map covered_of found) ≡ option_map (partial_lock_cause kind) found
named kind None = refl
named kind (Some lock) = refl

-- the first cause of two lists of checks
first_of_both : (one other : List (Option Cause)) → first_cause (one ++ other) ≡ option_or (first_cause one) (first_cause other)
first_of_both [] other = refl
first_of_both (None ∷ one) other = first_of_both one other
first_of_both (Some cause ∷ one) other = refl

module _ (f : Path → Option Cause) where
  map_both : (one other : List Path) → map f (one ++ other) ≡ map f one ++ map f other
  map_both [] other = refl
  map_both (path ∷ one) other = ap (λ more. f path ∷ more) (map_both one other)

  first_mapped : (one other : List Path) → first_cause (map f (one ++ other)) ≡ option_or (first_cause (map f one)) (first_cause (map f other))
  first_mapped one other = ap first_cause (map_both one other) ∙ first_of_both (map f one) (map f other)

  in_three : (one two three : List Path) →
      first_cause (map f (one ++ two ++ three))
      ≡ option_or (option_or (first_cause (map f one)) (first_cause (map f two))) (first_cause (map f three))
  in_three one two three =
      first_mapped (one ++ two) three ∙ ap (λ why. option_or why (first_cause (map f three))) (first_mapped one two)

module _ (s : State) (session : ℕ) (changes : Changes) where
  parts : in_use_partial s session changes
      ≡ option_or (option_or (first_cause (map (in_use_at s session) changes.deleted)) (first_cause (map (in_use_at s session) changes.updated)))
      (first_cause (map (in_use_at s session) changes.created))
  parts = in_three (in_use_at s session) changes.deleted changes.updated changes.created

  pub deleted_in_use : (cause : Cause) → Some cause ≡ first_cause (map (in_use_at s session) changes.deleted) →
      Some cause ≡ in_use_partial s session changes
  deleted_in_use cause is =
      ap (λ why. option_or (option_or why (first_cause (map (in_use_at s session) changes.updated)))
      (first_cause (map (in_use_at s session) changes.created))) is
      ∙ sym parts

  pub updated_in_use : (cause : Cause) → None ≡ first_cause (map (in_use_at s session) changes.deleted) →
      Some cause ≡ first_cause (map (in_use_at s session) changes.updated) → Some cause ≡ in_use_partial s session changes
  updated_in_use cause none is =
      ap (λ why. option_or why (first_cause (map (in_use_at s session) changes.created))) is
      ∙ ap (λ why. option_or (option_or why (first_cause (map (in_use_at s session) changes.updated)))
      (first_cause (map (in_use_at s session) changes.created))) none
      ∙ sym parts

  pub created_in_use : (why : Option Cause) → None ≡ first_cause (map (in_use_at s session) changes.deleted) →
      None ≡ first_cause (map (in_use_at s session) changes.updated) →
      why ≡ first_cause (map (in_use_at s session) changes.created) → why ≡ in_use_partial s session changes
  created_in_use why none neither is =
      is ∙ ap (λ check. option_or check (first_cause (map (in_use_at s session) changes.created))) neither
      ∙ ap (λ check. option_or (option_or check (first_cause (map (in_use_at s session) changes.updated)))
      (first_cause (map (in_use_at s session) changes.created))) none
      ∙ sym parts

-- one path after another
module _ (s : State) (session : ℕ) (paths : List Path) where
  abbrev from : List Path → Option Cause
  from rest = first_cause (map (in_use_at s session) rest)

  pub in_use_next : (i : ℕ) (path : Path) → from (drop i paths) ≡ from paths → i < length paths → path ≡ get_or paths i path →
      None ≡ in_use_at s session path → from (drop (i + 1) paths) ≡ from paths
  in_use_next i path e less here none =
      ap (λ check. first_cause (check ∷ map (in_use_at s session) (drop (i + 1) paths))) none
      ∙ sym (ap from (item_there paths i path less here)) ∙ e

  pub in_use_found : (i : ℕ) (path : Path) (cause : Cause) → from (drop i paths) ≡ from paths → i < length paths →
      path ≡ get_or paths i path → Some cause ≡ in_use_at s session path → Some cause ≡ from paths
  in_use_found i path cause e less here found =
      ap (λ check. first_cause (check ∷ map (in_use_at s session) (drop (i + 1) paths))) found
      ∙ sym (ap from (item_there paths i path less here)) ∙ e

  pub in_use_nowhere : (i : ℕ) → from (drop i paths) ≡ from paths → length paths ≤ i → None ≡ from paths
  in_use_nowhere i e past = sym (ap from (nothing_left paths i past)) ∙ e

-- where no other session has a partial lock, none is in the way
module _ (session : ℕ) (test : NodeLock → Bool) where
  none_passes : (locks : List NodeLock) → find (λ lock. not (lock.session == session) && true) locks ≡ None →
      find (λ lock. not (lock.session == session) && test lock) locks ≡ None
  none_passes [] is = refl
  none_passes (lock ∷ locks) is =
      by (lock.session == session) (find (λ other. not (other.session == session) && true) locks)
      (find (λ other. not (other.session == session) && test other) locks) (none_passes locks) is
    where
      by : (own : Bool) (one other : Option NodeLock) → (one ≡ None → other ≡ None) →
          cond (not own && true) (Some lock) one ≡ None → cond (not own && test lock) (Some lock) other ≡ None
      by true one other more rest = more rest
      by false one other more found = cc

not_found : (found : Option NodeLock) → None ≡ option_map covered_of found → found ≡ None
not_found None is = refl
not_found (Some lock) is = cc

none_at_all : (s : State) (session : ℕ) (paths : List Path) → lock_of_other s session (λ lock. true) ≡ None →
    first_cause (map (in_use_at s session) paths) ≡ None
none_at_all s session [] none = refl
none_at_all s session (path ∷ paths) none =
    ap (λ check. first_cause (check ∷ map (in_use_at s session) paths))
    (ap (option_map (partial_lock_cause InUsePartial)) (none_passes session (covers_path path) s.partial none))
    ∙ none_at_all s session paths none

pub none_in_use : (s : State) (session : ℕ) (changes : Changes) →
    None ≡ option_map covered_of (lock_of_other s session (λ lock. true)) → None ≡ in_use_partial s session changes
none_in_use s session changes none =
    sym (none_at_all s session (changes.deleted ++ changes.updated ++ changes.created)
    (not_found (lock_of_other s session (λ lock. true)) none))

-- ---- partial-lock
pub some_pends : (s : State) (pending : Pending) → Some pending ≡ s.pending →
    Some (pending_cause LockPending pending) ≡ option_map (pending_cause LockPending) s.pending
some_pends s pending is = ap (option_map (pending_cause LockPending)) is

pub none_pends : (s : State) → None ≡ s.pending → None ≡ option_map (pending_cause LockPending) s.pending
none_pends s is = ap (option_map (pending_cause LockPending)) is

-- the nodes that a session's access shows are those among the rows that it sees
pub nodes_looked : (s : State) (session : ℕ) (tables : Tables) (viewer : Viewer) (rows : List Row) (paths nodes : List Path) (c : Course) →
    tables ≡ s.schema → viewer ≡ viewer_of s session → rows ≡ s.running →
    nodes ≡ nodes_seen tables (λ path. may_see viewer.tables viewer.policy viewer.peer path.steps) rows paths →
    c ≡ nodes_course s session nodes → c ≡ selects_course s session (Some paths)
nodes_looked s session tables viewer rows paths nodes c by sees are found told =
    told ∙ ap (nodes_course s session) (found
    ∙ (ap (λ (t : Tables). nodes_seen t (λ path. may_see viewer.tables viewer.policy viewer.peer path.steps) rows paths) by
    ∙ (ap (λ (rs : List Row). nodes_seen s.schema (λ path. may_see viewer.tables viewer.policy viewer.peer path.steps) rs paths) are
    ∙ ap (λ (v : Viewer). nodes_seen s.schema (λ path. may_see v.tables v.policy v.peer path.steps) s.running paths) sees)))

pub named_all : (s : State) (session : ℕ) (selects : List Select) (paths : List Path) (c : Course) →
    Some paths ≡ paths_of s.schema selects → c ≡ selects_course s session (Some paths) →
    c ≡ selects_course s session (paths_of s.schema selects)
named_all s session selects paths c is told = told ∙ ap (selects_course s session) is

pub not_named : (s : State) (session : ℕ) (selects : List Select) → None ≡ paths_of s.schema selects →
    refused_course (plain_cause BadSelect []) ≡ selects_course s session (paths_of s.schema selects)
not_named s session selects is = ap (selects_course s session) is

pub nodes_told : (nodes : List Path) (lock : ℕ) (told : Result ℕ PartialFault) → Ok lock ≡ told →
    Answer (Locked lock nodes) (GrantNodes nodes) ≡ told_course nodes told
nodes_told nodes lock told is = ap (told_course nodes) is

pub nodes_refused : (nodes : List Path) (fault : PartialFault) (told : Result ℕ PartialFault) (cause : Cause) →
    Err fault ≡ told → Some cause ≡ refusal (Err fault) → refused_course cause ≡ told_course nodes told
nodes_refused nodes fault told cause is named =
    ap (λ why. done_unless why Nothing) named ∙ ap (told_course nodes) is

pub no_nodes : (s : State) (session : ℕ) (nodes : List Path) → nodes ≡ [] →
    refused_course (plain_cause NoMatch []) ≡ nodes_course s session nodes
no_nodes s session nodes is = ap (nodes_course s session) (sym is)

pub some_nodes : (s : State) (session : ℕ) (nodes : List Path) (c : Course) → nodes ≢ [] →
    c ≡ told_course nodes (lock_given s session nodes) → c ≡ nodes_course s session nodes
some_nodes s session [] c some is = absurd (some refl)
some_nodes s session (node ∷ nodes) c some is = is

-- what the checks come to, one after another
abbrev pub locking : Option Cause → ℕ → List Path → Course
locking None lock nodes = Answer (Locked lock nodes) (GrantNodes nodes)
locking (Some cause) lock nodes = refused_course cause

by_selects : (s : State) (session : ℕ) (are : Bool) (paths : List Path) →
    selects_course s session (cond are (Some paths) None)
    ≡ cond are (nodes_course s session (nodes_among s.schema (visible s session s.running) paths)) (refused_course (plain_cause BadSelect []))
by_selects s session true paths = refl
by_selects s session false paths = refl

by_checks : (a b : Option Cause) (are none : Bool) (found : Option NodeLock) (many spent : Bool) (last : ℕ) (nodes : List Path) →
    unless_refused (option_or a b)
    (cond are (cond none (refused_course (plain_cause NoMatch [])) (told_course nodes (told_of found many spent last)))
    (refused_course (plain_cause BadSelect [])))
    ≡ locking (first_cause (a ∷ b ∷ cause_where (not are) (plain_cause BadSelect []) ∷ cause_where none (plain_cause NoMatch [])
    ∷ option_map (partial_lock_cause LockPartial) found ∷ cause_where many (plain_cause Limit (partial_locks_word ∷ []))
    ∷ cause_where spent (plain_cause Limit (lock_ids_word ∷ [])) ∷ [])) (last + 1) nodes
by_checks (Some cause) b are none found many spent last nodes = refl
by_checks None (Some cause) are none found many spent last nodes = refl
by_checks None None false none found many spent last nodes = refl
by_checks None None true true found many spent last nodes = refl
by_checks None None true false (Some lock) many spent last nodes = refl
by_checks None None true false None true spent last nodes = refl
by_checks None None true false None false true last nodes = refl
by_checks None None true false None false false last nodes = refl

pub partial_lock_is : (s : State) (session : ℕ) (selects : List Select) →
    locking (partial_lock_refusal s session selects) (s.last_lock + 1) (nodes_selected s session selects)
    ≡ partial_lock_course s session selects
unfolding partial_lock_course
partial_lock_is s session selects =
    let nodes : List Path = nodes_selected s session selects in
    sym (ap (unless_refused (partly_hindered s))
    (by_selects s session (are_selects s.schema selects) (filter_map (selected_path s.schema) selects))
    ∙ by_checks (option_map (pending_cause LockPending) s.pending) (held_refusal s Running) (are_selects s.schema selects) (is_none_of nodes)
    (lock_of_other s session (locks_some nodes)) (length (locks_of session s.partial) == most_locks) (s.last_lock == last_lock_id)
    s.last_lock nodes)

-- ---- what is done where no check fails
given_ok : (found : Option NodeLock) (many spent : Bool) (last : ℕ) → option_map (partial_lock_cause LockPartial) found ≡ None →
    cause_where many (plain_cause Limit (partial_locks_word ∷ [])) ≡ None →
    cause_where spent (plain_cause Limit (lock_ids_word ∷ [])) ≡ None → told_of found many spent last ≡ Ok (last + 1)
given_ok (Some lock) many spent last free few left = cc
given_ok None true spent last free few left = cc
given_ok None false true last free few left = cc
given_ok None false false last free few left = refl

pub nodes_granted : (s : State) (session : ℕ) (selects : List Select) → partial_lock_refusal s session selects ≡ None →
    with_partial s session (s.last_lock + 1) (nodes_selected s session selects)
    ≡ made s session (GrantNodes (nodes_selected s session selects))
unfolding made partly_granted
nodes_granted s session selects free =
    let nodes : List Path = nodes_selected s session selects in
    let none = all_none (partial_lock_checks s session selects) free in
    sym (ap (with_given s session nodes)
    (given_ok (lock_of_other s session (locks_some nodes)) (length (locks_of session s.partial) == most_locks)
    (s.last_lock == last_lock_id) s.last_lock none.1.1.1.1.0 none.1.1.1.1.1.0 none.1.1.1.1.1.1.0))

-- as the code grants it
pub grants : (s : State) (session : ℕ) (nodes : List Path) (after : Granted) (told : Result ℕ PartialFault) →
    IsTold (lock_given s session nodes) told → IfOk told (λ id. after ≡ granted_of (with_partial s session id nodes)) →
    OnErr told (after ≡ granted_of s) → wants_memory told ≡ false →
    record s { partial = after.locks; last_lock = after.last } ≡ partly_granted s session nodes
unfolding partly_granted
grants s session nodes after (Ok id) told granted same memory =
    ap (λ (g : Granted). record s { partial = g.locks; last_lock = g.last }) granted ∙ ap (with_given s session nodes) told
grants s session nodes after (Err (Taken covered)) told granted same memory =
    ap (λ (g : Granted). record s { partial = g.locks; last_lock = g.last }) same ∙ ap (with_given s session nodes) told
grants s session nodes after (Err (TooMany held)) told granted same memory =
    ap (λ (g : Granted). record s { partial = g.locks; last_lock = g.last }) same ∙ ap (with_given s session nodes) told
grants s session nodes after (Err (IdsSpent last)) told granted same memory =
    ap (λ (g : Granted). record s { partial = g.locks; last_lock = g.last }) same ∙ ap (with_given s session nodes) told
grants s session nodes after (Err NoMemory) told granted same memory = cc

-- ---- partial-unlock
pub is_held : (s : State) (session lock : ℕ) → true ≡ has_lock s session lock → None ≡ partial_unlock_refusal s session lock
is_held s session lock has = ap (λ (b : Bool). cause_where (not b) (plain_cause BadParameter (lock_id_word ∷ []))) has

pub is_not_held : (s : State) (session lock : ℕ) → false ≡ has_lock s session lock →
    Some (plain_cause BadParameter (lock_id_word ∷ [])) ≡ partial_unlock_refusal s session lock
is_not_held s session lock has = ap (λ (b : Bool). cause_where (not b) (plain_cause BadParameter (lock_id_word ∷ []))) has

pub nodes_released : (s : State) (session lock : ℕ) → partial_unlock_refusal s session lock ≡ None →
    without_partial s lock ≡ made s session (ReleaseNodes lock)
unfolding made partly_released
nodes_released s session lock free =
    let has : has_lock s session lock ≡ true
    = is_false_not (has_lock s session lock)
    (where_none (not (has_lock s session lock)) (plain_cause BadParameter (lock_id_word ∷ [])) free) in
    sym (ap (λ (b : Bool). cond b (without_partial s lock) s) has)

pub releases : (s : State) (session lock : ℕ) (after : Granted) →
    after ≡ cond (has_lock s session lock) (granted_of (without_partial s lock)) (granted_of s) →
    record s { partial = after.locks; last_lock = after.last } ≡ partly_released s session lock
unfolding partly_released
releases s session lock after is =
    ap (λ (g : Granted). record s { partial = g.locks; last_lock = g.last }) is ∙ by (has_lock s session lock)
  where
    by : (has : Bool) →
        record s {
          partial = (cond has (granted_of (without_partial s lock)) (granted_of s)).locks;
          last_lock = (cond has (granted_of (without_partial s lock)) (granted_of s)).last;
        } ≡ cond has (without_partial s lock) s
    by true = refl
    by false = refl
