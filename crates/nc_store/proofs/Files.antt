-- What the next start makes of what a crash leaves.
use Rattle.std.proofs.Common.{◌≡◌, ◌∙◌, ⊎_elim, ℕ, ◌+◌, ◌≤◌, List, [], ◌∷◌, ◌++◌, length, All, Contains, Option, Some, None, IfSome, refl, sym, ap, subst, arith, length-append}
use Rattle.std.proofs.lemmas.List.Elements.{All-push}
use Rattle.nc_names.specs.Limits.{body_limit}
use Rattle.nc_names.specs.declared.path.Row.{Row}
use Rattle.nc_schema.specs.Record.{record_body}
use Rattle.nc_schema.proofs.TreeLemmas.{contains_cases}
use Rattle.nc_outside.specs.Disks.{LeavesOnly}
use Rattle.nc_journal.specs.Files.{HoldsAmong}
use Rattle.nc_journal.specs.Format.{area, recorded}
use Rattle.nc_journal.specs.Journal.{IsPlaced, Stands, allowed, at_rest, chooser_open, gate_open}
use Rattle.nc_journal.specs.Keeping.{KeepsBodies}
use Rattle.nc_journal.specs.declared.journal.Journal.{Journal}
use Rattle.nc_journal.specs.declared.kept.Kept.{Kept}
use Rattle.nc_journal.specs.declared.kept.Kept.TheVariants.{Kept as IsKept, Failed as HasFailed}
use Rattle.nc_journal.specs.declared.kept.Doubt.TheVariants.{Nothing, Earlier, This}
use Rattle.nc_journal.proofs.Numbers.{area-push, length-recorded}
use Rattle.nc_journal.proofs.Standing.{only_as}
use Rattle.nc_tree.specs.Keeping.{standing}
use Rattle.nc_store.proofs.Members.{here, in_one, there}
use Rattle.nc_store.specs.Keeping.{IsDoubt, IsRecord, IsSized, KeptAs, area_limit, live_size, whole_area}
use Rattle.nc_store.specs.Reopening.{IsBase, Reopens, Setup, StandsAmong, as_held, last_record}
use Rattle.nc_store.specs.declared.ready.Way.{Way}

pub among_reopens : (setup : Setup) (among : List (List Row)) (lists : List (List (List ℕ))) (c : List ℕ)
    → ((bodies : List (List ℕ)) → Contains lists bodies → StandsAmong setup among bodies) → HoldsAmong setup.header lists c → Reopens setup among c
among_reopens setup among lists c each held =
    as_held held.bodies held.doubt held.holds (each held.bodies held.bodies_allowed) (some held.doubt held.doubt_allowed)
  where
    some : (doubt : Option (List (List ℕ))) → IfSome doubt (Contains lists) → IfSome doubt (StandsAmong setup among)
    some None has = tt
    some (Some d) has = each d has

pub allowed_stand : (setup : Setup) (among : List (List Row)) (bodies : List (List ℕ)) (others : Option (List (List ℕ))) (base : List Row) (doubt : Option (List Row))
    → IsBase setup.tables setup.initial bodies base → IsDoubt setup others doubt → ((rows : List Row) → Contains (standing base doubt) rows → Contains among rows)
    → (list : List (List ℕ)) → Contains (allowed bodies others) list → StandsAmong setup among list
allowed_stand setup among bodies None base None is doubt_is has list there_is =
    subst (StandsAmong setup among) (in_one bodies list there_is) (record { rows = base; base = is; is_among = has base (here base []) })
allowed_stand setup among bodies None base (Some d) is doubt_is has list there_is = absurd doubt_is
allowed_stand setup among bodies (Some others) base None is doubt_is has list there_is = absurd doubt_is
allowed_stand setup among bodies (Some others) base (Some d) is doubt_is has list there_is =
    ⊎_elim
    (λ (e : bodies ≡ list). subst (StandsAmong setup among) e (record { rows = base; base = is; is_among = has base (here base (d ∷ [])) }))
    (λ (rest : Contains (others ∷ []) list).
    subst (StandsAmong setup among) (in_one others list rest) (record { rows = d; base = doubt_is; is_among = has d (there base (d ∷ []) d (here d [])) }))
    (contains_cases bodies (others ∷ []) list there_is)

-- a body more
pub next_stand : (setup : Setup) (among : List (List Row)) (next : List (List ℕ)) (lists : List (List (List ℕ))) (rows : List Row)
    → IsBase setup.tables setup.initial next rows → Contains among rows → ((list : List (List ℕ)) → Contains lists list → StandsAmong setup among list)
    → (list : List (List ℕ)) → Contains (next ∷ lists) list → StandsAmong setup among list
next_stand setup among next lists rows is has each list there_is =
    ⊎_elim
    (λ (e : next ≡ list). subst (StandsAmong setup among) e (record { rows = rows; base = is; is_among = has }))
    (λ (rest : Contains lists list). each list rest)
    (contains_cases next lists list there_is)

pub appended_base : (setup : Setup) (live : ℕ) (rows : List Row) (way : Way) (bodies : List (List ℕ)) → IsRecord setup live rows way → IsBase setup.tables setup.initial (bodies ++ record_body rows ∷ []) rows
appended_base setup live rows way bodies it = last_record bodies (record_body rows) refl it.spelled

pub alone_base : (setup : Setup) (live : ℕ) (rows : List Row) (way : Way) → IsRecord setup live rows way → IsBase setup.tables setup.initial (record_body rows ∷ []) rows
alone_base setup live rows way it = last_record [] (record_body rows) refl it.spelled

pub small_body : (setup : Setup) (live : ℕ) (rows : List Row) (way : Way) → IsRecord setup live rows way → length (record_body rows) ≤ body_limit
small_body setup live rows way it = it.spelled.read.within

pub all_one : (body : List ℕ) → length body ≤ body_limit → All (λ (b : List ℕ). length b ≤ body_limit) (body ∷ [])
all_one body small = All-push (λ (b : List ℕ). length b ≤ body_limit) [] body (λ k d within. absurd (omega (arith, within))) small

module _ {D : Type 0} (seen : D → Option (List ℕ)) (may_leave : D → List ℕ → Type 0) (moment : D → ℕ) (left_since : D → ℕ → List ℕ → Type 0) where
  pub kept_as : (setup : Setup) (bodies : List (List ℕ)) (others : Option (List (List ℕ))) (next : List (List ℕ)) (new : Journal D) (result : Kept)
      (base : List Row) (doubt : Option (List Row)) (rows : List Row)
      → IsBase setup.tables setup.initial bodies base → IsDoubt setup others doubt → IsBase setup.tables setup.initial next rows
      → KeepsBodies seen may_leave (record { header = setup.header; bodies = bodies; doubt = others; next = next }) new result → KeptAs seen may_leave setup new base doubt rows result
  kept_as setup bodies others next new IsKept base doubt rows is doubt_is next_is keeps = record { bodies = next; others = None; stands = keeps; base_is = next_is; doubt_is = tt }
  kept_as setup bodies others next new (HasFailed Nothing) base doubt rows is doubt_is next_is keeps = record { bodies = bodies; others = None; stands = keeps; base_is = is; doubt_is = tt }
  kept_as setup bodies others next new (HasFailed Earlier) base doubt rows is doubt_is next_is keeps = record { bodies = bodies; others = others; stands = keeps; base_is = is; doubt_is = doubt_is }
  kept_as setup bodies others next new (HasFailed This) base doubt rows is doubt_is next_is keeps = record { bodies = bodies; others = Some next; stands = keeps; base_is = is; doubt_is = next_is }

  pub kept_moments : (setup : Setup) (bodies : List (List ℕ)) (others : Option (List (List ℕ))) (next : List (List ℕ)) (old new : D)
      (base : List Row) (doubt : Option (List Row)) (rows : List Row)
      → IsBase setup.tables setup.initial bodies base → IsDoubt setup others doubt → IsBase setup.tables setup.initial next rows
      → LeavesOnly moment left_since old new (HoldsAmong setup.header (next ∷ allowed bodies others))
      → LeavesOnly moment left_since old new (Reopens setup (rows ∷ standing base doubt))
  kept_moments setup bodies others next old new base doubt rows is doubt_is next_is moments =
      let among = rows ∷ standing base doubt in
      only_as moment left_since old new (HoldsAmong setup.header (next ∷ allowed bodies others)) (Reopens setup among)
      (λ c held. among_reopens setup among (next ∷ allowed bodies others) c
      (next_stand setup among next (allowed bodies others) rows next_is (here rows (standing base doubt))
      (allowed_stand setup among bodies others base doubt is doubt_is (λ r has. there rows (standing base doubt) r has))) held) moments

  -- ---- how many bytes the live area has
  pub placed : (header : List ℕ) (journal : Journal D) (bodies : List (List ℕ)) (doubt : Option (List (List ℕ))) → Stands seen may_leave header journal bodies doubt → IsPlaced seen header journal bodies
  placed header journal bodies doubt (at_rest it undo none clean) = it
  placed header journal bodies doubt (gate_open body it undo some open_) = it
  placed header journal bodies doubt (chooser_open other others it undo some open_) = it

  live_is : (header : List ℕ) (journal : Journal D) (bodies : List (List ℕ)) (doubt : Option (List (List ℕ))) → Stands seen may_leave header journal bodies doubt → live_size journal ≡ length (area header bodies) + 1
  live_is header journal bodies doubt stands = let gate = (placed header journal bodies doubt stands).gate in omega (arith, gate)

  pub appended_bounded : (header : List ℕ) (old new : Journal D) (bodies : List (List ℕ)) (others later : Option (List (List ℕ))) (body : List ℕ)
      → Stands seen may_leave header old bodies others → Stands seen may_leave header new (bodies ++ body ∷ []) later
      → live_size old + (9 + length body) ≤ area_limit (length header) (length body) → live_size new ≤ area_limit (length header) (length body)
  appended_bounded header old new bodies others later body before after small =
      let was = live_is header old bodies others before in
      let is = live_is header new (bodies ++ body ∷ []) later after in
      let more = ap length (area-push header bodies body) in
      let long = length-append (area header bodies) (recorded body) in
      let one = length-recorded body in
      subst (λ n. n ≤ area_limit (length header) (length body)) (omega (arith, was, is, more, long, one)) small

  pub alone_bounded : (header : List ℕ) (new : Journal D) (later : Option (List (List ℕ))) (body : List ℕ) → Stands seen may_leave header new (body ∷ []) later
      → live_size new ≤ area_limit (length header) (length body)
  alone_bounded header new later body after =
      let is = live_is header new (body ∷ []) later after in
      let long = ap length (area-push header [] body) in
      let empty = length-append header [] in
      let more = length-append (area header []) (recorded body) in
      let one = length-recorded body in
      let size : live_size new ≡ whole_area (length header) (length body) = omega (arith, is, long, empty, more, one) in
      omega (arith, size)

  -- whatever became of a record
  pub sized : (header : List ℕ) (old new : Journal D) (bodies : List (List ℕ)) (others : Option (List (List ℕ))) (next : List (List ℕ)) (result : Kept) (limit : ℕ)
      → Stands seen may_leave header old bodies others → (Stands seen may_leave header new next None → live_size new ≤ limit)
      → KeepsBodies seen may_leave (record { header = header; bodies = bodies; doubt = others; next = next }) new result → IsSized result (live_size old) (live_size new) limit
  sized header old new bodies others next IsKept limit before fits keeps = fits keeps
  sized header old new bodies others next (HasFailed Nothing) limit before fits keeps =
      live_is header new bodies None keeps ∙ sym (live_is header old bodies others before)
  sized header old new bodies others next (HasFailed Earlier) limit before fits keeps =
      live_is header new bodies others keeps ∙ sym (live_is header old bodies others before)
  sized header old new bodies others next (HasFailed This) limit before fits keeps =
      live_is header new bodies (Some next) keeps ∙ sym (live_is header old bodies others before)
