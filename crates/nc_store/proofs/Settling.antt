-- What a crash leaves of a store, and after a record was written.
use Rattle.std.proofs.Common.{◌≡◌, ⊎_elim, ℕ, ◌≤◌, List, ◌∷◌, ◌++◌, length, max, Option, Some, is_some, refl, sym, subst, arith}
use Rattle.std.proofs.lemmas.List.Elements.{Contains-append_left, Contains-append_right}
use Rattle.nc_names.specs.declared.path.Row.{Row}
use Rattle.nc_names.specs.Limits.{body_limit}
use Rattle.nc_schema.proofs.RecordLemmas.{size_is}
use Rattle.nc_schema.specs.Record.{record_body, record_size}
use Rattle.nc_outside.specs.Disks.{LeavesOnly, Told}
use Rattle.nc_outside.proofs.DiskFiles.{told_before}
use Rattle.nc_journal.specs.Journal.{IsSound, allowed}
use Rattle.nc_journal.specs.declared.journal.Journal.{Journal}
use Rattle.nc_journal.specs.declared.kept.Kept.{Kept}
use Rattle.nc_journal.specs.declared.kept.Kept.TheVariants.{Kept as IsKept, Failed as HasFailed}
use Rattle.nc_journal.proofs.Standing.{stands_among}
use Rattle.nc_tree.specs.Keeping.{Adds, standing}
use Rattle.nc_store.specs.Keeping.{CanKeep, Continues, IsKeeping, IsReady, IsRecord, IsSized, IsWay, KeptAs, StoreLeaves, Storing, area_limit, live_size}
use Rattle.nc_store.specs.Reopening.{Reopens, Setup}
use Rattle.nc_store.specs.declared.ready.Ready.{Ready}
use Rattle.nc_store.specs.declared.ready.Way.{Way}
use Rattle.nc_store.specs.inner.Growing.{GrowsBy}
use Rattle.nc_store.specs.inner.Leaving.{reopens_fewer}
use Rattle.nc_store.proofs.Bounds.{grown_within, storing}
use Rattle.nc_store.proofs.Files.{allowed_stand, among_reopens, small_body}

-- how a record is written, by what is known of its parts
pub way_seen : (live l : ℕ) (header h body b : List ℕ) (way : Way) → l ≡ live → h ≡ header → b ≡ body → IsWay l h b way → IsWay live header body way
way_seen live l header h body b way live_is header_is body_is it =
    subst (λ (n : ℕ). IsWay n header body way) live_is (subst (λ (x : List ℕ). IsWay l x body way) header_is (subst (λ (x : List ℕ). IsWay l h x way) body_is it))

-- a body is within the limit, and so is what an area may grow to
small_record : (setup : Setup) (live : ℕ) (rows : List Row) (way : Way) → IsRecord setup live rows way → record_size rows ≤ body_limit
small_record setup live rows way it = let small = small_body setup live rows way it in let size = size_is rows in omega (arith, small, size)

sized_within : (result : Kept) (before now header : ℕ) (rows : List Row) → record_size rows ≤ body_limit → IsSized result before now (area_limit header (record_size rows)) → now ≤ max before (area_limit header body_limit)
sized_within IsKept before now header rows small it = omega (arith, small, it)
sized_within (HasFailed doubt) before now header rows small it = omega (arith, it)

module _ {D : Type 0} (seen : D → Option (List ℕ)) (may_leave : D → List ℕ → Type 0) (moment : D → ℕ) (left_since : D → ℕ → List ℕ → Type 0)
    (seen_is_left : (disk : D) (bytes : List ℕ) → seen disk ≡ Some bytes → may_leave disk bytes)
    (only_now : (disk : D) (c : List ℕ) → left_since disk (moment disk) c → may_leave disk c) where
  -- what a journal stands for is what may come back
  keeping_reopens : (setup : Setup) (journal : Journal D) (base : List Row) (doubt : Option (List Row)) → IsKeeping seen may_leave setup journal base doubt
      → (c : List ℕ) → may_leave journal.disk c → Reopens setup (standing base doubt) c
  keeping_reopens setup journal base doubt k c left =
      among_reopens setup (standing base doubt) (allowed k.bodies k.others) c
      (allowed_stand setup (standing base doubt) k.bodies k.others base doubt k.base_is k.doubt_is (λ rows has. has))
      (stands_among seen may_leave moment left_since seen_is_left setup.header journal k.bodies k.others k.stands c left)

  pub settled_leaves : (setup : Setup) (journal : Journal D) (base : List Row) (doubt : Option (List Row))
      → Told (seen journal.disk) (λ _. IsKeeping seen may_leave setup journal base doubt)
      → StoreLeaves seen left_since (storing journal setup base doubt) (moment journal.disk) (standing base doubt)
  settled_leaves setup journal base doubt keeping = λ file told c left.
      keeping_reopens setup journal base doubt (keeping file told) c (only_now journal.disk c left)

  pub can_keep : (setup : Setup) (journal : Journal D) (base : List Row) (doubt : Option (List Row)) (live : ℕ) (rows : List Row) (way : Way)
      → Told (seen journal.disk) (λ _. IsKeeping seen may_leave setup journal base doubt) → IsRecord setup live rows way → CanKeep seen may_leave journal way
  can_keep setup journal base doubt live rows way keeping made = record {
    header = setup.header;
    sound = λ file told. let k = keeping file told in let it : IsSound seen may_leave setup.header journal = record { bodies = k.bodies; doubt = k.others; stands = k.stands } in it;
    body = record_body rows;
    live = live;
    small = small_body setup live rows way made;
    way_is = made.way_is;
  }

  -- after a record was written
  pub kept_after : (setup : Setup) (old new : Journal D) (base : List Row) (doubt : Option (List Row)) (live : ℕ) (rows : List Row) (way : Way) (result : Kept)
      → Told (seen old.disk) (λ _. IsKeeping seen may_leave setup old base doubt) → IsRecord setup live rows way
      → ((setup : Setup) (live : ℕ) (base : List Row) (doubt : Option (List Row)) (rows : List Row) → IsKeeping seen may_leave setup old base doubt
      → IsRecord setup live rows way → KeptAs seen may_leave setup new base doubt rows result)
      → is_some (seen new.disk) ≡ is_some (seen old.disk)
      → Told (seen new.disk) (λ _. KeptAs seen may_leave setup new base doubt rows result)
  kept_after setup old new base doubt live rows way result keeping made kept tells = λ file told.
      let was = told_before (seen old.disk) (seen new.disk) tells file told in
      kept setup live base doubt rows (keeping was.0 was.1) made

  -- since an earlier moment there are those of the call more
  pub adds_kept : (setup : Setup) (old new : Journal D) (base later_base : List Row) (doubt later_doubt : Option (List Row)) (among : List (List Row))
      → moment old.disk ≤ moment new.disk → is_some (seen new.disk) ≡ is_some (seen old.disk)
      → Told (seen old.disk) (λ _. LeavesOnly moment left_since old.disk new.disk (Reopens setup among))
      → Adds {K = Storing D} (λ s. moment s.disk) (λ s t these. StoreLeaves seen left_since s t these) (storing old setup base doubt) (storing new setup later_base later_doubt) among
  adds_kept setup old new base later_base doubt later_doubt among later tells only = record {
    later = later;
    since = λ t earlier le leaves. λ file told c left.
        let was = told_before (seen old.disk) (seen new.disk) tells file told in
        ⊎_elim
        (λ (before : left_since old.disk t c). reopens_fewer setup earlier (earlier ++ among) c (λ rows has. Contains-append_left earlier among rows has) (leaves was.0 was.1 c before))
        (λ (now : Reopens setup among c). reopens_fewer setup among (earlier ++ among) c (λ rows has. Contains-append_right earlier among rows has) now)
        ((only was.0 was.1).before t c le left);
  }

  -- ---- a store that keeps what was made ready
  pub ready_record : (journal : Journal D) (setup : Setup) (base : List Row) (doubt : Option (List Row)) (s : Storing D) (ready : Ready) (rows : List Row)
      → storing journal setup base doubt ≡ s → IsReady s ready rows → IsRecord setup (live_size journal) rows ready.way
  ready_record journal setup base doubt s ready rows is it = (subst (λ (x : Storing D). IsReady x ready rows) (sym is) it).record_is

  pub own_record : (journal : Journal D) (setup : Setup) (base : List Row) (doubt : Option (List Row)) (s : Storing D) (ready : Ready) (rows : List Row)
      → storing journal setup base doubt ≡ s → IsReady s ready rows → IsRecord setup (live_size journal) ready.rows ready.way
  own_record journal setup base doubt s ready rows is it =
      subst (λ (r : List Row). IsRecord setup (live_size journal) r ready.way) (sym it.rows_is) (ready_record journal setup base doubt s ready rows is it)

  pub adds_seen : (setup : Setup) (old new : Journal D) (base later_base : List Row) (doubt later_doubt : Option (List Row)) (s : Storing D) (ready : Ready) (rows : List Row)
      → storing old setup base doubt ≡ s → IsReady s ready rows → Told (seen old.disk) (λ _. IsKeeping seen may_leave setup old base doubt)
      → moment old.disk ≤ moment new.disk → is_some (seen new.disk) ≡ is_some (seen old.disk)
      → ((setup : Setup) (live : ℕ) (base : List Row) (doubt : Option (List Row)) (rows : List Row) → IsKeeping seen may_leave setup old base doubt
      → IsRecord setup live rows ready.way → LeavesOnly moment left_since old.disk new.disk (Reopens setup (rows ∷ standing base doubt)))
      → Adds {K = Storing D} (λ x. moment x.disk) (λ x t these. StoreLeaves seen left_since x t these) s (storing new setup later_base later_doubt) (rows ∷ standing s.base s.doubt)
  adds_seen setup old new base later_base doubt later_doubt s ready rows is made keeping later tells moments =
      subst (λ (x : Storing D). Adds {K = Storing D} (λ z. moment z.disk) (λ z t these. StoreLeaves seen left_since z t these) x (storing new setup later_base later_doubt) (rows ∷ standing x.base x.doubt)) is
      (adds_kept setup old new base later_base doubt later_doubt (rows ∷ standing base doubt) later tells
      (λ file told. moments setup (live_size old) base doubt rows (keeping file told) (ready_record old setup base doubt s ready rows is made)))

  pub keeps_on : (setup : Setup) (old new : Journal D) (base later_base : List Row) (doubt later_doubt : Option (List Row)) (s : Storing D) (ready : Ready) (rows : List Row) (result : Kept)
      → storing old setup base doubt ≡ s → IsReady s ready rows → Told (seen old.disk) (λ _. IsKeeping seen may_leave setup old base doubt)
      → ((setup : Setup) (live : ℕ) (base : List Row) (doubt : Option (List Row)) (rows : List Row) → IsKeeping seen may_leave setup old base doubt
      → IsRecord setup live rows ready.way → KeptAs seen may_leave setup new base doubt rows result)
      → is_some (seen new.disk) ≡ is_some (seen old.disk)
      → (KeptAs seen may_leave setup new base doubt ready.rows result → IsKeeping seen may_leave setup new later_base later_doubt)
      → Told (seen new.disk) (λ _. IsKeeping seen may_leave setup new later_base later_doubt)
  keeps_on setup old new base later_base doubt later_doubt s ready rows result is made keeping kept tells gives = λ file told.
      gives (kept_after setup old new base doubt (live_size old) ready.rows ready.way result keeping (own_record old setup base doubt s ready rows is made) kept tells file told)

  pub goes_later : (setup : Setup) (old new : Journal D) (base later_base : List Row) (doubt later_doubt : Option (List Row)) (s : Storing D) (ready : Ready) (rows : List Row) (result : Kept)
      → storing old setup base doubt ≡ s → IsReady s ready rows → Told (seen old.disk) (λ _. IsKeeping seen may_leave setup old base doubt)
      → ((setup : Setup) (base : List Row) (doubt : Option (List Row)) (rows : List Row) → IsKeeping seen may_leave setup old base doubt → IsRecord setup (live_size old) rows ready.way
      → IsSized result (live_size old) (live_size new) (area_limit (length setup.header) (record_size rows)))
      → is_some (seen new.disk) ≡ is_some (seen old.disk)
      → Told (seen old.disk) (λ _. GrowsBy may_leave ready.way result old new)
      → ((disk : D) (t : ℕ) (c : List ℕ) → t ≤ moment disk → may_leave disk c → left_since disk t c)
      → Continues seen moment left_since s (storing new setup later_base later_doubt)
  goes_later setup old new base later_base doubt later_doubt s ready rows result is made keeping bounded tells grown counts_now =
      subst (λ (x : Storing D). Continues seen moment left_since x (storing new setup later_base later_doubt)) is
      (record {
        setup_is = refl;
        tells = tells;
        bounded = λ file told.
            let was = told_before (seen old.disk) (seen new.disk) tells file told in
            let record_is = ready_record old setup base doubt s ready rows is made in
            let k = keeping was.0 was.1 in
            grown_within seen may_leave moment left_since only_now counts_now setup old new k.bodies k.others base later_base doubt later_doubt rows ready.way result k.stands record_is
            (small_body setup (live_size old) rows ready.way record_is)
            (sized_within result (live_size old) (live_size new) (length setup.header) rows (small_record setup (live_size old) rows ready.way record_is) (bounded setup base doubt rows k record_is))
            (grown was.0 was.1);
      })
