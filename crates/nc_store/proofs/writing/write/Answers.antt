use Rattle.std.proofs.Common.{◌++◌, ◌∷◌, [], ◌+◌, ◌∙◌, ℕ, List, None, refl, sym, subst, length}
use Rattle.nc_schema.specs.Record.{record_body}
use Rattle.nc_schema.proofs.RecordLemmas.{size_is}
use Rattle.nc_store.specs.Keeping.{IsSized, IsWay, area_limit, live_size}
use Rattle.nc_journal.specs.Growing.{HasGrown, free_place, start_after}
use Rattle.nc_store.specs.declared.ready.Way.{Way}
use Rattle.nc_store.specs.inner.Growing.{GrowsBy}
use Rattle.nc_store.proofs.Files.{all_one, alone_base, alone_bounded, appended_base, appended_bounded, kept_as, kept_moments, sized, small_body}
use Rattle.nc_store.proofs.writing.write.Goals as goal

pub append-requires : goal.append-requires
append-requires g c =
    let r = c.requires.can in
    let way = subst (λ (w : Way). IsWay r.live r.header r.body w) c.in-Append.is r.way_is in
    record { sound = (r.header, r.sound); framed = (r.body, c.as_slice.ensures ∙ way.0, r.small) }

pub replace-requires : goal.replace-requires
replace-requires g c =
    let r = c.requires.can in
    let way = subst (λ (w : Way). IsWay r.live r.header r.body w) c.in-Replace.is r.way_is in
    (r.header, r.body ∷ [], r.sound, c.as_slice-in-Replace.ensures ∙ way.0, all_one r.body r.small, refl)

pub returns-in-Append-clause-kept : goal.returns-in-Append-clause-kept
returns-in-Append-clause-kept g c = λ setup live base doubt rows keeping made.
    let way = subst (λ (w : Way). IsWay live setup.header (record_body rows) w) c.in-Append.is made.way_is in
    kept_as g.D.Disk.seen g.D.Disk.may_leave g.D.Disk.moment g.D.Disk.left_since setup keeping.bodies keeping.others (keeping.bodies ++ record_body rows ∷ []) c.append.new.self c.append.result base doubt rows
    keeping.base_is keeping.doubt_is (appended_base setup live rows c.args.way keeping.bodies made)
    (c.append.ensures.changes setup.header keeping.bodies keeping.others (record_body rows) keeping.stands (c.as_slice.ensures ∙ way.0) (small_body setup live rows c.args.way made)).keeps

pub returns-in-Append-clause-moments : goal.returns-in-Append-clause-moments
returns-in-Append-clause-moments g c = λ setup live base doubt rows keeping made.
    let way = subst (λ (w : Way). IsWay live setup.header (record_body rows) w) c.in-Append.is made.way_is in
    kept_moments g.D.Disk.seen g.D.Disk.may_leave g.D.Disk.moment g.D.Disk.left_since setup keeping.bodies keeping.others (keeping.bodies ++ record_body rows ∷ []) c.args.journal.now.disk c.append.new.self.disk base doubt rows
    keeping.base_is keeping.doubt_is (appended_base setup live rows c.args.way keeping.bodies made)
    (c.append.ensures.changes setup.header keeping.bodies keeping.others (record_body rows) keeping.stands (c.as_slice.ensures ∙ way.0) (small_body setup live rows c.args.way made)).moments

pub returns-in-Append-clause-bounded : goal.returns-in-Append-clause-bounded
returns-in-Append-clause-bounded g c = λ setup base doubt rows keeping made.
    let live = live_size c.args.journal.now in
    let way = subst (λ (w : Way). IsWay live setup.header (record_body rows) w) c.in-Append.is made.way_is in
    let next = keeping.bodies ++ record_body rows ∷ [] in
    let keeps = (c.append.ensures.changes setup.header keeping.bodies keeping.others (record_body rows) keeping.stands (c.as_slice.ensures ∙ way.0) (small_body setup live rows c.args.way made)).keeps in
    subst (λ n. IsSized c.append.result live (live_size c.append.new.self) (area_limit (length setup.header) n)) (sym (size_is rows))
    (sized g.D.Disk.seen g.D.Disk.may_leave g.D.Disk.moment g.D.Disk.left_since setup.header c.args.journal.now c.append.new.self keeping.bodies keeping.others next c.append.result (area_limit (length setup.header) (length (record_body rows))) keeping.stands
    (λ stands. appended_bounded g.D.Disk.seen g.D.Disk.may_leave g.D.Disk.moment g.D.Disk.left_since setup.header c.args.journal.now c.append.new.self keeping.bodies keeping.others None (record_body rows) keeping.stands stands way.1) keeps)

pub returns-in-Replace-clause-kept : goal.returns-in-Replace-clause-kept
returns-in-Replace-clause-kept g c = λ setup live base doubt rows keeping made.
    let way = subst (λ (w : Way). IsWay live setup.header (record_body rows) w) c.in-Replace.is made.way_is in
    kept_as g.D.Disk.seen g.D.Disk.may_leave g.D.Disk.moment g.D.Disk.left_since setup keeping.bodies keeping.others (record_body rows ∷ []) c.replace.new.self c.replace.result base doubt rows
    keeping.base_is keeping.doubt_is (alone_base setup live rows c.args.way made)
    (c.replace.ensures.changes setup.header keeping.bodies keeping.others (record_body rows ∷ []) keeping.stands (c.as_slice-in-Replace.ensures ∙ way.0)
    (all_one (record_body rows) (small_body setup live rows c.args.way made)) refl).keeps

pub returns-in-Replace-clause-moments : goal.returns-in-Replace-clause-moments
returns-in-Replace-clause-moments g c = λ setup live base doubt rows keeping made.
    let way = subst (λ (w : Way). IsWay live setup.header (record_body rows) w) c.in-Replace.is made.way_is in
    kept_moments g.D.Disk.seen g.D.Disk.may_leave g.D.Disk.moment g.D.Disk.left_since setup keeping.bodies keeping.others (record_body rows ∷ []) c.args.journal.now.disk c.replace.new.self.disk base doubt rows
    keeping.base_is keeping.doubt_is (alone_base setup live rows c.args.way made)
    (c.replace.ensures.changes setup.header keeping.bodies keeping.others (record_body rows ∷ []) keeping.stands (c.as_slice-in-Replace.ensures ∙ way.0)
    (all_one (record_body rows) (small_body setup live rows c.args.way made)) refl).moments

pub returns-in-Replace-clause-bounded : goal.returns-in-Replace-clause-bounded
returns-in-Replace-clause-bounded g c = λ setup base doubt rows keeping made.
    let live = live_size c.args.journal.now in
    let way = subst (λ (w : Way). IsWay live setup.header (record_body rows) w) c.in-Replace.is made.way_is in
    let keeps = (c.replace.ensures.changes setup.header keeping.bodies keeping.others (record_body rows ∷ []) keeping.stands (c.as_slice-in-Replace.ensures ∙ way.0)
    (all_one (record_body rows) (small_body setup live rows c.args.way made)) refl).keeps in
    subst (λ n. IsSized c.replace.result live (live_size c.replace.new.self) (area_limit (length setup.header) n)) (sym (size_is rows))
    (sized g.D.Disk.seen g.D.Disk.may_leave g.D.Disk.moment g.D.Disk.left_since setup.header c.args.journal.now c.replace.new.self keeping.bodies keeping.others (record_body rows ∷ []) c.replace.result (area_limit (length setup.header) (length (record_body rows))) keeping.stands
    (λ stands. alone_bounded g.D.Disk.seen g.D.Disk.may_leave g.D.Disk.moment g.D.Disk.left_since setup.header c.replace.new.self None (record_body rows) stands) keeps)

pub returns-in-Append-clause-grown : goal.returns-in-Append-clause-grown
returns-in-Append-clause-grown g c = λ file told.
    subst (λ (w : Way). GrowsBy g.D.Disk.may_leave w c.append.result c.args.journal.now c.append.new.self) (sym c.in-Append.is)
    (subst (λ (b : List ℕ). HasGrown g.D.Disk.may_leave c.args.journal.now c.append.new.self c.args.journal.now.start (c.args.journal.now.gate + 1 + length b))
    c.as_slice.ensures (c.append.ensures.grown file told))

pub returns-in-Replace-clause-grown : goal.returns-in-Replace-clause-grown
returns-in-Replace-clause-grown g c = λ file told.
    let old = c.args.journal.now in
    subst (λ (w : Way). GrowsBy g.D.Disk.may_leave w c.replace.result old c.replace.new.self) (sym c.in-Replace.is)
    (subst (λ (b : List ℕ). HasGrown g.D.Disk.may_leave old c.replace.new.self (start_after c.replace.result old.start (free_place old.start old.gate (length b)))
    (free_place old.start old.gate (length b) + length b))
    c.as_slice-in-Replace.ensures (c.replace.ensures.grown file told))
