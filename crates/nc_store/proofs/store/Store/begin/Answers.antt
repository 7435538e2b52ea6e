use Rattle.std.proofs.Common.{◌≡◌, ◌∙◌, ◌∷◌, [], inr, ap, ℕ, List, Option, Some, None, sym, subst}
use Rattle.nc_names.specs.declared.path.Row.{Row}
use Rattle.nc_schema.specs.Tables.{Tables}
use Rattle.nc_outside.specs.Disks.{LeavesOnly}
use Rattle.nc_journal.specs.Refusing.{HasNoReading, IsRefused as IsNotRead}
use Rattle.nc_store.specs.Keeping.{StoreLeaves}
use Rattle.nc_store.specs.Opening.{BeginsWith, IsRefused, IsUnread, fault_by}
use Rattle.nc_store.specs.Reopening.{Reopens, Setup}
use Rattle.nc_store.specs.declared.fault.StoreFault.{StoreFault}
use Rattle.nc_store.specs.inner.Finding.{FindsBase, gate_before}
use Rattle.nc_store.proofs.Bounds.{storing}
use Rattle.nc_store.proofs.Opened.{bad_at, begins_with, begun_at, keeping_at, moments_at, no_base, reads_at, refused_by, spared_by, unread_by}
use Rattle.nc_store.proofs.Settling.{settled_leaves}
use Rattle.nc_store.proofs.store.Store.begin.Goals as goal

pub returns-in-Err-clause-refused : goal.returns-in-Err-clause-refused
returns-in-Err-clause-refused g c = λ before told after told_too.
    let setup : Setup = record { header = c.args.header; tables = c.args.schema.value; initial = c.args.initial } in
    subst (λ (f : StoreFault). IsRefused setup f before after) (sym c.fault_of.ensures)
    (refused_by g.D.Disk.seen g.D.Disk.may_leave g.D.Disk.moment g.D.Disk.left_since c.args.disk c.in-Err.disk c.as_slice.result.now setup c.in-Err.fault before after told told_too
    (subst (λ (h : List ℕ). IsNotRead h c.in-Err.fault before) c.as_slice.ensures (c.in-Err.ensures.refused.0 before told)) c.in-Err.ensures.refused.1)

pub returns-in-Err-clause-spared : goal.returns-in-Err-clause-spared
returns-in-Err-clause-spared g c = λ file told none.
    spared_by g.D.Disk.seen g.D.Disk.may_leave g.D.Disk.moment g.D.Disk.left_since c.args.disk c.in-Err.disk c.as_slice.result.now c.in-Err.fault
    c.in-Err.ensures.refused.1 file told (subst (λ (h : List ℕ). HasNoReading h file) (sym c.as_slice.ensures) none)

pub returns-in-Err-clause-unread : goal.returns-in-Err-clause-unread
returns-in-Err-clause-unread g c = λ unread file told among.
    let setup : Setup = record { header = c.args.header; tables = c.args.schema.value; initial = c.args.initial } in
    unread_by setup c.requires.header.0 c.requires.header.1 c.in-Err.fault file among c.requires.header.2
    (subst (λ (h : List ℕ). IsNotRead h c.in-Err.fault file) c.as_slice.ensures (c.in-Err.ensures.refused.0 file told)) (subst IsUnread c.fault_of.ensures unread)

pub returns-in-Err-clause-moments : goal.returns-in-Err-clause-moments
returns-in-Err-clause-moments g c = λ file told among all.
    let setup : Setup = record { header = c.args.header; tables = c.args.schema.value; initial = c.args.initial } in
    (tt, moments_at g.D.Disk.seen g.D.Disk.may_leave g.D.Disk.moment g.D.Disk.left_since g.met.D.Disk.seen_is_left c.as_slice.result.now setup c.as_slice.ensures among c.args.disk c.in-Err.disk all file told (c.in-Err.ensures.moments file told).1)

pub returns-in-Ok-None-clause-refused : goal.returns-in-Ok-None-clause-refused
returns-in-Ok-None-clause-refused g c = λ before told after told_too.
    let setup : Setup = record { header = c.args.header; tables = c.args.schema.value; initial = c.args.initial } in
    let none : FindsBase setup.tables setup.initial c.in-Ok.opened.1 None = subst (λ (t : Tables). FindsBase t c.args.initial c.in-Ok.opened.1 None) c.deref.ensures
    (subst (λ (o : Option (List Row)). FindsBase c.deref.result.now c.args.initial c.in-Ok.opened.1 o) c.in-Ok-None.field-0-is c.in-Ok-None.ensures) in
    inr (bad_at g.D.Disk.seen g.D.Disk.may_leave g.D.Disk.moment g.D.Disk.left_since g.met.D.Disk.seen_is_left c.as_slice.result.now setup c.as_slice.ensures c.args.disk c.in-Ok.opened.0 c.in-Ok.opened.1 c.last_gate-at.result c.in-Ok.ensures.begun none (c.last_gate-at.ensures ∙ ap (gate_before c.in-Ok.opened.1) c.gate.ensures)
    before after told (subst (λ (d : g.row.D.Denot). g.D.Disk.seen d ≡ Some after) c.finish.ensures told_too))

pub returns-in-Ok-None-clause-unread : goal.returns-in-Ok-None-clause-unread
returns-in-Ok-None-clause-unread g c = λ unread file told among.
    let setup : Setup = record { header = c.args.header; tables = c.args.schema.value; initial = c.args.initial } in
    let none : FindsBase setup.tables setup.initial c.in-Ok.opened.1 None = subst (λ (t : Tables). FindsBase t c.args.initial c.in-Ok.opened.1 None) c.deref.ensures
    (subst (λ (o : Option (List Row)). FindsBase c.deref.result.now c.args.initial c.in-Ok.opened.1 o) c.in-Ok-None.field-0-is c.in-Ok-None.ensures) in
    let begun = begun_at g.D.Disk.seen g.D.Disk.may_leave g.D.Disk.moment g.D.Disk.left_since g.met.D.Disk.seen_is_left c.as_slice.result.now setup c.as_slice.ensures c.in-Ok.opened.0 c.in-Ok.opened.1 file (c.in-Ok.ensures.begun file told) in
    no_base setup among file c.in-Ok.opened.1 begun.fresh begun.held none

pub returns-in-Ok-None-clause-moments : goal.returns-in-Ok-None-clause-moments
returns-in-Ok-None-clause-moments g c = λ file told among all.
    let setup : Setup = record { header = c.args.header; tables = c.args.schema.value; initial = c.args.initial } in (
      tt,
      subst (λ (d : g.row.D.Denot). LeavesOnly g.D.Disk.moment g.D.Disk.left_since c.args.disk d (Reopens setup among)) (sym c.finish.ensures)
          (moments_at g.D.Disk.seen g.D.Disk.may_leave g.D.Disk.moment g.D.Disk.left_since g.met.D.Disk.seen_is_left c.as_slice.result.now setup c.as_slice.ensures among c.args.disk c.in-Ok.opened.0.disk all file told (c.in-Ok.ensures.moments file told).0),
    )

pub returns-in-Err-base_of-clause-moments : goal.returns-in-Err-base_of-clause-moments
returns-in-Err-base_of-clause-moments g c = λ file told among all.
    let setup : Setup = record { header = c.args.header; tables = c.args.schema.value; initial = c.args.initial } in (
      tt,
      subst (λ (d : g.row.D.Denot). LeavesOnly g.D.Disk.moment g.D.Disk.left_since c.args.disk d (Reopens setup among)) (sym c.finish-in-Err-base_of.ensures)
          (moments_at g.D.Disk.seen g.D.Disk.may_leave g.D.Disk.moment g.D.Disk.left_since g.met.D.Disk.seen_is_left c.as_slice.result.now setup c.as_slice.ensures among c.args.disk c.in-Ok.opened.0.disk all file told (c.in-Ok.ensures.moments file told).0),
    )

pub returns-in-Err-copy-clause-moments : goal.returns-in-Err-copy-clause-moments
returns-in-Err-copy-clause-moments g c = λ file told among all.
    let setup : Setup = record { header = c.args.header; tables = c.args.schema.value; initial = c.args.initial } in (
      tt,
      subst (λ (d : g.row.D.Denot). LeavesOnly g.D.Disk.moment g.D.Disk.left_since c.args.disk d (Reopens setup among)) (sym c.finish-in-Err-copy.ensures)
          (moments_at g.D.Disk.seen g.D.Disk.may_leave g.D.Disk.moment g.D.Disk.left_since g.met.D.Disk.seen_is_left c.as_slice.result.now setup c.as_slice.ensures among c.args.disk c.in-Ok.opened.0.disk all file told (c.in-Ok.ensures.moments file told).0),
    )

pub invariant_of-store : goal.invariant_of-store
invariant_of-store g c =
    let setup : Setup = record { header = c.args.header; tables = c.args.schema.value; initial = c.args.initial } in
    let base : FindsBase setup.tables setup.initial c.in-Ok.opened.1 (Some c.in-Ok-Some.rows) = subst (λ (t : Tables). FindsBase t c.args.initial c.in-Ok.opened.1 (Some c.in-Ok-Some.rows)) c.deref.ensures
    (subst (λ (o : Option (List Row)). FindsBase c.deref.result.now c.args.initial c.in-Ok.opened.1 o) c.in-Ok-Some.field-0-is c.in-Ok-Some.ensures) in
    keeping_at g.D.Disk.seen g.D.Disk.may_leave g.D.Disk.moment g.D.Disk.left_since g.met.D.Disk.seen_is_left c.as_slice.result.now setup c.as_slice.ensures c.args.disk c.in-Ok.opened.0 c.in-Ok.opened.1 c.in-Ok-Some.rows c.in-Ok.ensures.begun base c.in-Ok.ensures.tells.0

pub returns-clause-reads : goal.returns-clause-reads
returns-clause-reads g c = λ file told.
    let setup : Setup = record { header = c.args.header; tables = c.args.schema.value; initial = c.args.initial } in
    let base : FindsBase setup.tables setup.initial c.in-Ok.opened.1 (Some c.in-Ok-Some.rows) = subst (λ (t : Tables). FindsBase t c.args.initial c.in-Ok.opened.1 (Some c.in-Ok-Some.rows)) c.deref.ensures
    (subst (λ (o : Option (List Row)). FindsBase c.deref.result.now c.args.initial c.in-Ok.opened.1 o) c.in-Ok-Some.field-0-is c.in-Ok-Some.ensures) in
    let begun = begun_at g.D.Disk.seen g.D.Disk.may_leave g.D.Disk.moment g.D.Disk.left_since g.met.D.Disk.seen_is_left c.as_slice.result.now setup c.as_slice.ensures c.in-Ok.opened.0 c.in-Ok.opened.1 file (c.in-Ok.ensures.begun file told) in
    subst (λ (r : List Row). BeginsWith setup r file) (sym c.in-Ok-copy.ensures)
    (begins_with setup file c.in-Ok.opened.1 c.in-Ok-Some.rows begun.opens begun.fresh begun.held base)

pub returns-clause-now : goal.returns-clause-now
returns-clause-now g c =
    let setup : Setup = record { header = c.args.header; tables = c.args.schema.value; initial = c.args.initial } in
    let base : FindsBase setup.tables setup.initial c.in-Ok.opened.1 (Some c.in-Ok-Some.rows) = subst (λ (t : Tables). FindsBase t c.args.initial c.in-Ok.opened.1 (Some c.in-Ok-Some.rows)) c.deref.ensures
    (subst (λ (o : Option (List Row)). FindsBase c.deref.result.now c.args.initial c.in-Ok.opened.1 o) c.in-Ok-Some.field-0-is c.in-Ok-Some.ensures) in
    subst (λ (r : List Row). StoreLeaves g.D.Disk.seen g.D.Disk.left_since (storing c.in-Ok.opened.0 setup r None) (g.D.Disk.moment c.in-Ok.opened.0.disk) (r ∷ [])) (sym c.in-Ok-copy.ensures)
    (settled_leaves g.D.Disk.seen g.D.Disk.may_leave g.D.Disk.moment g.D.Disk.left_since g.met.D.Disk.seen_is_left g.met.D.Disk.only_now setup c.in-Ok.opened.0 c.in-Ok-Some.rows None
    (keeping_at g.D.Disk.seen g.D.Disk.may_leave g.D.Disk.moment g.D.Disk.left_since g.met.D.Disk.seen_is_left c.as_slice.result.now setup c.as_slice.ensures c.args.disk c.in-Ok.opened.0 c.in-Ok.opened.1 c.in-Ok-Some.rows c.in-Ok.ensures.begun base c.in-Ok.ensures.tells.0))

pub returns-clause-moments : goal.returns-clause-moments
returns-clause-moments g c = λ file told among all.
    let setup : Setup = record { header = c.args.header; tables = c.args.schema.value; initial = c.args.initial } in
    (moments_at g.D.Disk.seen g.D.Disk.may_leave g.D.Disk.moment g.D.Disk.left_since g.met.D.Disk.seen_is_left c.as_slice.result.now setup c.as_slice.ensures among c.args.disk c.in-Ok.opened.0.disk all file told (c.in-Ok.ensures.moments file told).0, tt)

pub returns-in-Ok-None-clause-spared : goal.returns-in-Ok-None-clause-spared
returns-in-Ok-None-clause-spared g c = λ file told none.
    let setup : Setup = record { header = c.args.header; tables = c.args.schema.value; initial = c.args.initial } in
    absurd (reads_at g.D.Disk.seen g.D.Disk.may_leave g.D.Disk.moment g.D.Disk.left_since g.met.D.Disk.seen_is_left c.as_slice.result.now setup c.as_slice.ensures
    c.in-Ok.opened.0 c.in-Ok.opened.1 file (c.in-Ok.ensures.begun file told) none)

pub returns-in-Err-base_of-clause-spared : goal.returns-in-Err-base_of-clause-spared
returns-in-Err-base_of-clause-spared g c = λ file told none.
    let setup : Setup = record { header = c.args.header; tables = c.args.schema.value; initial = c.args.initial } in
    absurd (reads_at g.D.Disk.seen g.D.Disk.may_leave g.D.Disk.moment g.D.Disk.left_since g.met.D.Disk.seen_is_left c.as_slice.result.now setup c.as_slice.ensures
    c.in-Ok.opened.0 c.in-Ok.opened.1 file (c.in-Ok.ensures.begun file told) none)

pub returns-in-Err-copy-clause-spared : goal.returns-in-Err-copy-clause-spared
returns-in-Err-copy-clause-spared g c = λ file told none.
    let setup : Setup = record { header = c.args.header; tables = c.args.schema.value; initial = c.args.initial } in
    absurd (reads_at g.D.Disk.seen g.D.Disk.may_leave g.D.Disk.moment g.D.Disk.left_since g.met.D.Disk.seen_is_left c.as_slice.result.now setup c.as_slice.ensures
    c.in-Ok.opened.0 c.in-Ok.opened.1 file (c.in-Ok.ensures.begun file told) none)

pub returns-in-Err-clause-other : goal.returns-in-Err-clause-other
returns-in-Err-clause-other g c = λ other. c.in-Err.ensures.unfailed (λ is. other (c.fault_of.ensures ∙ ap fault_by is))
