use Rattle.std.proofs.Common.{◌∙◌, Some, None, ap, subst}
use Rattle.nc_journal.specs.declared.kept.Kept.{Kept}
use Rattle.nc_journal.specs.declared.kept.Kept.TheVariants.{Failed as HasFailed}
use Rattle.nc_store.specs.Keeping.{KeptAs, live_size}
use Rattle.nc_store.specs.Reopening.{Setup}
use Rattle.nc_store.proofs.Settling.{adds_seen, can_keep, goes_later, keeps_on, ready_record, settled_leaves}
use Rattle.nc_store.proofs.store.StoreKeeper.keep.Goals as goal

pub write-requires : goal.write-requires
write-requires g c =
    let setup : Setup = record { header = c.self.inside.header; tables = c.self.inside.schema.value; initial = c.self.inside.initial } in
    let live = live_size c.self.inside.journal in
    record {
      can = can_keep g.D.Disk.seen g.D.Disk.may_leave g.D.Disk.moment g.D.Disk.left_since g.met.D.Disk.seen_is_left g.met.D.Disk.only_now setup c.self.inside.journal c.self.inside.base c.self.inside.doubt live c.requires.0 c.args.ready.way c.self.invariant
          (ready_record g.D.Disk.seen g.D.Disk.may_leave g.D.Disk.moment g.D.Disk.left_since g.met.D.Disk.seen_is_left g.met.D.Disk.only_now c.self.inside.journal setup c.self.inside.base c.self.inside.doubt c.args.self.now c.args.ready c.requires.0 c.self.view_is c.requires.1);
    }

pub invariant_of-self : goal.invariant_of-self
invariant_of-self g c =
    let setup : Setup = record { header = c.self.inside.header; tables = c.self.inside.schema.value; initial = c.self.inside.initial } in
    keeps_on g.D.Disk.seen g.D.Disk.may_leave g.D.Disk.moment g.D.Disk.left_since g.met.D.Disk.seen_is_left g.met.D.Disk.only_now setup c.self.inside.journal c.write.new.journal c.self.inside.base c.args.ready.rows c.self.inside.doubt None c.args.self.now c.args.ready c.requires.0 c.write.result
    c.self.view_is c.requires.1 c.self.invariant c.write.ensures.kept c.write.ensures.tells
    (λ it. subst (λ (k : Kept). KeptAs g.D.Disk.seen g.D.Disk.may_leave setup c.write.new.journal c.self.inside.base c.self.inside.doubt c.args.ready.rows k) c.in-Kept.is it)

pub returns-in-Kept-clause-moments : goal.returns-in-Kept-clause-moments
returns-in-Kept-clause-moments g c = λ rows made.
    let setup : Setup = record { header = c.self.inside.header; tables = c.self.inside.schema.value; initial = c.self.inside.initial } in
    adds_seen g.D.Disk.seen g.D.Disk.may_leave g.D.Disk.moment g.D.Disk.left_since g.met.D.Disk.seen_is_left g.met.D.Disk.only_now setup c.self.inside.journal c.write.new.journal c.self.inside.base c.args.ready.rows c.self.inside.doubt None c.args.self.now c.args.ready rows c.self.view_is made c.self.invariant
    c.write.ensures.later c.write.ensures.tells c.write.ensures.moments

pub returns-in-Kept-clause-now : goal.returns-in-Kept-clause-now
returns-in-Kept-clause-now g c =
    let setup : Setup = record { header = c.self.inside.header; tables = c.self.inside.schema.value; initial = c.self.inside.initial } in
    settled_leaves g.D.Disk.seen g.D.Disk.may_leave g.D.Disk.moment g.D.Disk.left_since g.met.D.Disk.seen_is_left g.met.D.Disk.only_now setup c.write.new.journal c.args.ready.rows None
    (keeps_on g.D.Disk.seen g.D.Disk.may_leave g.D.Disk.moment g.D.Disk.left_since g.met.D.Disk.seen_is_left g.met.D.Disk.only_now setup c.self.inside.journal c.write.new.journal c.self.inside.base c.args.ready.rows c.self.inside.doubt None c.args.self.now c.args.ready c.requires.0 c.write.result
    c.self.view_is c.requires.1 c.self.invariant c.write.ensures.kept c.write.ensures.tells
    (λ it. subst (λ (k : Kept). KeptAs g.D.Disk.seen g.D.Disk.may_leave setup c.write.new.journal c.self.inside.base c.self.inside.doubt c.args.ready.rows k) c.in-Kept.is it))

pub returns-in-Kept-clause-continues : goal.returns-in-Kept-clause-continues
returns-in-Kept-clause-continues g c =
    let setup : Setup = record { header = c.self.inside.header; tables = c.self.inside.schema.value; initial = c.self.inside.initial } in
    goes_later g.D.Disk.seen g.D.Disk.may_leave g.D.Disk.moment g.D.Disk.left_since g.met.D.Disk.seen_is_left g.met.D.Disk.only_now setup c.self.inside.journal c.write.new.journal c.self.inside.base c.args.ready.rows c.self.inside.doubt None c.args.self.now c.args.ready c.requires.0 c.write.result c.self.view_is c.requires.1 c.self.invariant
    c.write.ensures.bounded c.write.ensures.tells c.write.ensures.grown g.met.D.Disk.counts_now

pub invariant_of-self-in-Nothing : goal.invariant_of-self-in-Nothing
invariant_of-self-in-Nothing g c =
    let setup : Setup = record { header = c.self.inside.header; tables = c.self.inside.schema.value; initial = c.self.inside.initial } in
    keeps_on g.D.Disk.seen g.D.Disk.may_leave g.D.Disk.moment g.D.Disk.left_since g.met.D.Disk.seen_is_left g.met.D.Disk.only_now setup c.self.inside.journal c.write.new.journal c.self.inside.base c.self.inside.base c.self.inside.doubt None c.args.self.now c.args.ready c.requires.0 c.write.result
    c.self.view_is c.requires.1 c.self.invariant c.write.ensures.kept c.write.ensures.tells
    (λ it. subst (λ (k : Kept). KeptAs g.D.Disk.seen g.D.Disk.may_leave setup c.write.new.journal c.self.inside.base c.self.inside.doubt c.args.ready.rows k) (c.in-Failed.is ∙ ap HasFailed c.in-Nothing.is) it)

pub returns-in-Nothing-clause-moments : goal.returns-in-Nothing-clause-moments
returns-in-Nothing-clause-moments g c = λ rows made.
    let setup : Setup = record { header = c.self.inside.header; tables = c.self.inside.schema.value; initial = c.self.inside.initial } in
    adds_seen g.D.Disk.seen g.D.Disk.may_leave g.D.Disk.moment g.D.Disk.left_since g.met.D.Disk.seen_is_left g.met.D.Disk.only_now setup c.self.inside.journal c.write.new.journal c.self.inside.base c.self.inside.base c.self.inside.doubt None c.args.self.now c.args.ready rows c.self.view_is made c.self.invariant
    c.write.ensures.later c.write.ensures.tells c.write.ensures.moments

pub returns-in-Nothing-clause-now : goal.returns-in-Nothing-clause-now
returns-in-Nothing-clause-now g c =
    let setup : Setup = record { header = c.self.inside.header; tables = c.self.inside.schema.value; initial = c.self.inside.initial } in
    settled_leaves g.D.Disk.seen g.D.Disk.may_leave g.D.Disk.moment g.D.Disk.left_since g.met.D.Disk.seen_is_left g.met.D.Disk.only_now setup c.write.new.journal c.self.inside.base None
    (keeps_on g.D.Disk.seen g.D.Disk.may_leave g.D.Disk.moment g.D.Disk.left_since g.met.D.Disk.seen_is_left g.met.D.Disk.only_now setup c.self.inside.journal c.write.new.journal c.self.inside.base c.self.inside.base c.self.inside.doubt None c.args.self.now c.args.ready c.requires.0 c.write.result
    c.self.view_is c.requires.1 c.self.invariant c.write.ensures.kept c.write.ensures.tells
    (λ it. subst (λ (k : Kept). KeptAs g.D.Disk.seen g.D.Disk.may_leave setup c.write.new.journal c.self.inside.base c.self.inside.doubt c.args.ready.rows k) (c.in-Failed.is ∙ ap HasFailed c.in-Nothing.is) it))

pub returns-in-Nothing-clause-continues : goal.returns-in-Nothing-clause-continues
returns-in-Nothing-clause-continues g c =
    let setup : Setup = record { header = c.self.inside.header; tables = c.self.inside.schema.value; initial = c.self.inside.initial } in
    goes_later g.D.Disk.seen g.D.Disk.may_leave g.D.Disk.moment g.D.Disk.left_since g.met.D.Disk.seen_is_left g.met.D.Disk.only_now setup c.self.inside.journal c.write.new.journal c.self.inside.base c.self.inside.base c.self.inside.doubt None c.args.self.now c.args.ready c.requires.0 c.write.result c.self.view_is c.requires.1 c.self.invariant
    c.write.ensures.bounded c.write.ensures.tells c.write.ensures.grown g.met.D.Disk.counts_now

pub invariant_of-self-in-Earlier : goal.invariant_of-self-in-Earlier
invariant_of-self-in-Earlier g c =
    let setup : Setup = record { header = c.self.inside.header; tables = c.self.inside.schema.value; initial = c.self.inside.initial } in
    keeps_on g.D.Disk.seen g.D.Disk.may_leave g.D.Disk.moment g.D.Disk.left_since g.met.D.Disk.seen_is_left g.met.D.Disk.only_now setup c.self.inside.journal c.write.new.journal c.self.inside.base c.self.inside.base c.self.inside.doubt c.self.inside.doubt c.args.self.now c.args.ready c.requires.0 c.write.result
    c.self.view_is c.requires.1 c.self.invariant c.write.ensures.kept c.write.ensures.tells
    (λ it. subst (λ (k : Kept). KeptAs g.D.Disk.seen g.D.Disk.may_leave setup c.write.new.journal c.self.inside.base c.self.inside.doubt c.args.ready.rows k) (c.in-Failed.is ∙ ap HasFailed c.in-Earlier.is) it)

pub returns-in-Earlier-clause-moments : goal.returns-in-Earlier-clause-moments
returns-in-Earlier-clause-moments g c = λ rows made.
    let setup : Setup = record { header = c.self.inside.header; tables = c.self.inside.schema.value; initial = c.self.inside.initial } in
    adds_seen g.D.Disk.seen g.D.Disk.may_leave g.D.Disk.moment g.D.Disk.left_since g.met.D.Disk.seen_is_left g.met.D.Disk.only_now setup c.self.inside.journal c.write.new.journal c.self.inside.base c.self.inside.base c.self.inside.doubt c.self.inside.doubt c.args.self.now c.args.ready rows c.self.view_is made c.self.invariant
    c.write.ensures.later c.write.ensures.tells c.write.ensures.moments

pub returns-in-Earlier-clause-now : goal.returns-in-Earlier-clause-now
returns-in-Earlier-clause-now g c =
    let setup : Setup = record { header = c.self.inside.header; tables = c.self.inside.schema.value; initial = c.self.inside.initial } in
    settled_leaves g.D.Disk.seen g.D.Disk.may_leave g.D.Disk.moment g.D.Disk.left_since g.met.D.Disk.seen_is_left g.met.D.Disk.only_now setup c.write.new.journal c.self.inside.base c.self.inside.doubt
    (keeps_on g.D.Disk.seen g.D.Disk.may_leave g.D.Disk.moment g.D.Disk.left_since g.met.D.Disk.seen_is_left g.met.D.Disk.only_now setup c.self.inside.journal c.write.new.journal c.self.inside.base c.self.inside.base c.self.inside.doubt c.self.inside.doubt c.args.self.now c.args.ready c.requires.0 c.write.result
    c.self.view_is c.requires.1 c.self.invariant c.write.ensures.kept c.write.ensures.tells
    (λ it. subst (λ (k : Kept). KeptAs g.D.Disk.seen g.D.Disk.may_leave setup c.write.new.journal c.self.inside.base c.self.inside.doubt c.args.ready.rows k) (c.in-Failed.is ∙ ap HasFailed c.in-Earlier.is) it))

pub returns-in-Earlier-clause-continues : goal.returns-in-Earlier-clause-continues
returns-in-Earlier-clause-continues g c =
    let setup : Setup = record { header = c.self.inside.header; tables = c.self.inside.schema.value; initial = c.self.inside.initial } in
    goes_later g.D.Disk.seen g.D.Disk.may_leave g.D.Disk.moment g.D.Disk.left_since g.met.D.Disk.seen_is_left g.met.D.Disk.only_now setup c.self.inside.journal c.write.new.journal c.self.inside.base c.self.inside.base c.self.inside.doubt c.self.inside.doubt c.args.self.now c.args.ready c.requires.0 c.write.result c.self.view_is c.requires.1 c.self.invariant
    c.write.ensures.bounded c.write.ensures.tells c.write.ensures.grown g.met.D.Disk.counts_now

pub invariant_of-self-in-This : goal.invariant_of-self-in-This
invariant_of-self-in-This g c =
    let setup : Setup = record { header = c.self.inside.header; tables = c.self.inside.schema.value; initial = c.self.inside.initial } in
    keeps_on g.D.Disk.seen g.D.Disk.may_leave g.D.Disk.moment g.D.Disk.left_since g.met.D.Disk.seen_is_left g.met.D.Disk.only_now setup c.self.inside.journal c.write.new.journal c.self.inside.base c.self.inside.base c.self.inside.doubt (Some c.args.ready.rows) c.args.self.now c.args.ready c.requires.0 c.write.result
    c.self.view_is c.requires.1 c.self.invariant c.write.ensures.kept c.write.ensures.tells
    (λ it. subst (λ (k : Kept). KeptAs g.D.Disk.seen g.D.Disk.may_leave setup c.write.new.journal c.self.inside.base c.self.inside.doubt c.args.ready.rows k) (c.in-Failed.is ∙ ap HasFailed c.in-This.is) it)

pub returns-in-This-clause-moments : goal.returns-in-This-clause-moments
returns-in-This-clause-moments g c = λ rows made.
    let setup : Setup = record { header = c.self.inside.header; tables = c.self.inside.schema.value; initial = c.self.inside.initial } in
    adds_seen g.D.Disk.seen g.D.Disk.may_leave g.D.Disk.moment g.D.Disk.left_since g.met.D.Disk.seen_is_left g.met.D.Disk.only_now setup c.self.inside.journal c.write.new.journal c.self.inside.base c.self.inside.base c.self.inside.doubt (Some c.args.ready.rows) c.args.self.now c.args.ready rows c.self.view_is made c.self.invariant
    c.write.ensures.later c.write.ensures.tells c.write.ensures.moments

pub returns-in-This-clause-now : goal.returns-in-This-clause-now
returns-in-This-clause-now g c =
    let setup : Setup = record { header = c.self.inside.header; tables = c.self.inside.schema.value; initial = c.self.inside.initial } in
    settled_leaves g.D.Disk.seen g.D.Disk.may_leave g.D.Disk.moment g.D.Disk.left_since g.met.D.Disk.seen_is_left g.met.D.Disk.only_now setup c.write.new.journal c.self.inside.base (Some c.args.ready.rows)
    (keeps_on g.D.Disk.seen g.D.Disk.may_leave g.D.Disk.moment g.D.Disk.left_since g.met.D.Disk.seen_is_left g.met.D.Disk.only_now setup c.self.inside.journal c.write.new.journal c.self.inside.base c.self.inside.base c.self.inside.doubt (Some c.args.ready.rows) c.args.self.now c.args.ready c.requires.0 c.write.result
    c.self.view_is c.requires.1 c.self.invariant c.write.ensures.kept c.write.ensures.tells
    (λ it. subst (λ (k : Kept). KeptAs g.D.Disk.seen g.D.Disk.may_leave setup c.write.new.journal c.self.inside.base c.self.inside.doubt c.args.ready.rows k) (c.in-Failed.is ∙ ap HasFailed c.in-This.is) it))

pub returns-in-This-clause-continues : goal.returns-in-This-clause-continues
returns-in-This-clause-continues g c =
    let setup : Setup = record { header = c.self.inside.header; tables = c.self.inside.schema.value; initial = c.self.inside.initial } in
    goes_later g.D.Disk.seen g.D.Disk.may_leave g.D.Disk.moment g.D.Disk.left_since g.met.D.Disk.seen_is_left g.met.D.Disk.only_now setup c.self.inside.journal c.write.new.journal c.self.inside.base c.self.inside.base c.self.inside.doubt (Some c.args.ready.rows) c.args.self.now c.args.ready c.requires.0 c.write.result c.self.view_is c.requires.1 c.self.invariant
    c.write.ensures.bounded c.write.ensures.tells c.write.ensures.grown g.met.D.Disk.counts_now
