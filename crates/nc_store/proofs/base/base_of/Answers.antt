use Rattle.std.proofs.Common.{sym, subst, ℕ, List}
use Rattle.nc_journal.proofs.Looking.{if_ok_also}
use Rattle.nc_store.specs.inner.Finding.{FindsBase, FindsRecord}
use Rattle.nc_store.proofs.Spelling.{base_found, initial_found, last_split, none_last}
use Rattle.nc_store.proofs.base.base_of.Goals as goal

pub returns-in-Some : goal.returns-in-Some
returns-in-Some c =
    let cut = last_split c.args.bodies.now c.in-Some.body.now (sym c.in-Some.ensures.value) in
    if_ok_also c.spelled.result (FindsRecord c.args.schema.now c.as_slice.result.now) (FindsBase c.args.schema.now c.args.initial.now c.args.bodies.now) c.spelled.ensures (λ found it.
    base_found c.args.schema.now c.args.initial.now c.args.bodies.now cut.0 c.in-Some.body.now cut.1 found (subst (λ (b : List ℕ). FindsRecord c.args.schema.now b found) c.as_slice.ensures it))

pub returns-in_ok-copy-in-None : goal.returns-in_ok-copy-in-None
returns-in_ok-copy-in-None c = initial_found c.args.schema.now c.args.initial.now c.in_ok-copy-in-None.field-0 c.args.bodies.now (none_last c.args.bodies.now (sym c.in-None.ensures.value)) c.in_ok-copy-in-None.ensures
