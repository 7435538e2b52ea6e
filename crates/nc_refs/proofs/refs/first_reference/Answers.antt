use Rattle.std.proofs.Common.{◌≡◌, ap, sym, ◌∙◌}
use Rattle.std.specs.Prelude.{Option, Some, slice_get}
use Rattle.nc_names.specs.declared.path.Path.{Path}
use Rattle.std.specs.List.{flat_map}
use Rattle.nc_schema.specs.Violations.{row_violation}
use Rattle.nc_schema.specs.declared.violation.Violation.{Violation}
use Rattle.nc_refs.specs.inner.Broken.{fault_of}
use Rattle.nc_refs.proofs.RefsLemmas.{first_found, passed_over}
use Rattle.nc_refs.proofs.refs.first_reference.Goals as goal

pub loop-row-init : goal.loop-row-init
loop-row-init c = record {
  about = record { known = c.new.ensures c.args.schema.now c.args.config.now; nodes = tt };
  rest = ap (λ rows. slice_get (flat_map (row_violation c.args.schema.now c.args.config.now) rows) 0) c.as_slice-row-items.ensures;
}

pub loop-row-preserved-then-not-may_refer : goal.loop-row-preserved-then-not-may_refer
loop-row-preserved-then-not-may_refer c = record {
  about = c.loop-row.invariant.about;
  rest =
      passed_over (row_violation c.args.schema.now c.args.config.now) c.as_slice-row-items.result.now c.loop-row.row-index c.row-item.result _ c.loop-row-test.true c.row-item.is
      (c.may_refer.ensures c.args.config.now c.if-not-may_refer.true) c.loop-row.invariant.rest;
}

pub returns-in-Some : goal.returns-in-Some
returns-in-Some c =
    let row = c.row-item.result in
    let broken : Violation = record { kind = c.in-Some.kind; path = row.path } in
    let violation : Path → Option Violation = λ path. Some (record { kind = c.in-Some.kind; path = path }) in
    let copied : c.in_ok-path.path ≡ row.path = c.in_ok-path.ensures in
    let found = ap (fault_of row.path.steps) (sym c.in-Some.is) ∙ c.in_ok-next.ensures.fault in
    ap violation copied
    ∙ first_found (row_violation c.args.schema.now c.args.config.now) c.as_slice-row-items.result.now c.loop-row.row-index row broken c.loop-row-test.true
    c.row-item.is found
    ∙ c.loop-row.invariant.rest
