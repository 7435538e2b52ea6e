use Rattle.std.proofs.Common.{eqb, sym, ap, ◌∙◌, Some, arith}
use Rattle.nc_schema.specs.declared.node.Case.{Case}
use Rattle.nc_yang_data.specs.inner.Cases.{case_test}
use Rattle.nc_yang_data.proofs.CaseLemmas.{names_end, no_case, no_choice, other_name, same_name}
use Rattle.nc_yang_data.proofs.cases.Cases.are_each_named.Goals as goal

-- for what is past the end
abbrev none : Case
none = record { choice = 0; case = 0 }

pub returns-in_default : goal.returns-in_default
returns-in_default c =
    sym (no_choice (case_test c.args.self.now) c.args.cases.now c.args.names.now c.loop-case.case-index c.loop-case.at none c.loop-case-test.true _ c.loop-case.invariant.1
    (sym c.in_default.ensures.value))

pub returns-in_default-get : goal.returns-in_default-get
returns-in_default-get c =
    sym (no_case (case_test c.args.self.now) c.args.cases.now c.args.names.now c.loop-case.case-index c.loop-case.at none c.loop-case-test.true _ c.loop-case.invariant.1
    c.in-Some.choice.now (sym c.in-Some.ensures.value) (sym c.in_default-get.ensures.value))

pub returns-then-not-is_named : goal.returns-then-not-is_named
returns-then-not-is_named c =
    sym (other_name (case_test c.args.self.now) c.args.cases.now c.args.names.now c.loop-case.case-index c.loop-case.at none c.loop-case-test.true _ c.loop-case.invariant.1
    c.as_str.result.now (sym c.in-Some.ensures.value ∙ ap Some (sym c.as_str.ensures)) c.as_str-in-loop-case.result.now (sym c.in-Some-get.ensures.value ∙ ap Some (sym c.as_str-in-loop-case.ensures))
    (sym c.is_named.ensures ∙ c.if-not-is_named.true))

pub loop-case-preserved : goal.loop-case-preserved
loop-case-preserved c = (
  (let w = c.in-Some-get.ensures.within in omega (arith, w)),
  same_name (case_test c.args.self.now) c.args.cases.now c.args.names.now c.loop-case.case-index c.loop-case.at none c.loop-case-test.true _ c.loop-case.invariant.1
      c.as_str.result.now (sym c.in-Some.ensures.value ∙ ap Some (sym c.as_str.ensures)) c.as_str-in-loop-case.result.now (sym c.in-Some-get.ensures.value ∙ ap Some (sym c.as_str-in-loop-case.ensures))
      (sym c.is_named.ensures ∙ c.if-not-is_named.false),
)

pub returns : goal.returns
returns c =
    ap (eqb c.loop-case.at) c.len-count.ensures
    ∙ sym (c.loop-case.invariant.1 ∙ names_end (case_test c.args.self.now) c.args.cases.now c.args.names.now c.loop-case.case-index c.loop-case.at c.loop-case-test.false c.loop-case.invariant.0)
