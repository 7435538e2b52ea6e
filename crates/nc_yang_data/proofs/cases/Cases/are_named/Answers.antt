use Rattle.std.proofs.Common.{eqb, sym, ◌∙◌, ◌+◌, length}
use Rattle.nc_yang_data.specs.inner.Cases.{case_test}
use Rattle.nc_yang_data.proofs.CaseLemmas.{few_named}
use Rattle.nc_yang_data.proofs.cases.Cases.are_named.Goals as goal

pub returns-then-not-are_pairs : goal.returns-then-not-are_pairs
returns-then-not-are_pairs c =
    sym (few_named (case_test c.args.self.now) c.args.cases.now c.args.names.now
    ((λ i. eqb (sym c.len.ensures i) (length c.args.cases.now + length c.args.cases.now)) ∙ sym c.are_pairs.ensures ∙ c.if-not-are_pairs.true))
