use borrow.Author.Count.{below_more}
use Rattle.std.proofs.Common.{◌<◌, ℕ, arith}
use Rattle.nc_validate.specs.inner.Asked.{CoversNode}
use Rattle.nc_validate.proofs.AskedLemmas.{covers_all}
use Rattle.nc_validate.proofs.asked.covers_nodes.Goals as goal

pub loop-number-init : goal.loop-number-init
loop-number-init c = λ k less. absurd (omega (arith, less))

pub loop-number-preserved : goal.loop-number-preserved
loop-number-preserved c =
    below_more (λ (k : ℕ). CoversNode c.args.schema.now c.args.marks.now k) c.loop-number.number c.loop-number.invariant (c.covers_node.ensures c.if-not-covers_node.false)

pub returns : goal.returns
returns c = λ yes. covers_all c.args.schema.now c.args.marks.now (λ k less. c.loop-number.invariant k (omega (arith, less, c.nodes-count.ensures.number)))
