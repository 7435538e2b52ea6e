use Rattle.std.proofs.Common.{◌∙◌, ◌+◌, ◌==◌, ◌&&◌, ◌||◌, List, ℕ, ap, refl}
use Rattle.nc_filter.specs.inner.Sets.{bit_of}
use Rattle.nc_filter.proofs.MemberLemmas.{all_reached, none_reached, run_reached}
use Rattle.nc_filter.proofs.reach.reached_bits.Goals as goal

pub loop-run-init : goal.loop-run-init
loop-run-init c = (refl, none_reached c.args.members.now c.args.runs.now c.new-out.result c.new-out.ensures)

pub loop-run-preserved : goal.loop-run-preserved
loop-run-preserved c = (
  ap (λ n. n + 1) c.loop-run.invariant.0,
  run_reached c.args.members.now c.args.runs.now c.loop-run.out c.in_ok-out.out c.loop-run.run-index c.loop-run.number c.run-item.result c.loop-run-test.true c.run-item.is c.loop-run.invariant.0
      (λ n. c.in_ok-out.ensures n
      ∙ ap (λ b. bit_of c.loop-run.out n || (b && (c.loop-run.number == n)))
      (ap (λ (words : List ℕ). bit_of words c.run-item.result.parent) c.as_slice-above.ensures ∙ c.in_ok-parents.ensures c.run-item.result.parent))
      c.loop-run.invariant.1,
)

pub returns : goal.returns
returns c = all_reached c.args.members.now c.args.runs.now c.loop-run.out c.loop-run.run-index c.loop-run-test.false c.loop-run.invariant.1
