use Rattle.std.proofs.Common.{◌∙◌, ◌&&◌, List, ℕ, ap, sym}
use Rattle.nc_filter.specs.inner.Runs.{has_keys}
use Rattle.nc_filter.specs.inner.Sets.{bit_of}
use Rattle.nc_filter.proofs.MemberLemmas.{and_true, keys_met}
use Rattle.nc_filter.proofs.TableLemmas.{taken_all}
use Rattle.nc_filter.proofs.groups.met_keys.Goals as goal

pub loop-key-init : goal.loop-key-init
loop-key-init c = λ n.
    ap (λ (words : List ℕ). bit_of words n) (c.from_vec-out.ensures ∙ c.in_ok-from_slice.ensures.items) ∙ sym (and_true (bit_of c.args.from.now n))

pub loop-key-preserved : goal.loop-key-preserved
loop-key-preserved c =
    keys_met c.args.table.now.items c.args.keys.now c.loop-key.key-index c.key-item.result c.args.from.now c.loop-key.out c.in_ok-out.out c.loop-key-test.true c.key-item.is
    c.in_ok-out.ensures c.loop-key.invariant

pub returns : goal.returns
returns c = λ n.
    c.loop-key.invariant n
    ∙ ap (λ (keys : List (List ℕ)). bit_of c.args.from.now n && has_keys c.args.table.now.items keys n) (taken_all c.args.keys.now c.loop-key.key-index c.loop-key-test.false)
