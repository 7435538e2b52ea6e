use Rattle.std.proofs.Common.{◌∙◌, List, ℕ, subst}
use Rattle.nc_names.specs.Same.{is_same_text}
use Rattle.nc_filter.specs.inner.Runs.{Marks}
use Rattle.nc_filter.proofs.MemberLemmas.{keys_marked}
use Rattle.nc_filter.proofs.table.with_keys.Goals as goal

pub loop-key-preserved : goal.loop-key-preserved
loop-key-preserved c =
    keys_marked c.args.keys.now c.loop-key.key-index c.key-item.result c.args.items c.loop-key.items c.in_ok-items.items c.args.number c.loop-key-test.true c.key-item.is c.loop-key.invariant
    (subst (λ (wanted : List ℕ). Marks c.loop-key.items c.in_ok-items.items (is_same_text wanted) c.args.number) (c.in_ok-copy.ensures ∙ c.as_slice.ensures) c.in_ok-items.ensures)
