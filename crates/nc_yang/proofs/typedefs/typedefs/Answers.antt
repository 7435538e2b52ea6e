use Rattle.std.proofs.Common.{◌++◌, ◌+◌, sym, subst}
use Rattle.std.specs.List.{flat_map, range_with_len}
use Rattle.nc_yang_scopes.specs.Numbers.{AreNumbers}
use Rattle.nc_yang_nodes.proofs.NumberLemmas.{flat_range_more, numbers_append}
use Rattle.nc_yang.specs.Typedefs.{typedefs_in}
use Rattle.nc_yang.proofs.typedefs.typedefs.Goals as goal

pub loop-text-preserved : goal.loop-text-preserved
loop-text-preserved c =
    subst (λ z. AreNumbers c.args.scopes.now.located z (flat_map (typedefs_in c.args.scopes.now.texts) (range_with_len 0 (c.loop-text.text + 1)))) (sym c.in_ok-append.ensures.ok)
    (subst (AreNumbers c.args.scopes.now.located (c.loop-text.list ++ c.in_ok-more.more)) (sym (flat_range_more (typedefs_in c.args.scopes.now.texts) c.loop-text.text))
    (numbers_append c.args.scopes.now.located c.loop-text.list c.in_ok-more.more (flat_map (typedefs_in c.args.scopes.now.texts) (range_with_len 0 c.loop-text.text)) (typedefs_in c.args.scopes.now.texts c.loop-text.text)
    c.loop-text.invariant c.in_ok-more.ensures))
