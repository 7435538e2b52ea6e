use Rattle.std.proofs.Common.{◌∙◌, List, ℕ, ap}
use Rattle.nc_filter.specs.inner.Sets.{bit_of}
use Rattle.nc_filter.proofs.BitLemmas.{empty_bits}
use Rattle.nc_filter.proofs.SpotLemmas.{held_more}
use Rattle.nc_filter.proofs.spots.held_in.Goals as goal

pub loop-group-init : goal.loop-group-init
loop-group-init c = λ n. ap (λ (words : List ℕ). bit_of words n) c.new-words.ensures ∙ empty_bits n

pub loop-group-preserved : goal.loop-group-preserved
loop-group-preserved c =
    held_more c.args.groups.now c.loop-group.words c.in_ok-words.words c.loop-group.group-index c.group-item.result c.loop-group-test.true c.group-item.is c.in_ok-words.ensures
    c.loop-group.invariant
