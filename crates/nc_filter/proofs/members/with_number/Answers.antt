use Rattle.std.proofs.Common.{◌∙◌}
use Rattle.nc_filter.proofs.BitLemmas.{bits_more, few_more}
use Rattle.nc_filter.proofs.members.with_number.Goals as goal

pub returns-then-is_short : goal.returns-then-is_short
returns-then-is_short c = λ n. few_more c.args.members.few c.push.new.self c.args.members.words c.args.number n c.in_ok-push.ensures.ok

pub returns : goal.returns
returns c = λ n.
    c.of_bits.ensures n
    ∙ bits_more c.args.members c.in_ok-all.all c.in_ok-more.more c.as_slice.result.now c.args.number n c.as_slice.ensures (c.in_ok-all.ensures n) (c.in_ok-more.ensures n)
