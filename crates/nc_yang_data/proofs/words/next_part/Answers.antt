use Rattle.nc_yang_data.proofs.WordLemmas.{cut_before, cut_after, part_first, part_only}
use Rattle.nc_yang_data.proofs.words.next_part.Goals as goal

pub returns-then-at-text : goal.returns-then-at-text
returns-then-at-text c = part_only c.args.text.now c.as_bytes.result.now c.count_black-at.result c.count_black-at.ensures c.as_bytes.ensures.value c.if-at-text.true

pub split_at-requires : goal.split_at-requires
split_at-requires c = cut_before c.args.text.now c.as_bytes.result.now c.count_black-at.result c.count_black-at.ensures c.as_bytes.ensures.value c.as_bytes.ensures.utf8 c.if-at-text.false

pub split_at-requires-2 : goal.split_at-requires-2
split_at-requires-2 c = cut_after c.args.text.now c.as_bytes.result.now c.count_black-at.result c.count_black-at.ensures c.as_bytes.ensures.value c.as_bytes.ensures.utf8 c.if-at-text.false

pub returns : goal.returns
returns c = part_first c.args.text.now c.as_bytes.result.now c.split_at.result.0.now c.split_at-2.result.1.now c.count_black-at.result c.count_black-at.ensures c.as_bytes.ensures.value c.if-at-text.false c.split_at.ensures.front c.split_at-2.ensures.back
