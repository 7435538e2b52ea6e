-- The text after white space.
use Rattle.nc_names.specs.Signs.{is_white}
use Rattle.nc_names.proofs.EndLemmas.{cut_after, past_at, white_low}
use Rattle.nc_names.proofs.white.after_white.Goals as goal

pub split_at-requires : goal.split_at-requires
split_at-requires c =
    cut_after is_white c.args.text.now c.as_bytes.result.now c.count_white-count.result white_low
    c.count_white-count.ensures c.as_bytes.ensures.value c.as_bytes.ensures.utf8

pub returns : goal.returns
returns c =
    past_at is_white c.args.text.now c.as_bytes.result.now c.split_at.result.1.now c.count_white-count.result
    c.split_at.ensures.back c.count_white-count.ensures c.as_bytes.ensures.value
