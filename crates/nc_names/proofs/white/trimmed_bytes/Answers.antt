-- White space is dropped first and last.
use Rattle.std.proofs.Common.{◌≡◌, ◌∙◌, ap, drop, length, subst, sym, ◌≤◌, ℕ}
use Rattle.std.proofs.lemmas.List.Sums.{prefix_len-le-length}
use Rattle.nc_names.specs.Ends.{after_white, without_last}
use Rattle.nc_names.specs.Signs.{is_white}
use Rattle.nc_names.proofs.EndLemmas.{past_is}
use Rattle.nc_names.proofs.white.trimmed_bytes.Goals as goal

pub tail-rest-requires : goal.tail-rest-requires
tail-rest-requires c =
    subst (λ (n : ℕ). n ≤ length c.args.bytes.now) (sym c.count_white.ensures)
    (prefix_len-le-length is_white c.args.bytes.now)

pub returns : goal.returns
returns c =
    let rest : c.tail-rest.result.now ≡ after_white c.args.bytes.now =
    c.tail-rest.ensures ∙ ap (λ n. drop n c.args.bytes.now) c.count_white.ensures ∙ past_is is_white c.args.bytes.now in
    c.end_of_black.ensures.before ∙ ap (without_last is_white) rest
