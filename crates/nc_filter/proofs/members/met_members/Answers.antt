use Rattle.std.proofs.Common.{◌∙◌, ◌&&◌, List, ℕ, ap}
use Rattle.nc_filter.specs.inner.Sets.{bit_of}
use Rattle.nc_filter.proofs.BitLemmas.{few_none}
use Rattle.nc_filter.proofs.members.met_members.Goals as goal

pub returns-then-is_empty : goal.returns-then-is_empty
returns-then-is_empty c = λ n.
    c.met.ensures n
    ∙ ap (λ b. bit_of c.args.words n && b)
    (ap (λ (words : List ℕ). bit_of words n) c.as_slice.ensures ∙ few_none c.args.members.now n (c.is_empty.ensures.0 c.if-is_empty.true))

pub returns : goal.returns
returns c = λ n.
    c.met-2.ensures n
    ∙ ap (λ b. bit_of c.args.words n && b) (ap (λ (words : List ℕ). bit_of words n) c.as_slice-2.ensures ∙ c.in_ok-all.ensures n)
