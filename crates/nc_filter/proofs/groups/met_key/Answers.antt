use Rattle.std.proofs.Common.{◌∙◌, ◌&&◌, List, ℕ, ap, sym}
use Rattle.nc_filter.specs.inner.Sets.{bit_of}
use Rattle.nc_filter.proofs.BitLemmas.{empty_bits}
use Rattle.nc_filter.proofs.Unions.{and_false}
use Rattle.nc_filter.proofs.groups.met_key.Goals as goal

pub returns-in_ok-met_members-in-Some : goal.returns-in_ok-met_members-in-Some
returns-in_ok-met_members-in-Some c = λ n. c.in_ok-met_members-in-Some.ensures n ∙ ap (λ b. bit_of c.args.numbers n && b) (c.in-Some.ensures n)

pub returns-in-None : goal.returns-in-None
returns-in-None c = λ n.
    ap (λ (words : List ℕ). bit_of words n) c.new.ensures ∙ empty_bits n
    ∙ sym (ap (λ b. bit_of c.args.numbers n && b) (sym (c.in-None.ensures n)) ∙ and_false (bit_of c.args.numbers n))
