use Rattle.std.proofs.Common.{◌∙◌, ℕ, arith, ap, subst, sym}
use Rattle.std.specs.Option.{option_copied}
use Rattle.nc_schema.specs.Standing.{entries}
use Rattle.nc_changes.specs.inner.Ranks.{AreMoves}
use Rattle.nc_changes.proofs.RankLemmas.{rank_found}
use Rattle.nc_changes.proofs.ranks.Ranks.has_moved.Goals as goal

pub returns : goal.returns
returns c = λ old new are.
    c.has.ensures (entries old c.args.above.now c.args.number) (entries new c.args.above.now c.args.number)
    (subst (λ (number : ℕ). AreMoves c.in-Some.listed.now.moves (entries old c.args.above.now number) (entries new c.args.above.now number)) (omega (arith, c.if-listed-number.false))
    (rank_found old new c.args.self.now c.args.above c.in-Some.listed.now are (sym (ap option_copied c.in-Some.is) ∙ c.get.ensures.value)))
