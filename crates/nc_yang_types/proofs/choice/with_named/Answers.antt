use Rattle.std.proofs.Common.{◌≡◌, ℕ, List, Some, cond, subst, ◌∙◌, Bor}
use Rattle.std.specs.Prelude.{ℤ}
use Rattle.std.specs.BTreeMap.{get}
use Rattle.std.specs.Int.{w128}
use Rattle.std.specs.Ordering.{is_eq}
use Rattle.std.proofs.lemmas.Int.{to_z-of_z}
use Rattle.nc_yang_types.specs.inner.Known.{text_order}
use Rattle.nc_yang_types.proofs.ChoiceLemmas.{named_added}
use Rattle.nc_yang_types.proofs.choice.with_named.Goals as goal

pub returns : goal.returns
returns c = λ before known.
    let P : ℤ → Type 0 =
    λ z. (key : Bor (List ℕ)) → get text_order c.insert.new.self key ≡ cond (is_eq (text_order c.as_str.result key)) (Some z) (get text_order c.args.numbers key) in
    named_added c.args.numbers c.insert.new.self c.as_str.result c.args.named.now before c.as_str.ensures
    (subst P (to_z-of_z w128 c.args.number c.ranges.number ∙ c.requires) c.in_ok-insert.ensures.updates.0) known
