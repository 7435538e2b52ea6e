use Rattle.std.proofs.Common.{◌≡◌, cond, true, subst}
use Rattle.std.specs.Prelude.{ℤ}
use Rattle.std.specs.BTreeSet.{contains}
use Rattle.std.specs.Int.{w128}
use Rattle.std.specs.Ordering.{is_eq, int_cmp}
use Rattle.std.proofs.lemmas.Int.{to_z-of_z}
use Rattle.nc_yang_types.proofs.KnownLemmas.{number_added}
use Rattle.nc_yang_types.proofs.numbers.with_one.Goals as goal

pub returns : goal.returns
returns c = λ before has.
    let P : ℤ → Type 0 = λ z. (key : ℤ) → contains int_cmp c.insert.new.self key ≡ cond (is_eq (int_cmp z key)) true (contains int_cmp c.args.known key) in
    number_added c.args.known c.insert.new.self c.args.number before (subst P (to_z-of_z w128 c.args.number c.ranges.number) c.in_ok-insert.ensures.updates.0) has
