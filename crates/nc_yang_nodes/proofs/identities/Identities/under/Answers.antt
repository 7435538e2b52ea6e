use Rattle.std.proofs.Common.{[], arith, subst, sym}
use Rattle.std.proofs.lemmas.Option.{slice_get-get_or}
use Rattle.nc_yang_nodes.specs.Picks.{PicksNumbers}
use Rattle.nc_yang_nodes.specs.Values.{IsUnder}
use Rattle.nc_yang_nodes.specs.inner.Marks.{AreMarks}
use Rattle.nc_yang_nodes.proofs.PickLemmas.{looked_all, looks_at, picks_nothing}
use Rattle.nc_yang_nodes.proofs.identities.Identities.under.Goals as goal

pub loop-number-init : goal.loop-number-init
loop-number-init c = λ base here ls are.
    subst (PicksNumbers c.args.self.now.located (IsUnder c.args.self.now.texts base) []) (sym c.new-kept.ensures) (picks_nothing c.args.self.now.located (IsUnder c.args.self.now.texts base))

pub loop-number-preserved : goal.loop-number-preserved
loop-number-preserved c = λ base here ls are.
    looks_at c.args.self.now.located (IsUnder c.args.self.now.texts base) c.args.numbers.now ls c.loop-number.number-index _ c.has_mark.result c.loop-number.kept c.keep_if.new.kept are
    (slice_get-get_or c.args.numbers.now c.loop-number.number-index _ c.loop-number-test.true)
    (c.has_mark.ensures base (subst (AreMarks c.args.self.now.texts base) (sym c.as_slice.ensures) (c.in_ok-marks.ensures base here)))
    (c.loop-number.invariant base here ls are) c.in_ok-keep_if.ensures

pub returns : goal.returns
returns c = λ base here ls are.
    looked_all c.args.self.now.located (IsUnder c.args.self.now.texts base) c.args.numbers.now ls c.loop-number.number-index c.loop-number.kept are (omega arith) (c.loop-number.invariant base here ls are)
