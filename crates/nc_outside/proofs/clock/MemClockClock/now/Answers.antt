use Rattle.std.proofs.Common.{◌≡◌, ap, subst, sym, arith}
use Rattle.nc_outside.specs.inner.Objects.{ClockState}
use Rattle.nc_outside.specs.Clocks.{NeverFall}
use Rattle.nc_outside.proofs.Readings.{last_below, last_is}
use Rattle.nc_outside.proofs.clock.MemClockClock.now.Goals as goal

pub returns-clause-rises : goal.returns-clause-rises
returns-clause-rises c =
    let below = last_below c.args.self.now (subst (λ (s : ClockState). NeverFall s.readings) c.self.view_is c.self.invariant.0) in
    omega (arith, below, c.reading-reading.ensures.answer)

pub returns-clause-last : goal.returns-clause-last
returns-clause-last c =
    let clock = c.args.self.now in
    let seen : clock.readings ≡ c.self.inside.readings = ap (λ (s : ClockState). s.readings) (sym c.self.view_is) in
    let times : clock.answers ≡ c.self.inside.answers = ap (λ (s : ClockState). s.answers) (sym c.self.view_is) in
    let told = c.reading-reading.ensures in
    let last = last_is clock.readings clock.answers (omega (arith, told.counted)) (omega (arith, told.few)) in
    cc (seen, times, last, told.answer, c.saturating_add-self-inside.ensures)
