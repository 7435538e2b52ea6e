-- The answers of a clock in memory.
use Rattle.std.proofs.Common.{◌≡◌, ◌≢◌, ℕ, zero, suc, ◌-◌, ◌^◌, ◌<◌, ◌≤◌, min, Bool, true, false, cond, eqb, List, [], ◌∷◌, length, get_or, ap, ◌∙◌, arith}
use Rattle.std.proofs.lemmas.Bool.{ne_eqb}
use Rattle.nc_names.specs.Counts.{one_more}
use Rattle.nc_outside.specs.Clocks.{NeverFall}
use Rattle.nc_outside.specs.inner.Objects.{ClockState, answer_after, last_answer}

abbrev most : ℕ
most = 2 ^ 64 - 1

rises : (readings : List ℕ) (j k : ℕ) → NeverFall readings → j ≤ k → k < length readings → get_or readings j 0 ≤ get_or readings k 0
rises [] j k never le lt = absurd (omega (arith, lt))
rises (x ∷ xs) zero zero never le lt = omega arith
rises (x ∷ xs) zero (suc k) never le lt = never.0 k 0 (omega (arith, lt))
rises (x ∷ xs) (suc j) zero never le lt = absurd (omega (arith, le))
rises (x ∷ xs) (suc j) (suc k) never le lt = rises xs j k never.1 (omega (arith, le)) (omega (arith, lt))

-- a later answer is not below an earlier one
pub answers_rise : (readings : List ℕ) (n m : ℕ) → NeverFall readings → n ≤ m → answer_after readings n ≤ answer_after readings m
answers_rise [] n m never le = omega arith
answers_rise (x ∷ xs) n m never le =
    let last = length (x ∷ xs) - 1 in rises (x ∷ xs) (min n last) (min m last) never (omega (arith, le)) (omega arith)

-- the last answer after one more
pub last_is : (readings : List ℕ) (n : ℕ) → n ≤ most → length readings ≤ most
    → last_answer (record { readings = readings; answers = one_more n }) ≡ answer_after readings n
last_is readings n le fits =
    let some : one_more n ≢ 0 = omega arith in
    let place : min (one_more n - 1) (length readings - 1) ≡ min n (length readings - 1) = omega (arith, le, fits) in
    ap (λ b. cond b 0 (answer_after readings (one_more n - 1))) (ne_eqb _ _ some) ∙ ap (λ k. get_or readings k 0) place

-- the last answer is not above the next
pub last_below : (clock : ClockState) → NeverFall clock.readings → last_answer clock ≤ answer_after clock.readings clock.answers
last_below clock never = by_test (eqb clock.answers 0)
  where
    by_test : (b : Bool) → cond b 0 (answer_after clock.readings (clock.answers - 1)) ≤ answer_after clock.readings clock.answers
    by_test true = omega arith
    by_test false = answers_rise clock.readings (clock.answers - 1) clock.answers never (omega arith)
