-- Replies that are counted.
use Rattle.std.proofs.Common.{◌≡◌, ◌<◌, ◌+◌, ◌^◌, Bool, true, false, cond, List, [], ◌∷◌, ◌++◌, length, refl, ap, ◌∙◌, arith, length-append}
use Rattle.std.specs.List.{filter}
use Rattle.std.proofs.lemmas.List.Elements.{filter-append}
use Rattle.nc_model.specs.declared.entry.Entry.{Entry}
use Rattle.nc_model.specs.declared.event.Outcome.{Outcome}
use Rattle.nc_script.specs.Runs.{count_so, is_error, is_reply}
use Rattle.nc_script.specs.inner.Tallies.{Tallied}
use Rattle.nc_script.specs.declared.tally.Tally.{Tally}

count_more : (test : Outcome → Bool) (xs ys : List Entry) → count_so test (xs ++ ys) ≡ count_so test xs + count_so test ys
count_more test xs ys =
    ap length (filter-append (λ e. test e.outcome) xs ys)
    ∙ length-append (filter (λ e. test e.outcome) xs) (filter (λ e. test e.outcome) ys)

pub tally_none : (t : Tally) → Tallied t t []
tally_none t = record { ok = λ few. omega arith; errors = λ few. omega arith }

pub tally_more : (one two three : Tally) (xs ys : List Entry) → Tallied one two xs → Tallied two three ys
    → Tallied one three (xs ++ ys)
tally_more one two three xs ys first second = record {
  ok = λ few.
      let more = count_more is_reply xs ys in
      let here = first.ok (omega (arith, few, more)) in
      let there = second.ok (omega (arith, few, more, here)) in
      omega (arith, more, here, there);
  errors = λ few.
      let more = count_more is_error xs ys in
      let here = first.errors (omega (arith, few, more)) in
      let there = second.errors (omega (arith, few, more, here)) in
      omega (arith, more, here, there);
}

count_none : (b : Bool) (e : Entry) → b ≡ false → length (cond b (e ∷ []) []) ≡ 0
count_none true e is = cc is
count_none false e is = refl

-- an entry without a reply
pub tally_silent : (t : Tally) (e : Entry) → is_reply e.outcome ≡ false → is_error e.outcome ≡ false → Tallied t t (e ∷ [])
tally_silent t e no_reply no_error =
    let replies : count_so is_reply (e ∷ []) ≡ 0 = count_none (is_reply e.outcome) e no_reply in
    let errors : count_so is_error (e ∷ []) ≡ 0 = count_none (is_error e.outcome) e no_error in
    record { ok = λ few. omega (arith, replies); errors = λ few. omega (arith, errors) }

count_one : (b : Bool) (e : Entry) → b ≡ true → length (cond b (e ∷ []) []) ≡ 1
count_one true e is = refl
count_one false e is = cc is

pub tally_reply : (old new : Tally) (e : Entry) → is_reply e.outcome ≡ true → is_error e.outcome ≡ false
    → (old.ok + 1 < 2 ^ 64 → new.ok ≡ old.ok + 1) → new.errors ≡ old.errors → Tallied old new (e ∷ [])
tally_reply old new e reply no_error more same =
    let replies : count_so is_reply (e ∷ []) ≡ 1 = count_one (is_reply e.outcome) e reply in
    let errors : count_so is_error (e ∷ []) ≡ 0 = count_none (is_error e.outcome) e no_error in
    record {
      ok = λ few. let is = more (omega (arith, few, replies)) in omega (arith, is, replies);
      errors = λ few. omega (arith, errors, same);
    }

pub tally_error : (old new : Tally) (e : Entry) → is_reply e.outcome ≡ false → is_error e.outcome ≡ true
    → new.ok ≡ old.ok → (old.errors + 1 < 2 ^ 64 → new.errors ≡ old.errors + 1) → Tallied old new (e ∷ [])
tally_error old new e no_reply error same more =
    let replies : count_so is_reply (e ∷ []) ≡ 0 = count_none (is_reply e.outcome) e no_reply in
    let errors : count_so is_error (e ∷ []) ≡ 1 = count_one (is_error e.outcome) e error in
    record {
      ok = λ few. omega (arith, replies, same);
      errors = λ few. let is = more (omega (arith, few, errors)) in omega (arith, is, errors);
    }
