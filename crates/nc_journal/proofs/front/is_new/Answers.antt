use Rattle.std.proofs.Common.{◌≡◌, ◌≢◌, ◌⊎◌, inl, inr, ℕ, ◌+◌, ◌<◌, ◌≤◌, List, length, slice_get, Option, Some, None, refl, sym, ◌∙◌, ap, subst, arith}
use Rattle.nc_outside.specs.Disks.{Told}
use Rattle.nc_journal.specs.Format.{blank}
use Rattle.nc_journal.specs.Files.{At, IsNew}
use Rattle.nc_journal.proofs.Fronts.{set_not_new, torn_is_new, zero_is_new, some_byte}
use Rattle.nc_journal.proofs.Looking.{if_ok_also}
use Rattle.nc_journal.proofs.front.is_new.Goals as goal

pub returns-in_default-clause-no : goal.returns-in_default-clause-no
returns-in_default-clause-no g c = λ no file told long header rest new.
    let it = some_byte file (omega arith) in
    c.in_default.not-Some it.0 (c.in_ok-first.ensures.byte file told ∙ it.1)

pub returns-then-first-eq0-clause-yes : goal.returns-then-first-eq0-clause-yes
returns-then-first-eq0-clause-yes g c = λ yes file told long header rest.
    zero_is_new header file (sym (c.in_ok-first.ensures.byte file told) ∙ c.in-Some.is ∙ ap Some c.if-first-eq0.true)

pub returns-then-first-eq1-clause-no : goal.returns-then-first-eq1-clause-no
returns-then-first-eq1-clause-no g c = λ no file told long header rest new.
    set_not_new header file c.in-Some.first (sym (c.in_ok-first.ensures.byte file told) ∙ c.in-Some.is) (omega arith) c.if-first-eq0.false (inl c.if-first-eq1.true) new

pub returns-then-size-rest-clause-no : goal.returns-then-size-rest-clause-no
returns-then-size-rest-clause-no g c = λ no file told long header rest new.
    let differs : length file ≢ 1 + length (blank header) = λ e. c.if-size-rest.true (sym long ∙ e ∙ ap (λ (l : List ℕ). 1 + length l) (sym rest)) in
    set_not_new header file c.in-Some.first (sym (c.in_ok-first.ensures.byte file told) ∙ c.in-Some.is) (omega arith) c.if-first-eq0.false (inr (inl differs)) new

pub returns-clause-yes : goal.returns-clause-yes
returns-clause-yes g c = if_ok_also c.matches.result _ _ c.matches.ensures.same (λ it also yes file told long header rest.
    torn_is_new header file c.in-Some.first (sym (c.in_ok-first.ensures.byte file told) ∙ c.in-Some.is) c.if-first-eq0.false c.if-first-eq1.false
    (omega (arith, c.if-size-rest.false, ap length rest)) (subst (λ l. At 1 l file) rest (also yes file (c.byte_at.ensures.seen ∙ told))))

pub returns-clause-no : goal.returns-clause-no
returns-clause-no g c = if_ok_also c.matches.result _ _ c.matches.ensures.other (λ it also no file told long header rest new.
    let absent = λ (at : At 1 (blank header) file). also no file (c.byte_at.ensures.seen ∙ told) (subst (λ l. At 1 l file) (sym rest) at) in
    set_not_new header file c.in-Some.first (sym (c.in_ok-first.ensures.byte file told) ∙ c.in-Some.is) (omega arith) c.if-first-eq0.false (inr (inr absent)) new)
