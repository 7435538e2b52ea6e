-- The links of chains, from the last mark to the first.
use Rattle.std.proofs.Common.{◌≡◌, ◌==◌, ◌+◌, ◌-◌, ◌<◌, ◌≤◌, ◌%◌, ℕ, suc, Bool, true, false, cond, List, [], ◌∷◌, get_or, set, max, length, drop, replicate, refl, sym, ap, subst, ◌∙◌, arith, eqb-true, eq-eqb, mod-lt}
use Rattle.std.proofs.lemmas.Bool.{eqb-false}
use Rattle.std.proofs.lemmas.Grind.{get_or_default_zero}
use Rattle.std.proofs.lemmas.List.{at_drop_more, drop_all, get_or-replicate, get_or-set_other, get_or-set_same, length-replicate, length-set}
use Rattle.std.proofs.Math.Nat.{le-max_right}
use Rattle.nc_nacm.specs.inner.Chains.{IsLinkedFrom, IsLinkedIn, is_in, place}

own_count : (count from : ℕ) (marks heads nexts : List ℕ) → length heads ≡ count → IsLinkedIn count from marks heads nexts → IsLinkedFrom from marks heads nexts
own_count count from marks heads nexts wide linked = subst (λ n. IsLinkedIn n from marks heads nexts) (sym wide) linked

-- no mark is linked
pub none_linked : (marks heads nexts : List ℕ) (count buckets : ℕ) → count ≡ length marks → buckets ≡ max count 1 → heads ≡ replicate buckets count → nexts ≡ replicate count count →
    IsLinkedFrom (length marks) marks heads nexts
none_linked marks heads nexts count buckets count_is buckets_is heads_is nexts_is =
    let wide : length heads ≡ buckets = ap length heads_is ∙ length-replicate buckets count in
    let long : length nexts ≡ length marks = ap length nexts_is ∙ length-replicate count count ∙ count_is in
    own_count buckets (length marks) marks heads nexts wide
    (record {
      some = omega (arith, buckets_is, le-max_right count 1);
      wide = wide;
      long = long;
      heads_are = λ bucket within.
          let empty : place (is_in buckets bucket) (drop (length marks) marks) ≡ 0 = ap (place (is_in buckets bucket)) (drop_all (length marks) marks (omega arith)) in
          let there : get_or heads bucket 0 ≡ count = ap (λ list. get_or list bucket 0) heads_is ∙ get_or-replicate buckets bucket count 0 within in
          omega (arith, empty, there, count_is);
      nexts_are = λ at from within. absurd (omega (arith, from, within));
    })

false_of : (b : Bool) → (b ≡ true → ⊥) → b ≡ false
false_of true never = absurd (never refl)
false_of false never = refl

place_here : (test : ℕ → Bool) (marks : List ℕ) (at : ℕ) → at < length marks → place test (drop at marks) ≡ cond (test (get_or marks at 0)) 0 (suc (place test (drop (at + 1) marks)))
place_here test marks at within = at_drop_more (place test) marks at 0 within

-- one mark more, before those that are linked
pub one_linked : (marks heads nexts new_heads new_nexts : List ℕ) (at bucket next : ℕ) → at < length marks → bucket ≡ get_or marks at 0 % length heads →
    next ≡ get_or heads bucket 0 → new_heads ≡ set heads bucket at → new_nexts ≡ set nexts at next →
    IsLinkedFrom (at + 1) marks heads nexts → IsLinkedFrom at marks new_heads new_nexts
one_linked marks heads nexts new_heads new_nexts at bucket next within bucket_is next_is heads_is nexts_is linked =
    own_count (length heads) at marks new_heads new_nexts wide
    (record {
      some = linked.some;
      wide = wide;
      long = ap length nexts_is ∙ length-set nexts at next ∙ linked.long;
      heads_are = λ one less. head_is one less (one == bucket) refl;
      nexts_are = λ one from less. next_of one from less (one == at) refl;
    })
  where
    count : ℕ
    count = length heads

    wide : length new_heads ≡ count
    wide = ap length heads_is ∙ length-set heads bucket at

    head_is : (one : ℕ) → one < count → (b : Bool) → (one == bucket) ≡ b → get_or new_heads one 0 ≡ at + place (is_in count one) (drop at marks)
    head_is one less true e =
        let same : one ≡ bucket = eqb-true one bucket e in
        let here : get_or new_heads one 0 ≡ at =
        ap (λ list. get_or list one 0) heads_is ∙ ap (λ n. get_or (set heads bucket at) n 0) same
        ∙ get_or-set_same heads bucket at 0 (omega (arith, less, same)) in
        let first : place (is_in count one) (drop at marks) ≡ 0 =
        place_here (is_in count one) marks at within
        ∙ ap (λ b. cond b 0 (suc (place (is_in count one) (drop (at + 1) marks)))) (eq-eqb (get_or marks at 0 % count) one (sym bucket_is ∙ sym same)) in
        omega (arith, here, first)
    head_is one less false e =
        let differs : one ≡ bucket → ⊥ = eqb-false one bucket e in
        let here : get_or new_heads one 0 ≡ get_or heads one 0 = ap (λ list. get_or list one 0) heads_is ∙ get_or-set_other heads bucket one at 0 differs in
        let fails : (get_or marks at 0 % count == one) ≡ false = false_of (get_or marks at 0 % count == one) (λ passes. differs (sym (bucket_is ∙ eqb-true (get_or marks at 0 % count) one passes))) in
        let later : place (is_in count one) (drop at marks) ≡ suc (place (is_in count one) (drop (at + 1) marks)) =
        place_here (is_in count one) marks at within
        ∙ ap (λ b. cond b 0 (suc (place (is_in count one) (drop (at + 1) marks)))) fails in
        omega (arith, here, later, linked.heads_are one less)

    next_of : (one : ℕ) → at ≤ one → one < length marks → (b : Bool) → (one == at) ≡ b →
        get_or new_nexts one 0 ≡ one + 1 + place (is_in count (get_or marks one 0 % count)) (drop (one + 1) marks)
    next_of one from less true e =
        let same : one ≡ at = eqb-true one at e in
        let here : get_or new_nexts at 0 ≡ next = ap (λ list. get_or list at 0) nexts_is ∙ get_or-set_same nexts at next 0 (omega (arith, linked.long, within)) in
        let there : get_or heads bucket 0 ≡ at + 1 + place (is_in count bucket) (drop (at + 1) marks) = linked.heads_are bucket (subst (λ n. n < count) (sym bucket_is) (mod-lt (get_or marks at 0) linked.some)) in
        subst (λ n. get_or new_nexts n 0 ≡ n + 1 + place (is_in count (get_or marks n 0 % count)) (drop (n + 1) marks)) (sym same)
        (here ∙ next_is ∙ there ∙ ap (λ b. at + 1 + place (is_in count b) (drop (at + 1) marks)) bucket_is)
    next_of one from less false e =
        let differs : one ≡ at → ⊥ = eqb-false one at e in
        ap (λ list. get_or list one 0) nexts_is ∙ get_or-set_other nexts at one next 0 differs
        ∙ linked.nexts_are one (omega (arith, from, differs)) less

-- the same, by how many are linked
pub one_before : (marks heads nexts new_heads new_nexts : List ℕ) (from bucket next : ℕ) → 0 < from → from ≤ length marks → bucket ≡ get_or marks (from - 1) 0 % length heads →
    next ≡ get_or heads bucket 0 → new_heads ≡ set heads bucket (from - 1) → new_nexts ≡ set nexts (from - 1) next →
    IsLinkedFrom from marks heads nexts → IsLinkedFrom (from - 1) marks new_heads new_nexts
one_before marks heads nexts new_heads new_nexts from bucket next some within bucket_is next_is heads_is nexts_is linked =
    let same : from ≡ from - 1 + 1 = omega (arith, some) in
    one_linked marks heads nexts new_heads new_nexts (from - 1) bucket next (omega (arith, some, within)) bucket_is next_is heads_is nexts_is
    (subst (λ n. IsLinkedFrom n marks heads nexts) same linked)
