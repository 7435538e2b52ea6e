-- Rows that come first in two lists, or last.
use Rattle.std.proofs.Common.{◌≡◌, ◌+◌, ◌-◌, ◌<◌, ◌≤◌, ◌∙◌, ℕ, zero, suc, List, [], ◌∷◌, ◌++◌, get_or, length, take, drop, refl, sym, ap, subst, Bor, arith}
use Rattle.std.specs.Prelude.{map}
use Rattle.std.proofs.Math.Seq.{take-length}
use Rattle.std.proofs.lemmas.List.{append_assoc, drop-map, drop_all, drop_more, get_or-map, length-drop, length-map, take-append-drop, take-map, take_more}
use Rattle.nc_names.specs.declared.path.Row.{Row}
use Rattle.nc_changes.specs.inner.Common.{AreSame, AreSameBehind, rows_of}

pub same_here : (rows others : List (Bor Row)) (at place : ℕ) (row other : Bor Row) → at < length rows → place < length others →
    row ≡ get_or rows at row → other ≡ get_or others place other → row.now ≡ other.now → AreSame (rows_of rows) at (rows_of others) place
same_here rows others at place row other within behind is was same = (
  row.now,
  omega (arith, length-map rows (λ (one : Bor Row). one.now), within),
  omega (arith, length-map others (λ (one : Bor Row). one.now), behind),
  ap (λ (one : Bor Row). one.now) is ∙ sym (get_or-map (λ (one : Bor Row). one.now) rows at row row.now within),
  same ∙ ap (λ (one : Bor Row). one.now) was ∙ sym (get_or-map (λ (one : Bor Row). one.now) others place other row.now behind),
)

pub one_more : (rows others : List Row) (at : ℕ) → AreSame rows at others at → take at rows ≡ take at others → take (at + 1) rows ≡ take (at + 1) others
one_more rows others at (row, within, other, is, was) same =
    take_more rows at row within ∙ (λ i. same i ++ (sym is ∙ was) i ∷ []) ∙ sym (take_more others at row other)

pub one_before : (rows others : List Row) (first left rest : ℕ) → first < left → first < rest → AreSame rows (left - 1) others (rest - 1) →
    AreSameBehind rows others first left rest → AreSameBehind rows others first (left - 1) (rest - 1)
one_before rows others first left rest above over (row, within, other, is, was) so = record {
  within = omega (arith, so.within);
  other = omega (arith, so.other);
  above = omega (arith, above);
  over = omega (arith, over);
  same =
      drop_more rows (left - 1) row within
      ∙ (λ i. (sym is ∙ was) i ∷ (ap (λ n. drop n rows) one ∙ so.same ∙ ap (λ n. drop n others) (sym two)) i)
      ∙ sym (drop_more others (rest - 1) row other);
}
  where
    one : left - 1 + 1 ≡ left
    one = omega (arith, above)

    two : rest - 1 + 1 ≡ rest
    two = omega (arith, over)

pub front_is : {A B : Type 0} (f : A → B) (count : ℕ) (rows front : List A) → front ≡ take count rows → map f front ≡ take count (map f rows)
front_is f count rows front is = ap (map f) is ∙ sym (take-map f count rows)

pub tail_is : {A B : Type 0} (f : A → B) (count : ℕ) (rows : List A) → map f (take (length rows - count) (drop count rows)) ≡ drop count (map f rows)
tail_is f count rows =
    ap (map f) (ap (λ n. take n (drop count rows)) (sym (length-drop count rows)) ∙ take-length (drop count rows)) ∙ sym (drop-map f count rows)

pub within_is : {A B : Type 0} (f : A → B) (count : ℕ) (rows : List A) → count ≤ length (map f rows) → count ≤ length rows
within_is f count rows within = subst (λ n. count ≤ n) (length-map rows f) within

taken : {X : Type 0} (k n : ℕ) (xs : List X) → k ≤ n → take k (take n xs) ≡ take k xs
taken zero n xs le = refl
taken (suc k) zero xs le = absurd (omega (arith, le))
taken (suc k) (suc n) [] le = refl
taken (suc k) (suc n) (x ∷ xs) le = ap (λ more. x ∷ more) (taken k n xs (omega (arith, le)))

-- a list is its front, what is in the middle, and its back
pub parts_are : (rows : List Row) (first left : ℕ) → first ≤ left → rows ≡ take first rows ++ (drop first (take left rows) ++ drop left rows)
parts_are rows first left le =
    sym (take-append-drop left rows) ∙ ap (λ (list : List Row). list ++ drop left rows) (sym (take-append-drop first (take left rows)))
    ∙ (λ i. taken first left rows le i ++ drop first (take left rows) ++ drop left rows)
    ∙ append_assoc (take first rows) (drop first (take left rows)) (drop left rows)

-- behind all rows of both nothing follows
pub none_last : (rows others : List (Bor Row)) (first : ℕ) → first ≤ length (rows_of rows) → first ≤ length (rows_of others) →
    AreSameBehind (rows_of rows) (rows_of others) first (length rows) (length others)
none_last rows others first le less = record {
  within = omega (arith, length-map rows (λ (one : Bor Row). one.now));
  other = omega (arith, length-map others (λ (one : Bor Row). one.now));
  above = within_is (λ (one : Bor Row). one.now) first rows le;
  over = within_is (λ (one : Bor Row). one.now) first others less;
  same = nothing rows ∙ sym (nothing others);
}
  where
    nothing : (list : List (Bor Row)) → drop (length list) (rows_of list) ≡ []
    nothing list = drop_all (length list) (rows_of list) (omega (arith, length-map list (λ (one : Bor Row). one.now)))

pub parts_found : (rows others above before after gone come below : List Row) (first left rest : ℕ) → take first rows ≡ take first others →
    AreSameBehind rows others first left rest → above ≡ take first rows → before ≡ take left rows → after ≡ take rest others →
    gone ≡ drop first before → come ≡ drop first after → below ≡ drop left rows →
    (rows ≡ above ++ (gone ++ below)) × (others ≡ above ++ (come ++ below))
parts_found rows others above before after gone come below first left rest same so one two three four five six = (
  parts_are rows first left so.above ∙ (λ i. sym one i ++ (sym (four ∙ ap (drop first) two) i ++ sym six i)),
  parts_are others first rest so.over ∙ (λ i. sym (one ∙ same) i ++ (sym (five ∙ ap (drop first) three) i ++ sym (six ∙ so.same) i)),
)
