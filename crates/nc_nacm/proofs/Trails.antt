-- Walks along a path, and what the path before tells of them.
use Rattle.std.proofs.Common.{◌≡◌, ◌+◌, ◌<◌, ◌≤◌, ◌==◌, ◌&&◌, get_or, ℕ, zero, suc, Bool, true, false, cond, List, [], ◌∷◌, ◌++◌, length, take, drop, map, refl, sym, ap, subst, ◌∙◌, arith, eqb-true, Bor}
use Rattle.std.proofs.lemmas.Bool.{eqb-false}
use Rattle.std.proofs.lemmas.List.Elements.{filter-append}
use Rattle.std.proofs.lemmas.List.{take-append-drop, drop_more, get_or-map, length-map, take_all, take_more}
use Rattle.std.proofs.lemmas.List.Folds.{list_all-append, list_all_more}
use Rattle.std.specs.List.{filter, list_all}
use Rattle.nc_names.specs.Same.{is_same_step}
use Rattle.nc_names.specs.declared.path.Row.{Row}
use Rattle.nc_names.specs.declared.path.Step.{Step}
use Rattle.nc_names.proofs.StepOrder.{same_path}
use Rattle.nc_model.specs.Sight.{beginnings}
use Rattle.nc_nacm.specs.inner.Trails.{IsTrail}
use Rattle.nc_nacm.proofs.Steps.{beginning_at, length_beginnings}

-- ---- beginnings of the first steps
take_map : {X Y : Type 0} (f : X → Y) (n : ℕ) (xs : List X) → take n (map f xs) ≡ map f (take n xs)
take_map f zero xs = refl
take_map f (suc n) [] = refl
take_map f (suc n) (x ∷ xs) = ap (λ more. f x ∷ more) (take_map f n xs)

pub take_beginnings : (n : ℕ) (steps : List Step) → beginnings (take n steps) ≡ take n (beginnings steps)
take_beginnings zero steps = refl
take_beginnings (suc n) [] = refl
take_beginnings (suc n) (step ∷ rest) =
    ap (λ more. (step ∷ []) ∷ map (λ above. step ∷ above) more) (take_beginnings n rest)
    ∙ ap (λ more. (step ∷ []) ∷ more) (sym (take_map (λ above. step ∷ above) n (beginnings rest)))

and_both : (a b c : Bool) → (b ≡ true → c ≡ true) → (a && b) ≡ true → (a && c) ≡ true
and_both true b c go e = go e
and_both false b c go e = e

all_fewer : {X : Type 0} (p : X → Bool) (m n : ℕ) (xs : List X) → m ≤ n → list_all p (take n xs) ≡ true → list_all p (take m xs) ≡ true
all_fewer p zero n xs le all = refl
all_fewer p (suc m) zero xs le all = absurd (omega (arith, le))
all_fewer p (suc m) (suc n) [] le all = refl
all_fewer p (suc m) (suc n) (x ∷ xs) le all = and_both (p x) _ _ (all_fewer p m n xs (omega (arith, le))) all

taken : {X : Type 0} (k n : ℕ) (xs : List X) → k ≤ n → take k (take n xs) ≡ take k xs
taken zero n xs le = refl
taken (suc k) zero xs le = absurd (omega (arith, le))
taken (suc k) (suc n) [] le = refl
taken (suc k) (suc n) (x ∷ xs) le = ap (λ more. x ∷ more) (taken k n xs (omega (arith, le)))

heads_ : {X : Type 0} (x y : X) (xs ys : List X) → x ∷ xs ≡ y ∷ ys → x ≡ y
heads_ x y xs ys e = cc

pub there : (n : ℕ) (others : List Step) (other : Step) (more : List Step) → drop n others ≡ other ∷ more → n < length others
there zero [] other more e = absurd (cc)
there zero (x ∷ xs) other more e = omega arith
there (suc n) [] other more e = absurd (cc)
there (suc n) (x ∷ xs) other more e = omega (arith, there n xs other more e)

pub behind : (n : ℕ) (others : List Step) (other : Step) (more : List Step) → drop n others ≡ other ∷ more → more ≡ drop (n + 1) others
behind n others other more e = tails _ _ _ _ (sym e ∙ drop_more others n other (there n others other more e))
  where
    tails : (x y : Step) (xs ys : List Step) → x ∷ xs ≡ y ∷ ys → xs ≡ ys
    tails x y xs ys e = cc

module _ (p : List Step → Bool) where
  -- what holds of the beginnings of some steps holds of those of fewer
  pub fewer : (m n : ℕ) (steps : List Step) → m ≤ n → list_all p (beginnings (take n steps)) ≡ true → list_all p (beginnings (take m steps)) ≡ true
  fewer m n steps le all =
      ap (list_all p) (take_beginnings m steps)
      ∙ all_fewer p m n (beginnings steps) le (ap (list_all p) (sym (take_beginnings n steps)) ∙ all)

  -- all of them, from those of the first steps and the others
  pub all_parts : (n : ℕ) (steps : List Step) → list_all p (beginnings (take n steps)) ≡ true → list_all p (beginnings steps) ≡ list_all p (drop n (beginnings steps))
  all_parts n steps all =
      ap (list_all p) (sym (take-append-drop n (beginnings steps)))
      ∙ list_all-append p (take n (beginnings steps)) (drop n (beginnings steps))
      ∙ ap (λ b. b && list_all p (drop n (beginnings steps))) (ap (list_all p) (sym (take_beginnings n steps)) ∙ all)

  pub one_more : (n : ℕ) (steps : List Step) → n < length steps → list_all p (beginnings (take n steps)) ≡ true → p (take (n + 1) steps) ≡ true →
      list_all p (beginnings (take (n + 1) steps)) ≡ true
  one_more n steps within all here =
      let here_is : get_or (beginnings steps) n [] ≡ take (n + 1) steps =
      heads_ _ _ _ _ (sym (drop_more (beginnings steps) n [] (omega (arith, length_beginnings steps, within))) ∙ beginning_at steps n within) in
      ap (list_all p) (take_beginnings (n + 1) steps)
      ∙ list_all_more p (beginnings steps) n [] (omega (arith, length_beginnings steps, within))
      ∙ ap (λ b. b && p (get_or (beginnings steps) n [])) (ap (list_all p) (sym (take_beginnings n steps)) ∙ all)
      ∙ ap p here_is ∙ here

  pub seen_whole : (steps : List Step) (seen : ℕ) → IsTrail p steps seen → (seen == length steps) ≡ list_all p (beginnings steps)
  seen_whole steps seen t = by (seen == length steps) refl
    where
      by : (b : Bool) → (seen == length steps) ≡ b → b ≡ list_all p (beginnings steps)
      by true e = sym (ap (λ more. list_all p (beginnings more)) (sym (take_all seen steps (omega (arith, eqb-true seen (length steps) e)))) ∙ t.above)
      by false e =
          let differ : seen ≡ length steps → ⊥ = eqb-false seen (length steps) e in
          let less : seen < length steps = omega (arith, t.within, differ) in
          sym (all_parts seen steps t.above ∙ ap (list_all p) (beginning_at steps seen less) ∙ ap (λ b. b && list_all p (drop (seen + 1) (beginnings steps))) (t.there less))

  -- what the path before tells: where it stops within the common steps, so does this one
  pub same_stop : (last steps : List Step) (seen n : ℕ) → take n last ≡ take n steps → n ≤ length last → n ≤ length steps → seen < n → IsTrail p last seen → IsTrail p steps seen
  same_stop last steps seen n same within other less t = record {
    within = omega (arith, less, other);
    above = ap (λ more. list_all p (beginnings more)) (sym (shorter seen (omega arith))) ∙ t.above;
    there = λ _. ap p (sym (shorter (seen + 1) (omega arith))) ∙ t.there (omega arith);
  }
    where
      shorter : (k : ℕ) → k ≤ n → take k last ≡ take k steps
      shorter k le =
          let one : take k last ≡ take k (take n last) = sym (taken k n last le) in
          one ∙ ap (take k) same ∙ taken k n steps le

  pub same_above : (last steps : List Step) (seen n : ℕ) → take n last ≡ take n steps → n ≤ seen → IsTrail p last seen → list_all p (beginnings (take n steps)) ≡ true
  same_above last steps seen n same le t = ap (λ more. list_all p (beginnings more)) (sym same) ∙ fewer n seen last le t.above

-- ---- one row more
pub row_more : (p : List Step → Bool) (rows : List Row) (i : ℕ) (row : Row) (steps : List Step) (seen : ℕ) (out new : List Row) →
    i < length rows → row ≡ get_or rows i row → steps ≡ row.path.steps → IsTrail p steps seen →
    out ≡ filter (λ (one : Row). list_all p (beginnings one.path.steps)) (take i rows) →
    new ≡ out ++ filter (λ (one : Row). seen == length one.path.steps) (row ∷ []) →
    new ≡ filter (λ (one : Row). list_all p (beginnings one.path.steps)) (take (i + 1) rows)
row_more p rows i row steps seen out new within is steps_are trail so put =
    let keeps : Row → Bool = λ (one : Row). list_all p (beginnings one.path.steps) in
    let same : (seen == length row.path.steps) ≡ keeps row = seen_whole p row.path.steps seen (subst (λ more. IsTrail p more seen) steps_are trail) in
    put ∙ ap (λ front. front ++ filter (λ (one : Row). seen == length one.path.steps) (row ∷ [])) so
    ∙ ap (λ b. filter keeps (take i rows) ++ cond b (row ∷ []) []) same
    ∙ sym (ap (filter keeps) (take_more rows i row within ∙ ap (λ one. take i rows ++ one ∷ []) (sym is)) ∙ filter-append keeps (take i rows) (row ∷ []))

-- the same of rows that are referred to
abbrev rows_of : List (Bor Row) → List Row
rows_of rows = map (λ (one : Bor Row). one.now) rows

pub ref_more : (p : List Step → Bool) (rows : List (Bor Row)) (i : ℕ) (row : Bor Row) (steps : List Step) (seen : ℕ) (out new : List Row) →
    i < length rows → row ≡ get_or rows i row → steps ≡ row.now.path.steps → IsTrail p steps seen →
    out ≡ filter (λ (one : Row). list_all p (beginnings one.path.steps)) (take i (map (λ (one : Bor Row). one.now) rows)) →
    new ≡ out ++ filter (λ (one : Row). seen == length one.path.steps) (row.now ∷ []) →
    new ≡ filter (λ (one : Row). list_all p (beginnings one.path.steps)) (take (i + 1) (map (λ (one : Bor Row). one.now) rows))
ref_more p rows i row steps seen out new within is =
    row_more p (rows_of rows) i row.now steps seen out new (omega (arith, length-map rows (λ (one : Bor Row). one.now), within))
    (ap (λ (one : Bor Row). one.now) is ∙ sym (get_or-map (λ (one : Bor Row). one.now) rows i row row.now within))

pub all_rows : (p : List Step → Bool) (rows : List (Bor Row)) (i : ℕ) (out : List Row) → length rows ≤ i →
    out ≡ filter (λ (one : Row). list_all p (beginnings one.path.steps)) (take i (map (λ (one : Bor Row). one.now) rows)) →
    out ≡ filter (λ (one : Row). list_all p (beginnings one.path.steps)) (map (λ (one : Bor Row). one.now) rows)
all_rows p rows i out past so =
    so ∙ ap (filter (λ (one : Row). list_all p (beginnings one.path.steps)))
    (take_all i (rows_of rows) (omega (arith, length-map rows (λ (one : Bor Row). one.now), past)))

-- ---- common steps
pub same_one : (step other : Step) → is_same_step step other ≡ true → step ≡ other
same_one step other e = let whole : step ∷ [] ≡ other ∷ [] = same_path (step ∷ []) (other ∷ []) (ap (λ b. b && true) e) in cc

pub common_more : (steps others : List Step) (n : ℕ) (step other : Step) (more : List Step) → n < length steps → step ≡ get_or steps n step →
    drop n others ≡ other ∷ more → is_same_step step other ≡ true → take n steps ≡ take n others → take (n + 1) steps ≡ take (n + 1) others
common_more steps others n step other more within is rest same so =
    let here : n < length others = there n others other more rest in
    let found : get_or others n step ≡ other = heads_ _ _ _ _ (sym (drop_more others n step here) ∙ rest) in
    take_more steps n step within ∙ ap (λ front. front ++ get_or steps n step ∷ []) so
    ∙ ap (λ one. take n others ++ one ∷ []) (sym is ∙ same_one step other same ∙ sym found) ∙ sym (take_more others n step here)
