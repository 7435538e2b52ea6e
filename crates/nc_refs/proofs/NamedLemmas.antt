-- The nodes that exist, and those that a path text names.
use Rattle.std.proofs.Common.{◌≡◌, ◌||◌, ◌+◌, ◌<◌, ℕ, zero, suc, Bool, true, false, cond, List, [], ◌∷◌, length, take, get_or, refl, sym, ap, subst, ◌∙◌, Bor, arith}
use Rattle.std.specs.Prelude.{map, Result, Ok, Err, IfOk}
use Rattle.std.specs.BTreeSet.{BTreeSet, contains}
use Rattle.std.specs.Cmp.Lexicographic.{pointwise_decides}
use Rattle.std.specs.List.{list_any, starts_with}
use Rattle.std.specs.Ordering.{is_eq}
use Rattle.nc_names.proofs.StepOrder.{order_ties}
use Rattle.nc_names.proofs.SameLemmas.{first_true, second_true, both_true, step_decide, step_itself}
use Rattle.nc_names.specs.Same.{is_at_or_below, is_same_path, is_same_step}
use Rattle.nc_names.specs.declared.memory.Memory.{Memory}
use Rattle.nc_names.specs.declared.path.Row.{Row}
use Rattle.nc_names.specs.declared.path.Step.{Step}
use Rattle.nc_schema.specs.Standing.{above_of, exists}
use Rattle.nc_schema.specs.Tables.{Tables}
use Rattle.nc_schema.specs.Violations.{is_named_node}
use Rattle.nc_refs.specs.inner.Named.{AllExist, left_above, names, names_along}
use Rattle.nc_refs.specs.inner.Trails.{order}

-- what is below a node is below those above it
shorter : (n : ℕ) (steps whole : List Step) → starts_with is_same_step whole steps ≡ true → starts_with is_same_step whole (take n steps) ≡ true
shorter zero steps [] is = refl
shorter zero steps (one ∷ whole) is = refl
shorter (suc n) [] whole is = is
shorter (suc n) (step ∷ steps) [] is = cc
shorter (suc n) (step ∷ steps) (one ∷ whole) is =
    both_true (is_same_step step one) (starts_with is_same_step whole (take n steps)) (first_true (is_same_step step one) (starts_with is_same_step whole steps) is)
    (shorter n steps whole (second_true (is_same_step step one) (starts_with is_same_step whole steps) is))

further : {X : Type 0} (p q : X → Bool) (xs : List X) → ((x : X) → p x ≡ true → q x ≡ true) → list_any p xs ≡ true → list_any q xs ≡ true
further p q [] each is = is
further p q (x ∷ xs) each is = by (further p q xs each) (p x) refl (q x) refl is
  where
    by : (list_any p xs ≡ true → list_any q xs ≡ true) → (a : Bool) → p x ≡ a → (b : Bool) → q x ≡ b → (p x || list_any p xs) ≡ true → (q x || list_any q xs) ≡ true
    by more a e true f found = ap (λ b. b || list_any q xs) f
    by more true e false f found = let clash : false ≡ true = sym f ∙ each x e in cc
    by more false e false f found = ap (λ b. b || list_any q xs) f ∙ more (sym (ap (λ b. b || list_any p xs) e) ∙ found)

pub above_exists : (rows : List Row) (steps : List Step) (n : ℕ) → exists rows steps ≡ true → exists rows (take n steps) ≡ true
above_exists rows steps n is = further (λ row. is_at_or_below steps row.path) (λ row. is_at_or_below (take n steps) row.path) rows (λ row below. shorter n steps row.path.steps below) is

itself : (steps : List Step) → starts_with is_same_step steps steps ≡ true
itself [] = refl
itself (step ∷ steps) = both_true (is_same_step step step) (starts_with is_same_step steps steps) (step_itself step) (itself steps)

pass_at : (p : Row → Bool) (rows : List Row) (at : ℕ) (d : Row) → at < length rows → p (get_or rows at d) ≡ true → list_any p rows ≡ true
pass_at p [] at d within is = absurd (omega (arith, within))
pass_at p (row ∷ rows) zero d within is = ap (λ b. b || list_any p rows) is
pass_at p (row ∷ rows) (suc at) d within is = by (pass_at p rows at d (omega (arith, within)) is) (p row)
  where
    by : list_any p rows ≡ true → (b : Bool) → (b || list_any p rows) ≡ true
    by more true = refl
    by more false = more

pub row_exists : (rows : List Row) (at : ℕ) (d : Row) → at < length rows → exists rows (get_or rows at d).path.steps ≡ true
row_exists rows at d within =
    pass_at (λ row. is_at_or_below (get_or rows at d).path.steps row.path) rows at d within (itself (get_or rows at d).path.steps)

pub node_added : (before now : BTreeSet (Bor (List Step))) (steps : Bor (List Step)) (rows : List Row) →
    ((key : Bor (List Step)) → contains order now key ≡ cond (is_eq (order steps key)) true (contains order before key)) →
    AllExist rows before → exists rows steps.now ≡ true → AllExist rows now
node_added before now steps rows put all there key has = by (is_same_path steps.now key.now) refl
  where
    by : (same : Bool) → is_same_path steps.now key.now ≡ same → exists rows key.now ≡ true
    by true e = subst (λ (ss : List Step). exists rows ss ≡ true) ((pointwise_decides step_decide steps.now key.now).0 e) there
    by false e = all key (sym (put key ∙ ap (λ b. cond b true (contains order before key)) (order_ties steps.now key.now ∙ e)) ∙ has)

-- a text that names one of the nodes above a row, or the row's own, is among those along it
any_map : {X Y : Type 0} (p : Y → Bool) (f : X → Y) (xs : List X) → list_any p (map f xs) ≡ list_any (λ x. p (f x)) xs
any_map p f [] = refl
any_map p f (x ∷ xs) = ap (λ b. p (f x) || b) (any_map p f xs)

along : (p : List Step → Bool) (steps whole : List Step) → starts_with is_same_step whole steps ≡ true → p steps ≡ true → list_any p (whole ∷ above_of whole) ≡ true
along p [] [] below is = ap (λ b. b || false) is
along p [] (one ∷ whole) below is = by (p (one ∷ whole))
  where
    rest : Bool
    rest = list_any p (map (λ above. one ∷ above) (above_of whole))

    by : (b : Bool) → (b || (p [] || rest)) ≡ true
    by true = refl
    by false = ap (λ b. b || rest) is
along p (step ∷ steps) [] below is = cc
along p (step ∷ steps) (one ∷ whole) below is =
    turned (p (one ∷ whole)) (p []) (list_any p (map (λ above. one ∷ above) (above_of whole)))
    (ap (λ b. p (one ∷ whole) || b) (any_map p (λ above. one ∷ above) (above_of whole))
    ∙ along (λ above. p (one ∷ above)) steps whole (second_true (is_same_step step one) (starts_with is_same_step whole steps) below)
    (subst (λ (s : Step). p (s ∷ steps) ≡ true) ((step_decide step one).0 (first_true (is_same_step step one) (starts_with is_same_step whole steps) below)) is))
  where
    turned : (a b c : Bool) → (a || c) ≡ true → (a || (b || c)) ≡ true
    turned true b c e = refl
    turned false true c e = refl
    turned false false c e = e

pub named_here : (tables : Tables) (rows : List Row) (text : List ℕ) (steps : List Step) → exists rows steps ≡ true → names tables text steps ≡ true →
    is_named_node tables rows text ≡ true
named_here tables rows text steps there is =
    further (λ row. is_at_or_below steps row.path) (λ row. names_along tables text row.path.steps) rows (λ row below. along (names tables text) steps row.path.steps below is) there

-- one node above further
pub left_more : (p : List Step → Bool) (steps : List Step) (at : ℕ) → at < length steps → left_above p steps at ≡ (p (take at steps) || left_above p steps (suc at))
left_more p [] at within = absurd (omega (arith, within))
left_more p (step ∷ steps) zero within = ap (λ b. p [] || b) (any_map p (λ above. step ∷ above) (above_of steps))
left_more p (step ∷ steps) (suc at) within = left_more (λ above. p (step ∷ above)) steps at (omega (arith, within))

-- a node above that passes is one of those that are left
pub found_above : (p : List Step → Bool) (steps : List Step) (at : ℕ) → at < length steps → list_any p (above_of steps) ≡ left_above p steps at → p (take at steps) ≡ true →
    list_any p (above_of steps) ≡ true
found_above p steps at within left is = left ∙ left_more p steps at within ∙ ap (λ b. b || left_above p steps (suc at)) is

pub not_above : (p : List Step → Bool) (steps : List Step) (at : ℕ) → at < length steps → list_any p (above_of steps) ≡ left_above p steps at → p (take at steps) ≡ false →
    list_any p (above_of steps) ≡ left_above p steps (at + 1)
not_above p steps at within left is =
    left ∙ left_more p steps at within ∙ ap (λ b. b || left_above p steps (suc at)) is ∙ ap (left_above p steps) one_on
  where
    one_on : suc at ≡ at + 1
    one_on = omega arith

pub none_left : (p : List Step → Bool) (steps : List Step) → left_above p steps (length steps) ≡ false
none_left p [] = refl
none_left p (step ∷ steps) = none_left (λ above. p (step ∷ above)) steps

pub either_true : (a b : Bool) → b ≡ true → (a || b) ≡ true
either_true true b e = refl
either_true false b e = e

pub both_ok : {A B C : Type 0} (result : Result Bool Memory) → IfOk result (λ it. it ≡ true → A) → IfOk result (λ it. it ≡ true → B) → (A → B → C) →
    IfOk result (λ it. it ≡ true → C)
both_ok (Ok it) one other both = λ e. both (one e) (other e)
both_ok (Err memory) one other both = tt
