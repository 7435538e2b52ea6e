-- Two paths: one is at or below the other, or they part at a step. What is before what then.
use Rattle.std.proofs.Common.{◌≡◌, ◌≢◌, ◌⊎◌, ℕ, Bool, true, false, cond, List, [], ◌∷◌, ◌++◌, Option, Some, None, refl, sym, ap, ◌∙◌, inl, inr, append_assoc}
use Rattle.std.proofs.lemmas.List.{append-nil}
use Rattle.std.specs.List.{last_or}
use Rattle.std.specs.Prelude.{option_map}
use Rattle.nc_names.specs.declared.path.Place.{Place}
use Rattle.nc_names.specs.declared.path.Row.{Row}
use Rattle.nc_names.specs.declared.path.Step.{Step}
use Rattle.nc_schema.specs.Order.{keys_above, StepBefore, StepsBefore}
use Rattle.nc_schema.specs.Tables.{Tables}
use Rattle.nc_schema.proofs.OrderLemmas.{step_irreflexive}
use Rattle.nc_names.specs.Same.{is_same_step}
use Rattle.nc_schema.specs.Standing.{sibling_before, placed, place_at, entries, steps_before, excludes, cases_differ, cases_of}
use Rattle.nc_protocol.proofs.BoolLemmas.{is_false}
use Rattle.nc_names.proofs.SameLemmas.{step_decide, step_itself, steps_differ}

pub is_other : (x y : Step) → x ≢ y → is_same_step x y ≡ false
is_other x y differ = is_false (is_same_step x y) (λ same. differ ((step_decide x y).0 same))

-- the node in which the next step is, after steps from there
abbrev pub node_after : Option ℕ → List Step → Option ℕ
node_after at [] = at
node_after at (step ∷ steps) = node_after (Some step.node) steps

pub after_last : (at : Option ℕ) (steps : List Step) (step : Step) → node_after at (steps ++ step ∷ []) ≡ Some step.node
after_last at [] step = refl
after_last at (other ∷ steps) step = after_last (Some other.node) steps step

last_from : (o : Option Step) (steps : List Step) → option_map (λ over. over.node) (last_or o steps) ≡ node_after (option_map (λ over. over.node) o) steps
last_from o [] = refl
last_from o (step ∷ steps) = last_from (Some step) steps

pub last_is_after : (steps : List Step) → option_map (λ over. over.node) (last_or None steps) ≡ node_after None steps
last_is_after steps = last_from None steps

-- two paths part: they share steps, and then go on with two steps
pub record IsParting (xs ys : List Step) : Type 0 where
  pub common : List Step
  pub x : Step
  pub y : Step
  pub more : List Step
  pub others : List Step
  pub differ : x ≢ y
  pub one : xs ≡ common ++ x ∷ more
  pub other : ys ≡ common ++ y ∷ others

-- the one is above the other
pub record IsHigher (xs ys : List Step) : Type 0 where
  pub step : Step
  pub rest : List Step
  pub longer : ys ≡ xs ++ step ∷ rest

-- the one is the other, or below it
abbrev pub IsLower : List Step → List Step → Type 0
IsLower xs ys = (rest : List Step) × (xs ≡ ys ++ rest)

pub view : (xs ys : List Step) → IsParting xs ys ⊎ IsHigher xs ys ⊎ IsLower xs ys
view xs [] = inr (inr (xs, refl))
view [] (y ∷ ys) = inr (inl (record { step = y; rest = ys; longer = refl }))
view (x ∷ xs) (y ∷ ys) = by (is_same_step x y) refl (view xs ys)
  where
    by : (b : Bool) → is_same_step x y ≡ b → IsParting xs ys ⊎ IsHigher xs ys ⊎ IsLower xs ys → IsParting (x ∷ xs) (y ∷ ys) ⊎ IsHigher (x ∷ xs) (y ∷ ys) ⊎ IsLower (x ∷ xs) (y ∷ ys)
    by false e rest = inl (record { common = []; x = x; y = y; more = xs; others = ys; differ = steps_differ x y e; one = refl; other = refl })
    by true e (inl p) = inl (record { common = x ∷ p.common; x = p.x; y = p.y; more = p.more; others = p.others; differ = p.differ; one = λ i. x ∷ p.one i; other = λ i. sym ((step_decide x y).0 e) i ∷ p.other i })
    by true e (inr (inl h)) = inr (inl (record { step = h.step; rest = h.rest; longer = λ i. sym ((step_decide x y).0 e) i ∷ h.longer i }))
    by true e (inr (inr (rest, is))) = inr (inr (rest, (λ i. (step_decide x y).0 e i ∷ is i)))

-- what is at or below the second of two paths goes on from where they part, or from the first
pub below_parting : (xs ys zs : List Step) (p : IsParting xs ys) (below : IsLower zs ys) → zs ≡ p.common ++ p.y ∷ (p.others ++ below.0)
below_parting xs ys zs p below = below.1 ∙ ap (λ ss. ss ++ below.0) p.other ∙ append_assoc p.common (p.y ∷ p.others) below.0

pub below_higher : (xs ys zs : List Step) (h : IsHigher xs ys) (below : IsLower zs ys) → zs ≡ xs ++ h.step ∷ (h.rest ++ below.0)
below_higher xs ys zs h below = below.1 ∙ ap (λ ss. ss ++ below.0) h.longer ∙ append_assoc xs (h.step ∷ h.rest) below.0

-- a path above another is before it, in document order and by the test
pub higher_order : (tables : Tables) (at : Option ℕ) (steps : List Step) (next : Step) (rest : List Step) → StepsBefore tables at steps (steps ++ next ∷ rest)
higher_order tables at [] next rest = tt
higher_order tables at (step ∷ steps) next rest = inr (refl, higher_order tables (Some step.node) steps next rest)

pub higher_test : (tables : Tables) (rows : List Row) (place : Place) (above steps : List Step) (next : Step) (rest : List Step) →
    steps_before tables rows place above steps (steps ++ next ∷ rest) ≡ true
higher_test tables rows place above [] next rest = refl
higher_test tables rows place above (step ∷ steps) next rest =
    by (is_same_step step step) (step_itself step) (higher_test tables rows place (above ++ step ∷ []) steps next rest)
  where
    by : (b : Bool) → b ≡ true → steps_before tables rows place (above ++ step ∷ []) steps (steps ++ next ∷ rest) ≡ true →
        cond b (steps_before tables rows place (above ++ step ∷ []) steps (steps ++ next ∷ rest))
        (sibling_before tables (keys_above tables (option_map (λ over. over.node) (last_or None above)))
        (placed (place_at place (steps ++ next ∷ rest)) step.keys (entries rows above step.node)) step step) ≡ true
    by true e rest_is = rest_is
    by false e rest_is = cc

-- where two paths part, document order is that of the two steps
pub parting_order : (tables : Tables) (at : Option ℕ) (common : List Step) (x y : Step) (more others : List Step) →
    StepBefore tables (node_after at common) x y → StepsBefore tables at (common ++ x ∷ more) (common ++ y ∷ others)
parting_order tables at [] x y more others before = inl before
parting_order tables at (step ∷ common) x y more others before = inr (refl, parting_order tables (Some step.node) common x y more others before)

pub order_parting : (tables : Tables) (at : Option ℕ) (common : List Step) (x y : Step) (more others : List Step) → x ≢ y →
    StepsBefore tables at (common ++ x ∷ more) (common ++ y ∷ others) → StepBefore tables (node_after at common) x y
order_parting tables at [] x y more others differ (inl before) = before
order_parting tables at [] x y more others differ (inr (same, before)) = absurd (differ same)
order_parting tables at (step ∷ common) x y more others differ (inl before) = absurd (step_irreflexive tables at step before)
order_parting tables at (step ∷ common) x y more others differ (inr (same, before)) = order_parting tables (Some step.node) common x y more others differ before

-- so is the test
pub parting_test : (tables : Tables) (rows : List Row) (place : Place) (above common : List Step) (x y : Step) (more others : List Step) → x ≢ y →
    steps_before tables rows place above (common ++ x ∷ more) (common ++ y ∷ others)
    ≡ sibling_before tables (keys_above tables (node_after None (above ++ common))) (placed (place_at place others) y.keys (entries rows (above ++ common) y.node)) x y
parting_test tables rows place above [] x y more others differ =
    by (is_same_step x y) (is_other x y differ)
    ∙ ap (λ (over : Option ℕ). sibling_before tables (keys_above tables over) (placed (place_at place others) y.keys (entries rows above y.node)) x y) (last_is_after above)
    ∙ ap (λ (steps : List Step). sibling_before tables (keys_above tables (node_after None steps)) (placed (place_at place others) y.keys (entries rows steps y.node)) x y) (sym (append-nil above))
  where
    by : (b : Bool) → b ≡ false →
        cond b (steps_before tables rows place (above ++ y ∷ []) more others)
        (sibling_before tables (keys_above tables (option_map (λ over. over.node) (last_or None above))) (placed (place_at place others) y.keys (entries rows above y.node)) x y)
        ≡ sibling_before tables (keys_above tables (option_map (λ over. over.node) (last_or None above))) (placed (place_at place others) y.keys (entries rows above y.node)) x y
    by true e = cc
    by false e = refl
parting_test tables rows place above (step ∷ common) x y more others differ =
    by (is_same_step step step) (step_itself step)
    ∙ parting_test tables rows place (above ++ step ∷ []) common x y more others differ
    ∙ ap (λ (steps : List Step). sibling_before tables (keys_above tables (node_after None steps)) (placed (place_at place others) y.keys (entries rows steps y.node)) x y) (append_assoc above (step ∷ []) common)
  where
    by : (b : Bool) → b ≡ true →
        cond b (steps_before tables rows place (above ++ step ∷ []) (common ++ x ∷ more) (common ++ y ∷ others))
        (sibling_before tables (keys_above tables (option_map (λ over. over.node) (last_or None above)))
        (placed (place_at place (common ++ y ∷ others)) step.keys (entries rows above step.node)) step step)
        ≡ steps_before tables rows place (above ++ step ∷ []) (common ++ x ∷ more) (common ++ y ∷ others)
    by true e = refl
    by false e = cc

-- two paths exclude each other by the cases of the steps at which they part
pub parting_excludes : (tables : Tables) (common : List Step) (x y : Step) (more others : List Step) → x ≢ y →
    excludes tables (common ++ x ∷ more) (common ++ y ∷ others) ≡ cases_differ (cases_of tables x.node) (cases_of tables y.node)
parting_excludes tables [] x y more others differ = by (is_same_step x y) (is_other x y differ)
  where
    by : (b : Bool) → b ≡ false → cond b (excludes tables more others) (cases_differ (cases_of tables x.node) (cases_of tables y.node)) ≡ cases_differ (cases_of tables x.node) (cases_of tables y.node)
    by true e = cc
    by false e = refl
parting_excludes tables (step ∷ common) x y more others differ = by (is_same_step step step) (step_itself step) (parting_excludes tables common x y more others differ)
  where
    by : (b : Bool) → b ≡ true → excludes tables (common ++ x ∷ more) (common ++ y ∷ others) ≡ cases_differ (cases_of tables x.node) (cases_of tables y.node) →
        cond b (excludes tables (common ++ x ∷ more) (common ++ y ∷ others)) (cases_differ (cases_of tables step.node) (cases_of tables step.node)) ≡ cases_differ (cases_of tables x.node) (cases_of tables y.node)
    by true e rest = rest
    by false e rest = cc

-- a path excludes none at, above or below it
pub lower_excludes : (tables : Tables) (steps rest : List Step) → excludes tables (steps ++ rest) steps ≡ false
lower_excludes tables [] [] = refl
lower_excludes tables [] (step ∷ rest) = refl
lower_excludes tables (step ∷ steps) rest = by (is_same_step step step) (step_itself step) (lower_excludes tables steps rest)
  where
    by : (b : Bool) → b ≡ true → excludes tables (steps ++ rest) steps ≡ false → cond b (excludes tables (steps ++ rest) steps) (cases_differ (cases_of tables step.node) (cases_of tables step.node)) ≡ false
    by true e rest_is = rest_is
    by false e rest_is = cc

pub higher_excludes : (tables : Tables) (steps rest : List Step) → excludes tables steps (steps ++ rest) ≡ false
higher_excludes tables [] rest = refl
higher_excludes tables (step ∷ steps) rest = by (is_same_step step step) (step_itself step) (higher_excludes tables steps rest)
  where
    by : (b : Bool) → b ≡ true → excludes tables steps (steps ++ rest) ≡ false → cond b (excludes tables steps (steps ++ rest)) (cases_differ (cases_of tables step.node) (cases_of tables step.node)) ≡ false
    by true e rest_is = rest_is
    by false e rest_is = cc

-- the tests of two paths, by how they stand
pub before_parting : (tables : Tables) (rows : List Row) (place : Place) (xs ys : List Step) (p : IsParting xs ys) →
    steps_before tables rows place [] xs ys
    ≡ sibling_before tables (keys_above tables (node_after None p.common)) (placed (place_at place p.others) p.y.keys (entries rows p.common p.y.node)) p.x p.y
before_parting tables rows place xs ys p =
    ap (λ ss. steps_before tables rows place [] ss ys) p.one ∙ ap (λ ss. steps_before tables rows place [] (p.common ++ p.x ∷ p.more) ss) p.other
    ∙ parting_test tables rows place [] p.common p.x p.y p.more p.others p.differ

pub before_higher : (tables : Tables) (rows : List Row) (place : Place) (xs ys : List Step) → IsHigher xs ys → steps_before tables rows place [] xs ys ≡ true
before_higher tables rows place xs ys h = ap (λ ss. steps_before tables rows place [] xs ss) h.longer ∙ higher_test tables rows place [] xs h.step h.rest

pub excludes_parting : (tables : Tables) (xs ys : List Step) (p : IsParting xs ys) → excludes tables xs ys ≡ cases_differ (cases_of tables p.x.node) (cases_of tables p.y.node)
excludes_parting tables xs ys p =
    ap (λ ss. excludes tables ss ys) p.one ∙ ap (λ ss. excludes tables (p.common ++ p.x ∷ p.more) ss) p.other
    ∙ parting_excludes tables p.common p.x p.y p.more p.others p.differ

-- what parts from a path excludes what is below it where it excludes the path
pub excludes_below : (tables : Tables) (xs ys zs : List Step) → IsParting xs ys → IsLower zs ys → excludes tables xs zs ≡ excludes tables xs ys
excludes_below tables xs ys zs p below =
    ap (λ ss. excludes tables ss zs) p.one ∙ ap (λ ss. excludes tables (p.common ++ p.x ∷ p.more) ss) (below_parting xs ys zs p below)
    ∙ parting_excludes tables p.common p.x p.y p.more (p.others ++ below.0) p.differ ∙ sym (excludes_parting tables xs ys p)

pub excludes_higher : (tables : Tables) (xs ys : List Step) → IsHigher xs ys → excludes tables xs ys ≡ false
excludes_higher tables xs ys h = ap (λ ss. excludes tables xs ss) h.longer ∙ higher_excludes tables xs (h.step ∷ h.rest)

pub excludes_lower : (tables : Tables) (xs ys : List Step) → IsLower xs ys → excludes tables xs ys ≡ false
excludes_lower tables xs ys lower = ap (λ ss. excludes tables ss ys) lower.1 ∙ lower_excludes tables ys lower.0
