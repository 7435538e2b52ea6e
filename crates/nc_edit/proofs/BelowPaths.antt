-- A path that goes on below a node, and the paths of rows beside that node and below it.
use Rattle.std.proofs.Common.{◌≡◌, ◌==◌, ◌&&◌, ◌||◌, ◌++◌, ℕ, Bool, true, false, cond, not, ltb, List, [], ◌∷◌, Option, None, refl, sym, ap, ◌∙◌}
use Rattle.std.proofs.lemmas.Bool.Decides.{Decides-eqb}
use Rattle.std.proofs.lemmas.List.{append_assoc, append-nil}
use Rattle.std.specs.Prelude.{option_map}
use Rattle.std.specs.List.{last_or, starts_with}
use Rattle.nc_names.proofs.SameLemmas.{step_decide, step_itself}
use Rattle.nc_names.specs.Same.{is_same_step}
use Rattle.nc_names.specs.declared.path.Place.{Place}
use Rattle.nc_names.specs.declared.path.Row.{Row}
use Rattle.nc_names.specs.declared.path.Step.{Step}
use Rattle.nc_schema.specs.Order.{keys_above, sibling_place}
use Rattle.nc_schema.specs.Standing.{cases_differ, cases_of, entries, entry_before, excludes, is_by_user, keys_in, place_at, placed, sibling_before, steps_before}
use Rattle.nc_schema.specs.Tables.{Tables}
use Rattle.nc_edit.specs.inner.Alone.{AreFree}

-- a path is at some steps or below them
abbrev pub goes_on : List Step → List Step → Bool
goes_on [] path = true
goes_on (step ∷ steps) [] = false
goes_on (step ∷ steps) (first ∷ path) = is_same_step step first && goes_on steps path

pub starts_on : (path steps : List Step) → starts_with is_same_step path steps ≡ goes_on steps path
starts_on path [] = refl
starts_on [] (step ∷ steps) = refl
starts_on (first ∷ path) (step ∷ steps) = ap (λ b. is_same_step step first && b) (starts_on path steps)

-- it is so of what is made of these steps, and of no other path
pub goes_further : (steps rest : List Step) → goes_on steps (steps ++ rest) ≡ true
goes_further [] rest = refl
goes_further (step ∷ steps) rest = rw (step_itself step) (goes_further steps rest)

and_both : (a b : Bool) → (a && b) ≡ true → (a ≡ true) × (b ≡ true)
and_both true b e = (refl, e)
and_both false b e = cc

pub rest_of : (steps path : List Step) → goes_on steps path ≡ true → (rest : List Step) × (path ≡ steps ++ rest)
rest_of [] path e = (path, refl)
rest_of (step ∷ steps) [] e = cc
rest_of (step ∷ steps) (first ∷ path) e =
    let two = and_both (is_same_step step first) (goes_on steps path) e in
    let more = rest_of steps path two.1 in
    let same : step ≡ first = (step_decide step first).0 two.0 in
    (more.0, (λ i. sym same i ∷ more.1 i))

-- what is not at or below some steps is not so of more steps
pub aside_longer : (steps more path : List Step) → goes_on steps path ≡ false → goes_on (steps ++ more) path ≡ false
aside_longer [] more path e = cc
aside_longer (step ∷ steps) more [] e = refl
aside_longer (step ∷ steps) more (first ∷ path) e = by (is_same_step step first) e (aside_longer steps more path)
  where
    by : (b : Bool) → (b && goes_on steps path) ≡ false → (goes_on steps path ≡ false → goes_on (steps ++ more) path ≡ false) → (b && goes_on (steps ++ more) path) ≡ false
    by true f deeper = deeper f
    by false f deeper = refl

-- the same node asked for the other way round
turned : (step other : Step) (b : Bool) → is_same_step other step ≡ b → is_same_step step other ≡ b
turned step other b e = by (is_same_step step other) refl b e
  where
    by : (a : Bool) → is_same_step step other ≡ a → (b : Bool) → is_same_step other step ≡ b → a ≡ b
    by true f true g = refl
    by false f false g = refl
    by true f false g =
        let same : step ≡ other = (step_decide step other).0 f in
        let back : is_same_step other step ≡ true = (step_decide other step).1 (sym same) in
        cc
    by false f true g =
        let same : other ≡ step = (step_decide other step).0 g in
        let back : is_same_step step other ≡ true = (step_decide step other).1 (sym same) in
        cc

-- among siblings that the user does not order no order is looked at
guard : (b : Bool) (x y : Bool) → (b ≡ true → x ≡ y) → (b && x) ≡ (b && y)
guard true x y same = same refl
guard false x y same = refl

entry_free : (tables : Tables) (order other_order : List (List (List ℕ))) (step other : Step) → is_by_user tables other.node ≡ false → step.node ≡ other.node →
    entry_before tables order step other ≡ entry_before tables other_order step other
entry_free tables order other_order step other system same =
    let e : is_by_user tables step.node ≡ false = ap (is_by_user tables) same ∙ system in
    rw e refl

pub sibling_free : (tables : Tables) (keys : List ℕ) (order other_order : List (List (List ℕ))) (step other : Step) → is_by_user tables other.node ≡ false →
    sibling_before tables keys order step other ≡ sibling_before tables keys other_order step other
sibling_free tables keys order other_order step other system =
    ap (λ b. ltb (sibling_place keys step.node) (sibling_place keys other.node) || b)
    (guard (step.node == other.node) (entry_before tables order step other) (entry_before tables other_order step other)
    (λ e. entry_free tables order other_order step other system ((Decides-eqb step.node other.node).0 e)))

-- a path beside a node stands to all below the node as to the node, whatever rows there are
pub aside_before : (tables : Tables) (rows others : List Row) (place other_place : Place) (above path steps more : List Step) → AreFree tables steps → goes_on steps path ≡ false →
    steps_before tables rows place above path (steps ++ more) ≡ steps_before tables others other_place above path steps
aside_before tables rows others place other_place above path [] more free e = cc
aside_before tables rows others place other_place above [] (step ∷ steps) more free e = refl
aside_before tables rows others place other_place above (first ∷ path) (step ∷ steps) more free e =
    by (is_same_step step first) refl e (aside_before tables rows others place other_place (above ++ step ∷ []) path steps more free.1)
  where
    at : Option ℕ
    at = option_map (λ over. over.node) (last_or None above)

    by : (b : Bool) → is_same_step step first ≡ b → (b && goes_on steps path) ≡ false →
        (goes_on steps path ≡ false → steps_before tables rows place (above ++ step ∷ []) path (steps ++ more) ≡ steps_before tables others other_place (above ++ step ∷ []) path steps) →
        cond (is_same_step first step) (steps_before tables rows place (above ++ step ∷ []) path (steps ++ more))
        (sibling_before tables (keys_above tables at) (placed (place_at place (steps ++ more)) step.keys (entries rows above step.node)) first step)
        ≡ cond (is_same_step first step) (steps_before tables others other_place (above ++ step ∷ []) path steps)
        (sibling_before tables (keys_above tables at) (placed (place_at other_place steps) step.keys (entries others above step.node)) first step)
    by true is f deeper = rw (turned first step true is) (deeper f)
    by false is f deeper =
        rw (turned first step false is)
        (sibling_free tables (keys_above tables at) (placed (place_at place (steps ++ more)) step.keys (entries rows above step.node)) (placed (place_at other_place steps) step.keys (entries others above step.node)) first step (free.0).system)

-- and nothing below the node takes its place
pub aside_excludes : (tables : Tables) (path steps more : List Step) → AreFree tables steps → goes_on steps path ≡ false → excludes tables (steps ++ more) path ≡ false
aside_excludes tables path [] more free e = cc
aside_excludes tables [] (step ∷ steps) more free e = refl
aside_excludes tables (first ∷ path) (step ∷ steps) more free e = by (is_same_step step first) e (aside_excludes tables path steps more free.1)
  where
    by : (b : Bool) → (b && goes_on steps path) ≡ false → (goes_on steps path ≡ false → excludes tables (steps ++ more) path ≡ false) → cond b (excludes tables (steps ++ more) path) (cases_differ (cases_of tables step.node) (cases_of tables first.node)) ≡ false
    by true f deeper = deeper f
    by false f deeper = ap (λ cases. cases_differ cases (cases_of tables first.node)) (free.0).cases

-- nor does the node give way to what is below it
pub own_excludes : (tables : Tables) (steps more : List Step) → excludes tables (steps ++ more) steps ≡ false
own_excludes tables [] [] = refl
own_excludes tables [] (step ∷ more) = refl
own_excludes tables (step ∷ steps) more = rw (step_itself step) (own_excludes tables steps more)

-- and comes before it
pub own_before : (tables : Tables) (rows : List Row) (place : Place) (above steps : List Step) (step : Step) (more : List Step) → steps_before tables rows place above steps (steps ++ step ∷ more) ≡ true
own_before tables rows place above [] step more = refl
own_before tables rows place above (first ∷ steps) step more = rw (step_itself first) (own_before tables rows place (above ++ first ∷ []) steps step more)

-- two paths below a node stand to each other as from there
pub inner_before : (tables : Tables) (rows : List Row) (place : Place) (above steps path more : List Step) →
    steps_before tables rows place above (steps ++ path) (steps ++ more) ≡ steps_before tables rows place (above ++ steps) path more
inner_before tables rows place above [] path more = ap (λ ss. steps_before tables rows place ss path more) (sym (append-nil above))
inner_before tables rows place above (step ∷ steps) path more =
    rw (step_itself step)
    (inner_before tables rows place (above ++ step ∷ []) steps path more ∙ ap (λ ss. steps_before tables rows place ss path more) (append_assoc above (step ∷ []) steps))

-- of the rows only the entries count that stand below the same node
pub before_by : (tables : Tables) (rows others : List Row) (place : Place) (above path more : List Step) → ((rest : List Step) (number : ℕ) → entries rows (above ++ rest) number ≡ entries others (above ++ rest) number) →
    steps_before tables rows place above path more ≡ steps_before tables others place above path more
before_by tables rows others place above [] [] same = refl
before_by tables rows others place above [] (step ∷ more) same = refl
before_by tables rows others place above (first ∷ path) [] same = refl
before_by tables rows others place above (first ∷ path) (step ∷ more) same =
    let here : entries rows above step.node ≡ entries others above step.node =
    ap (λ ss. entries rows ss step.node) (sym (append-nil above)) ∙ same [] step.node ∙ ap (λ ss. entries others ss step.node) (append-nil above) in
    let deeper : (rest : List Step) (number : ℕ) → entries rows ((above ++ step ∷ []) ++ rest) number ≡ entries others ((above ++ step ∷ []) ++ rest) number =
    λ rest number. ap (λ ss. entries rows ss number) (append_assoc above (step ∷ []) rest) ∙ same (step ∷ rest) number ∙ ap (λ ss. entries others ss number) (sym (append_assoc above (step ∷ []) rest)) in
    λ i. cond (is_same_step first step) (before_by tables rows others place (above ++ step ∷ []) path more deeper i)
    (sibling_before tables (keys_above tables (option_map (λ over. over.node) (last_or None above))) (placed (place_at place more) step.keys (here i)) first step)

-- no path beside a node is that of an entry below it
pub aside_keys : (steps more : List Step) (number : ℕ) (path : List Step) → goes_on steps path ≡ false → keys_in (steps ++ more) number path ≡ None
aside_keys [] more number path e = cc
aside_keys (step ∷ steps) more number [] e = refl
aside_keys (step ∷ steps) more number (first ∷ path) e = by (is_same_step step first) e (aside_keys steps more number path)
  where
    by : (b : Bool) → (b && goes_on steps path) ≡ false → (goes_on steps path ≡ false → keys_in (steps ++ more) number path ≡ None) → cond b (keys_in (steps ++ more) number path) None ≡ None
    by true f deeper = deeper f
    by false f deeper = refl

-- nor is that of the node
pub own_keys : (steps more : List Step) (number : ℕ) → keys_in (steps ++ more) number steps ≡ None
own_keys [] [] number = refl
own_keys [] (over ∷ more) number = refl
own_keys (step ∷ steps) more number = rw (step_itself step) (own_keys steps more number)
