-- Where all rows like a content match stand in one instance, the rows that are met are those at and below it.
use Rattle.std.proofs.Common.{◌≡◌, ◌⊎◌, ◌&&◌, ◌||◌, ◌≤◌, ◌<◌, ◌==◌, ◌∙◌, ℕ, Bool, true, false, cond, List, [], ◌∷◌, ◌++◌, Option, Some, None, length, take, drop, refl, sym, ap, subst, inl, inr, arith}
use Rattle.std.specs.Prelude.{option_map}
use Rattle.std.specs.List.{filter, last_or, list_all, list_any}
use Rattle.std.specs.Option.{option_map_or}
use Rattle.std.proofs.Math.Seq.{take-append_seam}
use Rattle.std.proofs.lemmas.Bool.{cases_lt}
use Rattle.std.proofs.lemmas.List.{append_assoc, length-take-le, take-append-drop, take-append-le, take_all}
use Rattle.nc_names.proofs.StepOrder.{same_itself}
use Rattle.nc_names.specs.Same.{is_at_or_below, is_same_path}
use Rattle.nc_names.specs.declared.path.Row.{Row}
use Rattle.nc_names.specs.declared.path.Step.{Step}
use Rattle.nc_schema.specs.Blocks.{above_from, above_last}
use Rattle.nc_schema.specs.Order.{keys_above}
use Rattle.nc_schema.specs.Standing.{block_at}
use Rattle.nc_schema.specs.Tables.{Tables}
use Rattle.nc_protocol.specs.Filter.{is_key_of_entry}
use Rattle.nc_protocol.proofs.PlaceLemmas.{below_is_below}
use Rattle.nc_filter.specs.inner.Front.{AreBare, AreBelow, IsLone, is_met, is_near}

-- one that passes
any_one : {X : Type 0} (f : X → Bool) (xs : List X) → list_any f xs ≡ true → (x : X) × (f x ≡ true) × ((p : X → Bool) → list_all p xs ≡ true → p x ≡ true)
any_one f [] some = absurd (cc some)
any_one {X} f (x ∷ xs) some = by (f x) refl some (any_one f xs)
  where
    by : (b : Bool) → f x ≡ b → (b || list_any f xs) ≡ true →
        (list_any f xs ≡ true → (y : X) × (f y ≡ true) × ((p : X → Bool) → list_all p xs ≡ true → p y ≡ true)) → (y : X) × (f y ≡ true) × ((p : X → Bool) → (p x && list_all p xs) ≡ true → p y ≡ true)
    by true e some rest = (x, e, λ p all. both (p x) (list_all p xs) all)
      where
        both : (a b : Bool) → (a && b) ≡ true → a ≡ true
        both true b e = refl
        both false b e = e
    by false e some rest =
        let found = rest some in
        (found.0, found.1, λ p all. found.2 p (both (p x) (list_all p xs) all))
      where
        both : (a b : Bool) → (a && b) ≡ true → b ≡ true
        both true b e = e
        both false b e = absurd (cc e)

-- one list filtered by two tests that agree on what is in it
filter_alike : {X : Type 0} (f g : X → Bool) (xs : List X) → ((x : X) → ((p : X → Bool) → list_any p xs ≡ false → p x ≡ false) → f x ≡ g x) → filter f xs ≡ filter g xs
filter_alike f g [] same = refl
filter_alike f g (x ∷ xs) same =
    (λ i. cond (same x (λ p none. first (p x) (list_any p xs) none) i)
    (x ∷ filter_alike f g xs (λ y within. same y (λ p none. within p (second (p x) (list_any p xs) none))) i)
    (filter_alike f g xs (λ y within. same y (λ p none. within p (second (p x) (list_any p xs) none))) i))
  where
    first : (a b : Bool) → (a || b) ≡ false → a ≡ false
    first true b e = absurd (cc e)
    first false b e = refl

    second : (a b : Bool) → (a || b) ≡ false → b ≡ false
    second true b e = absurd (cc e)
    second false b e = e

-- two tests of which each implies the other
same_tests : (a b : Bool) → (a ≡ true → b ≡ true) → (b ≡ true → a ≡ true) → a ≡ b
same_tests true b more back = sym (more refl)
same_tests false true more back = back refl
same_tests false false more back = refl

-- a node stands at or below the node above it
pub above_split : (steps : List Step) → (last_or None steps ≡ None) ⊎ ((step : Step) × (steps ≡ above_last steps ++ step ∷ []))
above_split [] = inl refl
above_split (step ∷ steps) = inr (split step steps)
  where
    split : (step : Step) (steps : List Step) → (last : Step) × (step ∷ steps ≡ above_from step steps ++ last ∷ [])
    split step [] = (step, refl)
    split step (next ∷ steps) = ((split next steps).0, ap (λ rest. step ∷ rest) (split next steps).1)

module _ (tables : Tables) (rows more : List Row) (one : Row) (depth : ℕ) (top : List Step) (len : length top ≡ depth) (below : AreBelow top (one ∷ more)) (bare : AreBare tables rows top) where
  abbrev likes : List Row
  likes = one ∷ more

  abbrev here : List Step → Bool
  here steps = is_at_or_below top (record { steps = steps })

  abbrev Above : List Step → Type 0
  Above steps = (at : ℕ) × (at < length top) × (steps ≡ take at top)

  -- where the rows are near, and nowhere else
  near_only : (steps : List Step) → is_near likes depth steps ≡ true → (here steps ≡ true) ⊎ Above steps
  near_only steps some =
      let found = any_one (λ (other : Row). is_at_or_below (take depth steps) other.path) likes some in
      by found.0 ((below_is_below (take depth steps) found.0.path).0 found.1)
      ((below_is_below top found.0.path).0 (found.2 (λ (row : Row). is_at_or_below top row.path) below)) (cases_lt (length steps) depth)
    where
      by : (like : Row) → ((first : List Step) × (like.path.steps ≡ take depth steps ++ first)) → ((rest : List Step) × (like.path.steps ≡ top ++ rest)) →
          (length steps < depth) ⊎ (depth ≤ length steps) → (here steps ≡ true) ⊎ Above steps
      by like (first, is) (rest, is_top) (inl short) =
          inr (length steps, subst (λ (n : ℕ). length steps < n) (sym len) short, at_top)
        where
          whole : take depth steps ≡ steps
          whole = take_all depth steps (omega (arith, short))

          at_top : steps ≡ take (length steps) top
          at_top =
              sym (take-append_seam steps first)
              ∙ ap (take (length steps)) (ap (λ (front : List Step). front ++ first) (sym whole) ∙ sym is ∙ is_top)
              ∙ take-append-le (length steps) top rest (omega (arith, short, len))
      by like (first, is) (rest, is_top) (inr long) =
          inl ((below_is_below top (record { steps = steps })).1 (drop depth steps, sym (take-append-drop depth steps) ∙ ap (λ (front : List Step). front ++ drop depth steps) whole))
        where
          size : length (take depth steps) ≡ depth
          size = length-take-le depth steps long

          whole : take depth steps ≡ top
          whole =
              sym (take-append_seam (take depth steps) first)
              ∙ (λ i. take (size i) ((sym is ∙ is_top) i))
              ∙ ap (λ (n : ℕ). take n (top ++ rest)) (sym len)
              ∙ take-append_seam top rest

  near_here : (steps : List Step) → here steps ≡ true → is_near likes depth steps ≡ true
  near_here steps is =
      ap (λ b. b || list_any (λ (other : Row). is_at_or_below (take depth steps) other.path) more)
      (ap (λ (front : List Step). is_at_or_below front one.path) (at ((below_is_below top (record { steps = steps })).0 is))
      ∙ first (is_at_or_below top one.path) (list_all (λ (row : Row). is_at_or_below top row.path) more) below)
    where
      at : ((rest : List Step) × (steps ≡ top ++ rest)) → take depth steps ≡ top
      at (rest, split) = (λ i. take (sym len i) (split i)) ∙ take-append_seam top rest

      first : (a b : Bool) → (a && b) ≡ true → a ≡ true
      first true b e = refl
      first false b e = e

  -- a row of the rows is met where it stands in the instance, and nowhere else
  same_met : (row : Row) → ((p : Row → Bool) → list_any p rows ≡ false → p row ≡ false) → is_at_or_below top row.path ≡ is_met tables likes depth row
  same_met row within = same_tests (here row.path.steps) (is_met tables likes depth row) there back
    where
      there : here row.path.steps ≡ true → is_met tables likes depth row ≡ true
      there is = ap (λ b. b || (is_key_of_entry tables row.path.steps && is_near likes depth (above_last row.path.steps))) (near_here row.path.steps is)

      not_above : Above row.path.steps → here row.path.steps ≡ true
      not_above (at, less, is) =
          let none : is_same_path row.path.steps (take at top) ≡ false = within (λ (other : Row). is_same_path other.path.steps (take at top)) (bare at less).0 in
          let some : is_same_path row.path.steps (take at top) ≡ true = same_itself row.path.steps (take at top) is in
          absurd (cc (none, some))

      own : (here row.path.steps ≡ true) ⊎ Above row.path.steps → here row.path.steps ≡ true
      own (inl is) = is
      own (inr is) = not_above is

      no_key : (steps over : List Step) → keys_above tables (option_map (λ over. over.node) (last_or None over)) ≡ [] → above_last steps ≡ over → is_key_of_entry tables steps ≡ true → ⊥
      no_key steps over none is key =
          let empty : keys_above tables (option_map (λ over. over.node) (last_or None (above_last steps))) ≡ [] =
          ap (λ (over : List Step). keys_above tables (option_map (λ over. over.node) (last_or None over))) is ∙ none in
          never (last_or None steps)
          (ap (λ (keys : List ℕ). option_map_or (λ (step : Step). list_any (λ (key : ℕ). key == step.node) keys) (last_or None steps) false) (sym empty) ∙ key)
        where
          never : (o : Option Step) → option_map_or (λ (step : Step). false) o false ≡ true → ⊥
          never None e = absurd (cc e)
          never (Some step) e = absurd (cc e)

      of_entry : is_key_of_entry tables row.path.steps ≡ true → (here (above_last row.path.steps) ≡ true) ⊎ Above (above_last row.path.steps) → here row.path.steps ≡ true
      of_entry key (inl is) = go (above_split row.path.steps)
        where
          nothing : (o : Option Step) → o ≡ None → option_map_or (λ (step : Step). list_any (λ (key : ℕ). key == step.node) (keys_above tables (option_map (λ over. over.node) (last_or None (above_last row.path.steps))))) o false ≡ true → ⊥
          nothing None e some = absurd (cc some)
          nothing (Some step) e some = absurd (cc e)

          go : (last_or None row.path.steps ≡ None) ⊎ ((step : Step) × (row.path.steps ≡ above_last row.path.steps ++ step ∷ [])) → here row.path.steps ≡ true
          go (inl none) = absurd (nothing (last_or None row.path.steps) none key)
          go (inr (step, split)) =
              let over = (below_is_below top (record { steps = above_last row.path.steps })).0 is in
              (below_is_below top row.path).1 (over.0 ++ step ∷ [], split ∙ ap (λ (front : List Step). front ++ step ∷ []) over.1 ∙ append_assoc top over.0 (step ∷ []))
      of_entry key (inr (at, less, is)) = absurd (no_key row.path.steps (take at top) (bare at less).1 is key)

      back : is_met tables likes depth row ≡ true → here row.path.steps ≡ true
      back met = by (is_near likes depth row.path.steps) (is_key_of_entry tables row.path.steps) (is_near likes depth (above_last row.path.steps)) refl refl refl met
        where
          by : (a k b : Bool) → is_near likes depth row.path.steps ≡ a → is_key_of_entry tables row.path.steps ≡ k → is_near likes depth (above_last row.path.steps) ≡ b →
              (a || (k && b)) ≡ true → here row.path.steps ≡ true
          by true k b e f g some = own (near_only row.path.steps e)
          by false true true e f g some = of_entry f (near_only (above_last row.path.steps) g)
          by false true false e f g some = absurd (cc some)
          by false false b e f g some = absurd (cc some)

  lone_met : block_at rows top ≡ filter (is_met tables likes depth) rows
  lone_met = filter_alike (λ (row : Row). is_at_or_below top row.path) (is_met tables likes depth) rows same_met

-- so it is for the rows that are like it
pub lone_rows : (tables : Tables) (rows likes : List Row) (depth : ℕ) (top : List Step) → IsLone tables rows likes depth top →
    block_at rows top ≡ filter (is_met tables likes depth) rows
lone_rows tables rows [] depth top is = absurd is
lone_rows tables rows (one ∷ more) depth top (len, below, bare) = lone_met tables rows more one depth top len below bare
