-- Rows that stand near some, so many steps below the top: what a filter keeps of them is what it keeps of all, where it
-- selects no others.
use Rattle.std.proofs.Common.{◌≡◌, ◌&&◌, ◌||◌, ◌≤◌, ◌∙◌, ℕ, zero, suc, length, take, map, Bor, Bool, true, false, cond, not, List, [], ◌∷◌, ◌++◌, None, refl, sym, ap, subst, arith}
use Rattle.std.specs.List.{Contains, filter, last_or, list_all, list_any, starts_with}
use Rattle.std.specs.Option.{option_map_or}
use Rattle.std.proofs.lemmas.List.{append-nil, append_assoc, map-append, take-append-le}
use Rattle.std.proofs.lemmas.List.Elements.{All-contains}
use Rattle.std.proofs.lemmas.List.Sums.{AllPass-from_list_all}
use Rattle.nc_names.proofs.StepOrder.{same_path}
use Rattle.nc_names.specs.Same.{is_at_or_below, is_same_path, is_same_step}
use Rattle.nc_names.specs.declared.path.Path.{Path}
use Rattle.nc_names.specs.declared.path.Row.{Row}
use Rattle.nc_names.specs.declared.path.Step.{Step}
use Rattle.nc_message.specs.declared.tree.Elem.{Elem}
use Rattle.nc_schema.specs.Blocks.{above_from, above_last}
use Rattle.nc_schema.specs.Tables.{Tables}
use Rattle.nc_protocol.specs.Filter.{chosen, comes_with, holds, is_containment, is_content_match, is_key_of_entry, is_of_matches, is_of_node, is_of_text, level_of, meets, selected, selects}
use Rattle.nc_protocol.proofs.PlaceLemmas.{below_is_below}
use Rattle.nc_filter.specs.inner.Front.{LeadBy, is_like, is_met, is_near}

-- two truths, and one of two
pub first_true : (a b : Bool) → (a && b) ≡ true → a ≡ true
first_true true b e = refl
first_true false b e = e

pub second_true : (a b : Bool) → (a && b) ≡ true → b ≡ true
second_true true b e = e
second_true false b e = absurd (cc e)

pub or_right : (a b : Bool) → b ≡ true → (a || b) ≡ true
or_right true b e = refl
or_right false b e = e

-- rows that pass a test, among those that pass another
any_within : {X : Type 0} (f p : X → Bool) (xs : List X) → ((x : X) → f x ≡ true → p x ≡ true) → list_any f (filter p xs) ≡ list_any f xs
any_within f p [] more = refl
any_within f p (x ∷ xs) more = by (p x) (f x) refl refl (any_within f p xs more)
  where
    by : (b c : Bool) → p x ≡ b → f x ≡ c → list_any f (filter p xs) ≡ list_any f xs → list_any f (cond b (x ∷ filter p xs) (filter p xs)) ≡ (f x || list_any f xs)
    by true c e g rest = ap (λ d. f x || d) rest
    by false true e g rest = absurd (cc (e, more x g))
    by false false e g rest = rest ∙ ap (λ d. d || list_any f xs) (sym g)

pub any_fewer : {X : Type 0} (f p : X → Bool) (xs : List X) → list_any f (filter p xs) ≡ true → list_any f xs ≡ true
any_fewer f p [] some = some
any_fewer f p (x ∷ xs) some = by (p x) (f x) refl some (any_fewer f p xs)
  where
    by : (b c : Bool) → f x ≡ c → list_any f (cond b (x ∷ filter p xs) (filter p xs)) ≡ true → (list_any f (filter p xs) ≡ true → list_any f xs ≡ true) → (f x || list_any f xs) ≡ true
    by b true g e rest = ap (λ d. d || list_any f xs) g
    by true false g e rest = or_right (f x) (list_any f xs) (rest (ap (λ d. d || list_any f (filter p xs)) (sym g) ∙ e))
    by false false g e rest = or_right (f x) (list_any f xs) (rest e)

any_more : {X : Type 0} (f g : X → Bool) (xs : List X) → ((x : X) → f x ≡ true → g x ≡ true) → list_any f xs ≡ true → list_any g xs ≡ true
any_more f g [] more some = some
any_more f g (x ∷ xs) more some = by (f x) refl some (any_more f g xs more)
  where
    by : (b : Bool) → f x ≡ b → (b || list_any f xs) ≡ true → (list_any f xs ≡ true → list_any g xs ≡ true) → (g x || list_any g xs) ≡ true
    by true e some rest = ap (λ c. c || list_any g xs) (more x e)
    by false e some rest = or_right (g x) (list_any g xs) (rest some)

-- one list filtered in two ways
filter_both : {X : Type 0} (p f g : X → Bool) (xs : List X) → ((x : X) → p x ≡ true → f x ≡ g x) → ((x : X) → p x ≡ false → g x ≡ false) → filter f (filter p xs) ≡ filter g xs
filter_both p f g [] same none = refl
filter_both p f g (x ∷ xs) same none = by (p x) refl (filter_both p f g xs same none)
  where
    by : (b : Bool) → p x ≡ b → filter f (filter p xs) ≡ filter g xs → filter f (cond b (x ∷ filter p xs) (filter p xs)) ≡ cond (g x) (x ∷ filter g xs) (filter g xs)
    by true e rest = (λ i. cond (same x e i) (x ∷ rest i) (rest i))
    by false e rest = rest ∙ ap (λ c. cond c (x ∷ filter g xs) (filter g xs)) (sym (none x e))

-- a containment node is no content match
pub no_match : (elem : Elem) → is_containment elem ≡ true → is_content_match elem ≡ false
no_match elem is = by (is_content_match elem) (second_true _ (not (is_content_match elem)) is)
  where
    by : (b : Bool) → not b ≡ true → b ≡ false
    by true e = absurd (cc e)
    by false e = refl

pub holds_meets : (tables : Tables) (rows : List Row) (above : List Step) (level : List Elem) (elem : Elem) → Contains level elem → is_content_match elem ≡ true →
    holds tables rows above level ≡ true → list_any (meets tables elem above) rows ≡ true
holds_meets tables rows above level elem has is held =
    by (is_content_match elem) is
    (All-contains (λ one. (not (is_content_match one) || list_any (meets tables one above) rows) ≡ true) level elem
    (AllPass-from_list_all (λ one. not (is_content_match one) || list_any (meets tables one above) rows) level held) has)
  where
    by : (b : Bool) → b ≡ true → (not b || list_any (meets tables elem above) rows) ≡ true → list_any (meets tables elem above) rows ≡ true
    by true e one = one
    by false e one = absurd (cc e)

pub selects_holds : (tables : Tables) (rows : List Row) (row : Row) (level : List Elem) (above steps : List Step) → selects tables rows row level above steps ≡ true →
    holds tables rows above level ≡ true
selects_holds tables rows row level above [] is = first_true (holds tables rows above level) _ is
selects_holds tables rows row level above (step ∷ steps) is = first_true (holds tables rows above level) _ is

-- what one containment node selects
pub pick_one : (h m c n t s : Bool) → m ≡ false → c ≡ true → (h && ((m && true) || ((n && cond m t (cond c s true)) || false))) ≡ true → s ≡ true
pick_one h true c n t s e f is = absurd (cc e)
pick_one h false false n t s e f is = absurd (cc f)
pick_one true false true true t true e f is = refl
pick_one true false true true t false e f is = absurd (cc is)
pick_one true false true false t s e f is = absurd (cc is)
pick_one false false true n t s e f is = absurd (cc is)

pub none_here : (h m : Bool) → m ≡ false → (h && (m && true)) ≡ true → ⊥
none_here h true e is = absurd (cc e)
none_here true false e is = absurd (cc is)
none_here false false e is = absurd (cc is)

module _ (tables : Tables) (rows : List Row) (row : Row) (elem : Elem) (is_match : is_content_match elem ≡ true) where
  -- a row is selected where a row meets each content match to whose level elements lead
  pub led : (way : List Elem) (from to : Elem) → LeadBy from way to → Contains (level_of to) elem → (above steps : List Step) →
      selects tables rows row (level_of from) above steps ≡ true → list_any (meets tables elem (above ++ take (length way) steps)) rows ≡ true
  led [] from to is has above steps held =
      ap (λ (over : List Step). list_any (meets tables elem over) rows) (append-nil above)
      ∙ holds_meets tables rows above (level_of from) elem (subst (λ (one : Elem). Contains (level_of one) elem) (sym is) has) is_match
      (selects_holds tables rows row (level_of from) above steps held)
  led (one ∷ way) from to (only, is, rest) has above [] held =
      absurd (none_here (holds tables rows above (one ∷ [])) (is_content_match one) (no_match one is)
      (ap (λ (level : List Elem). selects tables rows row level above []) (sym only) ∙ held))
  led (one ∷ way) from to (only, is, rest) has above (step ∷ steps) held =
      ap (λ (over : List Step). list_any (meets tables elem over) rows) (sym (append_assoc above (step ∷ []) (take (length way) steps)))
      ∙ led way one to rest has (above ++ step ∷ []) steps
      (pick_one (holds tables rows above (one ∷ [])) (is_content_match one) (is_containment one) (is_of_node tables one step) (meets tables one above row)
      (selects tables rows row (level_of one) (above ++ step ∷ []) steps) (no_match one is) is
      (ap (λ (level : List Elem). selects tables rows row level above (step ∷ steps)) (sym only) ∙ held))

-- content matches hold after a test of rows that each row passes which meets one of them
holds_same : (tables : Tables) (rows : List Row) (p : Row → Bool) (level : List Elem) (above : List Step) →
    ((elem : Elem) (other : Row) → meets tables elem (above ++ []) other ≡ true → p other ≡ true) →
    holds tables (filter p rows) above level ≡ holds tables rows above level
holds_same tables rows p level above more =
    (λ i. list_all (λ elem. not (is_content_match elem) || any_within (meets tables elem above) p rows
    (λ other met. more elem other (ap (λ (over : List Step). meets tables elem over other) (append-nil above) ∙ met)) i) level)

-- what a node selects after a test of rows that each row passes which meets a content match at or below it
selects_same : (tables : Tables) (rows : List Row) (p : Row → Bool) (row : Row) (level : List Elem) (above steps : List Step) →
    ((front back : List Step) → steps ≡ front ++ back → (elem : Elem) (other : Row) → meets tables elem (above ++ front) other ≡ true → p other ≡ true) →
    selects tables (filter p rows) row level above steps ≡ selects tables rows row level above steps
selects_same tables rows p row level above [] more =
    ap (λ h. h && is_of_matches level) (holds_same tables rows p level above (more [] [] refl))
selects_same tables rows p row level above (step ∷ steps) more =
    (λ i. holds_same tables rows p level above (more [] (step ∷ steps) refl) i && (is_of_matches level || list_any
    (λ elem. is_of_node tables elem step && cond (is_content_match elem) (meets tables elem above row)
    (cond (is_containment elem) (selects_same tables rows p row (level_of elem) (above ++ step ∷ []) steps
    (λ front back is one other met. more (step ∷ front) back (ap (λ rest. step ∷ rest) is) one other
    (ap (λ (over : List Step). meets tables one over other) (sym (append_assoc above (step ∷ []) front)) ∙ met)) i) true)) level))

way_same : (h m x y b : Bool) → m ≡ false → (((not m || x) && true) && b) ≡ (((not m || y) && true) && b)
way_same h true x y b e = absurd (cc e)
way_same h false x y b e = refl

pick_same : (m x y t c n s z : Bool) → m ≡ false → s ≡ z →
    (((not m || x) && true) && ((m && true) || ((n && cond m t (cond c s true)) || false)))
    ≡ (((not m || y) && true) && ((m && true) || ((n && cond m t (cond c z true)) || false)))
pick_same true x y t c n s z e f = absurd (cc e)
pick_same false x y t c n s z e f = ap (λ one. (n && cond c one true) || false) f

module _ (tables : Tables) (rows : List Row) (p : Row → Bool) (row : Row) where
  -- the same where only the rows have to pass that meet a content match at or below the level to which elements lead
  way_selects : (way : List Elem) (from to : Elem) → LeadBy from way to → (above steps : List Step) →
      ((front back : List Step) → steps ≡ front ++ back → length way ≤ length front → (elem : Elem) (other : Row) → meets tables elem (above ++ front) other ≡ true → p other ≡ true) →
      selects tables (filter p rows) row (level_of from) above steps ≡ selects tables rows row (level_of from) above steps
  way_selects [] from to is above steps more =
      selects_same tables rows p row (level_of from) above steps (λ front back cut elem other met. more front back cut (omega arith) elem other met)
  way_selects (one ∷ way) from to (only, is, rest) above [] more =
      ap (λ (level : List Elem). selects tables (filter p rows) row level above []) only
      ∙ way_same true (is_content_match one) (list_any (meets tables one above) (filter p rows)) (list_any (meets tables one above) rows) (is_of_matches (one ∷ [])) (no_match one is)
      ∙ ap (λ (level : List Elem). selects tables rows row level above []) (sym only)
  way_selects (one ∷ way) from to (only, is, rest) above (step ∷ steps) more =
      ap (λ (level : List Elem). selects tables (filter p rows) row level above (step ∷ steps)) only
      ∙ pick_same (is_content_match one) (list_any (meets tables one above) (filter p rows)) (list_any (meets tables one above) rows) (meets tables one above row) (is_containment one)
      (is_of_node tables one step) (selects tables (filter p rows) row (level_of one) (above ++ step ∷ []) steps) (selects tables rows row (level_of one) (above ++ step ∷ []) steps) (no_match one is)
      (way_selects way one to rest (above ++ step ∷ []) steps
      (λ front back cut long elem other met. more (step ∷ front) back (ap (λ rest. step ∷ rest) cut) (omega (arith, long)) elem other
      (ap (λ (over : List Step). meets tables elem over other) (sym (append_assoc above (step ∷ []) front)) ∙ met)))
      ∙ ap (λ (level : List Elem). selects tables rows row level above (step ∷ steps)) (sym only)

-- the first steps to a row are those to the node in which it stands, where these are as many
take_from : (n : ℕ) (step : Step) (steps : List Step) → n ≤ length (above_from step steps) → take n (step ∷ steps) ≡ take n (above_from step steps)
take_from zero step steps some = refl
take_from (suc n) step [] some = absurd (omega (arith, some))
take_from (suc n) step (next ∷ steps) some = ap (λ rest. step ∷ rest) (take_from n next steps (omega (arith, some)))

take_over : (n : ℕ) (steps : List Step) → n ≤ length (above_last steps) → take n steps ≡ take n (above_last steps)
take_over n [] some = refl
take_over n (step ∷ steps) some = take_from n step steps some

between_take : (n : ℕ) (steps rest : List Step) → (between : List Step) × (take n (steps ++ rest) ≡ take n steps ++ between)
between_take zero steps rest = ([], refl)
between_take (suc n) [] rest = (take (suc n) rest, refl)
between_take (suc n) (step ∷ steps) rest = ((between_take n steps rest).0, ap (λ more. step ∷ more) (between_take n steps rest).1)

-- a node is below the first of the steps to it
starts_take : (n : ℕ) (steps rest path : List Step) → starts_with is_same_step path (take n (steps ++ rest)) ≡ true → starts_with is_same_step path (take n steps) ≡ true
starts_take n steps rest path below =
    (below_is_below (take n steps) (record { steps = path })).1 (by n steps ((below_is_below (take n (steps ++ rest)) (record { steps = path })).0 below))
  where
    by : (n : ℕ) (steps : List Step) → ((more : List Step) × (path ≡ take n (steps ++ rest) ++ more)) → (more : List Step) × (path ≡ take n steps ++ more)
    by n steps (more, is) =
        let cut = between_take n steps rest in (cut.0 ++ more, is ∙ ap (λ first. first ++ more) cut.1 ∙ append_assoc (take n steps) cut.0 more)

-- a row that meets a content match is like it, and stands below the node in which that is
like_met : (a b c : Bool) → ((a && b) && c) ≡ true → (a ≡ true) × ((b && c) ≡ true)
like_met true b c e = (refl, e)
like_met false b c e = absurd (cc e)

pub below_above : (path : Path) (steps : List Step) → is_same_path (above_last path.steps) steps ≡ true → is_at_or_below steps path ≡ true
below_above path steps same =
    ap (λ (over : List Step). is_at_or_below over path) (sym (same_path (above_last path.steps) steps same)) ∙ above_below path.steps
  where
    above_below : (steps : List Step) → is_at_or_below (above_last steps) (record { steps = steps }) ≡ true
    above_below [] = refl
    above_below (step ∷ steps) = (below_is_below (above_from step steps) (record { steps = step ∷ steps })).1 (cut step steps)
      where
        cut : (step : Step) (steps : List Step) → (more : List Step) × (step ∷ steps ≡ above_from step steps ++ more)
        cut step [] = (step ∷ [], refl)
        cut step (next ∷ steps) = ((cut next steps).0, ap (λ rest. step ∷ rest) (cut next steps).1)

pub met_at : (tables : Tables) (row : Row) (above : List Step) (elem : Elem) → meets tables elem above row ≡ true →
    (is_same_path (above_last row.path.steps) above ≡ true) × (is_like tables elem row ≡ true)
met_at tables row above elem is =
    like_met (is_same_path (above_last row.path.steps) above) (option_map_or (is_of_node tables elem) (last_or None row.path.steps) false) (is_of_text elem row) is

module _ (tables : Tables) (likes : List Row) (depth : ℕ) where
  abbrev near : List Step → Bool
  near steps = is_near likes depth steps

  abbrev met : Row → Bool
  met row = is_met tables likes depth row

  -- so it is for what is above a node
  near_above : (steps rest : List Step) → near (steps ++ rest) ≡ true → near steps ≡ true
  near_above steps rest some =
      any_more (λ (other : Row). is_at_or_below (take depth (steps ++ rest)) other.path) (λ (other : Row). is_at_or_below (take depth steps) other.path) likes
      (λ other below. starts_take depth steps rest other.path.steps below) some

  -- a row that comes with another that is near is met
  comes_met : (row other : Row) → near other.path.steps ≡ true → comes_with tables other row ≡ true → met row ≡ true
  comes_met row other is comes =
      by (is_at_or_below row.path.steps other.path) (is_key_of_entry tables row.path.steps) (is_at_or_below (above_last row.path.steps) other.path) refl refl refl comes
    where
      up : (steps : List Step) → is_at_or_below steps other.path ≡ true → near steps ≡ true
      up steps below =
          let split = (below_is_below steps other.path).0 below in
          near_above steps split.0 (ap (λ (path : List Step). near path) (sym split.1) ∙ is)

      by : (a k b : Bool) → is_at_or_below row.path.steps other.path ≡ a → is_key_of_entry tables row.path.steps ≡ k → is_at_or_below (above_last row.path.steps) other.path ≡ b →
          (a || (k && b)) ≡ true → met row ≡ true
      by true k b e f g some = ap (λ c. c || (is_key_of_entry tables row.path.steps && near (above_last row.path.steps))) (up row.path.steps e)
      by false true true e f g some =
          or_right (near row.path.steps) (is_key_of_entry tables row.path.steps && near (above_last row.path.steps)) (λ i. f i && up (above_last row.path.steps) g i)
      by false true false e f g some = absurd (cc some)
      by false false b e f g some = absurd (cc some)

  none_met : (row : Row) → met row ≡ false → near row.path.steps ≡ false
  none_met row none = by (near row.path.steps) refl none
    where
      by : (b : Bool) → near row.path.steps ≡ b → (b || (is_key_of_entry tables row.path.steps && near (above_last row.path.steps))) ≡ false → near row.path.steps ≡ false
      by true e none = absurd (cc none)
      by false e none = e

  near_is_met : (row : Row) → near row.path.steps ≡ true → met row ≡ true
  near_is_met row is = ap (λ c. c || (is_key_of_entry tables row.path.steps && near (above_last row.path.steps))) is

-- what is true implies what is not is not
not_so : (a b : Bool) → (a ≡ true → b ≡ true) → b ≡ false → a ≡ false
not_so true b more none = absurd (cc (more refl, none))
not_so false b more none = refl

-- one among those that pass
among_passes : {X : Type 0} (f s : X → Bool) (xs : List X) (one : Bool) → ((x : X) → s x ≡ true → f x ≡ true → one ≡ true) → list_any f (filter s xs) ≡ true → one ≡ true
among_passes f s [] one more some = absurd (cc some)
among_passes {X} f s (x ∷ xs) one more some = by (s x) (f x) refl refl some (among_passes f s xs one more)
  where
    by : (b c : Bool) → s x ≡ b → f x ≡ c → list_any f (cond b (x ∷ filter s xs) (filter s xs)) ≡ true → (list_any f (filter s xs) ≡ true → one ≡ true) → one ≡ true
    by true true e g some rest = more x e g
    by true false e g some rest = rest (ap (λ d. d || list_any f (filter s xs)) (sym g) ∙ some)
    by false c e g some rest = rest some

-- where each row that is selected is near, of all rows and of those that are met
module _ (tables : Tables) (rows likes : List Row) (from to : Elem) (way : List Elem) (is_way : LeadBy from way to)
    (close_all : (row : Row) → selects tables rows row (level_of from) [] row.path.steps ≡ true → is_near likes (length way) row.path.steps ≡ true)
    (close_some : (row : Row) → selects tables (filter (is_met tables likes (length way)) rows) row (level_of from) [] row.path.steps ≡ true →
    is_near likes (length way) row.path.steps ≡ true) where
  abbrev here : Row → Bool
  here row = is_met tables likes (length way) row

  abbrev close : List Step → Bool
  close steps = is_near likes (length way) steps

  abbrev picked : List Row → Row → Bool
  picked among row = selects tables among row (level_of from) [] row.path.steps

  close_same : (row : Row) → close row.path.steps ≡ true → picked (filter here rows) row ≡ picked rows row
  close_same row is =
      way_selects tables rows here row way from to is_way [] row.path.steps
      (λ front back cut long one other is_met_there. near_is_met tables likes (length way) other (near_other front back cut long one other is_met_there))
    where
      near_other : (front back : List Step) → row.path.steps ≡ front ++ back → length way ≤ length front → (one : Elem) (other : Row) → meets tables one ([] ++ front) other ≡ true →
          close other.path.steps ≡ true
      near_other front back cut long one other there =
          let above : above_last other.path.steps ≡ front = same_path (above_last other.path.steps) front (met_at tables other front one there).0 in
          ap (λ (steps : List Step). list_any (λ (like : Row). is_at_or_below steps like.path) likes)
          (take_over (length way) other.path.steps (subst (λ (over : List Step). length way ≤ length over) (sym above) long)
          ∙ ap (take (length way)) above ∙ sym (take-append-le (length way) front back long) ∙ ap (take (length way)) (sym cut))
          ∙ is

  picked_same : (row : Row) → here row ≡ true → picked (filter here rows) row ≡ picked rows row
  picked_same row is = by (close row.path.steps) refl
    where
      by : (b : Bool) → close row.path.steps ≡ b → picked (filter here rows) row ≡ picked rows row
      by true e = close_same row e
      by false e = not_so (picked (filter here rows) row) (close row.path.steps) (close_some row) e ∙ sym (not_so (picked rows row) (close row.path.steps) (close_all row) e)

  pub selected_near : selected tables from (filter here rows) ≡ selected tables from rows
  selected_near =
      ap (λ (found : List Row). filter (λ row. list_any (λ other. comes_with tables other row) found) (filter here rows)) same_chosen
      ∙ filter_both here kept kept rows (λ row is. refl) (λ row none. not_so (kept row) (here row) (kept_here row) none)
    where
      kept : Row → Bool
      kept row = list_any (λ other. comes_with tables other row) (chosen tables from rows)

      same_chosen : chosen tables from (filter here rows) ≡ chosen tables from rows
      same_chosen = filter_both here (picked (filter here rows)) (picked rows) rows picked_same
          (λ row none. not_so (picked rows row) (close row.path.steps) (close_all row) (none_met tables likes (length way) row none))

      kept_here : (row : Row) → kept row ≡ true → here row ≡ true
      kept_here row is = among_passes (λ other. comes_with tables other row) (picked rows) rows (here row)
          (λ other chosen comes. comes_met tables likes (length way) row other (close_all other chosen) comes) is

-- one element more on the way
lead_more : (from to elem : Elem) (way : List Elem) → LeadBy from way to → level_of to ≡ elem ∷ [] → is_containment elem ≡ true → LeadBy from (way ++ elem ∷ []) elem
lead_more from to elem [] is only holds = (ap level_of is ∙ only, holds, refl)
lead_more from to elem (one ∷ way) (first, found, rest) only holds = (first, found, lead_more one to elem way rest only holds)

pub way_more : (from to : Elem) (elems : List (Bor Elem)) (elem : Bor Elem) → LeadBy from (map (λ one. one.now) elems) to → level_of to ≡ elem.now ∷ [] →
    is_containment elem.now ≡ true → LeadBy from (map (λ one. one.now) (elems ++ elem ∷ [])) elem.now
way_more from to elems elem is only holds =
    subst (λ (way : List Elem). LeadBy from way elem.now) (sym (map-append (λ (one : Bor Elem). one.now) elems (elem ∷ [])))
    (lead_more from to elem.now (map (λ one. one.now) elems) is only holds)
