-- What is known of rows that are gathered: where a new one stands, and that no row excludes another.
use Rattle.std.proofs.Common.{◌≡◌, ◌≢◌, ◌⊎◌, ◌<◌, ◌≤◌, ℕ, true, false, ltb, List, [], ◌∷◌, ◌++◌, map, Option, Some, None, refl, sym, ap, subst, ◌∙◌, inl, inr, arith, append_assoc}
use Rattle.std.proofs.lemmas.Cmp.{ranked}
use Rattle.std.proofs.lemmas.List.{append-nil}
use Rattle.std.specs.List.{Contains, cons_option}
use Rattle.std.specs.List.Sorted.{IsStrictlySortedBy}
use Rattle.std.specs.Ordering.{is_lt, nat_cmp, MatchOrdering}
use Rattle.std.specs.declared.cmp.Ordering.{Ordering}
use Rattle.std.specs.declared.cmp.Ordering.TheVariants.{Less, Equal, Greater}
use Rattle.nc_names.specs.Same.{is_same_path}
use Rattle.nc_names.specs.declared.path.Place.TheVariants.{Kept}
use Rattle.nc_names.specs.declared.path.Row.{Row}
use Rattle.nc_names.specs.declared.path.Step.{Step}
use Rattle.nc_schema.specs.Order.{keys_above}
use Rattle.nc_schema.specs.Standing.{cases_differ, cases_of, entries, excludes, has_entry, has_row, is_by_user, keys_in, kept_or_last, place_at, placed, sibling_before, stands_before, steps_before}
use Rattle.nc_schema.specs.Tables.{Tables}
use Rattle.nc_schema.specs.declared.node.Case.{Case}
use Rattle.nc_protocol.proofs.AboveLemmas.{path_decide_to, some_passes}
use Rattle.nc_protocol.proofs.CaseLemmas.{cases_agree}
use Rattle.nc_protocol.proofs.EntryLemmas.{has_its_entry, keys_back}
use Rattle.std.proofs.lemmas.List.{append_cancel_left}
use Rattle.nc_protocol.proofs.ListLemmas.{contains_behind, some_same}
use Rattle.nc_protocol.proofs.Parts.{all_at}
use Rattle.nc_protocol.proofs.PathViews.{IsHigher, IsLower, IsParting, before_higher, before_parting, below_higher, below_parting, excludes_higher, excludes_lower, excludes_parting, node_after, view}
use Rattle.nc_payload.proofs.MarkLemmas.{AreSides, are_sides, higher_marks, last_marks, parting_marks, sides, user_sides}
use Rattle.nc_payload.proofs.PutLemmas.{first_before, is_first, sorted_behind}
use Rattle.nc_payload.proofs.TurnLemmas.{AreBelow, IsBelow, Keys, Rises, kept_turns}
use Rattle.nc_payload.specs.declared.gather.Gathered.{Gathered}
use Rattle.nc_payload.specs.declared.marks.Turns.{Turns}
use Rattle.nc_payload.specs.inner.Gathered.{AreChosen, AreKnown, Holds, IsKnown, case_of, has_seen, row_marks}
use Rattle.nc_payload.specs.inner.Marks.{in_marks, marks, turn_of}

module _ (tables : Tables) (turns : Turns) where
  -- ---- what is known of each step
  known_from : (so_far : Gathered) (rows : List Row) (above xs : List Step) (step : Step) (ys : List Step) → AreKnown tables turns so_far rows above (xs ++ step ∷ ys) → IsKnown tables turns so_far rows (above ++ xs) step
  known_from so_far rows above [] step ys known = subst (λ (a : List Step). IsKnown tables turns so_far rows a step) (sym (append-nil above)) known.0
  known_from so_far rows above (x ∷ xs) step ys known =
      subst (λ (a : List Step). IsKnown tables turns so_far rows a step) (append_assoc above (x ∷ []) xs) (known_from so_far rows (above ++ x ∷ []) xs step ys known.1)

  pub known_at : (so_far : Gathered) (rows : List Row) (steps common inner : List Step) (step : Step) (ys : List Step) → Holds tables turns so_far rows → has_seen so_far steps ≡ true → steps ≡ common ++ step ∷ ys →
      common ≡ so_far.base ++ inner → IsKnown tables turns so_far rows common step
  known_at so_far rows steps common inner step ys holds seen is at =
      let held = holds.known steps seen in
      subst (λ (a : List Step). IsKnown tables turns so_far rows a step) (sym at)
      (known_from so_far rows so_far.base inner step ys
      (subst (λ (s : List Step). AreKnown tables turns so_far rows so_far.base s)
      (append_cancel_left so_far.base held.rest (inner ++ step ∷ ys) (sym held.is ∙ is ∙ ap (λ (a : List Step). a ++ step ∷ ys) at ∙ append_assoc so_far.base inner (step ∷ ys))) held.known))

  pub row_seen : (so_far : Gathered) (rows : List Row) (row : Row) → Holds tables turns so_far rows → Contains rows row → has_seen so_far row.path.steps ≡ true
  row_seen so_far rows row holds has = all_at (λ (r : Row). has_seen so_far r.path.steps ≡ true) rows row holds.each has

  -- ---- the entries that the user orders
  abbrev entry_step : ℕ → Keys → Step
  entry_step number keys = record { node = number; keys = keys }

  abbrev turn_at : List Step → ℕ → Keys → ℕ
  turn_at common number keys = turn_of turns (common ++ entry_step number keys ∷ [])

  less_turn : (o : Ordering) (a b : ℕ) → o ≡ Less → MatchOrdering o (a < b) (a ≡ b) (b < a) → a < b
  less_turn Less a b e is = is
  less_turn Equal a b e is = absurd (let clash : Equal ≡ Less = e in cc)
  less_turn Greater a b e is = absurd (let clash : Greater ≡ Less = e in cc)

  turns_rise : (common : List Step) (number : ℕ) (one other : Row) (keys others : Keys) → is_by_user tables number ≡ true → keys_in common number one.path.steps ≡ Some keys → keys_in common number other.path.steps ≡ Some others →
      in_marks (row_marks tables turns one) (row_marks tables turns other) ≡ Less → turn_at common number keys < turn_at common number others
  turns_rise common number one other keys others user at at_other less =
      less_turn (nat_cmp (turn_at common number keys) (turn_at common number others)) (turn_at common number keys) (turn_at common number others)
      (sym (user_sides tables (turn_of turns) common (entry_step number keys) (entry_step number others) refl user)
      ∙ sym (last_marks tables (turn_of turns) common (entry_step number keys) (entry_step number others))
      ∙ (λ i. in_marks (marks tables (turn_of turns) (sym (keys_back common number keys one.path.steps at) i)) (marks tables (turn_of turns) (sym (keys_back common number others other.path.steps at_other) i))) ∙ less)
      (ranked (turn_at common number keys) (turn_at common number others) _ refl)

  first_below : (common : List Step) (number : ℕ) (first : Row) (keys : Keys) (rows : List Row) → is_by_user tables number ≡ true → keys_in common number first.path.steps ≡ Some keys →
      ((row : Row) → Contains rows row → in_marks (row_marks tables turns first) (row_marks tables turns row) ≡ Less) → IsBelow (turn_at common number) (turn_at common number keys) (entries rows common number)
  first_below common number first keys [] user at less = tt
  first_below common number first keys (row ∷ rows) user at less =
      by (keys_in common number row.path.steps) refl (first_below common number first keys rows user at (λ other has. less other (contains_behind row rows other has)))
    where
      by : (o : Option Keys) → keys_in common number row.path.steps ≡ o → IsBelow (turn_at common number) (turn_at common number keys) (entries rows common number) →
          IsBelow (turn_at common number) (turn_at common number keys) (cons_option o (entries rows common number))
      by None e rest = rest
      by (Some others) e rest = (turns_rise common number first row keys others user at e (less row (is_first row rows)), rest)

  entries_rise : (common : List Step) (number : ℕ) (rows : List Row) → is_by_user tables number ≡ true → IsStrictlySortedBy in_marks (map (row_marks tables turns) rows) → Rises (turn_at common number) (entries rows common number)
  entries_rise common number [] user sorted = tt
  entries_rise common number (row ∷ rows) user sorted = by (keys_in common number row.path.steps) refl (entries_rise common number rows user (sorted_behind tables turns row rows sorted))
    where
      by : (o : Option Keys) → keys_in common number row.path.steps ≡ o → Rises (turn_at common number) (entries rows common number) → Rises (turn_at common number) (cons_option o (entries rows common number))
      by None e rest = rest
      by (Some keys) e rest = (first_below common number row keys rows user e (λ other has. first_before tables turns row rows other sorted has), rest)

  -- the turns of all entries so far were before the next
  entries_before : (common : List Step) (number next : ℕ) (rows : List Row) →
      ((row : Row) (keys : Keys) → Contains rows row → keys_in common number row.path.steps ≡ Some keys → turn_at common number keys < next) → AreBelow (turn_at common number) next (entries rows common number)
  entries_before common number next [] before = tt
  entries_before common number next (row ∷ rows) before =
      by (keys_in common number row.path.steps) refl (entries_before common number next rows (λ other keys has. before other keys (contains_behind row rows other has)))
    where
      by : (o : Option Keys) → keys_in common number row.path.steps ≡ o → AreBelow (turn_at common number) next (entries rows common number) → AreBelow (turn_at common number) next (cons_option o (entries rows common number))
      by None e rest = rest
      by (Some keys) e rest = (before row keys (is_first row rows) e, rest)

  entry_turn : (so_far : Gathered) (rows : List Row) (common inner : List Step) (number : ℕ) (row : Row) (keys : Keys) → common ≡ so_far.base ++ inner → Holds tables turns so_far rows → is_by_user tables number ≡ true → Contains rows row → keys_in common number row.path.steps ≡ Some keys →
      turn_at common number keys < so_far.next
  entry_turn so_far rows common inner number row keys below holds user has at =
      ((known_at so_far rows row.path.steps common inner (entry_step number keys) [] holds (row_seen so_far rows row holds has) (keys_back common number keys row.path.steps at) below).stands user).1

  entry_of : (rows : List Row) (common : List Step) (number : ℕ) (keys : Keys) → has_row rows (common ++ entry_step number keys ∷ []) ≡ true → has_entry keys (entries rows common number) ≡ true
  entry_of rows common number keys has =
      let found = some_passes (λ (row : Row). is_same_path row.path.steps (common ++ entry_step number keys ∷ [])) rows has in
      has_its_entry rows common number keys found.0 (path_decide_to found.0.path.steps (common ++ entry_step number keys ∷ []) found.2) found.1

  -- an entry has its row, or comes now
  abbrev pub IsBeside : Gathered → List Row → List Step → Step → Type 0
  IsBeside so_far rows above step =
      is_by_user tables step.node ≡ true → (has_row rows (above ++ step ∷ []) ≡ true) ⊎ (so_far.next ≤ turn_of turns (above ++ step ∷ []))

  abbrev pub AreBeside : Gathered → List Row → List Step → Type 0
  AreBeside so_far rows steps =
      (common inner : List Step) (step : Step) (ys : List Step) → steps ≡ common ++ step ∷ ys → common ≡ so_far.base ++ inner → IsBeside so_far rows common step

  below_bound : (f : Keys → ℕ) (low high : ℕ) (order : List Keys) → low ≤ high → AreBelow f low order → AreBelow f high order
  below_bound f low high [] up below = tt
  below_bound f low high (keys ∷ more) up below = (omega (arith, up, below.0), below_bound f low high more up below.1)

  user_turns : (so_far : Gathered) (rows : List Row) (common inner : List Step) (x y : Step) → common ≡ so_far.base ++ inner → Holds tables turns so_far rows → x ≢ y → has_row rows (common ++ x ∷ []) ≡ true → IsBeside so_far rows common y → x.node ≡ y.node → is_by_user tables x.node ≡ true →
      (stands_before (kept_or_last y.keys (entries rows common y.node)) x.keys y.keys ≡ ltb (turn_of turns (common ++ x ∷ [])) (turn_of turns (common ++ y ∷ []))) × (turn_of turns (common ++ x ∷ []) ≢ turn_of turns (common ++ y ∷ []))
  user_turns so_far rows common inner x y below holds differ there beside same user =
      let x_is : x ≡ entry_step y.node x.keys = λ i. record { node = same i; keys = x.keys } in
      let user_is : is_by_user tables y.node ≡ true = ap (is_by_user tables) (sym same) ∙ user in
      let has = entry_of rows common y.node x.keys (ap (λ (s : Step). has_row rows (common ++ s ∷ [])) (sym x_is) ∙ there) in
      let found = kept_turns (turn_at common y.node) (entries rows common y.node) x.keys y.keys (entries_rise common y.node rows user_is holds.ordered) has (new user_is (beside user_is)) in (
        found.0 ∙ ap (λ (s : Step). ltb (turn_of turns (common ++ s ∷ [])) (turn_of turns (common ++ y ∷ []))) (sym x_is),
        λ tied. found.1 (λ keys. differ (λ i. record { node = same i; keys = keys i })) (ap (λ (s : Step). turn_of turns (common ++ s ∷ [])) (sym x_is) ∙ tied),
      )
    where
      new : is_by_user tables y.node ≡ true → (has_row rows (common ++ y ∷ []) ≡ true) ⊎ (so_far.next ≤ turn_of turns (common ++ y ∷ [])) → has_entry y.keys (entries rows common y.node) ≡ false →
          AreBelow (turn_at common y.node) (turn_at common y.node y.keys) (entries rows common y.node)
      new user_is (inl here) gone = absurd (let clash : true ≡ false = sym (entry_of rows common y.node y.keys here) ∙ gone in cc)
      new user_is (inr next) gone =
          below_bound (turn_at common y.node) so_far.next (turn_at common y.node y.keys) (entries rows common y.node) next
          (entries_before common y.node so_far.next rows (λ row keys has at. entry_turn so_far rows common inner y.node row keys below holds user_is has at))

  -- ---- a row is apart from what is not above it: by marks as by the place
  pub record IsApart (rows : List Row) (row : Row) (steps : List Step) : Type 0 where
    pub side : Ordering
    pub differs : side ≢ Equal
    pub each : (rest : List Step) → in_marks (row_marks tables turns row) (marks tables (turn_of turns) (steps ++ rest)) ≡ side
    pub test : steps_before tables rows Kept [] row.path.steps steps ≡ is_lt side

  kept_at : (steps : List Step) → place_at Kept steps ≡ Kept
  kept_at [] = refl
  kept_at (step ∷ steps) = refl

  -- two nodes below the base part below it, or one is above the other
  record PartsBelow (base xs ys : List Step) : Type 0 where
    parting : IsParting xs ys
    inner : List Step
    common : parting.common ≡ base ++ inner

  view_below : (base xs ys some others : List Step) → xs ≡ base ++ some → ys ≡ base ++ others → PartsBelow base xs ys ⊎ IsHigher xs ys ⊎ IsLower xs ys
  view_below base xs ys some others one other = by (view some others)
    where
      by : IsParting some others ⊎ IsHigher some others ⊎ IsLower some others → PartsBelow base xs ys ⊎ IsHigher xs ys ⊎ IsLower xs ys
      by (inl p) = inl (record {
        parting = record {
          common = base ++ p.common;
          x = p.x;
          y = p.y;
          more = p.more;
          others = p.others;
          differ = p.differ;
          one = one ∙ ap (λ (s : List Step). base ++ s) p.one ∙ sym (append_assoc base p.common (p.x ∷ p.more));
          other = other ∙ ap (λ (s : List Step). base ++ s) p.other ∙ sym (append_assoc base p.common (p.y ∷ p.others));
        };
        inner = p.common;
        common = refl;
      })
      by (inr (inl h)) = inr (inl (record {
        step = h.step;
        rest = h.rest;
        longer = other ∙ ap (λ (s : List Step). base ++ s) h.longer ∙ sym (append_assoc base some (h.step ∷ h.rest)) ∙ ap (λ (s : List Step). s ++ h.step ∷ h.rest) (sym one);
      }))
      by (inr (inr (rest, is))) = inr (inr (rest, one ∙ ap (λ (s : List Step). base ++ s) is ∙ sym (append_assoc base others rest) ∙ ap (λ (s : List Step). s ++ rest) (sym other)))

  pub is_apart : (so_far : Gathered) (rows : List Row) (row : Row) (steps inner : List Step) → steps ≡ so_far.base ++ inner → Holds tables turns so_far rows → Contains rows row → AreBeside so_far rows steps → ¬ IsLower row.path.steps steps →
      IsApart rows row steps
  is_apart so_far rows row steps inner below holds has beside not_lower =
      let held = holds.known row.path.steps (row_seen so_far rows row holds has) in
      by (view_below so_far.base row.path.steps steps held.rest inner held.is below)
    where
      by : PartsBelow so_far.base row.path.steps steps ⊎ IsHigher row.path.steps steps ⊎ IsLower row.path.steps steps → IsApart rows row steps
      by (inr (inr lower)) = absurd (not_lower lower)
      by (inr (inl h)) = record {
        side = Less;
        differs = λ tied. let clash : Less ≡ Equal = tied in cc;
        each = λ rest. ap (λ (s : List Step). in_marks (row_marks tables turns row) (marks tables (turn_of turns) s)) (below_higher row.path.steps steps (steps ++ rest) h (rest, refl))
            ∙ higher_marks tables (turn_of turns) row.path.steps h.step (h.rest ++ rest);
        test = before_higher tables rows Kept row.path.steps steps h;
      }
      by (inl q) = record {
        side = sides tables (turn_of turns) q.parting.common q.parting.x q.parting.y;
        differs = decided.1;
        each = λ rest. (λ i. in_marks (marks tables (turn_of turns) (q.parting.one i)) (marks tables (turn_of turns) (below_parting row.path.steps steps (steps ++ rest) q.parting (rest, refl) i)))
            ∙ parting_marks tables (turn_of turns) q.parting.common q.parting.x q.parting.y q.parting.more (q.parting.others ++ rest) decided.1;
        test = before_parting tables rows Kept row.path.steps steps q.parting
            ∙ ap (λ place. sibling_before tables (keys_above tables (node_after None q.parting.common)) (placed place q.parting.y.keys (entries rows q.parting.common q.parting.y.node)) q.parting.x q.parting.y) (kept_at q.parting.others)
            ∙ decided.0;
      }
        where
          known : IsKnown tables turns so_far rows q.parting.common q.parting.x
          known = known_at so_far rows row.path.steps q.parting.common q.inner q.parting.x q.parting.more holds (row_seen so_far rows row holds has) q.parting.one q.common

          decided : AreSides tables (turn_of turns) q.parting.common (kept_or_last q.parting.y.keys (entries rows q.parting.common q.parting.y.node)) q.parting.x q.parting.y
          decided = are_sides tables (turn_of turns) q.parting.common (kept_or_last q.parting.y.keys (entries rows q.parting.common q.parting.y.node)) q.parting.x q.parting.y q.parting.differ
              (λ same user. user_turns so_far rows q.parting.common q.inner q.parting.x q.parting.y q.common holds q.parting.differ (known.stands user).0
              (beside q.parting.common q.inner q.parting.y q.parting.others q.parting.other q.common) same user)

  -- ---- no row excludes another
  chosen_same : (above : List Step) (some others : List Case) → AreChosen turns above some → AreChosen turns above others → cases_differ some others ≡ false
  chosen_same above some others one other =
      cases_agree some others (λ choice case another has has_other.
      some_same case another
      (sym (all_at (λ (c : Case). case_of turns above c.choice ≡ Some c.case) some (record { choice = choice; case = case }) one has)
      ∙ all_at (λ (c : Case). case_of turns above c.choice ≡ Some c.case) others (record { choice = choice; case = another }) other has_other))

  pub none_excludes : (so_far : Gathered) (rows : List Row) (row other : Row) → Holds tables turns so_far rows → Contains rows row → Contains rows other → excludes tables row.path.steps other.path.steps ≡ false
  none_excludes so_far rows row other holds has has_other =
      let one = holds.known row.path.steps (row_seen so_far rows row holds has) in
      let another = holds.known other.path.steps (row_seen so_far rows other holds has_other) in
      by (view_below so_far.base row.path.steps other.path.steps one.rest another.rest one.is another.is)
    where
      by : PartsBelow so_far.base row.path.steps other.path.steps ⊎ IsHigher row.path.steps other.path.steps ⊎ IsLower row.path.steps other.path.steps → excludes tables row.path.steps other.path.steps ≡ false
      by (inr (inr lower)) = excludes_lower tables row.path.steps other.path.steps lower
      by (inr (inl h)) = excludes_higher tables row.path.steps other.path.steps h
      by (inl q) =
          excludes_parting tables row.path.steps other.path.steps q.parting
          ∙ chosen_same q.parting.common (cases_of tables q.parting.x.node) (cases_of tables q.parting.y.node)
          (known_at so_far rows row.path.steps q.parting.common q.inner q.parting.x q.parting.more holds (row_seen so_far rows row holds has) q.parting.one q.common).chosen
          (known_at so_far rows other.path.steps q.parting.common q.inner q.parting.y q.parting.others holds (row_seen so_far rows other holds has_other) q.parting.other q.common).chosen
