-- What the searches in the index find, step by step.
use Rattle.std.proofs.Common.{◌≡◌, ◌==◌, ◌+◌, ◌<◌, ◌≤◌, ◌&&◌, ◌||◌, ◌++◌, ℕ, Bool, true, false, not, List, [], length, take, drop, get_or, refl, sym, ap, subst, ◌∙◌, arith, Option, None}
use Rattle.std.specs.List.{All}
use Rattle.std.specs.List.Sorted.{IsPartitionedBy, IsPartitionPoint}
use Rattle.std.proofs.lemmas.List.{get_or-drop, length-drop, take-append-drop}
use Rattle.std.proofs.lemmas.List.Elements.{at_read}
use Rattle.std.proofs.lemmas.List.Folds.{list_any_more}
use Rattle.nc_names.specs.declared.path.Path.{Path}
use Rattle.nc_names.specs.declared.path.Step.{Step}
use Rattle.nc_partial.specs.declared.entry.Covered.{Covered}
use Rattle.nc_partial.specs.declared.entry.Entry.{Entry}
use Rattle.nc_partial.specs.inner.Entries.{IsAscending, above_to, is_above, is_at, is_before, of_others, shares, shares_some}
use Rattle.nc_partial.specs.inner.Lowest.{IsLowest, lower}
use Rattle.nc_partial.proofs.LowestLemmas.{agree_lowest, append_lowest, lower_none, none_lowest, others_either}
use Rattle.nc_partial.proofs.OrderLemmas.{above_all, above_more, above_none, false_unless, none_before}

and_false : (b : Bool) → (b && false) ≡ false
and_false true = refl
and_false false = refl

-- a test that nothing passes
none_pass : (session : ℕ) (test : Entry → Bool) (index : List Entry) → ((e : Entry) → test e ≡ false) → IsLowest (of_others session test) index None
none_pass session test index fails = none_lowest (of_others session test) index
    (λ k d within. ap (λ b. not ((get_or index k d).session == session) && b) (fails (get_or index k d)) ∙ and_false (not ((get_or index k d).session == session)))

-- another test of the same entries, and another name of what is found
named_lowest : (session : ℕ) (t u : Entry → Bool) (index : List Entry) (a r : Option Covered) → ((e : Entry) → t e ≡ u e) → r ≡ a →
    IsLowest (of_others session t) index a → IsLowest (of_others session u) index r
named_lowest session t u index a r same is lowest =
    subst (λ (f : Option Covered). IsLowest (of_others session u) index f) (sym is)
    (agree_lowest (of_others session t) (of_others session u) index a (λ e. ap (λ b. not (e.session == session) && b) (same e)) lowest)

-- ---- entries at a node
module _ (below : Bool) (steps : List Step) (session : ℕ) where
  -- where one is not there, no later one is
  pub stops : (entries : List Entry) (i : ℕ) (e : Entry) (lowest : Option Covered) → IsPartitionedBy (is_at below steps) entries → i < length entries →
      e ≡ get_or entries i e → is_at below steps e ≡ false → IsLowest (of_others session (is_at below steps)) (take i entries) lowest →
      IsLowest (of_others session (is_at below steps)) entries lowest
  stops entries i e lowest parted within is not_at so_far =
      subst (λ (xs : List Entry). IsLowest (of_others session (is_at below steps)) xs lowest) (take-append-drop i entries)
      (subst (λ (f : Option Covered). IsLowest (of_others session (is_at below steps)) (take i entries ++ drop i entries) f) (lower_none lowest)
      (append_lowest (of_others session (is_at below steps)) (take i entries) (drop i entries) lowest None so_far
      (none_lowest (of_others session (is_at below steps)) (drop i entries) rest)))
    where
      rest : All (λ one. of_others session (is_at below steps) one ≡ false) (drop i entries)
      rest k d inside =
          let one : Entry = get_or (drop i entries) k d in
          let far : i + k < length entries = omega (arith, length-drop i entries, inside) in
          let gone : is_at below steps one ≡ false =
          false_unless (is_at below steps one) (λ at.
          sym (parted i (i + k) d (omega arith) far (ap (is_at below steps) (sym (get_or-drop i entries k d)) ∙ at))
          ∙ at_read entries (λ x. is_at below steps x ≡ false) i e within is not_at d) in
          ap (λ b. not (one.session == session) && b) gone ∙ and_false (not (one.session == session))

  -- those before the node are none
  pub joined : (index rest : List Entry) (start : ℕ) (found : Option Covered) → IsAscending index →
      IsPartitionPoint (λ e. is_before steps e ≡ true) (λ e. is_before steps e ≡ false) index start → rest ≡ drop start index →
      IsLowest (of_others session (is_at below steps)) rest found → IsLowest (of_others session (is_at below steps)) index found
  joined index rest start found ascending parted is lowest =
      subst (λ (xs : List Entry). IsLowest (of_others session (is_at below steps)) xs found) (take-append-drop start index)
      (append_lowest (of_others session (is_at below steps)) (take start index) (drop start index) None found
      (none_lowest (of_others session (is_at below steps)) (take start index) (none_before index ascending steps below start parted session))
      (subst (λ (xs : List Entry). IsLowest (of_others session (is_at below steps)) xs found) is lowest))

-- ---- entries above a node
module _ (session : ℕ) (steps : List Step) (index : List Entry) where
  pub above_start : IsLowest (of_others session (above_to 0 steps)) index None
  above_start = none_pass session (above_to 0 steps) index (λ e. sym (above_none steps e))

  pub above_step : (i : ℕ) (a b r : Option Covered) → i ≤ length steps → r ≡ lower a b → IsLowest (of_others session (above_to i steps)) index a →
      IsLowest (of_others session (is_at false (take i steps))) index b → IsLowest (of_others session (above_to (i + 1) steps)) index r
  above_step i a b r le is so_far found =
      named_lowest session (λ e. above_to i steps e || is_at false (take i steps) e) (above_to (i + 1) steps) index (lower a b) r
      (λ e. above_more steps i e le) is
      (others_either session (above_to i steps) (is_at false (take i steps)) index a b so_far found)

  pub above_end : (i : ℕ) (r : Option Covered) → length steps < i → IsLowest (of_others session (above_to i steps)) index r → IsLowest (of_others session (is_above steps)) index r
  above_end i r less lowest = named_lowest session (above_to i steps) (is_above steps) index r r (λ e. above_all steps i e less) refl lowest

-- ---- entries that share a node with others
module _ (session : ℕ) (index : List Entry) where
  pub sharing : (node : Path) (steps : List Step) (a b r : Option Covered) → steps ≡ node.steps → r ≡ lower a b → IsLowest (of_others session (is_above steps)) index a →
      IsLowest (of_others session (is_at true steps)) index b → IsLowest (of_others session (shares node)) index r
  sharing node steps a b r same is above below =
      named_lowest session (λ e. is_above steps e || is_at true steps e) (shares node) index (lower a b) r
      (λ e i. is_above (same i) e || is_at true (same i) e) is
      (others_either session (is_above steps) (is_at true steps) index a b above below)

  pub among_start : IsLowest (of_others session (shares_some [])) index None
  among_start = none_pass session (shares_some []) index (λ e. refl)

  pub among_step : (nodes : List Path) (i : ℕ) (node : Path) (a b r : Option Covered) → i < length nodes → node ≡ get_or nodes i node → r ≡ lower a b →
      IsLowest (of_others session (shares_some (take i nodes))) index a → IsLowest (of_others session (shares node)) index b →
      IsLowest (of_others session (shares_some (take (i + 1) nodes))) index r
  among_step nodes i node a b r within at is so_far found =
      named_lowest session (λ e. shares_some (take i nodes) e || shares node e) (shares_some (take (i + 1) nodes)) index (lower a b) r
      (λ e. sym (list_any_more (λ one. shares one e) nodes i node within ∙ ap (λ one. shares_some (take i nodes) e || shares one e) (sym at))) is
      (others_either session (shares_some (take i nodes)) (shares node) index a b so_far found)
