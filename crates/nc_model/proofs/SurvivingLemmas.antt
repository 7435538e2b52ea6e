-- A history that survives crashes, and one entry more.
use Rattle.std.proofs.Common.{◌≡◌, ⊎_elim, ℕ, ◌≤◌, List, [], ◌∷◌, ◌++◌, Contains, refl, arith}
use Rattle.std.proofs.lemmas.List.Elements.{Contains-append_left, Contains-append_right, Contains-append_cases}
use Rattle.nc_names.specs.declared.path.Row.{Row}
use Rattle.nc_model.specs.Desks.{Home, SurvivesFrom}
use Rattle.nc_model.specs.History.{Survives, after, doubts_after, in_doubt, returning}
use Rattle.nc_model.specs.State.{State, base_of}
use Rattle.nc_model.specs.Step.{next}
use Rattle.nc_model.specs.declared.entry.Entry.{Entry}
use Rattle.nc_model.proofs.HistoryLemmas.{histories_join}

pub after_more : (s : State) (history : List Entry) (e : Entry) → after s (history ++ e ∷ []) ≡ next (after s history) e
after_more s history e = histories_join s history (e ∷ [])

pub doubt_more : (s : State) (doubts : List (List Row)) (history : List Entry) (e : Entry)
    → in_doubt s doubts (history ++ e ∷ []) ≡ doubts_after (after s history) (in_doubt s doubts history) e
doubt_more s doubts [] e = refl
doubt_more s doubts (x ∷ rest) e = doubt_more (next s x) (doubts_after s doubts x) rest e

-- each moment is one until now
pub survives_by : (Leaves : ℕ → List (List Row) → Type 0) (now : ℕ) (s : State) (doubts : List (List Row)) (t : ℕ) (history : List Entry)
    → Survives Leaves now s doubts t history → t ≤ now
survives_by Leaves now s doubts t [] it = it.0
survives_by Leaves now s doubts t (x ∷ rest) it =
    let le = survives_by Leaves now (next s x) (doubts_after s doubts x) it.1.0 rest it.1.2 in
    omega (arith, le, it.1.1)

-- what may come back of a history may come back of a longer one
returning_grows : (s : State) (doubts : List (List Row)) (history : List Entry) (e : Entry) (rows : List Row)
    → Contains (returning s doubts history) rows → Contains (returning s doubts (history ++ e ∷ [])) rows
returning_grows s doubts [] e rows has = Contains-append_left (base_of s ∷ doubts) (returning (next s e) (doubts_after s doubts e) []) rows has
returning_grows s doubts (x ∷ rest) e rows has =
    let front = base_of s ∷ doubts in
    let then = returning (next s x) (doubts_after s doubts x) in
    ⊎_elim (λ (l : Contains front rows). Contains-append_left front (then (rest ++ e ∷ [])) rows l)
    (λ (r : Contains (then rest) rows). Contains-append_right front (then (rest ++ e ∷ [])) rows (returning_grows (next s x) (doubts_after s doubts x) rest e rows r))
    (Contains-append_cases front (then rest) rows has)

-- and so may what comes back of its last entry
returning_last : (s : State) (doubts : List (List Row)) (history : List Entry) (e : Entry) (rows : List Row)
    → Contains (returning (after s history) (in_doubt s doubts history) (e ∷ [])) rows → Contains (returning s doubts (history ++ e ∷ [])) rows
returning_last s doubts [] e rows has = has
returning_last s doubts (x ∷ rest) e rows has =
    Contains-append_right (base_of s ∷ doubts) (returning (next s x) (doubts_after s doubts x) (rest ++ e ∷ [])) rows
    (returning_last (next s x) (doubts_after s doubts x) rest e rows has)

-- One entry more: since each earlier moment there are a few configurations more, all of which may come back of it.
module _ (Old New : ℕ → List (List Row) → Type 0) (before now : ℕ) (later : before ≤ now) (among : List (List Row))
    (since : (t : ℕ) (earlier : List (List Row)) → t ≤ before → Old t earlier → New t (earlier ++ among))
    (fewer : (t : ℕ) (these those : List (List Row)) → ((rows : List Row) → Contains these rows → Contains those rows) → New t these → New t those) where
  pub survives_more : (s : State) (doubts : List (List Row)) (t : ℕ) (history : List Entry) (e : Entry)
      → ((rows : List Row) → Contains among rows → Contains (returning (after s history) (in_doubt s doubts history) (e ∷ [])) rows)
      → New now (base_of (next (after s history) e) ∷ doubts_after (after s history) (in_doubt s doubts history) e)
      → Survives Old before s doubts t history → Survives New now s doubts t (history ++ e ∷ [])
  survives_more s doubts t [] e covers end it = (
    fewer t ((base_of s ∷ doubts) ++ among) (returning s doubts (e ∷ []))
        (λ rows has. ⊎_elim (λ (l : Contains (base_of s ∷ doubts) rows). returning_grows s doubts [] e rows l) (covers rows)
        (Contains-append_cases (base_of s ∷ doubts) among rows has))
        (since t (base_of s ∷ doubts) it.0 it.1),
    (now, omega (arith, it.0, later), (omega arith, end)),
  )
  survives_more s doubts t (x ∷ rest) e covers end it = (
    fewer t (returning s doubts (x ∷ rest) ++ among) (returning s doubts ((x ∷ rest) ++ e ∷ []))
        (λ rows has. ⊎_elim (λ (l : Contains (returning s doubts (x ∷ rest)) rows). returning_grows s doubts (x ∷ rest) e rows l)
        (λ (r : Contains among rows). returning_last s doubts (x ∷ rest) e rows (covers rows r))
        (Contains-append_cases (returning s doubts (x ∷ rest)) among rows has))
        (since t (returning s doubts (x ∷ rest)) (survives_by Old before s doubts t (x ∷ rest) it) it.0),
    (it.1.0, it.1.1, survives_more (next s x) (doubts_after s doubts x) it.1.0 rest e covers end it.1.2),
  )

  pub from_more : (home : Home) (history : List Entry) (e : Entry)
      → ((rows : List Row) → Contains among rows → Contains (returning (after home.opening history) (in_doubt home.opening [] history) (e ∷ [])) rows)
      → New now (base_of (next (after home.opening history) e) ∷ doubts_after (after home.opening history) (in_doubt home.opening [] history) e)
      → SurvivesFrom Old before home history → SurvivesFrom New now home (history ++ e ∷ [])
  from_more home history e covers end it =
      let old = returning home.opening [] history in
      let new = returning home.opening [] (history ++ e ∷ []) in
      let by = survives_by Old before home.opening [] home.begun history it.since in
      record {
        began = it.began;
        before = fewer home.start ((home.among ++ old) ++ among) (home.among ++ new)
            (λ rows has. ⊎_elim
            (λ (l : Contains (home.among ++ old) rows). ⊎_elim
            (λ (a : Contains home.among rows). Contains-append_left home.among new rows a)
            (λ (r : Contains old rows). Contains-append_right home.among new rows (returning_grows home.opening [] history e rows r))
            (Contains-append_cases home.among old rows l))
            (λ (r : Contains among rows). Contains-append_right home.among new rows (returning_last home.opening [] history e rows (covers rows r)))
            (Contains-append_cases (home.among ++ old) among rows has))
            (since home.start (home.among ++ old) (omega (arith, by, it.began)) it.before);
        since = survives_more home.opening [] home.begun history e covers end it.since;
      }
