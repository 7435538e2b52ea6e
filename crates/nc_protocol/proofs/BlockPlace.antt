-- Where the rows at a place stand among the others: what stands together goes on to do so.
use Rattle.std.proofs.Common.{◌≡◌, ◌≢◌, ◌⊎◌, Bool, true, List, [], ◌∷◌, ◌++◌, sym, ap, subst, ◌∙◌, inl, inr, None}
use Rattle.std.proofs.lemmas.List.{append_assoc}
use Rattle.nc_names.specs.declared.path.Place.{Place}
use Rattle.nc_names.specs.declared.path.Place.TheVariants.{Kept}
use Rattle.nc_names.specs.declared.path.Row.{Row}
use Rattle.nc_names.specs.declared.path.Step.{Step}
use Rattle.nc_schema.specs.Configuration.{IsDataTree}
use Rattle.nc_schema.specs.Order.{keys_above, IsBefore}
use Rattle.nc_schema.proofs.ProperLemmas.{HasProperNodes}
use Rattle.nc_schema.specs.Tables.{Tables}
use Rattle.nc_schema.specs.Standing.{sibling_before, placed, place_at, entries, steps_before}
use Rattle.nc_protocol.proofs.EntryLemmas.{kept_above}
use Rattle.nc_protocol.proofs.ListLemmas.{heads_same, tails_same}
use Rattle.nc_protocol.proofs.Parts.{IsPartOf, pair_at}
use Rattle.nc_protocol.proofs.PathViews.{IsParting, IsHigher, IsLower, view, node_after, higher_order, higher_test, parting_test, below_parting, below_higher}
use Rattle.nc_protocol.proofs.RiseLemmas.{goes_first, not_behind}
use Rattle.nc_protocol.proofs.SiblingLemmas.{GoesBefore, siblings}

-- two paths that part have none below both
pub parting_apart : (common : List Step) (x y : Step) (more others rest beyond : List Step) → x ≢ y → ¬ ((common ++ x ∷ more) ++ rest ≡ (common ++ y ∷ others) ++ beyond)
parting_apart [] x y more others rest beyond differ e = differ (heads_same x y (more ++ rest) (others ++ beyond) e)
parting_apart (s ∷ common) x y more others rest beyond differ e = parting_apart common x y more others rest beyond differ (tails_same s s _ _ e)

pub nothing_below : (xs ys zs : List Step) → IsParting xs ys → IsLower zs xs → ¬ IsLower zs ys
nothing_below xs ys zs p below beyond =
    parting_apart p.common p.x p.y p.more p.others below.0 beyond.0 p.differ
    (ap (λ ss. ss ++ below.0) (sym p.one) ∙ sym below.1 ∙ beyond.1 ∙ ap (λ ss. ss ++ beyond.0) p.other)

-- what is below a path is below all above it
pub lower_lower : (xs ys zs : List Step) → IsLower xs ys → IsLower ys zs → IsLower xs zs
lower_lower xs ys zs (rest, is) (more, above) = (more ++ rest, is ∙ ap (λ ss. ss ++ rest) above ∙ append_assoc zs more rest)

-- a row at or below steps that are above the place is at or below them where it is below the place
module _ (tables : Tables) (rows : List Row) (place : Place) (path : List Step) (proper : HasProperNodes tables) (tree : IsDataTree tables rows) (steps : List Step) where
  abbrev pub Before : Row → Type 0
  Before row = steps_before tables rows place [] row.path.steps path ≡ true

  -- a row at or below steps, and one of the place too: the steps are above the place
  pub steps_above : (row inside : Row) → IsLower row.path.steps steps → ¬ IsLower row.path.steps path → IsLower inside.path.steps steps → IsLower inside.path.steps path → IsLower path steps
  steps_above row inside at_row row_not below inside_is = by (view path steps)
    where
      by : IsParting path steps ⊎ IsHigher path steps ⊎ IsLower path steps → IsLower path steps
      by (inl p) = absurd (nothing_below path steps inside.path.steps p inside_is below)
      by (inr (inl h)) = absurd (row_not (lower_lower row.path.steps steps path at_row (h.step ∷ h.rest, h.longer)))
      by (inr (inr lower)) = lower

  -- two rows at or below steps, before and behind the place: the steps are above it
  pub steps_across : (first last : Row) → IsLower first.path.steps steps → IsLower last.path.steps steps → ¬ IsLower first.path.steps path → Before first → ¬ Before last → IsLower path steps
  steps_across first last at_first at_last first_not before behind = by (view steps path)
    where
      by : IsParting steps path ⊎ IsHigher steps path ⊎ IsLower steps path → IsLower path steps
      by (inl p) = absurd (behind (test_is last at_last ∙ before_is))
        where
          test : Bool
          test = sibling_before tables (keys_above tables (node_after None p.common)) (placed (place_at place p.others) p.y.keys (entries rows p.common p.y.node)) p.x p.y

          test_is : (row : Row) → IsLower row.path.steps steps → steps_before tables rows place [] row.path.steps path ≡ test
          test_is row at =
              ap (λ ss. steps_before tables rows place [] ss path) (at.1 ∙ ap (λ ss. ss ++ at.0) p.one ∙ append_assoc p.common (p.x ∷ p.more) at.0)
              ∙ ap (λ ss. steps_before tables rows place [] (p.common ++ p.x ∷ (p.more ++ at.0)) ss) p.other
              ∙ parting_test tables rows place [] p.common p.x p.y (p.more ++ at.0) p.others p.differ

          before_is : test ≡ true
          before_is = sym (test_is first at_first) ∙ before
      by (inr (inl h)) = (h.step ∷ h.rest, h.longer)
      by (inr (inr lower)) = absurd (first_not (lower_lower first.path.steps steps path at_first lower))

  -- the test of a row that parts from steps above the place, where another at or below the steps is not at the place
  above_test : (row other : Row) (p : IsParting row.path.steps steps) → IsLower path steps → IsLower other.path.steps steps → ¬ IsLower other.path.steps path →
      steps_before tables rows place [] row.path.steps path ≡ sibling_before tables (keys_above tables (node_after None p.common)) (placed Kept p.y.keys (entries rows p.common p.y.node)) p.x p.y
  above_test row other p above at_other other_not =
      ap (λ ss. steps_before tables rows place [] ss path) p.one
      ∙ ap (λ ss. steps_before tables rows place [] (p.common ++ p.x ∷ p.more) ss) path_is
      ∙ parting_test tables rows place [] p.common p.x p.y p.more (p.others ++ above.0) p.differ
      ∙ ap (λ at. sibling_before tables (keys_above tables (node_after None p.common)) (placed at p.y.keys (entries rows p.common p.y.node)) p.x p.y)
      (kept_above place (p.others ++ above.0) not_last)
    where
      path_is : path ≡ p.common ++ p.y ∷ (p.others ++ above.0)
      path_is = below_parting row.path.steps steps path p above

      not_last : p.others ++ above.0 ≢ []
      not_last none =
          other_not (
            p.others ++ at_other.0,
            below_parting row.path.steps steps other.path.steps p at_other
                ∙ sym (append_assoc p.common (p.y ∷ []) (p.others ++ at_other.0)) ∙ ap (λ ss. ss ++ (p.others ++ at_other.0)) (sym (path_is ∙ ap (λ ss. p.common ++ p.y ∷ ss) none)),
          )

  -- a row before the place and behind one at or below steps above it is at or below them
  pub together_before : (first row : Row) → IsPartOf (first ∷ row ∷ []) rows → IsLower path steps → IsLower first.path.steps steps → ¬ IsLower first.path.steps path → Before row → IsLower row.path.steps steps
  together_before first row part above at_first first_not before = by (view row.path.steps steps)
    where
      by : IsParting row.path.steps steps ⊎ IsHigher row.path.steps steps ⊎ IsLower row.path.steps steps → IsLower row.path.steps steps
      by (inl p) = absurd (not_behind tables rows p.common p.y p.x goes (sym (above_test row first p above at_first first_not) ∙ before))
        where
          goes : GoesBefore tables rows p.common p.y p.x
          goes =
              siblings tables rows first row p.common p.y p.x (p.others ++ at_first.0) p.more proper tree part
              (below_parting row.path.steps steps first.path.steps p at_first) p.one (λ e. p.differ (sym e))
      by (inr (inl h)) =
          absurd (pair_at (λ (one later : Row). ¬ IsBefore tables later.path one.path) rows first row tree.ordered part
          (subst (λ (ss : List Step). IsBefore tables row.path (record { steps = ss }))
          (sym (below_higher row.path.steps steps first.path.steps h at_first))
          (higher_order tables None row.path.steps h.step (h.rest ++ at_first.0))))
      by (inr (inr lower)) = lower

  -- a row behind the place and before one at or below steps above it is at or below them
  pub together_behind : (row last : Row) → IsPartOf (row ∷ last ∷ []) rows → IsLower path steps → IsLower last.path.steps steps → ¬ IsLower last.path.steps path → ¬ Before row → IsLower row.path.steps steps
  together_behind row last part above at_last last_not behind = by (view row.path.steps steps)
    where
      by : IsParting row.path.steps steps ⊎ IsHigher row.path.steps steps ⊎ IsLower row.path.steps steps → IsLower row.path.steps steps
      by (inl p) = absurd (behind (above_test row last p above at_last last_not ∙ goes_first tables rows p.common p.x p.y goes))
        where
          goes : GoesBefore tables rows p.common p.x p.y
          goes =
              siblings tables rows row last p.common p.x p.y p.more (p.others ++ at_last.0) proper tree part p.one
              (below_parting row.path.steps steps last.path.steps p at_last) p.differ
      by (inr (inl h)) = absurd (behind (
          ap (λ ss. steps_before tables rows place [] row.path.steps ss) (below_higher row.path.steps steps path h above)
          ∙ higher_test tables rows place [] row.path.steps h.step (h.rest ++ above.0)))
      by (inr (inr lower)) = lower
