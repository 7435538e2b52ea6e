-- Rows that are cut: those of a run go on one from another, and a run does not go on from the one before it.
use Rattle.std.proofs.Common.{◌≡◌, Bool, true, false, cond, List, [], ◌∷◌, ◌++◌, refl, ap, ◌∙◌}
use Rattle.std.specs.List.{flat_map}
use Rattle.nc_names.specs.declared.path.Row.{Row}
use Rattle.nc_protocol.specs.Printed.{cut, onto_cut}

abbrev pub Chain : (Row → Row → Bool) → Row → List Row → Type 0
Chain goes row [] = Unit {0}
Chain goes row (next ∷ more) = (goes row next ≡ true) × Chain goes next more

abbrev pub last_in : Row → List Row → Row
last_in row [] = row
last_in row (next ∷ more) = last_in next more

abbrev pub Apart : (Row → Row → Bool) → Row → List (List Row) → Type 0
Apart goes row [] = Unit {0}
Apart goes row ([] ∷ later) = Unit {0}
Apart goes row ((next ∷ more) ∷ later) = goes row next ≡ false

abbrev pub WellCut : (Row → Row → Bool) → List (List Row) → Type 0
WellCut goes [] = Unit {0}
WellCut goes ([] ∷ later) = ⊥
WellCut goes ((row ∷ more) ∷ later) = Chain goes row more × Apart goes (last_in row more) later × WellCut goes later

abbrev pub joined : List (List Row) → List Row
joined runs = flat_map (λ run. run) runs

onto_well : (goes : Row → Row → Bool) (row : Row) (runs : List (List Row)) → WellCut goes runs → WellCut goes (onto_cut goes row runs)
onto_well goes row [] well = (tt, tt, tt)
onto_well goes row ([] ∷ later) well = absurd well
onto_well goes row ((next ∷ more) ∷ later) well = by (goes row next) refl
  where
    by : (b : Bool) → goes row next ≡ b → WellCut goes (cond b ((row ∷ next ∷ more) ∷ later) ((row ∷ []) ∷ (next ∷ more) ∷ later))
    by true is = ((is, well.0), well.1, well.2)
    by false is = (tt, is, well)

pub cut_is_well : (goes : Row → Row → Bool) (rows : List Row) → WellCut goes (cut goes rows)
cut_is_well goes [] = tt
cut_is_well goes (row ∷ rows) = onto_well goes row (cut goes rows) (cut_is_well goes rows)

onto_joined : (goes : Row → Row → Bool) (row : Row) (runs : List (List Row)) → joined (onto_cut goes row runs) ≡ row ∷ joined runs
onto_joined goes row [] = refl
onto_joined goes row ([] ∷ later) = refl
onto_joined goes row ((next ∷ more) ∷ later) = by (goes row next)
  where
    by : (b : Bool) → joined (cond b ((row ∷ next ∷ more) ∷ later) ((row ∷ []) ∷ (next ∷ more) ∷ later)) ≡ row ∷ next ∷ (more ++ joined later)
    by true = refl
    by false = refl

pub cut_is_whole : (goes : Row → Row → Bool) (rows : List Row) → joined (cut goes rows) ≡ rows
cut_is_whole goes [] = refl
cut_is_whole goes (row ∷ rows) = onto_joined goes row (cut goes rows) ∙ ap (λ rest. row ∷ rest) (cut_is_whole goes rows)
