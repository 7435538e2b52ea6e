-- The fault of a text, by the place that was found.
use Rattle.std.proofs.Common.{◌≡◌, ◌≤◌, ℕ, Bool, true, false, cond, eqb, List, [], ◌∷◌, None, Result, Ok, IfOk, length, min, is_some, sym, ap, subst, ◌∙◌, arith}
use Rattle.nc_names.specs.declared.name.Bound.{Bound}
use Rattle.nc_names.specs.Signs.{slash}
use Rattle.nc_schema.specs.InstancePaths.{IsFaultAt, instance_path, leafref_end, node_pattern}
use Rattle.nc_schema.specs.Tables.{Tables}
use Rattle.nc_path_places.specs.Apart.{HasKeysApart}
use Rattle.nc_path_places.specs.Faults.{IsFaultNumber, OnBadPath, most_place}
use Rattle.nc_path_places.specs.declared.fault.PathFault.{PathFault}
use Rattle.nc_path_places.specs.declared.fault.PathFault.TheVariants.{BadPath, Memory}
use Rattle.nc_path_places.specs.inner.Candidates.{after_root}
use Rattle.nc_path_places.specs.inner.LeafrefPlaces.{IsLeafrefPlace}
use Rattle.nc_path_places.specs.inner.Places.{IsPlace}
use Rattle.nc_path_places.proofs.Ending.{instance_fault, instances, leafref_fault, pattern_fault, patterns}

abbrev pub IsOf : {E : Type 0} → Result ℕ E → PathFault → Type 0
IsOf found fault = OnBadPath fault (λ at. (place : ℕ) × (found ≡ Ok place) × (at ≡ min place most_place))

-- what holds of each place that was found, at the number of the fault
at_fault : {E : Type 0} (P Q : ℕ → Type 0) (found : Result ℕ E) (fault : PathFault) → IsOf found fault → IfOk found P → ((place at : ℕ) → P place → at ≡ min place most_place → Q at) → OnBadPath fault Q
at_fault P Q found (BadPath at) (place, e, m) holds follows = follows place at (subst (λ r. IfOk r P) e holds) m
at_fault P Q found Memory is holds follows = tt

pub place_within : (s_all : Bool) (tables : Tables) (bounds : List Bound) (text : List ℕ) (at : ℕ) → IsPlace (record { tables = tables; bounds = bounds; all = s_all }) text at → at ≤ length text
place_within s_all tables bounds text at (left, halts, e) = omega (arith, e)

root_within : (text : List ℕ) (at : ℕ) → at ≤ length text → after_root text at ≤ length text
root_within [] at within = by (eqb at 0)
  where
    by : (t : Bool) → cond t at at ≤ 0
    by true = within
    by false = within
root_within (c ∷ cs) at within = by (eqb at 0) (eqb c slash)
  where
    by : (t u : Bool) → cond t (cond u 1 at) at ≤ length (c ∷ cs)
    by true true = omega arith
    by true false = within
    by false u = within

pub instance_within : {E : Type 0} (tables : Tables) (bounds : List Bound) (text : List ℕ) (found : Result ℕ E) (fault : PathFault) → IsOf found fault → IfOk found (λ at. IsPlace (instances tables bounds) text at) → OnBadPath fault (λ at. at ≤ length text)
instance_within tables bounds text found fault is holds =
    at_fault (IsPlace (instances tables bounds) text) (λ at. at ≤ length text) found fault is holds (λ place at placed e. (let within = place_within true tables bounds text place placed in omega (arith, within, e)))

pub instance_place : {E : Type 0} (tables : Tables) (bounds : List Bound) (text : List ℕ) (found : Result ℕ E) (fault : PathFault) → instance_path tables text bounds ≡ None → IsOf found fault → IfOk found (λ at. IsPlace (instances tables bounds) text at) → OnBadPath fault (λ at. HasKeysApart tables → IsFaultNumber (λ other. is_some (instance_path tables other bounds)) text at)
instance_place tables bounds text found fault none is holds =
    at_fault (IsPlace (instances tables bounds) text) (λ at. HasKeysApart tables → IsFaultNumber (λ other. is_some (instance_path tables other bounds)) text at) found fault is holds
    (λ place at placed e apart. (place, subst (IsFaultAt (λ other. is_some (instance_path tables other bounds)) text) (sym placed.2) (instance_fault tables bounds apart text placed.0 placed.1 none), e))

abbrev pub IsPatternPlace : Tables → List Bound → List ℕ → ℕ → Type 0
IsPatternPlace tables bounds text at = (plain : ℕ) × IsPlace (patterns tables bounds) text plain × (at ≡ after_root text plain)

pub pattern_within : {E : Type 0} (tables : Tables) (bounds : List Bound) (text : List ℕ) (found : Result ℕ E) (fault : PathFault) → IsOf found fault → IfOk found (λ at. IsPatternPlace tables bounds text at) → OnBadPath fault (λ at. at ≤ length text)
pattern_within tables bounds text found fault is holds =
    at_fault (IsPatternPlace tables bounds text) (λ at. at ≤ length text) found fault is holds
    (λ place at placed e. (let within = root_within text placed.0 (place_within false tables bounds text placed.0 placed.1) in omega (arith, within, placed.2, e)))

pub pattern_place : {E : Type 0} (tables : Tables) (bounds : List Bound) (text : List ℕ) (found : Result ℕ E) (fault : PathFault) → node_pattern tables text bounds ≡ None → IsOf found fault → IfOk found (λ at. IsPatternPlace tables bounds text at) → OnBadPath fault (λ at. HasKeysApart tables → IsFaultNumber (λ other. is_some (node_pattern tables other bounds)) text at)
pattern_place tables bounds text found fault none is holds =
    at_fault (IsPatternPlace tables bounds text) (λ at. HasKeysApart tables → IsFaultNumber (λ other. is_some (node_pattern tables other bounds)) text at) found fault is holds
    (λ place at placed e apart. (place, subst (IsFaultAt (λ other. is_some (node_pattern tables other bounds)) text) (ap (after_root text) (sym placed.1.2) ∙ sym placed.2) (pattern_fault tables bounds apart text placed.1.0 placed.1.1 none), e))

pub leafref_within : {E : Type 0} (tables : Tables) (bounds : List Bound) (leaf : ℕ) (text : List ℕ) (found : Result ℕ E) (fault : PathFault) → IsOf found fault → IfOk found (λ at. IsLeafrefPlace (patterns tables bounds) leaf text at) → OnBadPath fault (λ at. at ≤ length text)
leafref_within tables bounds leaf text found fault is holds =
    at_fault (IsLeafrefPlace (patterns tables bounds) leaf text) (λ at. at ≤ length text) found fault is holds (λ place at placed e. omega (arith, placed.2, e))

pub leafref_place : {E : Type 0} (tables : Tables) (bounds : List Bound) (leaf : ℕ) (text : List ℕ) (found : Result ℕ E) (fault : PathFault) → leafref_end tables leaf text bounds ≡ None → IsOf found fault → IfOk found (λ at. IsLeafrefPlace (patterns tables bounds) leaf text at) → OnBadPath fault (λ at. IsFaultNumber (λ other. is_some (leafref_end tables leaf other bounds)) text at)
leafref_place tables bounds leaf text found fault none is holds =
    at_fault (IsLeafrefPlace (patterns tables bounds) leaf text) (λ at. IsFaultNumber (λ other. is_some (leafref_end tables leaf other bounds)) text at) found fault is holds
    (λ place at placed e. (place, subst (IsFaultAt (λ other. is_some (leafref_end tables leaf other bounds)) text) (sym placed.2) (leafref_fault tables bounds leaf text placed.0 placed.1 none), e))
