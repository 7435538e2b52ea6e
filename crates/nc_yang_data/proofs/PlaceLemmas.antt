-- Faults in texts.
use Rattle.std.proofs.Common.{◌≡◌, ℕ, List, [], ◌∷◌, map, Option, Some, None, option_map, slice_get, refl, sym, ap, ◌∙◌}
use Rattle.nc_yang_statements.specs.Rules.{first}
use Rattle.nc_yang_statements.specs.declared.fault.Fault.{Fault}
use Rattle.nc_schema.specs.Tables.{Tables}
use Rattle.nc_yang_words.specs.declared.statement.Statement.{Statement}
use Rattle.nc_yang_scopes.specs.Scopes.{Located, Scoping}
use Rattle.nc_yang_data.specs.Leafs.{CaseTest}
use Rattle.nc_yang_data.specs.Places.{faults_at, in_text, leafs_at, node_faults, node_leafs}
use Rattle.nc_yang_data.specs.declared.place.Leafs.{Leafs}
use Rattle.std.specs.Option.{option_map_or}

pub first_in_text : (text : ℕ) (fault : Fault) (faults : List Fault) → Some fault ≡ first faults →
    Some (in_text text fault) ≡ first (map (in_text text) faults)
first_in_text text fault [] e = absurd (cc)
first_in_text text fault (f ∷ fs) e = let same : fault ≡ f = cc in ap (λ g. Some (in_text text g)) same

pub first_none_in : (text : ℕ) (faults : List Fault) → first faults ≡ None → first (map (in_text text) faults) ≡ None
first_none_in text [] e = cc
first_none_in text (f ∷ fs) e = absurd (cc)

-- a statement that is there, and its text
pub faults_known : (scoping : Scoping) (tables : Tables) (named : CaseTest) (number at text : ℕ) (s : Statement) →
    Some text ≡ option_map (λ l. l.place.text) (slice_get scoping.located at) →
    Some s ≡ option_map (λ l. l.statement) (slice_get scoping.located at) →
    faults_at scoping tables named number at ≡ map (in_text text) (node_faults scoping.texts tables named text number s)
faults_known scoping tables named number at text s is_text is = by (slice_get scoping.located at) is_text is
  where
    by : (o : Option Located) → Some text ≡ option_map (λ l. l.place.text) o → Some s ≡ option_map (λ l. l.statement) o →
        option_map_or (λ l. map (in_text l.place.text) (node_faults scoping.texts tables named l.place.text number l.statement)) o []
        ≡ map (in_text text) (node_faults scoping.texts tables named text number s)
    by None e f = absurd (cc)
    by (Some l) e f =
        let same : text ≡ l.place.text = cc in let same_s : s ≡ l.statement = cc in rw (same, same_s) refl

-- and its leafs
pub leafs_known : (scoping : Scoping) (tables : Tables) (named : CaseTest) (number at text : ℕ) (s : Statement) →
    Some text ≡ option_map (λ l. l.place.text) (slice_get scoping.located at) →
    Some s ≡ option_map (λ l. l.statement) (slice_get scoping.located at) →
    leafs_at scoping tables named number at ≡ node_leafs scoping.texts tables named text number s
leafs_known scoping tables named number at text s is_text is = by (slice_get scoping.located at) is_text is
  where
    by : (o : Option Located) → Some text ≡ option_map (λ l. l.place.text) o → Some s ≡ option_map (λ l. l.statement) o →
        option_map_or (λ l. node_leafs scoping.texts tables named l.place.text number l.statement) o (record { keys = []; uniques = [] })
        ≡ node_leafs scoping.texts tables named text number s
    by None e f = absurd (cc)
    by (Some l) e f =
        let same : text ≡ l.place.text = cc in let same_s : s ≡ l.statement = cc in rw (same, same_s) refl

pub found_in_place : (scoping : Scoping) (tables : Tables) (named : CaseTest) (number at text : ℕ) (s : Statement) (leafs : Leafs) →
    Some text ≡ option_map (λ l. l.place.text) (slice_get scoping.located at) →
    Some s ≡ option_map (λ l. l.statement) (slice_get scoping.located at) →
    (leafs ≡ node_leafs scoping.texts tables named text number s) × (first (node_faults scoping.texts tables named text number s) ≡ None) →
    (leafs ≡ leafs_at scoping tables named number at) × (first (faults_at scoping tables named number at) ≡ None)
found_in_place scoping tables named number at text s leafs is_text is h = (
  h.0 ∙ sym (leafs_known scoping tables named number at text s is_text is),
  ap first (faults_known scoping tables named number at text s is_text is) ∙ first_none_in text (node_faults scoping.texts tables named text number s) h.1,
)
