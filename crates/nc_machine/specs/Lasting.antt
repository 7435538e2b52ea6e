-- What of a keeper lasts over a crash, and which value a list of numbers names.
use Rattle.std.specs.Prelude.{◌≡◌, ◌⊎◌, ℕ, Bool, true, false, if◌then◌else◌, List, [], ◌∷◌, ◌++◌, Option, Some, None, IfSome}
use base.Stored.{Coded, Gv, gnil, gnum, gcons}
use Rattle.nc_names.specs.declared.path.Row.{Row}
use Rattle.nc_model.specs.declared.event.Event.{Event}
use Rattle.nc_model.specs.State.{State, candidate_in_force}
use Rattle.nc_model.specs.Step.{reaches_disk}
use Rattle.nc_tree.specs.Keeping.{Adds, standing}

-- what a keeper says of crashes, as one word: which configuration is in doubt, the moment, what a crash since a moment
-- leaves, and that the one is the other at a later moment
pub record Lasting (K : Type 0) : Type 1 where
  pub doubt : K → Option (List Row)
  pub moment : K → ℕ
  pub leaves : K → ℕ → List (List Row) → Type 0
  pub continues : K → K → Type 0

-- that, of the ghosts of a keeper
abbrev pub lasting : {K : Type 0} → (K → Option (List Row)) → (K → ℕ) → (K → ℕ → List (List Row) → Type 0) →
    (K → K → Type 0) → Lasting K
lasting doubt moment leaves continues = record {
  doubt = doubt;
  moment = moment;
  leaves = leaves;
  continues = continues;
}

-- whatever a crash now leaves, the next start begins with the base or with what is in doubt
abbrev pub LeavesStanding : {K : Type 0} → (K → List Row) → Lasting K → K → Type 0
LeavesStanding base words keeper =
    words.leaves keeper (words.moment keeper) (standing (base keeper) (words.doubt keeper))

-- the base after an event, by whether the event reached the disk and whether that failed, where the rows were to be
-- kept
abbrev pub base_after : Bool → Bool → List Row → List Row → List Row
base_after true false rows before = rows
base_after reaches failed rows before = before

-- what is in doubt after it: nothing, once it is kept; after a failure nothing, what was, or what was to be kept
abbrev pub DoubtAfter : Bool → Bool → List Row → Option (List Row) → Option (List Row) → Type 0
DoubtAfter true true rows before now = (now ≡ None) ⊎ (now ≡ before) ⊎ (now ≡ Some rows)
DoubtAfter true false rows before now = now ≡ None
DoubtAfter false failed rows before now = now ≡ before

-- What of a keeper lasts over the call of a commit with those rows, where it reaches the disk, and over any other call.
-- Within it and after it a crash leaves what was there before, or what is being kept. `failed` tells whether the disk
-- failed, where there is an answer.
pub record Withstands {K : Type 0} (base : K → List Row) (words : Lasting K) (reaches : Bool) (rows : List Row)
    (before now : K) (failed : Option Bool) : Type 0 where
  pub moments : Adds words.moment words.leaves before now
      ((if reaches then rows ∷ [] else []) ++ standing (base before) (words.doubt before))
  pub continues : words.continues before now
  pub base_is : IfSome failed (λ f. base now ≡ base_after reaches f rows (base before))
  pub doubt_is : IfSome failed (λ f. DoubtAfter reaches f rows (words.doubt before) (words.doubt now))

-- over an event in a state
abbrev pub WithstandsEvent : {K : Type 0} → (K → List Row) → Lasting K → State → Event → K → K → Option Bool → Type 0
WithstandsEvent base words s event before now failed =
    Withstands base words (reaches_disk s event) (candidate_in_force s) before now failed

-- ---- names

-- the numbers of a code, before others
abbrev pub numbers : Gv → List ℕ → List ℕ
numbers gnil rest = 0 ∷ rest
numbers (gnum n) rest = 1 ∷ n ∷ rest
numbers (gcons left right) rest = 2 ∷ numbers left (numbers right rest)

-- the name of a value: numbers that no other value of its type has
unfoldable pub name_of : {X : Type 0} → Coded X → X → List ℕ
name_of coded x = numbers (coded.code x) []
