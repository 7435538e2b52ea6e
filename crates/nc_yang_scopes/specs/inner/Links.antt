-- Numbers of statements, and what they name.
use Rattle.std.specs.Prelude.{◌≡◌, ◌<◌, ◌⊎◌, ℕ, Bool, true, false, if◌then◌else◌, List, [], ◌++◌, Option, Some, None, length, slice_get, slice_set, option_and_then, unwrap_or, Contains, MatchOption}
use Rattle.std.specs.Option.{option_map_or, option_to_list}
use Rattle.nc_yang_words.specs.declared.statement.Statement.{Statement}
use Rattle.nc_yang_statements.specs.declared.fault.Fault.{Fault}
use Rattle.nc_yang_statements.specs.declared.keyword.Keyword.{Keyword}
use Rattle.nc_yang_statements.specs.Keywords.{is_closed, is_same_keyword}
use Rattle.nc_yang_statements.specs.Statements.{kind}
use Rattle.nc_yang_scopes.specs.declared.naming.TextFault.{TextFault}
use Rattle.nc_yang_scopes.specs.Scopes.{Located, Scoping, child, root}
use Rattle.nc_yang_scopes.specs.Names.{StandsIn}
use Rattle.nc_yang_scopes.specs.declared.arrange.Arranged.{Arranged}
use Rattle.nc_yang_scopes.specs.declared.arrange.Arranged.TheVariants.{Circle, Order}
use Rattle.nc_yang_scopes.specs.declared.kinds.Defined.{Defined}
use Rattle.nc_yang_scopes.specs.declared.references.Link.{Link}
use Rattle.nc_yang_scopes.specs.Loops.{BreaksLoop, IsDefinition, Names, named, naming}
use Rattle.nc_yang_scopes.specs.Orders.{HasOne}
use Rattle.nc_yang_scopes.specs.References.{AreLinksOf}

-- the statement of a number has that keyword
abbrev pub is_of : Scoping → Keyword → ℕ → Bool
is_of scoping keyword number =
    option_map_or (λ l. is_same_keyword keyword (kind l.statement)) (slice_get scoping.located number) false

-- the statement of a number stands in another
pub record IsIn (scoping : Scoping) (l : Located) (number : ℕ) : Type 0 where
  pub statement : Located
  pub is : slice_get scoping.located number ≡ Some statement
  pub stands : StandsIn l statement

-- there are more numbers: those of what stands in a statement
pub record Adds (scoping : Scoping) (l : Located) (old new : List ℕ) : Type 0 where
  pub kept : (number : ℕ) → Contains old number → Contains new number
  pub only : (number : ℕ) → Contains new number → Contains old number ⊎ IsIn scoping l number
  pub all : (s : Located) → StandsIn l s → HasOne scoping new s

-- those of the first so many statements directly in it
pub record AddsSome (scoping : Scoping) (l : Located) (count : ℕ) (old new : List ℕ) : Type 0 where
  pub kept : (number : ℕ) → Contains old number → Contains new number
  pub only : (number : ℕ) → Contains new number → Contains old number ⊎ IsIn scoping l number
  pub own : HasOne scoping new l
  pub inner : (place : ℕ) (c s : Located) → place < count → child place l ≡ Some c → StandsIn c s → HasOne scoping new s

-- of the statement of a number
abbrev pub AddsAt : Scoping → ℕ → List ℕ → List ℕ → Type 0
AddsAt scoping number old new = (l : Located) → slice_get scoping.located number ≡ Some l → Adds scoping l old new

-- numbers of what stands in the statement of a number
abbrev pub AreIn : Scoping → ℕ → List ℕ → Type 0
AreIn scoping number = AddsAt scoping number []

-- a number is marked
abbrev pub IsMarked : List Bool → ℕ → Type 0
IsMarked marks number = slice_get marks number ≡ Some true

abbrev pub is_marked : List Bool → ℕ → Bool
is_marked marks number = unwrap_or (slice_get marks number) false

-- a number is marked if a test is passed
abbrev pub marked_if : Bool → List Bool → ℕ → List Bool
marked_if test marks number = if test then slice_set marks number true else marks

-- more numbers are marked: of these, those of a keyword
pub record Marks (scoping : Scoping) (keyword : Keyword) (numbers : List ℕ) (old new : List Bool) : Type 0 where
  pub counted : length new ≡ length old
  pub kept : (number : ℕ) → IsMarked old number → IsMarked new number
  pub only : (number : ℕ) → IsMarked new number
      → IsMarked old number ⊎ (Contains numbers number × (is_of scoping keyword number ≡ true))
  pub all : (number : ℕ) → number < length old → Contains numbers number → is_of scoping keyword number ≡ true
      → IsMarked new number

-- the statement of a marked number, and that it is a definition
pub record IsDefined (scoping : Scoping) (sort : Defined) (number : ℕ) : Type 0 where
  pub definition : Located
  pub is : slice_get scoping.located number ≡ Some definition
  pub defines : IsDefinition scoping.texts sort definition

-- one of the marked numbers is that of a statement
pub record HasMark (scoping : Scoping) (marks : List Bool) (l : Located) : Type 0 where
  pub number : ℕ
  pub marked : IsMarked marks number
  pub is : slice_get scoping.located number ≡ Some l

-- definitions of the first so many texts are marked
pub record AreMarked (scoping : Scoping) (sort : Defined) (count : ℕ) (marks : List Bool) : Type 0 where
  pub counted : length marks ≡ length scoping.located
  pub only : (number : ℕ) → IsMarked marks number → IsDefined scoping sort number
  pub all : (l : Located) (d : IsDefinition scoping.texts sort l) → d.text < count → HasMark scoping marks l

-- definitions are marked
pub record AreMarks (scoping : Scoping) (sort : Defined) (marks : List Bool) : Type 0 where
  pub counted : length marks ≡ length scoping.located
  pub only : (number : ℕ) → IsMarked marks number → IsDefined scoping sort number
  pub all : (l : Located) → IsDefinition scoping.texts sort l → HasMark scoping marks l

-- the definition that the statement of a number names has another number
abbrev pub Means : Scoping → ℕ → Option ℕ → (Located → Option Located) → Type 0
Means scoping number result meaning =
    option_and_then (slice_get scoping.located) result ≡ option_and_then meaning (slice_get scoping.located number)

-- the text in which the statement of a number stands is passed over
abbrev pub is_in_closed : Scoping → ℕ → Bool
is_in_closed scoping number =
    option_map_or (λ l. is_closed (kind l.statement))
    (option_and_then (λ l. root scoping.texts l.place.text) (slice_get scoping.located number)) false

-- the statement of a number is no definition
abbrev pub IsNone : Scoping → Defined → ℕ → Type 0
IsNone scoping sort number =
    (l : Located) → slice_get scoping.located number ≡ Some l → IsDefinition scoping.texts sort l → ⊥

-- a number that is marked
abbrev pub Finds : List Bool → ℕ → Option ℕ → Type 0
Finds marks number result = MatchOption result (IsMarked marks number → ⊥) (λ n. (n ≡ number) × IsMarked marks number)

-- the statement of a number names none of the definitions
abbrev pub NamesNone : Scoping → Defined → ℕ → Type 0
NamesNone scoping sort number =
    (statement there : Located) → slice_get scoping.located number ≡ Some statement
    → is_same_keyword (naming sort) (kind statement.statement) ≡ true → named scoping.texts sort statement ≡ Some there
    → IsDefinition scoping.texts sort there → ⊥

-- the statement of a number names the marked one of another
pub record NamesOne (scoping : Scoping) (sort : Defined) (marks : List Bool) (number : ℕ) (link : Link) : Type 0 where
  pub statement : Located
  pub there : Located
  pub is : slice_get scoping.located number ≡ Some statement
  pub keyword : is_same_keyword (naming sort) (kind statement.statement) ≡ true
  pub means : named scoping.texts sort statement ≡ Some there
  pub is_there : slice_get scoping.located link.target ≡ Some there
  pub marked : IsMarked marks link.target
  pub reference : link.reference ≡ number

-- what the statement of a number names
abbrev pub Links : Scoping → Defined → List Bool → ℕ → Option Link → Type 0
Links scoping sort marks number link =
    MatchOption link (NamesNone scoping sort number) (NamesOne scoping sort marks number)

-- the link of the statement of a number is added, if it has one
pub record AddsLink (scoping : Scoping) (sort : Defined)
    (marks : List Bool) (number : ℕ) (old new : List Link) : Type 0 where
  pub link : Option Link
  pub links : Links scoping sort marks number link
  pub added : new ≡ old ++ option_to_list link

-- one of the links is that of a number's statement
pub record HasReference (links : List Link) (number : ℕ) : Type 0 where
  pub link : Link
  pub among : Contains links link
  pub is : link.reference ≡ number

-- what the statements of numbers name
pub record Collects (scoping : Scoping) (sort : Defined)
    (marks : List Bool) (numbers : List ℕ) (links : List Link) : Type 0 where
  pub only : (link : Link) → Contains links link
      → Contains numbers link.reference × NamesOne scoping sort marks link.reference link
  pub all : (number : ℕ) → Contains numbers number → NamesNone scoping sort number ⊎ HasReference links number

-- in the definition of a number a statement names another
pub record IsLink (scoping : Scoping) (sort : Defined) (number : ℕ) (link : Link) : Type 0 where
  pub here : Located
  pub statement : Located
  pub there : Located
  pub is_here : slice_get scoping.located number ≡ Some here
  pub is_statement : slice_get scoping.located link.reference ≡ Some statement
  pub is_there : slice_get scoping.located link.target ≡ Some there
  pub names : Names scoping.texts sort here statement there

-- one of the links leads to a definition
pub record HasLink (scoping : Scoping) (links : List Link) (there : Located) : Type 0 where
  pub link : Link
  pub among : Contains links link
  pub is : slice_get scoping.located link.target ≡ Some there

-- the links of the statement of a number
pub record AreLinks (scoping : Scoping) (sort : Defined)
    (marks : List Bool) (number : ℕ) (links : List Link) : Type 0 where
  pub only : (link : Link) → Contains links link → IsLink scoping sort number link
  pub marked : (link : Link) → Contains links link → IsMarked marks link.target
  pub all : IsMarked marks number → (here statement there : Located) → slice_get scoping.located number ≡ Some here
      → Names scoping.texts sort here statement there → HasLink scoping links there

-- the links of each number
abbrev pub AreAllLinks : Scoping → Defined → List Bool → List (List Link) → Type 0
AreAllLinks scoping sort marks = AreLinksOf (AreLinks scoping sort marks) (length scoping.located)

-- no statement in a definition of that sort names one that leads back to it
abbrev pub KeepsLoop : List Statement → Defined → Type 0
KeepsLoop texts sort = (text : ℕ) (fault : Fault) → BreaksLoop texts sort text fault → ⊥

abbrev pub circle_in : Arranged → Option TextFault
circle_in (Order order) = None
circle_in (Circle found) = Some found

-- whether one does
abbrev pub Judges : List Statement → Defined → Option TextFault → Type 0
Judges texts sort result =
    MatchOption result (KeepsLoop texts sort) (λ found. BreaksLoop texts sort found.text found.fault)
