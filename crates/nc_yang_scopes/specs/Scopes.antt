-- Modules, and what a name means at a place (RFC 7950 5.5, 6.2.1, 7.1.4, 7.1.5).
use Rattle.std.specs.Prelude.{◌≡◌, ℕ, ◌==◌, ◌&&◌, Bool, true, false, if◌then◌else◌, List, [], ◌∷◌, Option, Some, None, find, position, slice_get, is_some, option_and_then, option_map, MatchOption}
use Rattle.std.proofs.Common.{Bor}
use Rattle.std.specs.List.{list_any, before_first, after_first}
use Rattle.std.specs.Option.{option_map_or}
use Rattle.nc_names.specs.Same.{is_same_text}
use Rattle.nc_names.specs.Signs.{colon}
use Rattle.nc_yang_words.specs.declared.statement.Statement.{Statement}
use Rattle.nc_yang_statements.specs.declared.keyword.Keyword.{Keyword}
use Rattle.nc_yang_statements.specs.declared.keyword.Keyword.TheVariants.{Typedef, Grouping, Identity, Feature, Import, Prefix, Revision}
use Rattle.nc_yang_statements.specs.Keywords.{is_same_keyword}
use Rattle.nc_yang_statements.specs.Statements.{below, kind, name, part}

-- the statements directly in the module of a number. The texts are those that are handed in, each by its statement
-- `module`
abbrev pub top : List Statement → ℕ → List Statement
top texts number = option_map_or below (slice_get texts number) []

-- where statements stand: the number of their text, and the statements of each block round them, the nearest first
pub record Place : Type 0 where
  pub text : ℕ
  pub blocks : List (List Statement)

-- a statement, and where it stands
pub record Located : Type 0 where
  pub statement : Statement
  pub place : Place

-- a text's statement `module` stands in no block
abbrev pub root : List Statement → ℕ → Option Located
root texts number =
    option_map (λ s. record { statement = s; place = record { text = number; blocks = [] } }) (slice_get texts number)

-- the place of what stands directly in a statement
abbrev pub inside : Located → Place
inside l = record { text = l.place.text; blocks = below l.statement ∷ l.place.blocks }

-- of the statements that stand directly in another, the one of a number
abbrev pub child : ℕ → Located → Option Located
child number l = option_map (λ s. record { statement = s; place = inside l }) (slice_get (below l.statement) number)

-- a statement defines a name
abbrev pub defines : Keyword → List ℕ → Statement → Bool
defines keyword wanted s = is_same_keyword keyword (kind s) && is_same_text (name s) wanted

-- what a name is defined for: types and groupings by scope, identities and features by module
abbrev pub is_defining : Keyword → Bool
is_defining Typedef = true
is_defining Grouping = true
is_defining Identity = true
is_defining Feature = true
is_defining keyword = false

-- the definition of a name in the nearest block that has one (RFC 7950 5.5)
abbrev pub found : Keyword → List ℕ → (text : ℕ) → (blocks : List (List Statement)) → Option Located
found keyword wanted text [] = None
found keyword wanted text (block ∷ outer) =
    option_map_or (λ s. Some (record { statement = s; place = record { text = text; blocks = block ∷ outer } }))
    (find (defines keyword wanted) block) (found keyword wanted text outer)

-- the first text of a module's name
abbrev pub text_of : List Statement → List ℕ → Option ℕ
text_of texts wanted = position (λ t. is_same_text (name t) wanted) texts

-- an import, or a module, has that prefix
abbrev pub has_prefix : List ℕ → Statement → Bool
has_prefix prefix s = option_map_or (λ p. is_same_text (name p) prefix) (part Prefix (below s)) false

-- the import of a prefix (RFC 7950 7.1.5)
abbrev pub import_of : List ℕ → List Statement → Option Statement
import_of prefix ss = find (λ t. is_same_keyword Import (kind t) && has_prefix prefix t) ss

-- a text's module has a revision of that date (RFC 7950 7.1.9)
abbrev pub has_revision : List Statement → ℕ → List ℕ → Bool
has_revision texts number date = is_some (find (defines Revision date) (top texts number))

-- the prefix is that of the text's own module (RFC 7950 7.1.4)
abbrev pub is_own : List Statement → ℕ → List ℕ → Bool
is_own texts number prefix = option_map_or (has_prefix prefix) (slice_get texts number) false

-- the text for which a prefix stands in a text
abbrev pub text_of_prefix : List Statement → ℕ → List ℕ → Option ℕ
text_of_prefix texts number prefix =
    if is_own texts number prefix then Some number
    else option_and_then (λ i. text_of texts (name i)) (import_of prefix (top texts number))

-- a reference with a prefix
abbrev pub has_colon : List ℕ → Bool
has_colon reference = list_any (λ c. c == colon) reference

-- the prefix of a reference that has one
abbrev pub prefix_of : List ℕ → List ℕ
prefix_of reference = before_first (λ c. c == colon) reference

-- the name in a reference
abbrev pub local_of : List ℕ → List ℕ
local_of reference = if has_colon reference then after_first (λ c. c == colon) reference else reference

-- the prefix and the name of a reference, or that it has no prefix
abbrev pub SplitsReference : List ℕ → Option (Bor (List ℕ) × Bor (List ℕ)) → Type 0
SplitsReference reference found =
    MatchOption found (has_colon reference ≡ false)
    (λ x. (has_colon reference ≡ true) × (x.0.now ≡ prefix_of reference) × (x.1.now ≡ local_of reference))

-- in another module only what stands at its top is seen
abbrev pub found_in : List Statement → Keyword → List ℕ → Place → (text : ℕ) → Option Located
found_in texts keyword wanted place text =
    if text == place.text then found keyword wanted text place.blocks
    else found keyword wanted text (top texts text ∷ [])

-- what a reference means at a place: without a prefix, or with its own module's, what is nearest; with another
-- module's, what stands at its top (RFC 7950 5.5, 6.2.1)
abbrev pub resolved : List Statement → Keyword → List ℕ → Place → Option Located
resolved texts keyword reference place =
    if has_colon reference
    then option_and_then (found_in texts keyword (local_of reference) place) (text_of_prefix texts place.text
    (prefix_of reference))
    else found keyword reference place.text place.blocks

-- texts with a number for each of their statements, which says where it stands
pub record Scoping : Type 0 where
  pub texts : List Statement
  pub located : List Located
