-- Which bytes spell which tree, and where and why bytes spell none.
use Rattle.std.specs.Prelude.{◌≡◌, ◌<◌, ◌⊎◌, ℕ, ◌-◌, nat_eq, nat_le, Bool, false, not, if◌then◌else◌, codes, fold, List, [], ◌∷◌, ◌++◌, length, Option, None, Some}
use Rattle.std.specs.List.{starts_with}
use Rattle.std.specs.Str.{is_utf8}
use Rattle.nc_names.specs.Limits.{element_depth}
use Rattle.nc_names.specs.declared.name.Bound.{Bound}
use Rattle.nc_message.specs.declared.tree.Elem.{Elem}
use Rattle.nc_message.specs.declared.tree.Tree.{Tree}
use Rattle.nc_message.specs.declared.tree.Why.{Why}
use Rattle.nc_message.specs.declared.tree.Why.TheVariants.{NotUtf8, NotWellFormed, UnboundPrefix, Doctype, Depth}
use Rattle.nc_message.specs.Tokens.{Tag, Token, Start, End}
use Rattle.nc_message.specs.Pieces.{token}
use Rattle.nc_message.specs.Bindings.{Declared, inside}
use Rattle.nc_message.specs.Resolved.{declared, nothing, has_unbound}
use Rattle.nc_message.specs.Spells.{Spells}

-- the bytes begin with these whole tokens, and this is left after them
abbrev pub IsCut : List ℕ → List Token → List ℕ → Type 0
IsCut text [] rest = text ≡ rest
IsCut text (k ∷ ks) rest = (next : List ℕ) × (0 < length text) × (token text ≡ Some (k, next)) × IsCut next ks rest

-- the bytes spell the tree
pub record SpellsTree (bytes : List ℕ) (tree : Tree) : Type 0 where
  pub tokens : List Token
  pub cut : IsCut bytes tokens []
  pub spells : Spells tokens tree.root

-- whole tokens fit where with more of them they spell a tree: an element that is still open, and a root that is
-- still to come, break no rule
pub record Fits (ts : List Token) : Type 0 where
  pub more : List Token
  pub root : Elem
  pub spells : Spells (ts ++ more) root

-- no longer beginning of whole tokens fits: the next whole token does not, or there is none
abbrev pub IsMisfit : List Token → List ℕ → Type 0
IsMisfit before rest =
    (next : Token) × (after : List ℕ) × (token rest ≡ Some (next, after)) × (Fits (before ++ next ∷ []) → ⊥)

-- bytes are left, and no whole token that fits begins there
abbrev pub Stops : List Token → List ℕ → Type 0
Stops before rest = (0 < length rest) × (IsMisfit before rest ⊎ (token rest ≡ None))

-- the bytes end before the end of a root
abbrev pub IsEarly : List Token → List ℕ → Type 0
IsEarly before rest = (rest ≡ []) × ((root : Elem) → Spells before root → ⊥)

-- the bindings in force in the nearest of the open elements
abbrev pub nearest : List (List Bound) → List Bound
nearest [] = []
nearest (bounds ∷ more) = bounds

-- the bindings in force in an element; where its declarations are faulty, those outside of it
abbrev pub inside_declared : List Bound → Option Declared → List Bound
inside_declared outer None = outer
inside_declared outer (Some d) = inside outer d

-- the same of a start tag
abbrev pub inside_tag : List Bound → Tag → List Bound
inside_tag outer tag = inside_declared outer (declared nothing tag.attributes)

-- the open elements after one token more
abbrev pub open_after : List (List Bound) → Token → List (List Bound)
open_after around (Start tag) = if tag.alone then around else inside_tag (nearest around) tag ∷ around
open_after (bounds ∷ around) (End name) = around
open_after around _ = around

-- the bindings in force in each element that is open after these tokens, the nearest first
abbrev pub open_in : List Token → List (List Bound)
open_in ts = fold open_after [] ts

-- a whole start tag begins here that would open a 65th element
abbrev pub is_deep : List (List Bound) → Option (Token × List ℕ) → Bool
is_deep around (Some (Start tag, after)) = nat_le element_depth (length around)
is_deep around _ = false

-- a whole start tag begins here that has a prefix without a binding
abbrev pub is_unbound_in : List (List Bound) → Option (Token × List ℕ) → Bool
is_unbound_in around (Some (Start tag, after)) = has_unbound (nearest around) tag
is_unbound_in around _ = false

-- a document type declaration begins here (XML 1.0, 2.8)
abbrev pub begins_doctype : List ℕ → Bool
begins_doctype text = starts_with nat_eq text (codes "<!DOCTYPE")

-- the first of these that holds where no more fits after some tokens
abbrev pub why_at : (utf8 : Bool) → List (List Bound) → (rest : List ℕ) → Why
why_at utf8 around rest =
    if is_deep around (token rest) then Depth
    else if begins_doctype rest then Doctype
    else if not utf8 then NotUtf8
    else if is_unbound_in around (token rest) then UnboundPrefix
    else NotWellFormed

-- the bytes spell no tree: where the longest beginning of whole tokens that fit ends, and why no more fits
pub record IsFault (bytes : List ℕ) (at : ℕ) (why : Why) : Type 0 where
  pub before : List Token
  pub rest : List ℕ
  pub cut : IsCut bytes before rest
  pub fits : Fits before
  pub ends : Stops before rest ⊎ IsEarly before rest
  pub place : at ≡ length bytes - length rest
  pub why_is : why ≡ why_at (is_utf8 bytes) (open_in before) rest
