-- A written message never holds the end-of-message mark (RFC 6242 4.3), since a `>` stands in it only at
-- the end of a tag.
use Rattle.std.specs.Prelude.{◌≢◌, ℕ, List, [], ◌∷◌}
use Rattle.nc_names.specs.Mark.{HasNoMark}
use Rattle.nc_names.specs.Signs.{greater_than, less_than}
use Rattle.nc_names.specs.declared.name.Bound.{Bound}
use Rattle.nc_message.specs.declared.tree.Attr.{Attr}
use Rattle.nc_message.specs.declared.tree.Tree.{Tree}
use Rattle.nc_message.specs.declared.tree.Part.{Part, Child', Chars, Row_of-Part, end_of-Part, more_of-Part}
use Rattle.nc_message.specs.declared.tree.Part.TheVariants.{Child}
use Rattle.nc_message.specs.declared.tree.Part.TheBlock.{Row_of-Elem, end_of-Elem, more_of-Elem}
use Rattle.nc_message.specs.Written.{written}

-- neither `<` nor `>` stands in a name: no name of XML has them (XML 1.0, 2.3)
abbrev pub IsPlain : List ℕ → Type 0
IsPlain [] = Unit {0}
IsPlain (c ∷ cs) = (c ≢ less_than) × (c ≢ greater_than) × IsPlain cs

-- so are the prefixes that are bound
abbrev pub ArePlainBounds : List Bound → Type 0
ArePlainBounds [] = Unit {0}
ArePlainBounds (b ∷ bs) = IsPlain b.prefix × ArePlainBounds bs

-- and the names of attributes with their prefixes
abbrev pub ArePlainAttrs : List Attr → Type 0
ArePlainAttrs [] = Unit {0}
ArePlainAttrs (a ∷ attrs) = IsPlain a.prefix × IsPlain a.name.name × ArePlainAttrs attrs

abbrev mutual
  -- the names and prefixes in a part
  pub IsPlainPart : Part → Type 0
  IsPlainPart (Chars text) = Unit {0}
  IsPlainPart (Child' _ child) = IsPlainChild child

  -- those in an element
  pub IsPlainChild : {n : _} → Row_of-Elem n → Type 0
  IsPlainChild end_of-Elem = Unit {0}
  IsPlainChild (more_of-Elem name bounds attrs shape parts none) =
      IsPlain name.name × ArePlainBounds bounds × ArePlainAttrs attrs × ArePlainParts parts

  -- those in all parts
  pub ArePlainParts : {n : _} → Row_of-Part n → Type 0
  ArePlainParts end_of-Part = Unit {0}
  ArePlainParts (more_of-Part part more) = IsPlainPart part × ArePlainParts more

-- the text of a tree of such names holds no mark
abbrev pub HoldsNoMark : Type 0
HoldsNoMark = (tree : Tree) → IsPlainPart (Child tree.root) → HasNoMark (written tree)
