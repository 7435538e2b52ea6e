-- The tree that tokens spell (XML 1.0, 2.1, 3, 3.1): a root among comments and white space.
use Rattle.std.specs.Prelude.{◌≡◌, ◌⊎◌, ℕ, zero, suc, Bool, true, false, ◌&&◌, List, [], ◌∷◌, ◌++◌, Some}
use Rattle.std.specs.List.{list_all}
use Rattle.nc_names.specs.Signs.{is_white}
use Rattle.nc_names.specs.declared.name.Bound.{Bound}
use Rattle.nc_names.specs.Limits.{element_depth}
use Rattle.nc_names.specs.Same.{is_same_text}
use Rattle.nc_message.specs.declared.tree.Elem.{Elem}
use Rattle.nc_message.specs.declared.tree.Part.{Part}
use Rattle.nc_message.specs.declared.tree.Part.TheVariants.{Child, Chars}
use Rattle.nc_message.specs.Tokens.{Name, Tag, Token, Start, End, Run, Section, Comment, Instruction, Declaration}
use Rattle.nc_message.specs.Resolved.{Head, has_unbound, opened}
use Rattle.nc_message.specs.Texts.{text_of, section_of, is_allowed}

-- what stands in an element: text, a child, or what is skipped
pub data Bit : Type 0 where
  Words : List ℕ → Bit
  Inner : Elem → Bit
  Remark : Bit

-- text as a part, where there is any
abbrev pub chars_of : List ℕ → List Part
chars_of [] = []
chars_of (c ∷ cs) = Chars (c ∷ cs) ∷ []

-- its parts, after some text: adjacent text is one part, whatever is skipped in it
abbrev pub joined : List ℕ → List Bit → List Part
joined text [] = chars_of text
joined text (Words t ∷ more) = joined (text ++ t) more
joined text (Inner e ∷ more) = chars_of text ++ Child e ∷ joined [] more
joined text (Remark ∷ more) = joined text more

-- the element that a start tag opened, with these in it
abbrev pub around : Head → List Bit → Elem
around head bits = record { name = head.name; bounds = head.bounds; attrs = head.attrs; parts = joined [] bits }

-- whether an end tag has the name of its start tag (XML 1.0, 3, Element Type Match)
abbrev pub ends : Head → Name → Bool
ends head n = is_same_text head.prefix n.prefix && is_same_text head.name.name n.local

-- the token is text that stands for this
abbrev pub IsWords : List ℕ → Token → Type 0
IsWords t (Run raw) = text_of raw ≡ Some t
IsWords t (Section raw) = section_of raw ≡ Some t
IsWords t _ = ⊥

-- the token is skipped: a comment or a processing instruction
abbrev pub IsRemark : Token → Type 0
IsRemark (Comment raw) = is_allowed raw ≡ true
IsRemark (Instruction raw) = is_allowed raw ≡ true
IsRemark _ = ⊥

-- the tokens are those of text, of what is skipped, or of a child
abbrev pub IsBit : (Elem → List Token → Type 0) → Bit → List Token → Type 0
IsBit Of (Words t) ts = (k : Token) × (ts ≡ k ∷ []) × IsWords t k
IsBit Of (Inner e) ts = Of e ts
IsBit Of Remark ts = (k : Token) × (ts ≡ k ∷ []) × IsRemark k

-- the tokens are those of these, one after another
abbrev pub AreBits : (Elem → List Token → Type 0) → List Bit → List Token → Type 0
AreBits Of [] ts = ts ≡ []
AreBits Of (b ∷ bits) ts =
    (front : List Token) × (rest : List Token) × (ts ≡ front ++ rest) × IsBit Of b front × AreBits Of bits rest

-- the tag ends with `/>`, and nothing stands in its element
abbrev pub IsAlone : Tag → List Bit → List Token → Type 0
IsAlone tag bits ts = (tag.alone ≡ true) × (bits ≡ []) × (ts ≡ [])

-- or content and an end tag follow
pub record IsClosed (Of : Elem → List Token → Type 0) (tag : Tag) (first : Head) (bits : List Bit)
    (ts : List Token) : Type 0 where
  pub inner : List Token
  pub name : Name
  pub whole : ts ≡ inner ++ End name ∷ []
  pub open_to : tag.alone ≡ false
  pub ends : ends first name ≡ true
  pub are : AreBits Of bits inner

-- the tokens are those of an element below these bindings
pub record IsElement (Of : List Bound → Elem → List Token → Type 0) (outer : List Bound) (e : Elem)
    (ts : List Token) : Type 0 where
  pub tag : Tag
  pub first : Head
  pub bits : List Bit
  pub behind : List Token
  pub whole : ts ≡ Start tag ∷ behind
  pub bound : has_unbound outer tag ≡ false
  pub opens : opened outer tag ≡ Some first
  pub tree : e ≡ around first bits
  pub ending : IsAlone tag bits behind ⊎ IsClosed (Of first.bounds) tag first bits behind

-- with at most so many elements inside one another
abbrev pub SpellsElem : (levels : ℕ) → List Bound → Elem → List Token → Type 0
SpellsElem zero outer e ts = ⊥
SpellsElem (suc n) outer e ts = IsElement (SpellsElem n) outer e ts

-- what may stand outside of the root
abbrev pub IsMisc : Token → Type 0
IsMisc (Run raw) = list_all is_white raw ≡ true
IsMisc (Comment raw) = is_allowed raw ≡ true
IsMisc (Instruction raw) = is_allowed raw ≡ true
IsMisc _ = ⊥

-- so may all of these (`Misc` of XML 1.0, 2.8)
abbrev pub AreMisc : List Token → Type 0
AreMisc [] = Unit {0}
AreMisc (k ∷ ks) = IsMisc k × AreMisc ks

-- the tokens are those of a root among what may stand outside of it
pub record HasRoot (ts : List Token) (root : Elem) : Type 0 where
  pub before : List Token
  pub middle : List Token
  pub after : List Token
  pub whole : ts ≡ before ++ (middle ++ after)
  pub misc_before : AreMisc before
  pub element : SpellsElem element_depth [] root middle
  pub misc_after : AreMisc after

-- the declaration stands before them
pub record IsDeclared (ts : List Token) (root : Elem) : Type 0 where
  pub before : List Token
  pub rest : List Token
  pub whole : ts ≡ before ++ Declaration ∷ rest
  pub misc_before : AreMisc before
  pub has_root : HasRoot rest root

-- the tokens are those of a message, and this is its root
abbrev pub Spells : List Token → Elem → Type 0
Spells ts root = HasRoot ts root ⊎ IsDeclared ts root
