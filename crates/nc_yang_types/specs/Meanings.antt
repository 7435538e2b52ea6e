-- What a `type` statement means (RFC 7950 7.3, 7.4, 9). Types whose parts break a rule mean nothing, and neither does
-- one that leads to such a type, to no type, or back to itself.
use Rattle.std.specs.Prelude.{◌≡◌, ℕ, zero, suc, Bool, true, List, [], ◌∷◌, ◌++◌, Option, Some, None, option_map, Contains}
use Rattle.nc_schema.specs.declared.value_type.ValueType.{ValueType}
use Rattle.nc_schema.specs.declared.value_type.ValueType.TheVariants.{Chars as String, Union as UnionType, Identity as IdentityType}
use Rattle.nc_schema.specs.declared.value_type.ValueType.TheVariants.{Leafref as LeafrefType, Instance, NodeInstance}
use Rattle.nc_yang_words.specs.declared.statement.Statement.{Statement}
use Rattle.nc_yang_statements.specs.declared.built_in.BuiltIn.{BuiltIn}
use Rattle.nc_yang_statements.specs.declared.built_in.BuiltIn.TheVariants.{IdentityRef, LeafRef, Union}
use Rattle.nc_yang_statements.specs.declared.fault.Fault.{Fault}
use Rattle.nc_yang_statements.specs.declared.keyword.Keyword.TheVariants.{Base, Path, Pattern, TypeName}
use Rattle.nc_yang_statements.specs.Statements.{below}
use Rattle.nc_yang_scopes.specs.Scopes.{Located}
use Rattle.nc_yang_types.specs.Entries.{listing_of, names_left, narrowed, narrowed_faults, own, own_faults, required}
use Rattle.nc_yang_types.specs.declared.member.Named.{Named}
use Rattle.nc_yang_types.specs.Features.{stands}
use Rattle.nc_yang_types.specs.Places.{base_of, built_in, part_of, parts_of}

-- an entry that names no other, with the `pattern` statements that all have to admit its values (RFC 7950 9.4.5), and
-- the names that it lists with their numbers, whether their conditions hold or not (RFC 7950 9.6.4, 9.7.4); a value of
-- one of these types (RFC 7950 9.12); an identity derived from each that these `base` statements name (RFC 7950
-- 9.10.2); a value of the leaf to which this `path` leads, which has to be there or not (RFC 7950 9.9)
pub data Meaning : Type 0 where
  Entry : ValueType → List Located → List Named → Meaning
  OneOf : List Located → Meaning
  DerivedFrom : List Located → Meaning
  Refers : Located → Bool → Meaning

-- what a built-in type says with the parts of a statement
abbrev pub said : (on : ℕ → List ℕ → Bool) → BuiltIn → Located → Option Meaning
said on Union l = Some (OneOf (parts_of TypeName l))
said on IdentityRef l = Some (DerivedFrom (parts_of Base l))
said on LeafRef l = option_map (λ path. Refers path (required true (below l.statement))) (part_of Path l)
said on one l =
    option_map (λ entry. Entry entry (parts_of Pattern l) (listing_of one (below l.statement)))
    (own (stands on l.place.text) one (below l.statement))

-- in the module ietf-netconf-acm an instance identifier may leave out keys (`node-instance-identifier`), and the one
-- pattern, that of `group-name-type`, says that a name does not begin with `*` (RFC 8341 3.5.2)
abbrev pub of_access : ValueType → (patterns : List Located) → List Named → Meaning
of_access (Instance need) patterns names = Entry NodeInstance patterns names
of_access (String among starless none) (p ∷ patterns) names = Entry (String among true none) [] names
of_access entry patterns names = Entry entry patterns names

-- what is said means that in the text of a number, of which the first is that module's
abbrev pub in_text : (text : ℕ) → Meaning → Meaning
in_text zero (Entry entry patterns names) = of_access entry patterns names
in_text zero m = m
in_text (suc text) m = m

-- what a built-in type means with the parts of a statement
abbrev pub meant : (on : ℕ → List ℕ → Bool) → BuiltIn → Located → Option Meaning
meant on one l = option_map (in_text l.place.text) (said on one l)

-- its kind, by which it is known which parts may stand in a type over it
abbrev pub shape : Meaning → ValueType
shape (Entry entry patterns names) = entry
shape (OneOf members) = UnionType []
shape (DerivedFrom bases) = IdentityType []
shape (Refers path need) = LeafrefType 0 None need

-- the names that it lists
abbrev pub names_of : Meaning → List Named
names_of (Entry entry patterns names) = names
names_of (OneOf members) = []
names_of (DerivedFrom bases) = []
names_of (Refers path need) = []

-- what a type over it means, with the parts of a statement; the patterns of the type on which it rests come first
abbrev pub with_parts : (on : ℕ → List ℕ → Bool) → Meaning → Located → Option Meaning
with_parts on (Entry entry patterns names) l =
    option_map (λ left. Entry left (patterns ++ parts_of Pattern l) (names_left entry names (below l.statement)))
    (narrowed (stands on l.place.text) entry (below l.statement))
with_parts on (OneOf members) l = Some (OneOf members)
with_parts on (DerivedFrom bases) l = Some (DerivedFrom bases)
with_parts on (Refers path need) l = Some (Refers path (required need (below l.statement)))

-- a `type` statement means this
pub data Means (on : ℕ → List ℕ → Bool) (texts : List Statement) : Located → Meaning → Type 0 where
  by_itself : (l : Located) (one : BuiltIn) (m : Meaning) → built_in l ≡ Some one → own_faults one l.statement ≡ [] →
      meant on one l ≡ Some m → Means on texts l m
  over : (l base : Located) (n m : Meaning) → base_of texts l ≡ Some base → Means on texts base n →
      narrowed_faults (shape n) (names_of n) (below l.statement) ≡ [] → with_parts on n l ≡ Some m → Means on texts l m

-- a rule that a `type` statement breaks by its parts: those of a type over one that means nothing are not asked
pub data Breaks (on : ℕ → List ℕ → Bool) (texts : List Statement) : Located → Fault → Type 0 where
  in_itself : (l : Located) (one : BuiltIn) (fault : Fault) → built_in l ≡ Some one →
      Contains (own_faults one l.statement) fault → Breaks on texts l fault
  over_base : (l base : Located) (n : Meaning) (fault : Fault) → base_of texts l ≡ Some base → Means on texts base n →
      Contains (narrowed_faults (shape n) (names_of n) (below l.statement)) fault → Breaks on texts l fault
