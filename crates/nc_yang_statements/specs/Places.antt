-- Which statements may stand below which, and how often (RFC 7950 7, 14).
use Rattle.std.specs.Prelude.{Bool, true, false}
use Rattle.nc_yang_statements.specs.declared.keyword.Keyword.{Keyword}
use Rattle.nc_yang_statements.specs.declared.keyword.Keyword.TheVariants.{Action, Base, Bit, Case, Choice, Config, Contact, Container, Default, Description, EnumName, ErrorAppTag, ErrorMessage, Extension, Feature, FractionDigits, Grouping, Identity, IfFeature, Import, Key, Leaf, LeafList, Length, List as ListWord, Mandatory, MaxElements, MinElements, Module, Namespace, Notification, OrderedBy, Organization, Path, Pattern, Position, Prefix, Presence, Range, Reference, RequireInstance, Revision, RevisionDate, Rpc, Status, TypeName, Typedef, Unique, Units, Uses, Value, YangVersion}
use Rattle.nc_yang_statements.specs.declared.place.Count.{Count}
use Rattle.nc_yang_statements.specs.declared.place.Count.TheVariants.{Never, Optional, Once, Any}

-- the first count, or the second where it may not stand there by the first
abbrev pub or_else : Count → Count → Count
or_else Never second = second
or_else first second = first

-- a description and a reference (RFC 7950 7.21.3, 7.21.4)
abbrev pub documented : Keyword → Count
documented Description = Optional
documented Reference = Optional
documented keyword = Never

-- a condition and a status besides (RFC 7950 7.20.2, 7.21.2)
abbrev pub guarded : Keyword → Count
guarded IfFeature = Any
guarded Status = Optional
guarded keyword = documented keyword

-- definitions of data nodes but for `uses` (RFC 7950 14, `data-def-stmt`)
abbrev pub node_definitions : Keyword → Count
node_definitions Container = Any
node_definitions Leaf = Any
node_definitions LeafList = Any
node_definitions ListWord = Any
node_definitions Choice = Any
node_definitions keyword = Never

-- definitions of data nodes (RFC 7950 14, `data-def-stmt`)
abbrev pub data_definitions : Keyword → Count
data_definitions Uses = Any
data_definitions keyword = node_definitions keyword

-- types and groupings besides
abbrev pub scoped_definitions : Keyword → Count
scoped_definitions Typedef = Any
scoped_definitions Grouping = Any
scoped_definitions keyword = data_definitions keyword

-- actions and notifications (RFC 7950 7.15, 7.16)
abbrev pub operations : Keyword → Count
operations Action = Any
operations Notification = Any
operations keyword = scoped_definitions keyword

-- what may stand in a module (RFC 7950 7.1.1)
abbrev pub in_module : Keyword → Count
in_module Namespace = Once
in_module Prefix = Once
in_module YangVersion = Optional
in_module Organization = Optional
in_module Contact = Optional
in_module Import = Any
in_module Revision = Any
in_module Extension = Any
in_module Feature = Any
in_module Identity = Any
in_module Rpc = Any
in_module Notification = Any
in_module keyword = or_else (scoped_definitions keyword) (documented keyword)

-- what may stand in an import (RFC 7950 7.1.5)
abbrev pub in_import : Keyword → Count
in_import Prefix = Once
in_import RevisionDate = Optional
in_import keyword = documented keyword

-- what may stand in a typedef (RFC 7950 7.3.1)
abbrev pub in_typedef : Keyword → Count
in_typedef TypeName = Once
in_typedef Default = Optional
in_typedef Units = Optional
in_typedef Status = Optional
in_typedef keyword = documented keyword

-- what may stand in a type (RFC 7950 7.4, 14)
abbrev pub in_type : Keyword → Count
in_type FractionDigits = Optional
in_type Length = Optional
in_type Path = Optional
in_type Range = Optional
in_type RequireInstance = Optional
in_type Base = Any
in_type Bit = Any
in_type EnumName = Any
in_type Pattern = Any
in_type TypeName = Any
in_type keyword = Never

-- what may stand in a container (RFC 7950 7.5.2)
abbrev pub in_container : Keyword → Count
in_container Presence = Optional
in_container Config = Optional
in_container keyword = or_else (operations keyword) (guarded keyword)

-- what may stand in a leaf (RFC 7950 7.6.2)
abbrev pub in_leaf : Keyword → Count
in_leaf TypeName = Once
in_leaf Config = Optional
in_leaf Default = Optional
in_leaf Mandatory = Optional
in_leaf Units = Optional
in_leaf keyword = guarded keyword

-- what may stand in a leaf-list (RFC 7950 7.7.3)
abbrev pub in_leaf_list : Keyword → Count
in_leaf_list TypeName = Once
in_leaf_list Config = Optional
in_leaf_list MinElements = Optional
in_leaf_list MaxElements = Optional
in_leaf_list OrderedBy = Optional
in_leaf_list Units = Optional
in_leaf_list Default = Any
in_leaf_list keyword = guarded keyword

-- what may stand in a list (RFC 7950 7.8.1)
abbrev pub in_list : Keyword → Count
in_list Key = Optional
in_list Config = Optional
in_list MinElements = Optional
in_list MaxElements = Optional
in_list OrderedBy = Optional
in_list Unique = Any
in_list keyword = or_else (operations keyword) (guarded keyword)

-- what may stand in a choice (RFC 7950 7.9.1)
abbrev pub in_choice : Keyword → Count
in_choice Case = Any
in_choice Config = Optional
in_choice Default = Optional
in_choice Mandatory = Optional
in_choice keyword = or_else (node_definitions keyword) (guarded keyword)

-- what may stand in a case (RFC 7950 7.9.2.1)
abbrev pub in_case : Keyword → Count
in_case keyword = or_else (data_definitions keyword) (guarded keyword)

-- what may stand in a grouping (RFC 7950 7.12.1)
abbrev pub in_grouping : Keyword → Count
in_grouping Status = Optional
in_grouping keyword = or_else (operations keyword) (documented keyword)

-- what may stand in an identity (RFC 7950 7.18.1)
abbrev pub in_identity : Keyword → Count
in_identity Base = Any
in_identity keyword = guarded keyword

-- what may stand in a range, a length or a pattern, but for a modifier (RFC 7950 9.2.4, 9.4.4, 9.4.5.1)
abbrev pub in_restriction : Keyword → Count
in_restriction ErrorMessage = Optional
in_restriction ErrorAppTag = Optional
in_restriction keyword = documented keyword

-- what may stand in an enum (RFC 7950 9.6.4.1)
abbrev pub in_enum : Keyword → Count
in_enum Value = Optional
in_enum keyword = guarded keyword

-- what may stand in a bit (RFC 7950 9.7.4.1)
abbrev pub in_bit : Keyword → Count
in_bit Position = Optional
in_bit keyword = guarded keyword

-- how often the second may stand directly below the first
abbrev pub count_of : Keyword → Keyword → Count
count_of Module keyword = in_module keyword
count_of Import keyword = in_import keyword
count_of Revision keyword = documented keyword
count_of Typedef keyword = in_typedef keyword
count_of TypeName keyword = in_type keyword
count_of Container keyword = in_container keyword
count_of Leaf keyword = in_leaf keyword
count_of LeafList keyword = in_leaf_list keyword
count_of ListWord keyword = in_list keyword
count_of Choice keyword = in_choice keyword
count_of Case keyword = in_case keyword
count_of Grouping keyword = in_grouping keyword
count_of Uses keyword = guarded keyword
count_of Identity keyword = in_identity keyword
count_of Feature keyword = guarded keyword
count_of Range keyword = in_restriction keyword
count_of Length keyword = in_restriction keyword
count_of Pattern keyword = in_restriction keyword
count_of EnumName keyword = in_enum keyword
count_of Bit keyword = in_bit keyword
count_of above keyword = Never

-- it may stand there once at most
abbrev pub is_single : Count → Bool
is_single Once = true
is_single Optional = true
is_single count = false

-- it may not stand there
abbrev pub is_never : Count → Bool
is_never Never = true
is_never count = false

-- it has to stand there
abbrev pub is_once : Count → Bool
is_once Once = true
is_once count = false
