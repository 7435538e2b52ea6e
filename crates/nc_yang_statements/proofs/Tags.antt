-- Keywords are told apart by their numbers.
use Rattle.std.proofs.Common.{◌≡◌, ◌∙◌, refl, ap}
use Rattle.std.specs.Prelude.{true, ◌==◌}
use denote.Enum.Declared.{tag_of}
use denote.Enum.Bare.{sameb, same_true}
use Rattle.nc_yang_statements.specs.contracts.keyword.Keyword.{the_type}
use Rattle.nc_yang_statements.specs.declared.keyword.Keyword.{Keyword}
use Rattle.nc_yang_statements.specs.declared.keyword.Keyword.TheVariants.{Module, YangVersion, Namespace, Prefix, Import, RevisionDate, Revision, Typedef, Grouping, Uses, Container, Presence, List as ListWord, Key, Unique, Leaf, LeafList, Choice, Case, Mandatory, Default, MinElements, MaxElements, OrderedBy, Config, Identity, Base, Feature, IfFeature, TypeName, Range, Length, EnumName, Bit, FractionDigits, Path, RequireInstance, Value, Position, Organization, Contact, Description, Reference, Units, Status, ErrorMessage, ErrorAppTag, Extension, Rpc, Action, Notification, Submodule, BelongsTo, Include, Augment, Refine, Deviation, Deviate, Anydata, Anyxml, Must, When, Pattern, Modifier, Input, Output, Argument, YinElement, Prefixed, Unknown}
use Rattle.nc_yang_statements.specs.Keywords.{tag, is_same_keyword}

pub tag_is : (k : Keyword) → tag_of the_type k ≡ tag k
tag_is Module = refl
tag_is YangVersion = refl
tag_is Namespace = refl
tag_is Prefix = refl
tag_is Import = refl
tag_is RevisionDate = refl
tag_is Revision = refl
tag_is Typedef = refl
tag_is Grouping = refl
tag_is Uses = refl
tag_is Container = refl
tag_is Presence = refl
tag_is ListWord = refl
tag_is Key = refl
tag_is Unique = refl
tag_is Leaf = refl
tag_is LeafList = refl
tag_is Choice = refl
tag_is Case = refl
tag_is Mandatory = refl
tag_is Default = refl
tag_is MinElements = refl
tag_is MaxElements = refl
tag_is OrderedBy = refl
tag_is Config = refl
tag_is Identity = refl
tag_is Base = refl
tag_is Feature = refl
tag_is IfFeature = refl
tag_is TypeName = refl
tag_is Range = refl
tag_is Length = refl
tag_is EnumName = refl
tag_is Bit = refl
tag_is FractionDigits = refl
tag_is Path = refl
tag_is RequireInstance = refl
tag_is Value = refl
tag_is Position = refl
tag_is Organization = refl
tag_is Contact = refl
tag_is Description = refl
tag_is Reference = refl
tag_is Units = refl
tag_is Status = refl
tag_is ErrorMessage = refl
tag_is ErrorAppTag = refl
tag_is Extension = refl
tag_is Rpc = refl
tag_is Action = refl
tag_is Notification = refl
tag_is Submodule = refl
tag_is BelongsTo = refl
tag_is Include = refl
tag_is Augment = refl
tag_is Refine = refl
tag_is Deviation = refl
tag_is Deviate = refl
tag_is Anydata = refl
tag_is Anyxml = refl
tag_is Must = refl
tag_is When = refl
tag_is Pattern = refl
tag_is Modifier = refl
tag_is Input = refl
tag_is Output = refl
tag_is Argument = refl
tag_is YinElement = refl
tag_is Prefixed = refl
tag_is Unknown = refl

pub same_is : (a b : Keyword) → sameb the_type a b ≡ is_same_keyword a b
same_is a b = ap (λ z. z == tag_of the_type b) (tag_is a) ∙ ap (λ z. tag a == z) (tag_is b)

-- two that are the same by their numbers are one
pub same_keyword : (a b : Keyword) → is_same_keyword a b ≡ true → a ≡ b
same_keyword a b e = same_true the_type tt a b (same_is a b ∙ e)
