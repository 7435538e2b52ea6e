-- A module whose texts, after that of ietf-netconf-acm, keep all rules that need no data node; and one that breaks a rule on
-- types, which is asked after these: the whole of why it has no schema.
use Rattle.std.proofs.Common.{inl, ◌≡◌, ℕ, zero, suc, Bool, true, false, List, [], ◌∷◌, refl, subst}
use Rattle.std.specs.Prelude.{◌&&◌, Some, codes, slice_get, unwrap_or}
use Rattle.std.specs.Str.{chars, is_utf8}
use Rattle.std.proofs.Math.Utf8.{encode}
use denote.Hole.Carrier.{hidden, out, roll, shown}
use Rattle.nc_patterns.specs.Reading.{allowed, front_at, may_end, next, reading as pattern_reading}
use Rattle.nc_patterns.specs.Tokens.{inside as inside_class, member as class_member, one_character, outside, with_range}
use Rattle.nc_yang_order.proofs.Lists.{contains_at}
use Rattle.nc_yang_words.specs.declared.statement.Statement.{Statement}
use Rattle.nc_yang_words.specs.declared.statement.Statement.TheBlock.{shown-the_row-Statement-0}
use Rattle.nc_yang_words.specs.declared.statement.Statement.TheViews.{out-Statement, roll-Statement}
use Rattle.nc_yang_statements.specs.Arguments.{is_false_text, is_order, is_true_text, is_unbounded, is_version}
use Rattle.nc_yang_statements.specs.BuiltIns.{built_in_of, built_in_word, built_ins}
use Rattle.nc_yang_statements.specs.Keywords.{is_same_keyword, keyword_of, keywords, word_of}
use Rattle.nc_yang_statements.specs.Statements.{kind}
use Rattle.nc_yang_statements.specs.declared.built_in.BuiltIn.TheVariants.{Uint8}
use Rattle.nc_yang_statements.specs.declared.fault.Fault.{Fault}
use Rattle.nc_yang_statements.specs.declared.fault.ModuleWhy.TheVariants.{BadArgument}
use Rattle.nc_yang_statements.specs.declared.keyword.Keyword.TheVariants.{Feature, TypeName}
use Rattle.nc_yang_scopes.specs.Modules.{twins}
use Rattle.nc_yang_scopes.specs.Names.{StandsIn, inside, itself}
use Rattle.nc_yang_scopes.specs.Numbers.{roots}
use Rattle.nc_yang_scopes.specs.Parts.{part_of}
use Rattle.nc_yang_scopes.specs.Revisions.{unrevised}
use Rattle.nc_yang_scopes.specs.Scopes.{Located, Scoping, root}
use Rattle.nc_yang_scopes.specs.Spaces.{spaces}
use Rattle.nc_yang_nodes.specs.Roles.{FeatureTest}
use Rattle.nc_yang_nodes.specs.Supported.{AreOn}
use Rattle.nc_yang_types.specs.Entries.{own_faults}
use Rattle.nc_yang_types.specs.Faults.{KeepsTypes}
use Rattle.nc_yang_types.specs.Meanings.{in_itself}
use Rattle.nc_yang_types.specs.Places.{built_in}
use Rattle.nc_yang_types.specs.Ranges.{is_max, is_min}
use Rattle.nc_yang_leafs.specs.Conditions.{holds}
use Rattle.nc_yang.specs.Access.{access_yang, in_file}
use Rattle.nc_yang.specs.Features.{is_given}
use Rattle.nc_yang.specs.Schemas.{Breaks, IsBegun, ill_typed, in_schema}
use Rattle.nc_yang.proofs.Worked.{IsText, file, have, located, module_of, root_of, texts_of, top_of}
use Rattle.trials_modules.proofs.Kept.{are_all, is_kept, keeps_texts, top_at}
use Rattle.trials_modules.proofs.KeptTypes.{is_typed, keeps_types}
use Rattle.trials_modules.proofs.Numbered.{End, is_numbered, numbered}
use Rattle.trials_modules.proofs.Sample.{sample, sample_is_text}

-- no feature is on
abbrev pub off : FeatureTest
off text word = false

abbrev pub levels : ℕ
levels = 12

-- where no line names a feature, none is on
are_on : (scoping : Scoping) → AreOn scoping (is_given scoping.texts []) off
are_on scoping = record {
  among = λ text word e. absurd (cc);
  together = λ number l is. both_false (is_same_keyword Feature (kind l.statement));
  most = λ other among together text word e. absurd (let none = among text word e in cc);
}
  where
    both_false : (b : Bool) → (b && false) ≡ false
    both_false true = refl
    both_false false = refl

-- ---- a module after ietf-netconf-acm keeps the rules by these computations
pub record IsKept (bytes : List ℕ) : Type 0 where
  pub access : is_kept (texts_of bytes) levels 0 (root_of access_yang) ≡ true
  pub own : is_kept (texts_of bytes) levels 1 (root_of bytes) ≡ true
  pub apart : twins (texts_of bytes) ≡ []
  pub revised : unrevised (texts_of bytes) ≡ []
  pub ends : End levels 0 (roots 0 (texts_of bytes))

both_kept : (bytes : List ℕ) → IsKept bytes → (text : ℕ) (s : Statement) → slice_get (texts_of bytes) text ≡ Some s → is_kept (texts_of bytes) levels text s ≡ true
both_kept bytes is zero s e = subst (λ z. is_kept (texts_of bytes) levels 0 z ≡ true) (let same : root_of access_yang ≡ s = cc in same) is.access
both_kept bytes is (suc zero) s e = subst (λ z. is_kept (texts_of bytes) levels 1 z ≡ true) (let same : root_of bytes ≡ s = cc in same) is.own
both_kept bytes is (suc (suc text)) s e = absurd (cc)

abbrev pub scoping_of : List ℕ → Scoping
scoping_of bytes = numbered (texts_of bytes) levels

pub begun : (bytes : List ℕ) → IsText bytes → IsKept bytes → IsBegun (file bytes ∷ []) [] (scoping_of bytes) off
begun bytes is kept = record {
  read = have bytes is;
  keeps = keeps_texts (texts_of bytes) levels (both_kept bytes kept) kept.apart kept.revised;
  numbers = is_numbered (texts_of bytes) levels kept.ends;
  features = are_on (scoping_of bytes);
}

-- ---- the sample
pub sample_is_kept : IsKept sample
unfolding access_yang chars encode out-Statement out roll-Statement roll shown-the_row-Statement-0 shown hidden keyword_of keywords word_of built_in_of built_ins built_in_word spaces is_true_text is_false_text is_unbounded is_order is_version
sample_is_kept = record { access = refl; own = refl; apart = refl; revised = refl; ends = refl }

pub sample_begins : IsBegun (file sample ∷ []) [] (scoping_of sample) off
sample_begins = begun sample sample_is_text sample_is_kept

-- its types keep their rules, too, and those of ietf-netconf-acm
pub both_typed : (bytes : List ℕ) → are_all (is_typed (holds (texts_of bytes) off) (texts_of bytes)) levels (top_at 0 (root_of access_yang)) ≡ true →
    are_all (is_typed (holds (texts_of bytes) off) (texts_of bytes)) levels (top_at 1 (root_of bytes)) ≡ true →
    (text : ℕ) (top : Located) → root (texts_of bytes) text ≡ Some top → are_all (is_typed (holds (texts_of bytes) off) (texts_of bytes)) levels top ≡ true
both_typed bytes access own zero top e =
    subst (λ z. are_all (is_typed (holds (texts_of bytes) off) (texts_of bytes)) levels z ≡ true) (let same : top_at 0 (root_of access_yang) ≡ top = cc in same) access
both_typed bytes access own (suc zero) top e =
    subst (λ z. are_all (is_typed (holds (texts_of bytes) off) (texts_of bytes)) levels z ≡ true) (let same : top_at 1 (root_of bytes) ≡ top = cc in same) own
both_typed bytes access own (suc (suc text)) top e = absurd (cc)

access_typed : are_all (is_typed (holds (texts_of sample) off) (texts_of sample)) levels (top_at 0 (root_of access_yang)) ≡ true
unfolding access_yang chars encode out-Statement out roll-Statement roll shown-the_row-Statement-0 shown hidden keyword_of keywords word_of built_in_of built_ins built_in_word is_true_text is_max is_min pattern_reading next allowed front_at may_end outside inside_class with_range class_member one_character
access_typed = refl

sample_typed : are_all (is_typed (holds (texts_of sample) off) (texts_of sample)) levels (top_at 1 (root_of sample)) ≡ true
unfolding access_yang chars encode out-Statement out roll-Statement roll shown-the_row-Statement-0 shown hidden keyword_of keywords word_of built_in_of built_ins built_in_word is_true_text is_max is_min
sample_typed = refl

pub sample_types_keep : KeepsTypes (holds (texts_of sample) off) (texts_of sample)
sample_types_keep = keeps_types (holds (texts_of sample) off) (texts_of sample) levels (both_typed sample access_typed sample_typed)

-- ---- a range that no uint8 has
abbrev pub ranged : List ℕ
ranged = module_of
    (codes "  leaf size {"
    ∷ codes "    type uint8 {"
    ∷ codes "      range '1..999';"
    ∷ codes "    }"
    ∷ codes "  }"
    ∷ [])

ranged_is_text : IsText ranged
unfolding is_utf8 chars encode
ranged_is_text = record { utf8 = refl; reads = refl; short = refl }

ranged_is_kept : IsKept ranged
unfolding access_yang chars encode out-Statement out roll-Statement roll shown-the_row-Statement-0 shown hidden keyword_of keywords word_of built_in_of built_ins built_in_word spaces is_true_text is_false_text is_unbounded is_order is_version
ranged_is_kept = record { access = refl; own = refl; apart = refl; revised = refl; ends = refl }

-- its type
abbrev its_type : Located
its_type = unwrap_or (part_of TypeName (located ranged 2)) (top_of ranged)

type_stands : StandsIn (top_of ranged) its_type
unfolding chars encode out-Statement out roll-Statement roll shown-the_row-Statement-0 shown hidden keyword_of keywords word_of
type_stands = inside (top_of ranged) (located ranged 2) its_type 2 refl refl (inside (located ranged 2) its_type its_type 0 refl refl (itself its_type))

abbrev fault : Fault
fault = record { line = 6; why = BadArgument }

type_faults : slice_get (own_faults Uint8 its_type.statement) 0 ≡ Some fault
unfolding chars encode out-Statement out roll-Statement roll shown-the_row-Statement-0 shown hidden keyword_of keywords word_of is_max is_min
type_faults = refl

type_is_built : built_in its_type ≡ Some Uint8
unfolding chars encode out-Statement out roll-Statement roll shown-the_row-Statement-0 shown hidden keyword_of keywords word_of built_in_of built_ins built_in_word
type_is_built = refl

-- it has no schema, and this is why
pub ill_ranged : Breaks (file ranged ∷ []) [] 0 fault
ill_ranged =
    in_schema (scoping_of ranged) off 0 fault (begun ranged ranged_is_text ranged_is_kept)
    (ill_typed (in_file 0 fault) (record {
      top = top_of ranged;
      is = refl;
      breaks =
          record {
            statement = its_type;
            stands = type_stands;
            breaks = inl (in_itself its_type Uint8 fault type_is_built (contains_at (own_faults Uint8 its_type.statement) 0 fault type_faults));
          };
    }))
