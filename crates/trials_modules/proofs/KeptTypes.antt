-- The types of texts keep their rules, by computation: of texts without typedefs, in which no union has a member that refers
-- to other data and no enum or bit is conditional.
use Rattle.std.proofs.Common.{inl, inr, ◌≡◌, ◌&&◌, ◌||◌, ℕ, zero, suc, not, Bool, true, false, List, [], ◌∷◌, refl, ap, subst, ◌∙◌}
use Rattle.std.specs.Prelude.{Option, Some, None, Contains, is_none, option_and_then}
use Rattle.std.specs.List.{list_all, list_any}
use Rattle.std.specs.Option.{option_map_or}
use Rattle.std.proofs.lemmas.Option.{slice_get-get_or}
use Rattle.nc_names.specs.Ends.{trimmed}
use Rattle.nc_names.specs.Same.{is_same_text}
use Rattle.nc_schema.specs.Values.{words_of}
use Rattle.nc_schema.specs.declared.value_type.ValueType.{ValueType}
use Rattle.nc_schema.specs.declared.value_type.ValueType.TheVariants.{Bits, Enumeration}
use Rattle.nc_yang_words.specs.declared.statement.Statement.{Statement}
use Rattle.nc_yang_statements.specs.declared.built_in.BuiltIn.{BuiltIn}
use Rattle.nc_yang_statements.specs.declared.built_in.BuiltIn.TheVariants.{Union}
use Rattle.nc_yang_statements.specs.declared.fault.Fault.{Fault}
use Rattle.nc_yang_statements.specs.declared.keyword.Keyword.TheVariants.{TypeName}
use Rattle.nc_yang_scopes.specs.Scopes.{Located, child, root}
use Rattle.nc_yang_nodes.specs.Roles.{children}
use Rattle.nc_yang_types.specs.declared.member.Named.{Named}
use Rattle.nc_yang_types.specs.Entries.{own_faults}
use Rattle.nc_yang_types.specs.Faults.{BreaksOne, KeepsTypes, TakesConditional, is_conditional, is_reference, listed, names_conditional, of_member}
use Rattle.nc_yang_types.specs.Meanings.{Breaks, Meaning, Means, OneOf, in_itself, meant, names_of, over_base, shape}
use Rattle.nc_yang_types.specs.Places.{base_of, built_in, part_of}
use Rattle.nc_yang_types.specs.Wholes.{members_of}
use Rattle.nc_yang_types.proofs.MeaningLemmas.{how_means}
use Rattle.trials_modules.proofs.Kept.{all_at, are_all, child_there, in_all, is_none_in, left_of, none_in, right_of}
use Rattle.trials_modules.proofs.Typed.{brings_none}

-- ---- tests
-- what a built-in type means with the parts of a statement
abbrev pub meaning_of : (on : ℕ → List ℕ → Bool) → Located → Option Meaning
meaning_of on l = option_and_then (λ one. meant on one l) (built_in l)

-- no name that it lists is conditional
abbrev pub is_free : Meaning → Bool
is_free m = not (list_any (λ (n : Named). n.conditional) (names_of m))

-- nor one that its members list, so many levels deep
abbrev pub are_free : (on : ℕ → List ℕ → Bool) → List Statement → (levels : ℕ) → Located → Bool
are_free on texts zero l = false
are_free on texts (suc levels) l =
    is_none (base_of texts l) && option_map_or (λ m. is_free m && list_all (are_free on texts levels) (members_of m)) (meaning_of on l) true

-- its values do not refer to other data
abbrev pub is_own : (on : ℕ → List ℕ → Bool) → List Statement → Located → Bool
is_own on texts l = is_none (base_of texts l) && option_map_or (λ m. not (is_reference (shape m))) (meaning_of on l) true

abbrev pub is_union : BuiltIn → Bool
is_union Union = true
is_union one = false

abbrev pub is_typed : (on : ℕ → List ℕ → Bool) → List Statement → Located → Bool
is_typed on texts l =
    is_none (base_of texts l)
    && (option_map_or (λ one. is_none_in (own_faults one l.statement)) (built_in l) true
    && (option_map_or (λ one. not (is_union one) || list_all (is_own on texts) (children l)) (built_in l) true
    && option_map_or (are_free on texts 8) (part_of TypeName l) true))

-- ---- lists and options
none_is : {A : Type 0} (o : Option A) → is_none o ≡ true → o ≡ None
none_is None e = refl
none_is (Some x) e = absurd (cc)

at_some : {A : Type 0} (test : A → Bool) (o : Option A) (x : A) → option_map_or test o true ≡ true → o ≡ Some x → test x ≡ true
at_some test None x e is = absurd (cc)
at_some test (Some y) x e is = subst (λ z. test z ≡ true) (let same : y ≡ x = cc in same) e

all_contain : {A : Type 0} (test : A → Bool) (xs : List A) (x : A) → list_all test xs ≡ true → Contains xs x → test x ≡ true
all_contain test xs x e h = all_at test xs h.0 x e (slice_get-get_or xs h.0 x h.1 ∙ ap Some h.2)

not_is : (b : Bool) → not b ≡ true → b ≡ true → ⊥
not_is true e f = absurd (cc)
not_is false e f = absurd (cc)

is_not : (b : Bool) → not b ≡ true → b ≡ false
is_not true e = absurd (cc)
is_not false e = refl

-- ---- names that are not conditional
any_of : (c : Bool) (rest : Bool) → (c || rest) ≡ false → (c ≡ false) × (rest ≡ false)
any_of true rest e = absurd (cc)
any_of false rest e = (refl, e)

none_conditional : (names : List Named) (word : List ℕ) → list_any (λ (n : Named). n.conditional) names ≡ false → is_conditional names word ≡ false
none_conditional [] word e = refl
none_conditional (n ∷ names) word e =
    let both = any_of n.conditional (list_any (λ (k : Named). k.conditional) names) e in
    (λ i. (both.0 i && is_same_text n.name word) || is_conditional names word) ∙ none_conditional names word both.1

no_word : (names : List Named) (words : List (List ℕ)) → list_any (λ (n : Named). n.conditional) names ≡ false → list_any (is_conditional names) words ≡ false
no_word names [] e = refl
no_word names (word ∷ words) e = (λ i. none_conditional names word e i || list_any (is_conditional names) words) ∙ no_word names words e

names_free : (entry : ValueType) (names : List Named) (text : List ℕ) → list_any (λ (n : Named). n.conditional) names ≡ false → names_conditional entry names text ≡ false
names_free (Enumeration taken) names text e = none_conditional names (trimmed text) e
names_free (Bits taken) names text e = no_word names (words_of text) e
names_free entry names text e = refl

-- ---- what statements mean
module _ (on : ℕ → List ℕ → Bool) (texts : List Statement) where
  meaning_is : (l : Located) (m : Meaning) → is_none (base_of texts l) ≡ true → Means on texts l m → meaning_of on l ≡ Some m
  meaning_is l m none means = elim (how_means on texts l m means) [
    | inl z ↦ ap (option_and_then (λ one. meant on one l)) z.built ∙ z.is
    | inr z ↦ absurd (let e = none_is (base_of texts l) none in let f = z.base_is in cc)
  ]

  takes_none : (levels : ℕ) (l : Located) (text : List ℕ) → are_free on texts levels l ≡ true → TakesConditional on texts l text → ⊥
  takes_none zero l text e takes = absurd (cc)
  takes_none (suc levels) l text e (listed _ _ h) =
      let none = left_of (is_none (base_of texts l)) (option_map_or (λ m. is_free m && list_all (are_free on texts levels) (members_of m)) (meaning_of on l) true) e in
      let free = at_some (λ m. is_free m && list_all (are_free on texts levels) (members_of m)) (meaning_of on l) h.meaning
      (right_of (is_none (base_of texts l)) (option_map_or (λ m. is_free m && list_all (are_free on texts levels) (members_of m)) (meaning_of on l) true) e)
      (meaning_is l h.meaning none h.means) in
      let none_named = names_free (shape h.meaning) (names_of h.meaning) text
      (is_not (list_any (λ (n : Named). n.conditional) (names_of h.meaning)) (left_of (is_free h.meaning) (list_all (are_free on texts levels) (members_of h.meaning)) free)) in
      absurd (let some = h.conditional in cc)
  takes_none (suc levels) l text e (of_member _ one members _ means among takes) =
      let none = left_of (is_none (base_of texts l)) (option_map_or (λ m. is_free m && list_all (are_free on texts levels) (members_of m)) (meaning_of on l) true) e in
      let free = at_some (λ m. is_free m && list_all (are_free on texts levels) (members_of m)) (meaning_of on l) (OneOf members)
      (right_of (is_none (base_of texts l)) (option_map_or (λ m. is_free m && list_all (are_free on texts levels) (members_of m)) (meaning_of on l) true) e)
      (meaning_is l (OneOf members) none means) in
      takes_none levels one text
      (all_contain (are_free on texts levels) members one (right_of (is_free (OneOf members)) (list_all (are_free on texts levels) members) free) among) takes

  -- ---- a statement that passes the test breaks no rule
  module _ (l : Located) (passes : is_typed on texts l ≡ true) where
    abbrev well : Bool
    well = option_map_or (λ one. is_none_in (own_faults one l.statement)) (built_in l) true

    abbrev apart : Bool
    apart = option_map_or (λ one. not (is_union one) || list_all (is_own on texts) (children l)) (built_in l) true

    abbrev free : Bool
    free = option_map_or (are_free on texts 8) (part_of TypeName l) true

    unbased : is_none (base_of texts l) ≡ true
    unbased = left_of (is_none (base_of texts l)) (well && (apart && free)) passes

    is_well : well ≡ true
    is_well = left_of well (apart && free) (right_of (is_none (base_of texts l)) (well && (apart && free)) passes)

    is_apart : apart ≡ true
    is_apart = left_of apart free (right_of well (apart && free) (right_of (is_none (base_of texts l)) (well && (apart && free)) passes))

    has_free : free ≡ true
    has_free = right_of apart free (right_of well (apart && free) (right_of (is_none (base_of texts l)) (well && (apart && free)) passes))

    breaks_none : (fault : Fault) → Breaks on texts l fault → ⊥
    breaks_none fault (in_itself _ one _ built h) =
        none_in (own_faults one l.statement) fault (at_some (λ one. is_none_in (own_faults one l.statement)) (built_in l) one is_well built) h
    breaks_none fault (over_base _ base n _ is means h) = absurd (let e = none_is (base_of texts l) unbased in cc)

    type_free : (t : Located) → part_of TypeName l ≡ Some t → are_free on texts 8 t ≡ true
    type_free t is = at_some (are_free on texts 8) (part_of TypeName l) t has_free is

    type_unbased : (t : Located) → part_of TypeName l ≡ Some t → base_of texts t ≡ None
    type_unbased t is =
        none_is (base_of texts t)
        (left_of (is_none (base_of texts t)) (option_map_or (λ m. is_free m && list_all (are_free on texts 7) (members_of m)) (meaning_of on t) true) (type_free t is))

    or_right : (a b : Bool) → (not a || b) ≡ true → a ≡ true → b ≡ true
    or_right true b e f = e
    or_right false b e f = absurd (cc)

    member_own : (place : ℕ) (member : Located) → built_in l ≡ Some Union → child place l ≡ Some member → is_own on texts member ≡ true
    member_own place member union is =
        all_at (is_own on texts) (children l) place member
        (or_right true (list_all (is_own on texts) (children l))
        (at_some (λ one. not (is_union one) || list_all (is_own on texts) (children l)) (built_in l) Union is_apart union) refl)
        (child_there l member place is)

    one_kept : (fault : Fault) → BreaksOne on texts l fault → ⊥
    one_kept fault breaks = elim breaks [
      | inl h ↦ breaks_none fault h
      | inr more ↦ elim more [
        | inl h ↦
            let own = member_own h.place h.member h.union h.there in
            let is_none_there = left_of (is_none (base_of texts h.member)) (option_map_or (λ m. not (is_reference (shape m))) (meaning_of on h.member) true) own in
            not_is (is_reference (shape h.refers.meaning))
            (at_some (λ m. not (is_reference (shape m))) (meaning_of on h.member) h.refers.meaning
            (right_of (is_none (base_of texts h.member)) (option_map_or (λ m. not (is_reference (shape m))) (meaning_of on h.member) true) own)
            (meaning_is h.member h.refers.meaning is_none_there h.refers.means)) h.refers.refers
        | inr last ↦ elim last [
          | inl h ↦ takes_none 8 h.of_type _ (type_free h.of_type h.is_type) h.takes
          | inr h ↦ brings_none texts h.of_type h.default (type_unbased h.of_type h.is_type) h.brings
        ]
      ]
    ]

  -- ---- all statements of the texts
  pub keeps_types : (levels : ℕ) → ((text : ℕ) (top : Located) → root texts text ≡ Some top → are_all (is_typed on texts) levels top ≡ true) → KeepsTypes on texts
  keeps_types levels each text fault breaks =
      one_kept breaks.breaks.statement (in_all (is_typed on texts) levels breaks.top breaks.breaks.statement (each text breaks.top breaks.is) breaks.breaks.stands)
      fault breaks.breaks.breaks
