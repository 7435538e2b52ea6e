-- Whether a typedef is judged by its default, and the typedefs of all modules by their numbers.
use Rattle.std.proofs.Common.{◌≡◌, ◌<◌, ℕ, Bool, true, false, List, [], refl, sym, ap, subst, ◌∙◌, arith}
use Rattle.std.specs.Prelude.{not, Option, Some, None, Result, Ok, Err, IfOk, IsSomeAnd, length, slice_get, option_map}
use Rattle.std.specs.Option.{option_map_or}
use Rattle.nc_names.specs.declared.memory.Memory.{Memory}
use Rattle.nc_yang_words.specs.declared.statement.Statement.{Statement}
use Rattle.nc_yang_statements.specs.declared.keyword.Keyword.TheVariants.{Default, TypeName}
use Rattle.nc_yang_statements.specs.Statements.{below, has}
use Rattle.nc_yang_scopes.specs.Numbers.{AreNumbers, IsNumber}
use Rattle.nc_yang_scopes.specs.Parts.{part_of}
use Rattle.nc_yang_scopes.specs.Scopes.{Located, Scoping, root}
use Rattle.nc_yang_scopes.proofs.Lists.{past_end}
use Rattle.nc_yang_nodes.specs.inner.Marks.{Tells}
use Rattle.nc_yang_types.specs.Faults.{is_reference}
use Rattle.nc_yang_types.specs.Meanings.{DerivedFrom, Entry, Meaning, Means, OneOf, Refers}
use Rattle.nc_yang_types.specs.Plans.{AreMeanings, IsFinding, IsPlan}
use Rattle.nc_yang_types.specs.declared.planned.Finding.{Finding}
use Rattle.nc_yang_types.specs.declared.planned.Finding.TheVariants.{Broken, Nothing, Plan}
use Rattle.nc_yang_types.specs.declared.planned.Meanings.{Meanings}
use Rattle.nc_yang_types.specs.declared.planned.Planned.{Planned}
use Rattle.nc_yang_types.specs.declared.planned.Planned.TheVariants.{Bases, Finished, Leafref, Members}
use Rattle.nc_yang_types.proofs.MeaningLemmas.{means_one}
use Rattle.nc_yang.specs.Typedefs.{HasPlainType, IsJudged, is_plain, typedefs_in, typedefs_within}
use Rattle.nc_yang.specs.inner.Judged.{AddsTypedefs, has_default, is_plain_plan, means_plain, plain_by}

-- ---- the typedefs of the module of a text
pub typedefs_there : (scoping : Scoping) (text n : ℕ) → text < length scoping.texts → slice_get scoping.located n ≡ root scoping.texts text → (r : Result (List ℕ) Memory) →
    IfOk r (AddsTypedefs scoping 64 n []) → IfOk r (λ it. AreNumbers scoping.located it (typedefs_in scoping.texts text))
typedefs_there scoping text n within at (Err e) h = tt
typedefs_there scoping text n within at (Ok it) h = by (slice_get scoping.texts text) refl
  where
    by : (o : Option Statement) → slice_get scoping.texts text ≡ o → AreNumbers scoping.located it (typedefs_in scoping.texts text)
    by None e = absurd (let past = past_end scoping.texts text e in omega arith)
    by (Some s) e =
        let there : root scoping.texts text ≡ Some (record { statement = s; place = record { text = text; blocks = [] } }) = ap (option_map (λ z. record { statement = z; place = record { text = text; blocks = [] } })) e in
        let a = h (record { statement = s; place = record { text = text; blocks = [] } }) (at ∙ there) in
        subst (λ o. AreNumbers scoping.located it (option_map_or (typedefs_within 64) o [])) (sym there)
        (subst (λ ns. AreNumbers scoping.located ns (typedefs_within 64 (record { statement = s; place = record { text = text; blocks = [] } }))) (sym a.1) a.2)

-- ---- a type whose values do not refer to other data
abbrev plain_plan : Option Planned → Bool
plain_plan o = option_map_or is_plain_plan o false

same_plain : (located : List Located) (planned : Planned) (m : Meaning) → IsPlan located planned m → is_plain_plan planned ≡ is_plain m
same_plain located (Finished entry ns names) (Entry other ps others) is = ap (λ e. not (is_reference e)) is.0
same_plain located (Finished entry ns names) (OneOf ls) is = absurd is
same_plain located (Finished entry ns names) (DerivedFrom ls) is = absurd is
same_plain located (Finished entry ns names) (Refers path need) is = absurd is
same_plain located (Members ns) (Entry other ps others) is = absurd is
same_plain located (Members ns) (OneOf ls) is = refl
same_plain located (Members ns) (DerivedFrom ls) is = absurd is
same_plain located (Members ns) (Refers path need) is = absurd is
same_plain located (Bases ns) (Entry other ps others) is = absurd is
same_plain located (Bases ns) (OneOf ls) is = absurd is
same_plain located (Bases ns) (DerivedFrom ls) is = refl
same_plain located (Bases ns) (Refers path need) is = absurd is
same_plain located (Leafref n b) (Entry other ps others) is = absurd is
same_plain located (Leafref n b) (OneOf ls) is = absurd is
same_plain located (Leafref n b) (DerivedFrom ls) is = absurd is
same_plain located (Leafref n b) (Refers path need) is = refl

module _ (scoping : Scoping) (meanings : Meanings) (on : ℕ → List ℕ → Bool) (are : AreMeanings on scoping meanings) (k : ℕ) (c : Located) (at : slice_get scoping.located k ≡ Some c) where
  plain_yes : means_plain meanings k ≡ true → (m : Meaning) × Means on scoping.texts c m × (is_plain m ≡ true)
  plain_yes e = by (slice_get meanings.findings k) (are k c at) e
    where
      by : (o : Option Finding) → IsSomeAnd o (IsFinding on scoping meanings.plans c) → plain_by meanings.plans o ≡ true → (m : Meaning) × Means on scoping.texts c m × (is_plain m ≡ true)
      by None h f = absurd h
      by (Some Nothing) h f = absurd (cc)
      by (Some (Broken fault)) h f = absurd (cc)
      by (Some (Plan place)) h f =
          (h.meaning, h.means, sym (same_plain scoping.located h.plan h.meaning h.is) ∙ sym (ap plain_plan h.there) ∙ f)

  plain_no : means_plain meanings k ≡ false → (m : Meaning) → Means on scoping.texts c m → is_plain m ≡ true → ⊥
  plain_no e = by (slice_get meanings.findings k) (are k c at) e
    where
      by : (o : Option Finding) → IsSomeAnd o (IsFinding on scoping meanings.plans c) → plain_by meanings.plans o ≡ false → (m : Meaning) → Means on scoping.texts c m → is_plain m ≡ true → ⊥
      by None h f m means r = absurd h
      by (Some Nothing) h f m means r = h.1 m means
      by (Some (Broken fault)) h f m means r = h.1 m means
      by (Some (Plan place)) h f m means r =
          let none : is_plain_plan h.plan ≡ false = sym (ap plain_plan h.there) ∙ f in
          let one : h.meaning ≡ m = means_one on scoping.texts c h.meaning m h.means means in
          let here : is_plain h.meaning ≡ false = sym (same_plain scoping.located h.plan h.meaning h.is) ∙ none in
          let there : is_plain h.meaning ≡ true = subst (λ z. is_plain z ≡ true) (sym one) r in
          cc (here, there)

module _ (scoping : Scoping) (meanings : Meanings) (on : ℕ → List ℕ → Bool) (are : AreMeanings on scoping meanings) (l : Located) where
  type_there : (k : ℕ) → IsNumber scoping.located (Some k) (part_of TypeName l) → (c : Located) × (part_of TypeName l ≡ Some c) × (slice_get scoping.located k ≡ Some c)
  type_there k typed = by (part_of TypeName l) refl typed
    where
      by : (o : Option Located) → part_of TypeName l ≡ o → Some (slice_get scoping.located k) ≡ option_map Some o → (c : Located) × (part_of TypeName l ≡ Some c) × (slice_get scoping.located k ≡ Some c)
      by None is e = absurd (cc)
      by (Some c) is e = (c, is, (let f : slice_get scoping.located k ≡ Some c = cc in f))

  pub plain_part : (k : ℕ) (b : Bool) → b ≡ means_plain meanings k → IsNumber scoping.located (Some k) (part_of TypeName l) → Tells b (HasPlainType on scoping.texts l)
  plain_part k b is typed = by b is
    where
      by : (b : Bool) → b ≡ means_plain meanings k → Tells b (HasPlainType on scoping.texts l)
      by true e =
          let c = type_there k typed in
          let m = plain_yes scoping meanings on are k c.0 c.2 (sym e) in
          record { of_type = c.0; is_type = c.1; meaning = m.0; means = m.1; plain = m.2 }
      by false e = λ h.
          let c = type_there k typed in
          let both : Some h.of_type ≡ Some c.0 = sym h.is_type ∙ c.1 in
          let same : h.of_type ≡ c.0 = cc in
          plain_no scoping meanings on are k c.0 c.2 (sym e) h.meaning (subst (λ z. Means on scoping.texts z h.meaning) same h.means) h.plain

  pub no_part : IsNumber scoping.located None (part_of TypeName l) → HasPlainType on scoping.texts l → ⊥
  no_part typed h = let e : None ≡ Some (Some h.of_type) = typed ∙ ap (option_map Some) h.is_type in cc

-- ---- a default and such a type
abbrev default_in : Option Located → Bool
default_in o = option_map_or (λ (l : Located). has Default (below l.statement)) o false

module _ (scoping : Scoping) (n : ℕ) (on : ℕ → List ℕ → Bool) (l : Located) (here : slice_get scoping.located n ≡ Some l) where
  default_is : has_default scoping n ≡ has Default (below l.statement)
  default_is = ap default_in here

  pub judged_not : has_default scoping n ≡ false → IsJudged on scoping.texts l → ⊥
  judged_not none j = let e : has Default (below l.statement) ≡ false = sym default_is ∙ none in let f = j.default in cc (e, f)

  pub judged_tells : has_default scoping n ≡ true → (b : Bool) → Tells b (HasPlainType on scoping.texts l) → Tells b (IsJudged on scoping.texts l)
  judged_tells there true p = record { default = sym default_is ∙ there; of_type = p }
  judged_tells there false p = λ j. p j.of_type
