-- The features that are on by those that are given.
use Rattle.std.proofs.Common.{◌≡◌, ◌<◌, ◌≤◌, ◌==◌, ◌&&◌, ◌||◌, not, ℕ, Bool, true, false, List, [], ◌∷◌, length, refl, sym, ap, subst, ◌∙◌, arith, zero, suc}
use Rattle.std.specs.Prelude.{Option, Some, None, slice_get, option_map}
use Rattle.std.specs.Option.{option_map_or}
use Rattle.std.specs.List.{list_all}
use Rattle.std.specs.Cmp.Lexicographic.{bytes_decides}
use Rattle.std.proofs.lemmas.Bool.{eqb-true}
use Rattle.std.proofs.lemmas.Option.{slice_get_within}
use Rattle.nc_names.proofs.SameLemmas.{first_true, second_true}
use Rattle.nc_names.specs.Same.{is_same_text}
use Rattle.nc_yang_words.specs.declared.statement.Statement.{Statement}
use Rattle.nc_yang_statements.specs.declared.keyword.Keyword.TheVariants.{Feature, IfFeature}
use Rattle.nc_yang_statements.specs.Keywords.{is_same_keyword}
use Rattle.nc_yang_statements.specs.Statements.{kind, name}
use Rattle.nc_yang_scopes.specs.Scopes.{Located, Scoping, resolved}
use Rattle.nc_yang_nodes.specs.FeaturesOn.{is_key}
use Rattle.nc_yang_nodes.specs.Roles.{FeatureTest, children, is_met, is_supported}
use Rattle.nc_yang_nodes.specs.Supported.{AreAmong, AreOn, AreTogether, is_unsupported}
use Rattle.nc_yang_nodes.specs.inner.Narrowing.{IsOff, Keeps, Narrows}
use Rattle.nc_yang_nodes.specs.inner.Tables.{allows}

all_more : {A : Type 0} (p q : A → Bool) → ((x : A) → p x ≡ true → q x ≡ true) → (xs : List A) → list_all p xs ≡ true → list_all q xs ≡ true
all_more p q h [] e = refl
all_more p q h (x ∷ xs) e =
    let one = h x (first_true (p x) (list_all p xs) e) in
    let rest = all_more p q h xs (second_true (p x) (list_all p xs) e) in
    ap (λ b. b && list_all q xs) one ∙ rest

either_more : (a b d : Bool) → (b ≡ true → d ≡ true) → (not a || b) ≡ true → (not a || d) ≡ true
either_more false b d h e = refl
either_more true b d h e = h e

module _ (texts : List Statement) (on other : FeatureTest) (among : AreAmong on other) where
  met_more : (t : Located) → is_met texts on t ≡ true → is_met texts other t ≡ true
  met_more t e = by (resolved texts Feature (name t.statement) t.place) e
    where
      by : (o : Option Located) → option_map_or (λ (f : Located). on f.place.text (name f.statement)) o false ≡ true
          → option_map_or (λ (f : Located). other f.place.text (name f.statement)) o false ≡ true
      by None e' = e'
      by (Some f) e' = among f.place.text (name f.statement) e'

  -- more features leave nothing out that fewer do not
  pub supported_more : (l : Located) → is_supported texts on l ≡ true → is_supported texts other l ≡ true
  supported_more l e =
      all_more (allows texts on) (allows texts other)
      (λ t h. either_more (is_same_keyword IfFeature (kind t.statement)) (is_met texts on t) (is_met texts other t) (met_more t) h) (children l) e

parts : (a b c : Bool) → (a && (b && not c)) ≡ true → (b ≡ true) × (c ≡ false)
parts true true false e = (refl, refl)
parts true true true e = absurd (cc)
parts true false c e = absurd (cc)
parts false b c e = absurd (cc)

met : (a b c : Bool) → a ≡ true → b ≡ true → (a && (b && not c)) ≡ false → c ≡ true
met true true true p q e = refl
met true true false p q e = absurd (cc)
met true false c p q e = absurd (cc)
met false b c p q e = absurd (cc)

first_of : (a b c : Bool) → (a && (b && not c)) ≡ true → a ≡ true
first_of true b c e = refl
first_of false b c e = absurd (cc)

module _ (scoping : Scoping) (on left : FeatureTest) (number : ℕ) (l : Located) (at : slice_get scoping.located number ≡ Some l) (off : is_unsupported scoping.texts on l ≡ true) where
  -- no features that are on together have it
  lost : (other : FeatureTest) → AreTogether scoping other → AreAmong other on → other l.place.text (name l.statement) ≡ true → ⊥
  lost other together among h =
      let k = first_of (is_same_keyword Feature (kind l.statement)) (on l.place.text (name l.statement)) (is_supported scoping.texts on l) off in
      let p = parts (is_same_keyword Feature (kind l.statement)) (on l.place.text (name l.statement)) (is_supported scoping.texts on l) off in
      let s = met (is_same_keyword Feature (kind l.statement)) (other l.place.text (name l.statement)) (is_supported scoping.texts other l) k h (together number l at) in
      let more : is_supported scoping.texts on l ≡ true = supported_more scoping.texts other on among l s in
      let less : is_supported scoping.texts on l ≡ false = p.1 in
      let e : true ≡ false = sym more ∙ less in
      absurd (cc)

  kept_of : (a b : Bool) → (a ≡ true → ⊥) → b ≡ true → (not a && b) ≡ true
  kept_of false b h e = e
  kept_of true b h e = absurd (h refl)

  pub narrows : ((text : ℕ) (word : List ℕ) → left text word ≡ (not (is_key l.place.text (name l.statement) text word) && on text word)) → Narrows scoping on left
  narrows is given keeps = record {
    among = λ text word e. keeps.among text word (second_true (not (is_key l.place.text (name l.statement) text word)) (on text word) (sym (is text word) ∙ e));
    most = λ other among together text word h.
        is text word ∙ kept_of (is_key l.place.text (name l.statement) text word) (on text word)
        (λ same.
        let t : l.place.text ≡ text = eqb-true l.place.text text (first_true (l.place.text == text) (is_same_text (name l.statement) word) same) in
        let w : name l.statement ≡ word = (bytes_decides (name l.statement) word).0 (second_true (l.place.text == text) (is_same_text (name l.statement) word) same) in
        lost other together (keeps.most other among together) (ap (λ z. other z (name l.statement)) t ∙ ap (other text) w ∙ h))
        (keeps.most other among together text word h);
  }

pub narrows_on : (scoping : Scoping) (a b c : FeatureTest) → Narrows scoping a b → Narrows scoping b c → Narrows scoping a c
narrows_on scoping a b c one two given keeps = two given (one given keeps)

pub keeps_given : (scoping : Scoping) (given : FeatureTest) → Keeps scoping given given
keeps_given scoping given = record { among = λ text word e. e; most = λ other among together. among }

pub are_on : (scoping : Scoping) (given on : FeatureTest) → Keeps scoping given on → AreTogether scoping on → AreOn scoping given on
are_on scoping given on keeps together = record { among = keeps.among; together = together; most = keeps.most }

abbrev pub TogetherBelow : Scoping → FeatureTest → ℕ → Type 0
TogetherBelow scoping on count = (number : ℕ) (l : Located) → number < count → slice_get scoping.located number ≡ Some l → is_unsupported scoping.texts on l ≡ false

-- the statement of a number
pub off_at : (scoping : Scoping) (on : FeatureTest) (number : ℕ) (s : Statement) (result : Bool) → Some s ≡ option_map (λ l. l.statement) (slice_get scoping.located number)
    → ((l : Located) → slice_get scoping.located number ≡ Some l → result ≡ is_unsupported scoping.texts on l) → result ≡ true → IsOff scoping on number
off_at scoping on number s result is at h = by (slice_get scoping.located number) refl
  where
    by : (o : Option Located) → slice_get scoping.located number ≡ o → IsOff scoping on number
    by None e = let z : Some s ≡ None = is ∙ ap (option_map (λ (l : Located). l.statement)) e in absurd (cc)
    by (Some l) e = record { definition = l; is = e; off = sym (at l e) ∙ h }

pub none_off : (scoping : Scoping) (on : FeatureTest) (number : ℕ) → None ≡ option_map (λ l. l.statement) (slice_get scoping.located number)
    → (l : Located) → slice_get scoping.located number ≡ Some l → is_unsupported scoping.texts on l ≡ false
none_off scoping on number none l at = let z : None ≡ Some l.statement = none ∙ ap (option_map (λ (l : Located). l.statement)) at in absurd (cc)

pub off_each : (scoping : Scoping) (on : FeatureTest) (number : ℕ) → IsOff scoping on number
    → (l : Located) → slice_get scoping.located number ≡ Some l → is_unsupported scoping.texts on l ≡ true
off_each scoping on number off l at =
    let e : Some off.definition ≡ Some l = sym off.is ∙ at in
    let same : off.definition ≡ l = cc in
    subst (λ z. is_unsupported scoping.texts on z ≡ true) same off.off

-- its feature is on
pub on_there : (scoping : Scoping) (on : FeatureTest) (number text : ℕ) (word : List ℕ) (s : Statement)
    → Some text ≡ option_map (λ l. l.place.text) (slice_get scoping.located number) → Some s ≡ option_map (λ l. l.statement) (slice_get scoping.located number)
    → word ≡ name s → IsOff scoping on number → on text word ≡ true
on_there scoping on number text word s in_text is named off =
    let d = off.definition in
    let t : Some text ≡ Some d.place.text = in_text ∙ ap (option_map (λ (l : Located). l.place.text)) off.is in
    let z : Some s ≡ Some d.statement = is ∙ ap (option_map (λ (l : Located). l.statement)) off.is in
    let same_text : text ≡ d.place.text = cc in
    let same : s ≡ d.statement = cc in
    let here = (parts (is_same_keyword Feature (kind d.statement)) (on d.place.text (name d.statement)) (is_supported scoping.texts on d) off.off).0 in
    ap (λ z. on z word) same_text ∙ ap (on d.place.text) (named ∙ ap name same) ∙ here

pub together_end : (scoping : Scoping) (on : FeatureTest) (count : ℕ) → length scoping.located ≤ count → TogetherBelow scoping on count → AreTogether scoping on
together_end scoping on count past h number l at = h number l (let b = slice_get_within scoping.located number l at in omega (arith, b)) at

pub narrows_at : (scoping : Scoping) (on left : FeatureTest) (number text : ℕ) (word : List ℕ) (s : Statement)
    → Some text ≡ option_map (λ l. l.place.text) (slice_get scoping.located number) → Some s ≡ option_map (λ l. l.statement) (slice_get scoping.located number)
    → word ≡ name s → ((l : Located) → slice_get scoping.located number ≡ Some l → is_unsupported scoping.texts on l ≡ true)
    → ((other : ℕ) (wanted : List ℕ) → left other wanted ≡ (not (is_key text word other wanted) && on other wanted)) → Narrows scoping on left
narrows_at scoping on left number text word s in_text is named off less = by (slice_get scoping.located number) refl
  where
    by : (o : Option Located) → slice_get scoping.located number ≡ o → Narrows scoping on left
    by None e = let z : Some s ≡ None = is ∙ ap (option_map (λ (l : Located). l.statement)) e in absurd (cc)
    by (Some l) e =
        let t : Some text ≡ Some l.place.text = in_text ∙ ap (option_map (λ (l : Located). l.place.text)) e in
        let z : Some s ≡ Some l.statement = is ∙ ap (option_map (λ (l : Located). l.statement)) e in
        let same : text ≡ l.place.text = cc in
        let same_s : s ≡ l.statement = cc in
        let same_word : word ≡ name l.statement = named ∙ ap name same_s in
        narrows scoping on left number l e (off l e) (λ other wanted.
        less other wanted
        ∙ ap (λ z. not (is_key z word other wanted) && on other wanted) same
        ∙ ap (λ z. not (is_key l.place.text z other wanted) && on other wanted) same_word)

pub keeps_on : (scoping : Scoping) (given on left : FeatureTest) → Keeps scoping given on → Narrows scoping on left → Keeps scoping given left
keeps_on scoping given on left keeps narrows = narrows given keeps
