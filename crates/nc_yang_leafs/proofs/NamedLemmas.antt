-- The identities that `base` statements name.
use Rattle.std.proofs.Common.{inl, inr, ◌≡◌, ◌<◌, ◌≤◌, ◌+◌, ℕ, List, length, get_or, refl, sym, ap, ◌∙◌, subst, arith}
use Rattle.std.specs.Prelude.{Option, Some, None, IfSome, slice_get, option_map, option_and_then}
use Rattle.std.proofs.lemmas.Bool.{cases_eq}
use Rattle.std.proofs.lemmas.Option.{slice_get_within, slice_get-get_or}
use Rattle.nc_yang_words.specs.declared.statement.Statement.{Statement}
use Rattle.nc_yang_statements.specs.declared.keyword.Keyword.TheVariants.{Identity}
use Rattle.nc_yang_statements.specs.Statements.{name}
use Rattle.nc_yang_order.proofs.Lists.{get_none}
use Rattle.nc_yang_scopes.specs.Scopes.{Located, Scoping, resolved}
use Rattle.nc_yang_leafs.specs.Named.{NameOne, NameSame, NamesAt}

-- what the name of a `base` statement leads to is its identity
pub names_at : (scoping : Scoping) (base : ℕ) (s : Statement) (word : List ℕ) → Some s ≡ option_map (λ (l : Located). l.statement) (slice_get scoping.located base) → word ≡ name s → (result : Option ℕ) →
    option_and_then (slice_get scoping.located) result ≡ option_and_then (λ (l : Located). resolved scoping.texts Identity word l.place) (slice_get scoping.located base) →
    IfSome result (λ number. number < length scoping.located) → IfSome result (NamesAt scoping base)
names_at scoping base s word s_is word_is None value there = tt
names_at scoping base s word s_is word_is (Some number) value there = by (slice_get scoping.located base) refl s_is value
  where
    by : (o : Option Located) → slice_get scoping.located base ≡ o → Some s ≡ option_map (λ (l : Located). l.statement) o →
        slice_get scoping.located number ≡ option_and_then (λ (l : Located). resolved scoping.texts Identity word l.place) o → NamesAt scoping base number
    by None e f g = absurd (cc)
    by (Some l) e f g = found (slice_get scoping.located number) refl
      where
        found : (o : Option Located) → slice_get scoping.located number ≡ o → NamesAt scoping base number
        found None h = absurd (let past = get_none scoping.located number h in omega (arith, there, past))
        found (Some identity) h =
            let same : s ≡ l.statement = cc in
            record {
              statement = l;
              is = e;
              identity = identity;
              there = h;
              named = ap (λ z. resolved scoping.texts Identity z l.place) (sym (word_is ∙ ap name same)) ∙ sym g ∙ h;
            }

-- two that name the statement of one number
pub one_named : (scoping : Scoping) (base other one two : ℕ) → NamesAt scoping base one → NamesAt scoping other two → one ≡ two → NameOne scoping base other
one_named scoping base other one two first second same = record { number = one; first = first; second = subst (NamesAt scoping other) (sym same) second }

-- so it is with the first ones
abbrev pub NameFirst : Scoping → (bases others : List ℕ) → (count : ℕ) → Type 0
NameFirst scoping bases others count =
    (place base other : ℕ) → place < count → slice_get bases place ≡ Some base → slice_get others place ≡ Some other → NameOne scoping base other

pub first_more : (scoping : Scoping) (bases others : List ℕ) (count base other : ℕ) → NameFirst scoping bases others count → count < length bases → base ≡ get_or bases count 0 → count < length others → other ≡ get_or others count other →
    NameOne scoping base other → NameFirst scoping bases others (count + 1)
first_more scoping bases others count base other so_far less base_is there_less other_is one = λ place b o within at there. elim (cases_eq place count) [
  | inl now ↦
      let here : slice_get bases count ≡ Some b = subst (λ z. slice_get bases z ≡ Some b) now at in
      let same : base ≡ b = (let e = slice_get-get_or bases count 0 less in cc) in
      let next : slice_get others count ≡ Some o = subst (λ z. slice_get others z ≡ Some o) now there in
      let same_other : other ≡ o = (let e = slice_get-get_or others count other there_less in cc) in
      subst (λ z. NameOne scoping z o) same (subst (NameOne scoping base) same_other one)
  | inr apart ↦ so_far place b o (omega (arith, within, apart)) at there
]

pub first_all : (scoping : Scoping) (bases others : List ℕ) (count : ℕ) → length bases ≡ length others → length bases ≤ count → NameFirst scoping bases others count → NameSame scoping bases others
first_all scoping bases others count counted past so_far = record {
  counted = counted;
  each = λ place base other at there. so_far place base other (let l = slice_get_within bases place base at in omega (arith, l, past)) at there;
}
