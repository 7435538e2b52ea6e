-- What the entries are of, when all are made.
use Rattle.std.proofs.Common.{◌≡◌, ℕ, suc, Bool, List, [], ◌∷◌, ◌++◌, map, refl, sym, ap, ◌∙◌, subst, arith}
use Rattle.std.specs.Prelude.{Option, Some, None, slice_get, option_and_then, Contains}
use Rattle.std.proofs.lemmas.Option.{slice_get_within, slice_get-get_or}
use Rattle.nc_names.specs.declared.name.QName.{QName}
use Rattle.nc_schema.specs.declared.value_type.ValueType.{ValueType}
use Rattle.nc_schema.specs.declared.value_type.ValueType.TheVariants.{Whole, Decimal, Chars as String, Boolean as Truth, Enumeration as Names, Bits as Set, Binary as Octets, Empty as Nothing, Instance, NodeInstance}
use Rattle.nc_schema.specs.declared.value_type.ValueType.TheVariants.{Union as UnionType, Identity as IdentityType}
use Rattle.nc_schema.specs.declared.value_type.ValueType.TheVariants.{Leafref as LeafrefType}
use Rattle.nc_yang_order.proofs.Lists.{contains_at, get_none}
use Rattle.nc_yang_scopes.proofs.Lists.{get_left}
use Rattle.nc_yang_scopes.specs.Numbers.{AreNumbers}
use Rattle.nc_yang_scopes.specs.Scopes.{Located}
use Rattle.nc_yang_types.specs.declared.planned.Planned.{Planned}
use Rattle.nc_yang_types.specs.declared.planned.Planned.TheVariants.{Bases, Finished, Leafref, Members}
use Rattle.nc_yang_types.specs.Meanings.{DerivedFrom, Entry, Meaning, Means, OneOf, Refers}
use Rattle.nc_yang_types.specs.Plans.{AreMeanings, HasPlan, IsPlan}
use Rattle.nc_yang_types.specs.Wholes.{MeansWhole, members_of, whole}
use Rattle.nc_yang_types.proofs.MeaningLemmas.{means_one}
use Rattle.nc_yang_leafs.specs.declared.table.Table.{Table}
use Rattle.nc_yang_leafs.specs.Bases.{leads}
use Rattle.nc_yang_leafs.specs.Typings.{HasTypes, IsEntry, IsPatterned, none, numbers_of, one_more}
use Rattle.nc_yang_leafs.specs.inner.Firsts.{first_in, plan_for}
use Rattle.nc_yang_leafs.specs.Patterns.{with_numbers}
use Rattle.nc_yang_leafs.specs.inner.Tables.{Fits, IsSettled, Work, number_at, number_of}
use Rattle.nc_yang_leafs.proofs.FirstLemmas.{own_fits, own_of}
use Rattle.nc_yang_leafs.proofs.StepLemmas.{has_plan_at}

module _ (means : Located → Meaning → Type 0) (is : Meaning → ValueType → Type 0) where
  -- types that are added change none that were there
  pub types_kept : (types more : List ValueType) (ls : List Located) (numbers : List ℕ) → HasTypes means is types ls numbers → HasTypes means is (types ++ more) ls numbers
  types_kept types more _ _ none = none
  types_kept types more _ _ (one_more l ls number numbers m entry a at b members rest) =
      one_more l ls number numbers m entry a (get_left types more number (slice_get_within types number entry at) ∙ at) b
      (types_kept types more (members_of m) (numbers_of m entry) members) (types_kept types more ls numbers rest)

  -- a number is of what one means
  pub record IsOne (types : List ValueType) (l : Located) (number : ℕ) : Type 0 where
    pub m : Meaning
    pub entry : ValueType
    pub means_it : means l m
    pub at : slice_get types number ≡ Some entry
    pub is_it : is m entry
    pub members : HasTypes means is types (members_of m) (numbers_of m entry)

  pub one_and : (types : List ValueType) (l : Located) (ls : List Located) (number : ℕ) (numbers : List ℕ) → IsOne types l number → HasTypes means is types ls numbers → HasTypes means is types (l ∷ ls) (number ∷ numbers)
  one_and types l ls number numbers one rest = one_more l ls number numbers one.m one.entry one.means_it one.at one.is_it one.members rest

-- an entry with the numbers of its `pattern` statements
patterned : (located : List Located) (ns : List ℕ) (ps : List Located) (one entry made : ValueType) → one ≡ entry → AreNumbers located ns ps → made ≡ with_numbers ns one → IsPatterned (AreNumbers located) entry ps made
patterned located ns ps one entry made same are is = by entry (is ∙ ap (with_numbers ns) same)
  where
    by : (entry : ValueType) → made ≡ with_numbers ns entry → IsPatterned (AreNumbers located) entry ps made
    by (String lengths starless others) e = (ns, are, e)
    by (Whole among) e = sym e
    by (Decimal digits among) e = sym e
    by Truth e = sym e
    by (Names names) e = sym e
    by (Set names) e = sym e
    by (Octets among) e = sym e
    by Nothing e = sym e
    by (UnionType members) e = sym e
    by (IdentityType among) e = sym e
    by (LeafrefType target above need) e = sym e
    by (Instance need) e = sym e
    by NodeInstance e = sym e

module _ (derived : List Located → List QName → Type 0) (on : ℕ → List ℕ → Bool) (w : Work) (are : AreMeanings on w.scoping w.meanings) (table : Table) (settled : IsSettled derived w table) where
  abbrev pub One : Located → ℕ → Type 0
  One l number = IsOne (Means on w.scoping.texts) (IsEntry derived (AreNumbers w.scoping.located) (leads w.scoping w.given w.node)) table.types l number

  abbrev pub Typed : List Located → List ℕ → Type 0
  Typed ls numbers = HasTypes (Means on w.scoping.texts) (IsEntry derived (AreNumbers w.scoping.located) (leads w.scoping w.given w.node)) table.types ls numbers

  abbrev pub Closes : Located → Type 0
  Closes l = (m plan number : ℕ) → slice_get w.scoping.located m ≡ Some l → plan_for w.meanings.findings w.firsts m ≡ Some plan → number_of w.marks table.known w.node plan ≡ Some number → One l number

  all_close : (numbers : List ℕ) (ls : List Located) (types : List ℕ) → map (slice_get w.scoping.located) numbers ≡ map Some ls → map (number_at w table.known) numbers ≡ map Some types →
      ((l : Located) → Contains ls l → Closes l) → Typed ls types
  all_close [] [] [] a b close = none
  all_close [] [] (t ∷ types) a b close = absurd (cc)
  all_close [] (l ∷ ls) types a b close = absurd (cc)
  all_close (n ∷ numbers) [] types a b close = absurd (cc)
  all_close (n ∷ numbers) (l ∷ ls) [] a b close = absurd (cc)
  all_close (n ∷ numbers) (l ∷ ls) (t ∷ types) a b close =
      one_and (Means on w.scoping.texts) (IsEntry derived (AreNumbers w.scoping.located) (leads w.scoping w.given w.node)) table.types l ls t types (by (plan_for w.meanings.findings w.firsts n) refl (cc))
      (all_close numbers ls types (cc) (cc) (λ other c. close other (later other c)))
    where
      here : slice_get w.scoping.located n ≡ Some l
      here = cc

      later : (other : Located) → Contains ls other → Contains (l ∷ ls) other
      later other c = contains_at (l ∷ ls) (suc c.0) other (slice_get-get_or ls c.0 other c.1 ∙ ap Some c.2)

      by : (o : Option ℕ) → plan_for w.meanings.findings w.firsts n ≡ o → option_and_then (number_of w.marks table.known w.node) o ≡ Some t → One l t
      by None e f = absurd (cc)
      by (Some plan) e f = close l (contains_at (l ∷ ls) 0 l refl) n plan t here e f

  close_plan : (l : Located) (m : Meaning) → Means on w.scoping.texts l m → ((member : Located) → Contains (members_of m) member → Closes member) →
      (own plan given : ℕ) → HasPlan on w.scoping w.meanings.plans l own → first_in w.firsts own ≡ plan → number_of w.marks table.known w.node plan ≡ Some given → One l given
  close_plan l m means members own plan given h first known =
      by h.plan m (subst (IsPlan w.scoping.located h.plan) (means_one on w.scoping.texts l h.meaning m h.means means) h.is) means members
      (own_fits derived w table.known settled.right.firsts own plan h.plan entry.0 first h.there (λ other there. settled.right.fits plan given entry.0 other known entry.1 there))
    where
      entry : (e : ValueType) × (slice_get table.types given ≡ Some e)
      entry = find (slice_get table.types given) refl
        where
          find : (o : Option ValueType) → slice_get table.types given ≡ o → (e : ValueType) × (slice_get table.types given ≡ Some e)
          find (Some e) f = (e, f)
          find None f = absurd (
              let less = slice_get_within table.plans given plan (settled.right.numbered plan given known) in
              let past = get_none table.types given f in
              let made = settled.made in omega (arith, less, past, made))

      by : (planned : Planned) (m : Meaning) → IsPlan w.scoping.located planned m → Means on w.scoping.texts l m → ((member : Located) → Contains (members_of m) member → Closes member) →
          Fits derived w table.known planned entry.0 → One l given
      by (Finished one ns listed) (Entry t ps taken) is means members fits = record { m = Entry t ps taken; entry = entry.0; means_it = means; at = entry.1; is_it = patterned w.scoping.located ns ps one t entry.0 is.0 is.1 fits; members = none }
      by (Members numbers) (OneOf ls) is means members fits = record {
        m = OneOf ls;
        entry = UnionType fits.0;
        means_it = means;
        at = entry.1 ∙ ap Some fits.1;
        is_it = tt;
        members = all_close numbers ls fits.0 is fits.2 members;
      }
      by (Bases bases) (DerivedFrom ls) is means members fits = record { m = DerivedFrom ls; entry = IdentityType fits.0; means_it = means; at = entry.1 ∙ ap Some fits.1; is_it = fits.2 ls is; members = none }
      by (Leafref path need) (Refers l other) is means members fits = record {
        m = Refers l other;
        entry = LeafrefType fits.end.target fits.end.above need;
        means_it = means;
        at = entry.1 ∙ ap Some fits.is;
        is_it = (fits.leads l is.0, is.1);
        members = none;
      }
      by (Finished one ns listed) (OneOf ls) is means members fits = absurd is
      by (Finished one ns listed) (DerivedFrom ls) is means members fits = absurd is
      by (Finished one ns listed) (Refers l other) is means members fits = absurd is
      by (Members numbers) (Entry t ps taken) is means members fits = absurd is
      by (Members numbers) (DerivedFrom ls) is means members fits = absurd is
      by (Members numbers) (Refers l other) is means members fits = absurd is
      by (Bases bases) (Entry t ps taken) is means members fits = absurd is
      by (Bases bases) (OneOf ls) is means members fits = absurd is
      by (Bases bases) (Refers l other) is means members fits = absurd is
      by (Leafref path need) (Entry t ps taken) is means members fits = absurd is
      by (Leafref path need) (OneOf ls) is means members fits = absurd is
      by (Leafref path need) (DerivedFrom ls) is means members fits = absurd is

  pub closes : (l : Located) → MeansWhole on w.scoping.texts l → Closes l
  closes _ (whole l m means rest) number plan given here at known =
      let o = own_of w.meanings.findings w.firsts number plan at in
      close_plan l m means (λ member c. closes member (rest member c)) o.0 plan given (has_plan_at on w.scoping w.meanings are number l o.0 here o.1) o.2 known

  -- so does one whose plan is known
  pub closes_plan : (l : Located) → MeansWhole on w.scoping.texts l → (own plan given : ℕ) → HasPlan on w.scoping w.meanings.plans l own → first_in w.firsts own ≡ plan →
      number_of w.marks table.known w.node plan ≡ Some given → One l given
  closes_plan _ (whole l m means rest) own plan given h first known = close_plan l m means (λ member c. closes member (rest member c)) own plan given h first known
