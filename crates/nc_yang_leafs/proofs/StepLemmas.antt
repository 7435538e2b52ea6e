-- Entries that are added, one after another.
use Rattle.std.proofs.Common.{inl, inr, ◌≡◌, ◌<◌, ◌≤◌, ◌+◌, ◌-◌, ℕ, zero, suc, Bool, List, [], ◌∷◌, ◌++◌, length, map, refl, sym, ap, ◌∙◌, subst, arith, append_assoc}
use Rattle.std.specs.Prelude.{Option, Some, None, slice_get, IsSomeAnd, option_and_then, Contains}
use Rattle.std.proofs.lemmas.Bool.{cases_eq}
use Rattle.std.proofs.lemmas.List.{append-nil, length-append}
use Rattle.std.proofs.lemmas.Option.{slice_get_within, slice_get-get_or}
use Rattle.nc_names.specs.declared.name.QName.{QName}
use Rattle.nc_schema.specs.declared.value_type.ValueType.{ValueType}
use Rattle.nc_yang_order.proofs.Lists.{contains_at, contains_none, get_none}
use Rattle.nc_yang_scopes.proofs.Lists.{get_left, get_right}
use Rattle.nc_yang_words.specs.declared.statement.Statement.{Statement}
use Rattle.nc_yang_scopes.specs.declared.naming.TextFault.{TextFault}
use Rattle.nc_yang_scopes.specs.Scopes.{Located, Scoping}
use Rattle.nc_yang_types.specs.declared.planned.Finding.{Finding}
use Rattle.nc_yang_types.specs.declared.planned.Finding.TheVariants.{Broken as BrokenFinding, Nothing, Plan}
use Rattle.nc_yang_types.specs.declared.planned.Meanings.{Meanings}
use Rattle.nc_yang_types.specs.declared.planned.Planned.{Planned}
use Rattle.nc_yang_types.specs.declared.planned.Planned.TheVariants.{Bases, Finished, Leafref, Members}
use Rattle.nc_yang_types.specs.Meanings.{DerivedFrom, Entry, Meaning, Means, OneOf, Refers}
use Rattle.nc_yang_types.specs.Plans.{AreMeanings, HasPlan, IsFinding, IsPlan}
use Rattle.nc_yang_types.specs.Wholes.{MeansWhole, UsesPath, itself, member, members_of, whole}
use Rattle.nc_yang_leafs.specs.declared.table.Slot.{Slot}
use Rattle.nc_yang_leafs.specs.declared.table.Table.{Table}
use Rattle.nc_yang_statements.specs.declared.stop.Stop.{Stop}
use Rattle.nc_yang_statements.specs.declared.stop.Stop.TheVariants.{Broken, Memory}
use Rattle.nc_yang_statements.specs.Stops.{OnBroken}
use Rattle.nc_yang_leafs.specs.Typings.{IsAmong, itself as among_itself, member as among_member}
use Rattle.nc_yang_leafs.specs.Marks.{plan_at, plan_in}
use Rattle.nc_yang_leafs.specs.inner.Firsts.{AreFirsts, plan_for}
use Rattle.nc_yang_leafs.specs.inner.Tables.{Adds, Enters, Fills, Fits, Goes, IsAtStart, IsOnWay, IsUsed, LosesPath, LosesPlan, Work, members_in, number_of, slot_at}
use Rattle.nc_yang_types.proofs.MeaningLemmas.{means_one}
use Rattle.nc_yang_leafs.proofs.AskLemmas.{Kept, map_kept}
use Rattle.nc_yang_leafs.proofs.FirstLemmas.{own_of, own_or_bases}

-- the plan of a `type` statement by its number
pub has_plan_at : (on : ℕ → List ℕ → Bool) (scoping : Scoping) (meanings : Meanings) → AreMeanings on scoping meanings → (m : ℕ) (l : Located) (plan : ℕ) → slice_get scoping.located m ≡ Some l →
    plan_at meanings.findings m ≡ Some plan → HasPlan on scoping meanings.plans l plan
has_plan_at on scoping meanings are m l plan here at = by (slice_get meanings.findings m) (are m l here) at
  where
    by : (o : Option Finding) → IsSomeAnd o (IsFinding on scoping meanings.plans l) → option_and_then plan_in o ≡ Some plan → HasPlan on scoping meanings.plans l plan
    by None h e = absurd h
    by (Some (Plan number)) h e = let same : number ≡ plan = cc in subst (HasPlan on scoping meanings.plans l) same h
    by (Some (BrokenFinding fault)) h e = absurd (cc)
    by (Some Nothing) h e = absurd (cc)

-- one of several statements, by their numbers
pub number_in_place : (f : ℕ → Option Located) (numbers : List ℕ) (ls : List Located) → map f numbers ≡ map Some ls → (place number : ℕ) → slice_get numbers place ≡ Some number →
    (l : Located) × (slice_get ls place ≡ Some l) × (f number ≡ Some l)
number_in_place f [] ls e place number at = absurd (cc)
number_in_place f (n ∷ numbers) [] e place number at = absurd (cc)
number_in_place f (n ∷ numbers) (l ∷ ls) e zero number at = let head : f n ≡ Some l = cc in let same : n ≡ number = cc in (l, refl, subst (λ z. f z ≡ Some l) same head)
number_in_place f (n ∷ numbers) (l ∷ ls) e (suc place) number at = number_in_place f numbers ls (cc) place number at

-- the members of a type that means something with all its members do so
member_whole : (on : ℕ → List ℕ → Bool) (texts : List Statement) (l : Located) (ls : List Located) → Means on texts l (OneOf ls) → MeansWhole on texts l →
    (one : Located) → Contains ls one → MeansWhole on texts one
member_whole on texts _ ls means (whole l m other rest) one c =
    rest one (subst (λ z. Contains (members_of z) one) (means_one on texts l (OneOf ls) m means other) c)

pub among_whole : (on : ℕ → List ℕ → Bool) (texts : List Statement) (top l : Located) → MeansWhole on texts top → IsAmong on texts top l → MeansWhole on texts l
among_whole on texts top _ w among_itself = w
among_whole on texts top _ w (among_member one l members a means c) = member_whole on texts one members means (among_whole on texts top one w a) l c

-- the path of one is a path of the whole
among_path : (on : ℕ → List ℕ → Bool) (texts : List Statement) (top l path : Located) → IsAmong on texts top l → UsesPath on texts l path → UsesPath on texts top path
among_path on texts top _ path among_itself uses = uses
among_path on texts top _ path (among_member one l members a means c) uses = among_path on texts top one path a (member one path l members means c uses)

module _ (on : ℕ → List ℕ → Bool) (w : Work) (are : AreMeanings on w.scoping w.meanings) (top : Located) where
  -- a member of a union that is used is used
  member_used : (statement : Located) (planned : Planned) (meaning : Meaning) → IsPlan w.scoping.located planned meaning → Means on w.scoping.texts statement meaning →
      IsAmong on w.scoping.texts top statement → (m q : ℕ) → Contains (members_in planned) m → plan_for w.meanings.findings w.firsts m ≡ Some q → IsUsed on w top q
  member_used statement (Finished entry ns listed) meaning is means among m q c at = absurd (contains_none m c)
  member_used statement (Bases bases) meaning is means among m q c at = absurd (contains_none m c)
  member_used statement (Leafref path need) meaning is means among m q c at = absurd (contains_none m c)
  member_used statement (Members members) (Entry entry ps taken) is means among m q c at = absurd is
  member_used statement (Members members) (DerivedFrom bases) is means among m q c at = absurd is
  member_used statement (Members members) (Refers path need) is means among m q c at = absurd is
  member_used statement (Members members) (OneOf ls) is means among m q c at =
      let found = number_in_place (slice_get w.scoping.located) members ls is c.0 m (slice_get-get_or members c.0 m c.1 ∙ ap Some c.2) in
      let o = own_of w.meanings.findings w.firsts m q at in
      record {
        statement = found.0;
        own = o.0;
        has = has_plan_at on w.scoping w.meanings are m found.0 o.0 found.2 o.1;
        first = o.2;
        among = among_member statement found.0 ls among means (contains_at ls c.0 found.0 found.1);
      }

  module _ (derived : List Located → List QName → Type 0) (firsts : AreFirsts derived w.scoping.located w.meanings.plans w.marks w.firsts) where
    pub used_member : (plan : ℕ) (planned : Planned) → IsUsed on w top plan → slice_get w.meanings.plans plan ≡ Some planned → (m q : ℕ) → Contains (members_in planned) m → plan_for w.meanings.findings w.firsts m ≡ Some q → IsUsed on w top q
    used_member plan planned u there m q c at = elim (own_or_bases derived w.scoping.located w.meanings.plans w.marks w.firsts firsts u.own plan planned u.first there) [
      | inl here ↦
          let same : u.has.plan ≡ planned = (let e = u.has.there in cc) in
          member_used u.statement planned u.has.meaning (subst (λ z. IsPlan w.scoping.located z u.has.meaning) same u.has.is) u.has.means u.among m q c at
      | inr (bases, is) ↦ absurd (contains_none m (subst (λ z. Contains (members_in z) m) is c))
    ]

    -- a leafref that is used and leads nowhere
    pub used_lost : (plan : ℕ) (fault : TextFault) → IsUsed on w top plan → LosesPlan w plan fault → LosesPath on w top fault
    used_lost plan fault u loses = elim (own_or_bases derived w.scoping.located w.meanings.plans w.marks w.firsts firsts u.own plan loses.planned u.first loses.there) [
      | inl here ↦
          let same : u.has.plan ≡ Leafref loses.lost.path loses.lost.need = (let e = u.has.there in let g = loses.lost.is in cc) in
          by u.has.meaning (subst (λ z. IsPlan w.scoping.located z u.has.meaning) same u.has.is) u.has.means
      | inr (bases, is) ↦ absurd (let g = loses.lost.is in let e : Leafref loses.lost.path loses.lost.need ≡ Bases bases = sym g ∙ is in cc)
    ]
      where
        by : (meaning : Meaning) → IsPlan w.scoping.located (Leafref loses.lost.path loses.lost.need) meaning → Means on w.scoping.texts u.statement meaning → LosesPath on w top fault
        by (Entry entry ps taken) is means = absurd is
        by (OneOf members) is means = absurd is
        by (DerivedFrom bases) is means = absurd is
        by (Refers path need) is means = record {
          path = path;
          uses = among_path on w.scoping.texts top u.statement path u.among (itself u.statement path need means);
          lost = loses.lost.lost.nowhere path is.0;
          at = loses.lost.lost.at path is.0;
        }

module _ (derived : List Located → List QName → Type 0) (w : Work) where
  pub fits_kept : (old new : List (Option Slot)) → Kept w old new → (planned : Planned) (entry : ValueType) → Fits derived w old planned entry → Fits derived w new planned entry
  fits_kept old new kept (Finished entry ns listed) other h = h
  fits_kept old new kept (Bases bases) other h = h
  fits_kept old new kept (Leafref path need) other h = h
  fits_kept old new kept (Members members) other h = (h.0, h.1, map_kept w old new kept members h.0 h.2)

  module _ (on : ℕ → List ℕ → Bool) (are : AreMeanings on w.scoping w.meanings) (top : Located) (plan : ℕ) (start : ℕ) (old between : Table) (way : IsOnWay derived on w top start old)
      (next : slice_get old.plans (length old.types) ≡ Some plan) (planned : Planned) (there : slice_get w.meanings.plans plan ≡ Some planned) (entry : ValueType) (enters : Enters derived w planned old between entry) where
    new_plans : (n q : ℕ) → slice_get old.plans n ≡ Some q → slice_get between.plans n ≡ Some q
    new_plans n q e = ap (λ z. slice_get z n) enters.asked.plans ∙ get_left old.plans enters.asked.more n (slice_get_within old.plans n q e) ∙ e

    numbered : (q n : ℕ) → number_of w.marks between.known w.node q ≡ Some n → slice_get between.plans n ≡ Some q
    numbered q n e = elim (enters.asked.fresh q n e) [ inl earlier ↦ new_plans n q (way.right.numbered q n earlier) | inr (le, at) ↦ at ]

    counted : length (between.types ++ entry ∷ []) ≡ length old.types + 1
    counted = length-append between.types (entry ∷ []) ∙ ap (λ z. length z + 1) enters.asked.types

    fits : (q n : ℕ) (e : ValueType) (p : Planned) → number_of w.marks between.known w.node q ≡ Some n → slice_get (between.types ++ entry ∷ []) n ≡ Some e → slice_get w.meanings.plans q ≡ Some p →
        Fits derived w between.known p e
    fits q n e p number at is = elim (cases_eq n (length old.types)) [
      | inl now ↦
          let here : slice_get (between.types ++ entry ∷ []) n ≡ Some entry =
          (let z : n ≡ length old.types + 0 = omega (arith, now) in ap (slice_get (between.types ++ entry ∷ [])) z ∙ get_right between.types (entry ∷ []) (length old.types) 0 (ap length enters.asked.types)) in
          let same_entry : entry ≡ e = cc in
          let first : slice_get between.plans n ≡ Some plan = new_plans n plan (ap (slice_get old.plans) now ∙ next) in
          let second : slice_get between.plans n ≡ Some q = numbered q n number in
          let same_plan : plan ≡ q = cc in
          let found : slice_get w.meanings.plans q ≡ Some planned = subst (λ z. slice_get w.meanings.plans z ≡ Some planned) same_plan there in
          let same : planned ≡ p = cc in
          subst (λ z. Fits derived w between.known p z) same_entry (subst (λ z. Fits derived w between.known z entry) same enters.fits)
      | inr apart ↦
          let less : n < length old.types = (let l = slice_get_within (between.types ++ entry ∷ []) n e at in let c = counted in omega (arith, apart)) in
          let before : slice_get old.types n ≡ Some e = ap (λ z. slice_get z n) (sym enters.asked.types) ∙ sym (get_left between.types (entry ∷ []) n (let t = ap length enters.asked.types in omega (arith, less, t))) ∙ at in
          elim (enters.asked.fresh q n number) [
            | inl earlier ↦ fits_kept old.known between.known enters.asked.kept p e (way.right.fits q n e p earlier before is)
            | inr (le, there) ↦ absurd (let l = slice_get_within old.plans (length old.types) plan next in omega (arith, l, le, less))
          ]
    ]

    stamped : (q : ℕ) (slot : Slot) → slot_at between.known q ≡ Some slot → slot.node ≤ w.node
    stamped q slot e = elim (enters.asked.stamped q slot e) [ inl earlier ↦ way.right.stamped q slot earlier | inr now ↦ (omega (arith, now)) ]

    used : (q n : ℕ) → start ≤ n → slice_get between.plans n ≡ Some q → IsUsed on w top q
    used q n le at = by (slice_get old.plans n) refl
      where
        by : (o : Option ℕ) → slice_get old.plans n ≡ o → IsUsed on w top q
        by (Some other) e =
            let z : slice_get between.plans n ≡ Some other = new_plans n other e in
            let same : other ≡ q = cc in
            way.used q n le (e ∙ ap Some same)
        by None e =
            let past : length old.plans ≤ n = get_none old.plans n e in
            let split : n ≡ length old.plans + (n - length old.plans) = omega (arith, past) in
            let z : slice_get enters.asked.more (n - length old.plans) ≡ Some q =
            sym (get_right old.plans enters.asked.more (length old.plans) (n - length old.plans) refl) ∙ ap (slice_get (old.plans ++ enters.asked.more)) (sym split) ∙ ap (λ y. slice_get y n) (sym enters.asked.plans) ∙ at in
            let f = enters.asked.from q (contains_at enters.asked.more (n - length old.plans) q z) in
            used_member on w are top derived way.right.firsts plan planned (way.used plan (length old.types) way.past next) there f.0 q f.1 f.2

    given : (q n : ℕ) → start ≤ n → slice_get between.plans n ≡ Some q → number_of w.marks between.known w.node q ≡ Some n
    given q n le at = by (slice_get old.plans n) refl
      where
        by : (o : Option ℕ) → slice_get old.plans n ≡ o → number_of w.marks between.known w.node q ≡ Some n
        by (Some other) e =
            let z : slice_get between.plans n ≡ Some other = new_plans n other e in
            let same : other ≡ q = cc in
            enters.asked.kept q n (way.given q n le (e ∙ ap Some same))
        by None e = enters.asked.given q n (get_none old.plans n e) at

    past : start ≤ length (between.types ++ entry ∷ [])
    past = let c = counted in let p = way.past in omega (arith, c, p)

    few : length (between.types ++ entry ∷ []) ≤ length between.plans
    few = let c = counted in
        let l = slice_get_within old.plans (length old.types) plan next in
        let e : length between.plans ≡ length old.plans + length enters.asked.more = ap length enters.asked.plans ∙ length-append old.plans enters.asked.more in
        omega (arith, c, l, e)

    pub entered : IsOnWay derived on w top start (record between { types = between.types ++ entry ∷ [] })
    entered = record { right = record { numbered = numbered; fits = fits; stamped = stamped; firsts = way.right.firsts }; used = used; given = given; past = past; few = few }

  pub step_on : (on : ℕ → List ℕ → Bool) → AreMeanings on w.scoping w.meanings → (top : Located) (plan : ℕ) (old mid new : Table) → Goes derived on w top old mid →
      slice_get mid.plans (length mid.types) ≡ Some plan → Adds derived w plan mid new → Goes derived on w top old new
  step_on on are top plan old mid new so_far next adds = subst (Goes derived on w top old) (sym adds.is) (record {
    adds = (
      so_far.adds.0 ++ adds.entry ∷ [],
      ap (λ z. z ++ adds.entry ∷ []) (adds.enters.asked.types ∙ so_far.adds.1) ∙ append_assoc old.types so_far.adds.0 (adds.entry ∷ []),
    );
    kept = λ q n e. adds.enters.asked.kept q n (so_far.kept q n e);
    on_way = entered on are top plan (length old.types) mid adds.between so_far.on_way next adds.planned adds.there adds.entry adds.enters;
  })

  pub goes_none : (on : ℕ → List ℕ → Bool) (top : Located) (old : Table) → IsAtStart derived on w top old → Goes derived on w top old old
  goes_none on top old way = record { adds = ([], sym (append-nil old.types)); kept = λ plan number e. e; on_way = way }

  -- a leafref that leads nowhere, as far as entries were added
  pub lost_on : (plan : ℕ) (old cur : Table) (stop : Stop TextFault) → slice_get cur.plans (length cur.types) ≡ Some plan →
      ((on : ℕ → List ℕ → Bool) → AreMeanings on w.scoping w.meanings → (top : Located) → IsAtStart derived on w top old → Goes derived on w top old cur) →
      OnBroken (LosesPlan w plan) stop →
      OnBroken (λ (fault : TextFault). (on : ℕ → List ℕ → Bool) → AreMeanings on w.scoping w.meanings → (top : Located) → IsAtStart derived on w top old → LosesPath on w top fault) stop
  lost_on plan old cur Memory next goes h = tt
  lost_on plan old cur (Broken fault) next goes h = λ on are top way.
      let g = goes on are top way in
      used_lost on w are top derived g.on_way.right.firsts plan fault (g.on_way.used plan (length cur.types) g.on_way.past next) h

  pub all_filled : (on : ℕ → List ℕ → Bool) (top : Located) (old new : Table) → Goes derived on w top old new → slice_get new.plans (length new.types) ≡ None → Fills derived on w top old new
  all_filled on top old new goes none = record {
    adds = goes.adds;
    kept = goes.kept;
    settled = record { right = goes.on_way.right; made = (let past = get_none new.plans (length new.types) none in let few = goes.on_way.few in omega (arith, past, few)) };
    used = used;
  }
    where
      used : (number : ℕ) → length old.types ≤ number → number < length new.types → (plan : ℕ) × IsUsed on w top plan × (number_of w.marks new.known w.node plan ≡ Some number)
      used number le less = by (slice_get new.plans number) refl
        where
          by : (o : Option ℕ) → slice_get new.plans number ≡ o → (plan : ℕ) × IsUsed on w top plan × (number_of w.marks new.known w.node plan ≡ Some number)
          by None e = absurd (let past = get_none new.plans number e in let few = goes.on_way.few in omega (arith, past, few, less))
          by (Some plan) e = (plan, goes.on_way.used plan number le e, goes.on_way.given plan number le e)
