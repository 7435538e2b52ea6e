-- The type of one data node, and of several.
use Rattle.std.proofs.Common.{inl, inr, ◌≡◌, ◌≢◌, ◌<◌, ◌≤◌, ◌+◌, ◌-◌, ℕ, Bool, List, [], ◌∷◌, ◌++◌, length, get_or, refl, sym, ap, ◌∙◌, subst, arith}
use Rattle.std.specs.Prelude.{Option, Some, None, Result, Ok, Err, IfOk, IfErr, IsSomeAnd, IsTrue, slice_get, slice_set, option_and_then}
use Rattle.std.proofs.lemmas.Bool.{cases_eq, cases_lt}
use Rattle.std.proofs.lemmas.List.{length-append, length-set}
use Rattle.std.proofs.lemmas.Option.{slice_get_within, slice_get-get_or}
use Rattle.nc_names.specs.declared.name.QName.{QName}
use Rattle.nc_schema.specs.declared.node.Kind.{Kind}
use Rattle.nc_schema.specs.declared.node.Node.{Node}
use Rattle.nc_schema.specs.declared.value_type.ValueType.{ValueType}
use Rattle.nc_schema.specs.Kinds.{has_value}
use Rattle.nc_schema.specs.Tables.{Tables}
use Rattle.nc_yang_order.proofs.Lists.{contains_at, contains_one, get_none, get_set_other, get_set_same}
use Rattle.nc_yang_scopes.proofs.Lists.{get_left, get_right}
use Rattle.nc_yang_scopes.specs.declared.naming.TextFault.{TextFault}
use Rattle.nc_yang_scopes.specs.Scopes.{Located}
use Rattle.nc_yang_nodes.specs.declared.planned.Plan.{Plan}
use Rattle.nc_yang_types.specs.Meanings.{Means}
use Rattle.nc_yang_scopes.specs.Numbers.{AreNumbers, OnNumber}
use Rattle.nc_yang_types.specs.Plans.{AreMeanings}
use Rattle.nc_yang_types.specs.Wholes.{MeansWhole}
use Rattle.nc_yang_leafs.specs.declared.site.Site.{Site}
use Rattle.nc_yang_statements.specs.declared.stop.Stop.{Stop}
use Rattle.nc_yang_statements.specs.declared.stop.Stop.TheVariants.{Broken, Memory}
use Rattle.nc_yang_leafs.specs.declared.table.Table.{Table}
use Rattle.nc_yang_leafs.specs.Bases.{Basis, leads, type_of}
use Rattle.nc_yang_statements.specs.Stops.{OnBroken}
use Rattle.nc_yang_leafs.specs.Faults.{BreaksLeafref}
use Rattle.nc_yang_leafs.specs.Typings.{HasItsType, HasTypes, IsAmong, IsEntry, IsInUse, IsOfType, HasTypings, itself, none}
use Rattle.nc_yang_leafs.specs.inner.Assembly.{HasKinds, HasSome, node_with, with_kind}
use Rattle.nc_yang_leafs.specs.inner.Firsts.{plan_for}
use Rattle.nc_yang_leafs.specs.inner.Nodes.{AreGiven, BreaksAt, Gives, GivesNumber, HaveKinds, IsKnown, MayGive, basis_of, blank}
use Rattle.nc_yang_leafs.specs.inner.Sites.{HasFirsts, work}
use Rattle.nc_yang_leafs.specs.inner.Tables.{Asked, Asks, Fills, IsAtStart, IsReady, IsRight, LosesPath, Work, number_at, number_of}
use Rattle.nc_yang_leafs.proofs.AskLemmas.{asked_more, asked_none}
use Rattle.nc_yang_leafs.proofs.ClosingLemmas.{closes, closes_plan, one_and, types_kept}
use Rattle.nc_yang_leafs.proofs.FirstLemmas.{own_of}
use Rattle.nc_yang_leafs.proofs.LaterLemmas.{ready_first, ready_next}
use Rattle.nc_yang_leafs.proofs.StepLemmas.{among_whole, fits_kept, has_plan_at}

pub if_ok_on : {A E : Type 0} {P Q : A → Type 0} (r : Result A E) → ((x : A) → P x → Q x) → IfOk r P → IfOk r Q
if_ok_on (Ok x) f h = f x h
if_ok_on (Err e) f h = tt

pub if_err_on : {A E : Type 0} {P Q : E → Type 0} (r : Result A E) → ((x : E) → P x → Q x) → IfErr r P → IfErr r Q
if_err_on (Ok x) f h = tt
if_err_on (Err e) f h = f e h

pub on_broken : {P Q : TextFault → Type 0} (stop : Stop TextFault) → ((fault : TextFault) → P fault → Q fault) → OnBroken P stop → OnBroken Q stop
on_broken (Broken fault) f h = f fault h
on_broken Memory f h = tt

module _ (derived : List Located → List QName → Type 0) (w : Work) (statement plan number : ℕ) (at : plan_for w.meanings.findings w.firsts statement ≡ Some plan) (old new : Table) (asks : Asks w.marks w.node plan old new number) where
  asked : Asked w (statement ∷ []) old new (number ∷ [])
  asked = asked_more w [] statement old old new [] number (asked_none w old) (record { plan = plan; is = at; asks = asks })

  known : number_of w.marks new.known w.node plan ≡ Some number
  known = let a = asked.answers in let h : number_at w new.known statement ≡ Some number = cc in sym (ap (option_and_then (number_of w.marks new.known w.node)) at) ∙ h

  module _ (on : ℕ → List ℕ → Bool) (are : AreMeanings on w.scoping w.meanings) (ready : IsReady derived w old) (top : Located) (here : slice_get w.scoping.located statement ≡ Some top) where
    right : IsRight derived w new
    right = record {
      numbered = λ q n e. elim (asked.fresh q n e) [
        | inl earlier ↦ (let there = ready.settled.right.numbered q n earlier in ap (λ z. slice_get z n) asked.plans ∙ get_left old.plans asked.more n (slice_get_within old.plans n q there) ∙ there)
        | inr (le, found) ↦ found
      ];
      fits = λ q n entry planned e there is. (
          let before : slice_get old.types n ≡ Some entry = ap (λ z. slice_get z n) (sym asked.types) ∙ there in
          elim (asked.fresh q n e) [
            | inl earlier ↦ fits_kept derived w old.known new.known asked.kept planned entry (ready.settled.right.fits q n entry planned earlier before is)
            | inr (le, found) ↦ absurd (let less = slice_get_within old.types n entry before in let made = ready.settled.made in omega (arith, le, less, made))
          ]);
      stamped = λ q slot e. elim (asked.stamped q slot e) [ inl earlier ↦ ready.settled.right.stamped q slot earlier | inr now ↦ (omega (arith, now)) ];
      firsts = ready.settled.right.firsts;
    }

    used : (q n : ℕ) → length new.types ≤ n → slice_get new.plans n ≡ Some q → plan ≡ q
    used q n le found =
        let past : length old.plans ≤ n = (let made = ready.settled.made in let same = ap length asked.types in omega (arith, le, made, same)) in
        let split : n ≡ length old.plans + (n - length old.plans) = omega (arith, past) in
        let z : slice_get asked.more (n - length old.plans) ≡ Some q =
        sym (get_right old.plans asked.more (length old.plans) (n - length old.plans) refl) ∙ ap (slice_get (old.plans ++ asked.more)) (sym split) ∙ ap (λ y. slice_get y n) (sym asked.plans) ∙ found in
        let f = asked.from q (contains_at asked.more (n - length old.plans) q z) in
        let one : statement ≡ f.0 = contains_one statement f.0 f.1 in
        let there : plan_for w.meanings.findings w.firsts statement ≡ Some q = subst (λ y. plan_for w.meanings.findings w.firsts y ≡ Some q) (sym one) f.2 in
        cc

    pub on_way : IsAtStart derived on w top new
    on_way = record {
      right = right;
      used = λ q n le found. (
          let o = own_of w.meanings.findings w.firsts statement plan at in
          record {
            statement = top;
            own = o.0;
            has = has_plan_at on w.scoping w.meanings are statement top o.0 here o.1;
            first = o.2 ∙ used q n le found;
            among = itself;
          });
      given = λ q n le found. asked.given q n (let made = ready.settled.made in let same = ap length asked.types in omega (arith, le, made, same)) found;
      past = omega arith;
      few = (let made = ready.settled.made in let same = ap length asked.types in
          let e : length new.plans ≡ length old.plans + length asked.more = ap length asked.plans ∙ length-append old.plans asked.more in omega (arith, made, same, e));
    }

    pub gives_number : (last : Table) → Fills derived on w top new last → GivesNumber derived on w top old last number
    gives_number last fills = record {
      adds = (fills.adds.0, fills.adds.1 ∙ ap (λ z. z ++ fills.adds.0) asked.types);
      settled = fills.settled;
      means = λ whole. one_and (Means on w.scoping.texts) (IsEntry derived (AreNumbers w.scoping.located) (leads w.scoping w.given w.node)) last.types top [] number []
          (closes derived on w are last fills.settled top whole statement plan number here at (fills.kept plan number known)) none;
      fresh = λ whole other le less. (
          let u = fills.used other (let same = ap length asked.types in omega (arith, le, same)) less in (
            u.1.statement,
            u.1.among,
            one_and (Means on w.scoping.texts) (IsEntry derived (AreNumbers w.scoping.located) (leads w.scoping w.given w.node)) last.types u.1.statement [] other []
                (closes_plan derived on w are last fills.settled u.1.statement (among_whole on w.scoping.texts top u.1.statement whole u.1.among) u.1.own u.0 other u.1.has u.1.first u.2) none,
          ));
    }

-- a data node with a value
module _ (derived : List Located → List QName → Type 0) (b : Basis) (w : Work) (kind : Kind) (valued : IsTrue (has_value kind)) (old : Table) (may : MayGive derived b w kind old)
    (same : b.scoping ≡ w.scoping) (same_given : b.given ≡ w.given) (statement : ℕ) (at : (l : Located) → type_of b.scoping b.plan w.node ≡ Some l → slice_get w.scoping.located statement ≡ Some l) where
  pub gives_kind : (new : Table) (number : ℕ) → (IsReady derived w old → OnNumber w.scoping statement (λ top. GivesNumber derived b.on w top old new number)) → Gives derived b w kind old new number
  gives_kind new number gives =
      let m = may.whole valued in
      let g = gives may.ready m.0 (at m.0 m.1) in
      record {
        adds = g.adds;
        settled = g.settled;
        has = record {
          valued = λ t l e. (
              let one : m.0 ≡ l = (let f = m.1 in cc) in
              subst (λ z. HasTypes (Means b.on b.scoping.texts) (IsEntry derived (AreNumbers b.scoping.located) (leads b.scoping b.given w.node)) new.types (z ∷ []) (number ∷ [])) one
              (subst (λ z. HasTypes (Means b.on z.texts) (IsEntry derived (AreNumbers z.located) (leads z b.given w.node)) new.types (m.0 ∷ []) (number ∷ [])) (sym same)
              (subst (λ z. HasTypes (Means b.on w.scoping.texts) (IsEntry derived (AreNumbers w.scoping.located) (leads w.scoping z w.node)) new.types (m.0 ∷ []) (number ∷ [])) (sym same_given)
              (g.means (subst (λ z. MeansWhole b.on z.texts m.0) same m.2)))));
          other = λ f. absurd (let t = valued in cc);
        };
        fresh = λ other le less. (
            let f = g.fresh (subst (λ z. MeansWhole b.on z.texts m.0) same m.2) other le less in
            record {
              valued = valued;
              of_type = m.0;
              is = m.1;
              one = f.0;
              among = subst (λ z. IsAmong b.on z.texts m.0 f.0) (sym same) f.1;
              has = subst (λ z. HasTypes (Means b.on z.texts) (IsEntry derived (AreNumbers z.located) (leads z b.given w.node)) new.types (f.0 ∷ []) (other ∷ [])) (sym same)
                  (subst (λ z. HasTypes (Means b.on w.scoping.texts) (IsEntry derived (AreNumbers w.scoping.located) (leads w.scoping z w.node)) new.types (f.0 ∷ []) (other ∷ [])) (sym same_given) f.2);
            });
      }

  pub breaks_kind : (fault : TextFault) → (IsReady derived w old → OnNumber w.scoping statement (λ top. LosesPath b.on w top fault)) → BreaksAt b w kind fault
  breaks_kind fault loses =
      let m = may.whole valued in
      record { valued = valued; of_type = m.0; is = m.1; loses = loses may.ready m.0 (at m.0 m.1) }

-- all data nodes
module _ (derived : List Located → List QName → Type 0) (b : Basis) where
  pub type_kept : (types more : List ValueType) (number : ℕ) (kind : Kind) (given : ℕ) → HasItsType derived (AreNumbers b.scoping.located) b types number kind given → HasItsType derived (AreNumbers b.scoping.located) b (types ++ more) number kind given
  type_kept types more number kind given has = record {
    valued = λ t l e. types_kept (Means b.on b.scoping.texts) (IsEntry derived (AreNumbers b.scoping.located) (leads b.scoping b.given number)) types more (l ∷ []) (given ∷ []) (has.valued t l e);
    other = has.other;
  }

  pub use_kept : (types more : List ValueType) (number : ℕ) → IsInUse derived (AreNumbers b.scoping.located) b types number → IsInUse derived (AreNumbers b.scoping.located) b (types ++ more) number
  use_kept types more number (place, node, there, use_of) = (
    place,
    node,
    there,
    record {
      valued = use_of.valued;
      of_type = use_of.of_type;
      is = use_of.is;
      one = use_of.one;
      among = use_of.among;
      has = types_kept (Means b.on b.scoping.texts) (IsEntry derived (AreNumbers b.scoping.located) (leads b.scoping b.given place)) types more (use_of.one ∷ []) (number ∷ []) use_of.has;
    },
  )

  pub have_more : (old new : List ValueType) (count : ℕ) (kinds : List ℕ) (given : ℕ) (node : Node) → HaveKinds derived b old count kinds → (more : List ValueType) → new ≡ old ++ more →
      slice_get b.given.nodes count ≡ Some node → HasItsType derived (AreNumbers b.scoping.located) b new count node.kind given →
      ((number : ℕ) → length old ≤ number → number < length new → IsOfType derived (AreNumbers b.scoping.located) b new count node.kind number) → HaveKinds derived b new (count + 1) (kinds ++ given ∷ [])
  have_more old new count kinds given node have more grown there has fresh = record {
    counted = length-append kinds (given ∷ []) ∙ ap (λ z. z + 1) have.counted;
    each = each;
    used = λ number less. elim (cases_lt number (length old)) [
      | inl earlier ↦ subst (λ z. IsInUse derived (AreNumbers b.scoping.located) b z number) (sym grown) (use_kept old more number (have.used number earlier))
      | inr le ↦ (count, node, there, fresh number le less)
    ];
  }
    where
      each : (number kind : ℕ) (other : Node) → slice_get (kinds ++ given ∷ []) number ≡ Some kind → slice_get b.given.nodes number ≡ Some other → HasItsType derived (AreNumbers b.scoping.located) b new number other.kind kind
      each number kind other at is = elim (cases_eq number count) [
        | inl now ↦
            let here : slice_get (kinds ++ given ∷ []) number ≡ Some given =
            (let z : number ≡ count + 0 = omega (arith, now) in ap (slice_get (kinds ++ given ∷ [])) z ∙ get_right kinds (given ∷ []) count 0 have.counted) in
            let same_kind : given ≡ kind = cc in
            let found : slice_get b.given.nodes number ≡ Some node = subst (λ z. slice_get b.given.nodes z ≡ Some node) (sym now) there in
            let same_node : node ≡ other = cc in
            subst (λ z. HasItsType derived (AreNumbers b.scoping.located) b new number other.kind z) same_kind (subst (λ z. HasItsType derived (AreNumbers b.scoping.located) b new number z.kind given) same_node (subst (λ z. HasItsType derived (AreNumbers b.scoping.located) b new z node.kind given) (sym now) has))
        | inr apart ↦
            let less : number < length kinds = (let l = slice_get_within (kinds ++ given ∷ []) number kind at in let c = length-append kinds (given ∷ []) in let d = have.counted in omega (arith, l, c, d, apart)) in
            subst (λ z. HasItsType derived (AreNumbers b.scoping.located) b z number other.kind kind) (sym grown) (type_kept old more number other.kind kind (have.each number kind other (sym (get_left kinds (given ∷ []) number less) ∙ at) is))
      ]

module _ (derived : List Located → List QName → Type 0) (on : ℕ → List ℕ → Bool) (site : Site) (plan : Plan) (known : IsKnown (basis_of on site plan) site.meanings.now site.marks.now) where
  pub may_give : (number : ℕ) (node : Node) (table : Table) (kinds : List ℕ) → slice_get site.schema.now.nodes number ≡ Some node → AreGiven derived (basis_of on site plan) site table kinds number →
      MayGive derived (basis_of on site plan) (work site number) node.kind table
  may_give number node table kinds there given = record { are = known.are; ready = given.ready; whole = known.whole number node there }

  pub given_first : HasFirsts derived site → (table : Table) (kinds : List ℕ) → table ≡ blank (length site.meanings.now.plans) → kinds ≡ [] → AreGiven derived (basis_of on site plan) site table kinds 0
  given_first firsts table kinds table_is kinds_is = record {
    ready = subst (IsReady derived (work site 0)) (sym table_is)
        (ready_first site.scopes.now site.schema.now site.meanings.now site.marks.now site.firsts.now derived known.marked firsts (length site.meanings.now.plans) 0);
    have = record {
      counted = ap length kinds_is;
      each = λ number kind node at. absurd (let e = ap (λ (z : List ℕ). slice_get z number) kinds_is in cc);
      used = λ number less. absurd (let e = ap (λ (t : Table). length t.types) table_is in omega (arith, e, less));
    };
  }

  pub given_more : (number : ℕ) (node : Node) (old new : Table) (kinds next : List ℕ) (kind : ℕ) → slice_get site.schema.now.nodes number ≡ Some node → AreGiven derived (basis_of on site plan) site old kinds number →
      Gives derived (basis_of on site plan) (work site number) node.kind old new kind → next ≡ kinds ++ kind ∷ [] → AreGiven derived (basis_of on site plan) site new next (number + 1)
  given_more number node old new kinds next kind there given gives next_is = record {
    ready = ready_next site.scopes.now site.schema.now site.meanings.now site.marks.now site.firsts.now derived known.marked number new gives.settled;
    have = subst (HaveKinds derived (basis_of on site plan) new.types (number + 1)) (sym next_is)
        (have_more derived (basis_of on site plan) old.types new.types number kinds kind node given.have gives.adds.0 gives.adds.1 there gives.has gives.fresh);
  }

  pub breaks_leafref : (number : ℕ) (node : Node) (fault : TextFault) → slice_get site.schema.now.nodes number ≡ Some node → BreaksAt (basis_of on site plan) (work site number) node.kind fault →
      BreaksLeafref (basis_of on site plan) fault
  breaks_leafref number node fault there breaks = record {
    number = number;
    node = node;
    there = there;
    valued = breaks.valued;
    of_type = breaks.of_type;
    is = breaks.is;
    path = breaks.loses.path;
    uses = breaks.loses.uses;
    lost = breaks.loses.lost;
    at = breaks.loses.at;
  }

pub some_more : (old mid new : Tables) (kinds : List ℕ) (i kind : ℕ) → HasSome old kinds i mid → slice_get kinds i ≡ Some kind → new ≡ with_kind mid i kind → HasSome old kinds (i + 1) new
some_more old mid new kinds i kind has at made = subst (HasSome old kinds (i + 1)) (sym made) (by (slice_get mid.nodes i) refl)
  where
    earlier : (number : ℕ) → number < i + 1 → number ≢ i → number < i
    earlier number less apart = omega (arith, less, apart)

    by : (o : Option Node) → slice_get mid.nodes i ≡ o → HasSome old kinds (i + 1) (record mid { nodes = node_with mid.nodes i kind (slice_get mid.nodes i) })
    by None e = subst (λ z. HasSome old kinds (i + 1) (record mid { nodes = node_with mid.nodes i kind z })) (sym e) (record {
      modules = has.modules;
      choices = has.choices;
      patterns = has.patterns;
      types = has.types;
      counted = has.counted;
      set = λ number given node less is there. elim (cases_eq number i) [
        | inl now ↦ absurd (
            let gone : slice_get old.nodes i ≡ None = sym (has.others i (omega arith)) ∙ e in
            let found : slice_get old.nodes i ≡ Some node = subst (λ z. slice_get old.nodes z ≡ Some node) now there in cc)
        | inr apart ↦ has.set number given node (earlier number less apart) is there
      ];
      others = λ number le. has.others number (omega (arith, le));
    })
    by (Some here) e = subst (λ z. HasSome old kinds (i + 1) (record mid { nodes = node_with mid.nodes i kind z })) (sym e) (record {
      modules = has.modules;
      choices = has.choices;
      patterns = has.patterns;
      types = has.types;
      counted = length-set mid.nodes i (record here { kind_of_value = kind }) ∙ has.counted;
      set = λ number given node less is there. elim (cases_eq number i) [
        | inl now ↦
            let found : slice_get old.nodes i ≡ Some node = subst (λ z. slice_get old.nodes z ≡ Some node) now there in
            let before : slice_get old.nodes i ≡ Some here = sym (has.others i (omega arith)) ∙ e in
            let same : here ≡ node = cc in
            let same_kind : kind ≡ given = (let f : slice_get kinds i ≡ Some given = subst (λ z. slice_get kinds z ≡ Some given) now is in cc) in
            subst (λ z. slice_get (slice_set mid.nodes i (record here { kind_of_value = kind })) z ≡ Some (record node { kind_of_value = given })) (sym now)
            (get_set_same mid.nodes i here (record here { kind_of_value = kind }) e ∙ ap (λ (z : Node). Some (record z { kind_of_value = kind })) same ∙ ap (λ z. Some (record node { kind_of_value = z })) same_kind)
        | inr apart ↦ get_set_other mid.nodes i number (record here { kind_of_value = kind }) apart ∙ has.set number given node (earlier number less apart) is there
      ];
      others = λ number le. get_set_other mid.nodes i number (record here { kind_of_value = kind }) (λ same. absurd (omega (arith, le, same))) ∙ has.others number (omega (arith, le));
    })

pub some_turn : (old mid new : Tables) (kinds : List ℕ) (i kind : ℕ) → i < length kinds → kind ≡ get_or kinds i 0 → (place : ℕ) → place ≡ i → HasSome old kinds i mid → new ≡ with_kind mid place kind → HasSome old kinds (i + 1) new
some_turn old mid new kinds i kind less is place same has made =
    some_more old mid new kinds i kind has (slice_get-get_or kinds i 0 less ∙ ap Some (sym is)) (subst (λ z. new ≡ with_kind mid z kind) same made)

pub all_typed : (derived : List Located → List QName → Type 0) (b : Basis) (mid new : Tables) (types some : List ValueType) (kinds : List ℕ) → mid ≡ record b.given { types = some } →
    HaveKinds derived b types (length b.given.nodes) kinds → HasKinds mid kinds new → HasTypings derived (AreNumbers b.scoping.located) b (record new { types = types })
all_typed derived b mid new types some kinds mid_is have has = record {
  modules = has.modules ∙ ap (λ (z : Tables). z.modules) mid_is;
  choices = has.choices ∙ ap (λ (z : Tables). z.choices) mid_is;
  counted = has.counted ∙ ap (λ (z : Tables). length z.nodes) mid_is;
  nodes = nodes;
  entries = have.used;
}
  where
    nodes : (number : ℕ) (node : Node) → slice_get b.given.nodes number ≡ Some node →
        IsSomeAnd (slice_get new.nodes number) (λ other. (other ≡ record node { kind_of_value = other.kind_of_value })
        × HasItsType derived (AreNumbers b.scoping.located) b types number other.kind other.kind_of_value)
    nodes number node there = by (slice_get kinds number) refl
      where
        within : number < length kinds
        within = let l = slice_get_within b.given.nodes number node there in let c = have.counted in omega (arith, l, c)

        by : (o : Option ℕ) → slice_get kinds number ≡ o →
            IsSomeAnd (slice_get new.nodes number) (λ other. (other ≡ record node { kind_of_value = other.kind_of_value })
            × HasItsType derived (AreNumbers b.scoping.located) b types number other.kind other.kind_of_value)
        by None e = absurd (let past = get_none kinds number e in let l = within in omega (arith, past, l))
        by (Some kind) e =
            let found : slice_get mid.nodes number ≡ Some node = ap (λ (z : Tables). slice_get z.nodes number) mid_is ∙ there in
            subst (λ o. IsSomeAnd o (λ other. (other ≡ record node { kind_of_value = other.kind_of_value })
            × HasItsType derived (AreNumbers b.scoping.located) b types number other.kind other.kind_of_value)) (sym (has.set number kind node within e found))
            (refl, have.each number kind node e there)
