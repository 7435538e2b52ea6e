-- The defaults of data nodes.
use Rattle.std.proofs.Common.{inl, inr, ◌≡◌, ◌≢◌, ◌<◌, ◌≤◌, ◌+◌, ◌⊎◌, ℕ, List, [], ◌∷◌, ◌++◌, length, map, refl, sym, ap, ◌∙◌, subst, arith}
use Rattle.std.specs.Prelude.{Option, Some, None, IsSome, Result, slice_get, Contains, option_and_then}
use Rattle.std.specs.List.{AllPairs}
use Rattle.std.proofs.lemmas.Bool.{cases_lt}
use Rattle.std.proofs.lemmas.List.{length-append}
use Rattle.nc_schema.specs.declared.node.Node.{Node}
use Rattle.nc_schema.specs.Tables.{Tables}
use Rattle.nc_yang_words.specs.declared.statement.Statement.{Statement}
use Rattle.nc_yang_scopes.specs.Scopes.{Located, Scoping}
use Rattle.nc_yang_scopes.specs.declared.naming.TextFault.{TextFault}
use Rattle.nc_yang_scopes.proofs.Lists.{get_left, get_right}
use Rattle.nc_yang_nodes.specs.declared.planned.Plan.{Plan}
use Rattle.nc_yang_nodes.specs.declared.planned.Planned.{Planned}
use Rattle.nc_yang_nodes.specs.Expansion.{list_of}
use Rattle.nc_yang_nodes.specs.Plans.{statement_of}
use Rattle.nc_yang_scopes.specs.Numbers.{AreNumbers, OnNumber}
use Rattle.nc_yang_statements.specs.declared.stop.Stop.{Stop}
use Rattle.nc_yang_statements.specs.declared.stop.Stop.TheVariants.{Broken, Memory as NoMemory}
use Rattle.nc_yang_leafs.specs.Defaults.{AreDefaultsOf, AreValues, BreaksAt, BreaksDefault, IsBroken, bad_default, blamed}
use Rattle.nc_yang_statements.specs.Stops.{OnBroken}
use Rattle.nc_yang_leafs.specs.Readings.{value_of}
use Rattle.nc_yang_leafs.specs.Sources.{AreSources, Defined, IsDefined, brought, nothing, own, own_of}
use Rattle.nc_yang_leafs.specs.Typed.{IsTyped}
use Rattle.nc_yang_leafs.specs.declared.values.BadDefault.{BadDefault}
use Rattle.nc_yang_leafs.specs.inner.Reading.{AreFound, FindsDefaults, IsBrought, IsFault, IsStop, MeansIt, defined}
use Rattle.nc_yang_leafs.proofs.ListLemmas.{get_there, map_some_same, never_again, read_cut}
use Rattle.nc_yang_leafs.proofs.SourceLemmas.{one_sources}

-- where its defaults have values, none breaks a rule
pub good_not_bad : (texts : List Statement) (tables : Tables) (d : Defined) (values : List (List ℕ)) (default : Located) → AreDefaultsOf texts tables d values → BreaksAt texts tables d default → ⊥
good_not_bad texts tables d values default good bad =
    let s = bad.stops in
    let same : good.sources ≡ s.before ++ default ∷ s.after = one_sources texts d good.sources bad.sources good.are bad.are ∙ s.cut in
    let c = read_cut (value_of texts tables d.number) s.before s.after default values (ap (map (value_of texts tables d.number)) (sym same) ∙ good.read.read) in
    let front : s.earlier ≡ c.front = map_some_same s.earlier c.front (sym s.values.read ∙ c.read) in
    let again : Contains s.earlier c.value = (subst (λ o. IsBroken s.earlier o s.why) c.is s.broken).0 in
    never_again c.front c.back c.value (subst (AllPairs (λ one later. one ≢ later)) c.cut good.read.apart) (subst (λ z. Contains z c.value) front again)

no_numbers : (located : List Located) (numbers : List ℕ) → AreNumbers located numbers [] → numbers ≡ []
no_numbers located [] are = refl
no_numbers located (m ∷ ms) are = absurd (cc)

no_statements : (located : List Located) (ls : List Located) → AreNumbers located [] ls → ls ≡ []
no_statements located [] are = refl
no_statements located (l ∷ ls) are = absurd (cc)

pub own_none : (located : List Located) (numbers : List ℕ) (ls : List Located) → numbers ≡ [] → AreNumbers located numbers ls → ls ≡ []
own_none located numbers ls none are = no_statements located ls (subst (λ z. AreNumbers located z ls) none are)

module _ (scoping : Scoping) (tables : Tables) (d : Defined) where
  -- ---- its own
  own_sources : (ls : List Located) (numbers : List ℕ) → numbers ≢ [] → AreNumbers scoping.located numbers ls → own_of d.node.kind d.statement ≡ ls → AreSources scoping.texts d ls
  own_sources [] numbers some are is = absurd (some (no_numbers scoping.located numbers are))
  own_sources (l ∷ ls) numbers some are is = own l ls is

  own_blamed : (ls : List Located) (numbers : List ℕ) (default : Located) → numbers ≢ [] → AreNumbers scoping.located numbers ls → blamed ls d.statement default ≡ default
  own_blamed [] numbers default some are = absurd (some (no_numbers scoping.located numbers are))
  own_blamed (l ∷ ls) numbers default some are = refl

  module _ (numbers : List ℕ) (some : numbers ≢ []) (are : AreNumbers scoping.located numbers (own_of d.node.kind d.statement)) where
    abbrev ls : List Located
    ls = own_of d.node.kind d.statement

    pub own_good : (values : List (List ℕ)) → AreValues scoping.texts tables d.number (own_of d.node.kind d.statement) values → AreDefaultsOf scoping.texts tables d values
    own_good values v = record { sources = ls; are = own_sources ls numbers some are refl; read = v }

    pub own_bad : (stop : BadDefault) (fault : TextFault) → IsStop scoping tables d.number (own_of d.node.kind d.statement) stop → OnNumber scoping stop.at (λ l. fault ≡ bad_default stop.why l) →
        IsFault scoping.texts tables d fault
    own_bad stop fault s is = record {
      default = s.default;
      breaks = record { sources = ls; are = own_sources ls numbers some are refl; stops = s.stops };
      is = is s.default s.is ∙ ap (λ why. bad_default why s.default) s.why ∙ ap (bad_default s.stops.why) (sym (own_blamed ls numbers s.default some are));
    }

  -- ---- brought
  module _ (none : own_of d.node.kind d.statement ≡ []) where
    pub record Sources (number : Option ℕ) : Type 0 where
      pub sources : List Located
      pub are : AreSources scoping.texts d sources
      pub numbers : AreNumbers scoping.located (list_of number) sources

    pub brought_sources : (number : Option ℕ) → IsBrought scoping d number → Sources number
    brought_sources None b = record { sources = []; are = nothing none b; numbers = refl }
    brought_sources (Some n) b = record { sources = b.0 ∷ []; are = brought b.0 none b.2; numbers = ap (λ z. z ∷ []) b.1 }

    pub brought_good : (number : Option ℕ) (b : IsBrought scoping d number) (values : List (List ℕ)) → AreValues scoping.texts tables d.number (brought_sources number b).sources values → AreDefaultsOf scoping.texts tables d values
    brought_good number b values v = let s = brought_sources number b in record { sources = s.sources; are = s.are; read = v }

    pub brought_bad : (number : Option ℕ) (b : IsBrought scoping d number) (at : BadDefault) (fault : TextFault) → IsStop scoping tables d.number (brought_sources number b).sources at → fault ≡ bad_default at.why d.statement →
        IsFault scoping.texts tables d fault
    brought_bad number b at fault stop is =
        let s = brought_sources number b in
        record {
          default = stop.default;
          breaks = record { sources = s.sources; are = s.are; stops = stop.stops };
          is = is ∙ ap (λ why. bad_default why d.statement) stop.why ∙ ap (bad_default stop.stops.why) (sym (ap (λ z. blamed z d.statement stop.default) none));
        }

-- ---- by its number
pub same_defined : (d : Defined) (number : ℕ) (node : Node) → d.number ≡ number → d.node ≡ node → defined number node d.statement ≡ d
same_defined d number node is node_is = λ i. defined (sym is i) (sym node_is i) d.statement

module _ (scoping : Scoping) (plan : Plan) (tables : Tables) (number : ℕ) (d : Defined) (is : d.number ≡ number) (def : IsDefined scoping plan tables d) where
  pub node_is : (node : Node) → slice_get tables.nodes number ≡ Some node → d.node ≡ node
  node_is node at = let e : Some d.node ≡ Some node = sym def.0 ∙ ap (slice_get tables.nodes) is ∙ at in cc

  pub statement_is : (planned : Planned) → slice_get plan.nodes number ≡ Some planned → slice_get scoping.located planned.statement ≡ Some d.statement
  statement_is planned at = sym (ap (option_and_then (λ n. slice_get scoping.located n.statement)) (ap (slice_get plan.nodes) is ∙ at)) ∙ def.1

  pub node_lost : slice_get tables.nodes number ≡ None → ⊥
  node_lost none = let e : Some d.node ≡ None = sym def.0 ∙ ap (slice_get tables.nodes) is ∙ none in cc

  pub plan_lost : slice_get plan.nodes number ≡ None → ⊥
  plan_lost none = let e : None ≡ Some d.statement = sym (ap (option_and_then (λ n. slice_get scoping.located n.statement)) (ap (slice_get plan.nodes) is ∙ none)) ∙ def.1 in cc

  pub found_at : (node : Node) (planned : Planned) (r : Result (List (List ℕ)) (Stop TextFault)) → slice_get tables.nodes number ≡ Some node → slice_get plan.nodes number ≡ Some planned → MeansIt scoping.texts d →
      OnNumber scoping planned.statement (λ l. MeansIt scoping.texts (defined number node l) → FindsDefaults scoping tables (defined number node l) r) → FindsDefaults scoping tables d r
  found_at node planned r at plan_at means found =
      let same = same_defined d number node is (node_is node at) in
      subst (λ z. FindsDefaults scoping tables z r) same (found d.statement (statement_is planned plan_at) (subst (MeansIt scoping.texts) (sym same) means))

-- ---- one after another
module _ (scoping : Scoping) (plan : Plan) (tables : Tables) (typed : IsTyped scoping plan tables) (number : ℕ) (found : List (List (List ℕ))) (so_far : AreFound scoping plan tables number found) where
  pub found_more : (values : List (List ℕ)) (new : List (List (List ℕ))) →
      ((d : Defined) → d.number ≡ number → IsDefined scoping plan tables d → MeansIt scoping.texts d → AreDefaultsOf scoping.texts tables d values) →
      new ≡ found ++ values ∷ [] → AreFound scoping plan tables (number + 1) new
  found_more values new here new_is = subst (AreFound scoping plan tables (number + 1)) (sym new_is) (record {
    counted = let long = length-append found (values ∷ []) in omega (arith, long, so_far.counted);
    each = λ d def less. by d def (cases_lt d.number number) less;
  })
    where
      by : (d : Defined) → IsDefined scoping plan tables d → (d.number < number) ⊎ (number ≤ d.number) → d.number < number + 1 →
          (vs : List (List ℕ)) × (slice_get (found ++ values ∷ []) d.number ≡ Some vs) × AreDefaultsOf scoping.texts tables d vs
      by d def (inl earlier) less =
          let h = so_far.each d def earlier in
          let within : d.number < length found = omega (arith, so_far.counted) in
          (h.0, get_left found (values ∷ []) d.number within ∙ h.1, h.2)
      by d def (inr now) less =
          let same : d.number ≡ number = omega arith in
          let place : d.number ≡ number + 0 = omega arith in
          (values, ap (slice_get (found ++ values ∷ [])) place ∙ get_right found (values ∷ []) number 0 so_far.counted, here d same def (typed.meanings d def))

  pub found_bad : (fault : TextFault) → number < length tables.nodes →
      ((d : Defined) → d.number ≡ number → IsDefined scoping plan tables d → MeansIt scoping.texts d → IsFault scoping.texts tables d fault) → BreaksDefault scoping plan tables fault
  found_bad fault less here =
      let node = get_there tables.nodes number less in
      by (statement_of scoping plan number) refl node.0 node.1 (typed.stated number (omega (arith, typed.counted)))
    where
      by : (o : Option Located) → statement_of scoping plan number ≡ o → (node : Node) → slice_get tables.nodes number ≡ Some node → IsSome o → BreaksDefault scoping plan tables fault
      by None none node at some = absurd (cc)
      by (Some l) there node at some =
          let d = defined number node l in
          let f = here d refl (at, there) (typed.meanings d (at, there)) in
          record {
            at = d;
            is = (at, there);
            default = f.default;
            breaks = f.breaks;
            first = λ other x def earlier bad. let h = so_far.each other def earlier in good_not_bad scoping.texts tables other h.0 x h.2 bad;
            fault_is = f.is;
          }

  pub found_stop : (fault : Stop TextFault) → number < length tables.nodes →
      ((d : Defined) → d.number ≡ number → IsDefined scoping plan tables d → MeansIt scoping.texts d → OnBroken (IsFault scoping.texts tables d) fault) → OnBroken (BreaksDefault scoping plan tables) fault
  found_stop (Broken fault) less here = found_bad fault less here
  found_stop NoMemory less here = tt

pub found_none : (scoping : Scoping) (plan : Plan) (tables : Tables) → AreFound scoping plan tables 0 []
found_none scoping plan tables = record { counted = refl; each = λ d def less. absurd (omega arith) }
