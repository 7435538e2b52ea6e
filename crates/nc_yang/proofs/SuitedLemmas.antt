-- Typedefs as leafs, and what comes of their types and defaults.
use Rattle.std.proofs.Common.{◌≡◌, ◌<◌, ◌+◌, ℕ, zero, suc, Bool, List, [], ◌∷◌, ◌++◌, length, map, take, get_or, refl, sym, ap, subst, ◌∙◌, arith}
use Rattle.std.specs.Prelude.{Option, Some, None, IsSome, is_some, slice_get, Result, Ok, Err, MatchResult}
use Rattle.std.proofs.lemmas.List.{length-map, map-append}
use Rattle.std.proofs.lemmas.Option.{slice_get-get_or, slice_get-map}
use Rattle.nc_schema.specs.Tables.{Tables}
use Rattle.nc_schema.specs.declared.node.Node.{Node}
use Rattle.nc_yang_statements.specs.Stops.{OnBroken}
use Rattle.nc_yang_statements.specs.declared.stop.Stop.{Stop}
use Rattle.nc_yang_statements.specs.declared.stop.Stop.TheVariants.{Broken, Memory}
use Rattle.nc_yang_scopes.specs.Scopes.{Located, Scoping}
use Rattle.nc_yang_scopes.specs.declared.naming.TextFault.{TextFault}
use Rattle.nc_yang_scopes.proofs.Lists.{take_next}
use Rattle.nc_yang_nodes.specs.Plans.{statement_of}
use Rattle.nc_yang_nodes.specs.Roles.{FeatureTest}
use Rattle.nc_yang_nodes.specs.declared.planned.Plan.{Plan}
use Rattle.nc_yang_nodes.proofs.ListLemmas.{got}
use Rattle.nc_yang_data.specs.Modules.{modules_from}
use Rattle.nc_yang.specs.Rules.{KeepsTexts}
use Rattle.nc_yang_types.specs.Faults.{KeepsTypes}
use Rattle.nc_yang_leafs.specs.Bases.{AllMeanWhole}
use Rattle.nc_yang_leafs.specs.Conditions.{holds}
use Rattle.nc_yang_leafs.specs.Faults.{BreaksLeafref}
use Rattle.nc_yang_leafs.specs.Patterns.{AreTypings, HasPatterns, IsRefused, Refusals, RefusesType}
use Rattle.nc_yang_leafs.specs.declared.bare.Typed.{Typed}
use Rattle.nc_yang_leafs.proofs.PatternLemmas.{refused_in_use, stated_typed}
use Rattle.nc_yang_leafs.specs.Circles.{BreaksCircle, HasNoCircle}
use Rattle.nc_yang_leafs.specs.Defaults.{BreaksDefault, KeepsDefaults}
use Rattle.nc_yang.specs.Depths.{BreaksDepth, KeepsDepth}
use Rattle.nc_yang.specs.Schemas.{AreNames, AreSuited, BreaksBare, BreaksTypedefs, IsBareOf, KeepsTypedefs, basis_of, circle, deep, default, leafref, suits_none, typedef_basis, unadmitted}
use Rattle.nc_yang.specs.Typedefs.{AreJudged, blank_leaf, blank_leafs, leaf_by, typedef_plan, typedef_tables}
use Rattle.nc_yang.specs.declared.suited.Suited.{Suited}
use Rattle.nc_yang.specs.inner.Judged.{BreaksPatterned, GetsReady, HasBare, IsSuited, KeepsPatterned, refused, unsuited}
use Rattle.nc_yang.proofs.Bare.{bare_stated, bare_with}
use Rattle.nc_yang.proofs.Lists.{mapped}
use Rattle.nc_yang.proofs.ReadyLemmas.{AreFresh, ready_bare}
use Rattle.nc_yang.proofs.TypedefLemmas.{judged_at, typedef_stated, typedefs_mean}

-- ---- leafs one after another
pub leafs_more : (scoping : Scoping) (on : FeatureTest) (ns : List ℕ) (i : ℕ) (old new : Tables) → i < length ns → old ≡ typedef_tables scoping on (take i ns) →
    new ≡ record old { nodes = old.nodes ++ blank_leaf ∷ [] } → new ≡ typedef_tables scoping on (take (i + 1) ns)
leafs_more scoping on ns i old new within so_far put =
    put ∙ ap (λ (t : Tables). record t { nodes = t.nodes ++ blank_leaf ∷ [] }) so_far
    ∙ ap (λ (nodes : List Node). record { nodes = nodes; choices = []; types = []; modules = modules_from on 0 scoping.texts; patterns = [] })
    (sym (map-append (λ _. blank_leaf) (take i ns) (get_or ns i 0 ∷ [])) ∙ ap blank_leafs (sym (take_next ns i (get_or ns i 0) (slice_get-get_or ns i 0 within))))

-- ---- what is broken
module _ (scoping : Scoping) (on : FeatureTest) (plan : Plan) (given : Tables) where
  pub circle_bare : (stop : Stop TextFault) → OnBroken (BreaksCircle (basis_of scoping on plan given)) stop → OnBroken (BreaksBare scoping on plan given) stop
  circle_bare (Broken found) b = circle found b
  circle_bare Memory b = tt

  pub leafref_bare : (stop : Stop TextFault) → OnBroken (BreaksLeafref (basis_of scoping on plan given)) stop → OnBroken (BreaksBare scoping on plan given) stop
  leafref_bare (Broken found) b = leafref found b
  leafref_bare Memory b = tt

  module _ (typed : Typed) (none : HasNoCircle (basis_of scoping on plan given)) (are : AreTypings (AreNames scoping on) (basis_of scoping on plan given) typed) where
    pub deep_bare : (stop : Stop TextFault) → OnBroken (BreaksDepth scoping plan typed.schema) stop → OnBroken (BreaksBare scoping on plan given) stop
    deep_bare (Broken found) b =
        let t = stated_typed (AreNames scoping on) (basis_of scoping on plan given) typed are in
        deep found t.0 none t.1 (subst (λ z. BreaksDepth scoping plan z found) (sym t.2) b)
    deep_bare Memory b = tt

    pub default_bare : (stop : Stop TextFault) → OnBroken (BreaksDefault scoping plan typed.schema) stop → OnBroken (BreaksBare scoping on plan given) stop
    default_bare (Broken found) b =
        let t = stated_typed (AreNames scoping on) (basis_of scoping on plan given) typed are in
        default found t.0 none t.1 (subst (λ z. BreaksDefault scoping plan z found) (sym t.2) b)
    default_bare Memory b = tt

-- ---- the leafs of judged typedefs
module _ (scoping : Scoping) (on : FeatureTest) (keeps : KeepsTexts scoping.texts) (types : KeepsTypes (holds scoping.texts on) scoping.texts) (numbers : List ℕ)
    (are : AreJudged (holds scoping.texts on) scoping numbers) where
  typedefs_fresh : AreFresh scoping (typedef_plan numbers) (typedef_tables scoping on numbers)
  typedefs_fresh = record {
    counted = length-map numbers (λ _. blank_leaf) ∙ sym (length-map numbers leaf_by);
    stated = λ place within.
        let less : place < length numbers = subst (λ n. place < n) (length-map numbers leaf_by) within in
        let g = got numbers place less in
        ap is_some (typedef_stated (holds scoping.texts on) scoping numbers are place (judged_at (holds scoping.texts on) scoping numbers are place g.0 g.1));
    fresh = λ place node at.
        let m = mapped (λ _. blank_leaf) (slice_get numbers place) node (sym (slice_get-map (λ _. blank_leaf) numbers place) ∙ at) in
        ap (λ (z : Node). z.defaults) (sym m.2);
  }

  module _ (plan : Plan) (given : Tables) (plan_is : plan ≡ typedef_plan numbers) (given_is : given ≡ typedef_tables scoping on numbers) where
    moved : (P : Plan → Tables → Type 0) → P (typedef_plan numbers) (typedef_tables scoping on numbers) → P plan given
    moved P h = subst (λ z. P z given) (sym plan_is) (subst (P (typedef_plan numbers)) (sym given_is) h)

    pub typedefs_whole : AllMeanWhole (basis_of scoping on plan given)
    typedefs_whole = moved (λ p g. AllMeanWhole (basis_of scoping on p g)) (typedefs_mean (holds scoping.texts on) scoping on keeps types numbers are)

    pub typedefs_ready : GetsReady scoping on plan given
    typedefs_ready = λ typed typings. ready_bare scoping on plan given (moved (AreFresh scoping) typedefs_fresh) (AreNames scoping on) typed typings typedefs_whole

    pub typedefs_blank : (given.types ≡ []) × (given.patterns ≡ [])
    typedefs_blank = (ap (λ (t : Tables). t.types) given_is, ap (λ (t : Tables). t.patterns) given_is)

    pub typedefs_broken : (stop : Stop TextFault) → OnBroken (BreaksBare scoping on plan given) stop → OnBroken (BreaksTypedefs scoping on) stop
    typedefs_broken (Broken found) h =
        suits_none numbers found are (subst (λ z. BreaksBare scoping on z (typedef_tables scoping on numbers) found) plan_is (subst (λ g. BreaksBare scoping on plan g found) given_is h))
    typedefs_broken Memory h = tt

    pub typedefs_suited : (typed : Typed) → HasBare scoping on plan given typed → IsSuited scoping on (record { plan = plan; typed = typed })
    typedefs_suited typed h = record {
      numbers = numbers;
      are = are;
      plan_is = plan_is;
      bare = subst (λ g. HasBare scoping on plan g typed) given_is h;
      ready = typedefs_ready typed h.typings;
    }

-- ---- with the patterns of their types
module _ (scoping : Scoping) (on : FeatureTest) (suited : Suited) (is : IsSuited scoping on suited) where
  abbrev own_tables : Tables
  own_tables = typedef_tables scoping on is.numbers

  of_numbers : (tables : Tables) → IsBareOf scoping on suited.plan own_tables tables → AreSuited scoping on is.numbers tables
  of_numbers tables bare = record { are = is.are; bare = subst (λ z. IsBareOf scoping on z own_tables tables) is.plan_is bare }

  pub suited_with : (tables : Tables) → HasPatterns scoping.located suited.typed tables → AreSuited scoping on is.numbers tables
  suited_with tables has = of_numbers tables (bare_with scoping on suited.plan own_tables suited.typed is.bare tables has)

  pub suited_stated : (tables : Tables) × AreSuited scoping on is.numbers tables
  suited_stated = let t = bare_stated scoping on suited.plan own_tables suited.typed is.bare in (t.0, of_numbers t.0 t.1)

  pub keeps_patterned : KeepsPatterned scoping suited → KeepsTypedefs scoping on
  keeps_patterned k = record {
    numbers = is.numbers;
    typed = k.tables;
    suited = suited_with k.tables k.has;
    defaults = subst (λ z. KeepsDefaults scoping z k.tables) is.plan_is k.defaults;
  }

  pub unsuited_patterned : (found : TextFault) (tables : Tables) → HasPatterns scoping.located suited.typed tables → BreaksDefault scoping suited.plan tables found → BreaksTypedefs scoping on found
  unsuited_patterned found tables has breaks =
      unadmitted is.numbers tables found (suited_with tables has) (subst (λ z. BreaksDefault scoping z tables found) is.plan_is breaks)

  pub refused_patterned : (refusals : Refusals) (found : TextFault) → RefusesType scoping.located suited.typed refusals found → IsRefused (typedef_basis scoping on is.numbers) refusals found
  refused_patterned refusals found r =
      subst (λ z. IsRefused (basis_of scoping on z own_tables) refusals found) is.plan_is
      (refused_in_use (AreNames scoping on) (basis_of scoping on suited.plan own_tables) suited.typed is.bare.typings refusals found r)

-- ---- what is found of defaults last
pub patterned_last : (scoping : Scoping) (suited : Suited) (refusals : Refusals) (tables : Tables) → HasPatterns scoping.located suited.typed tables → (result : Result (Unit {0}) (Stop TextFault)) →
    MatchResult result (λ _. KeepsDefaults scoping suited.plan tables) (OnBroken (BreaksDefault scoping suited.plan tables)) →
    MatchResult result (λ _. KeepsPatterned scoping suited) (OnBroken (BreaksPatterned scoping suited refusals))
patterned_last scoping suited refusals tables has (Ok u) h = record { tables = tables; has = has; defaults = h }
patterned_last scoping suited refusals tables has (Err (Broken found)) h = unsuited found tables has h
patterned_last scoping suited refusals tables has (Err Memory) h = tt

pub patterned_refused : (scoping : Scoping) (suited : Suited) (refusals : Refusals) (stop : Stop TextFault) → OnBroken (RefusesType scoping.located suited.typed refusals) stop →
    OnBroken (BreaksPatterned scoping suited refusals) stop
patterned_refused scoping suited refusals (Broken found) r = refused found r
patterned_refused scoping suited refusals Memory r = tt
