-- Chains of definitions end where none leads back to itself.
use Rattle.std.proofs.Common.{inl, inr, ◌≡◌, ◌<◌, ◌++◌, ℕ, zero, suc, List, [], ◌∷◌, length, refl, sym, ap, subst, ◌∙◌, arith}
use Rattle.std.specs.Prelude.{Option, Some, None, slice_get, Contains}
use Rattle.std.proofs.lemmas.Bool.{cases_lt}
use Rattle.std.proofs.lemmas.List.Elements.{Contains-append_left, Contains-append_right}
use Rattle.std.proofs.lemmas.Option.{slice_get_within}
use Rattle.nc_yang_words.specs.declared.statement.Statement.{Statement}
use Rattle.nc_yang_statements.specs.declared.fault.ModuleWhy.TheVariants.{Loop}
use Rattle.nc_yang_statements.specs.Statements.{below, line}
use Rattle.nc_yang_scopes.specs.Scopes.{Located, Place, child, inside as inside_of}
use Rattle.nc_yang_scopes.specs.Names.{StandsIn, inside, itself}
use Rattle.nc_yang_scopes.specs.declared.kinds.Defined.{Defined}
use Rattle.nc_yang_scopes.specs.Loops.{IsDefinition, KeepsLoops, Names, Reaches, itself as arrived, through}
use Rattle.nc_yang_scopes.proofs.LinkLists.{contains_first, contains_later}
use Rattle.nc_yang.proofs.Lists.{without}
use Rattle.nc_yang.proofs.Looked.{child_of, lay, root_of}
use Rattle.nc_yang.proofs.Trees.{tree}

-- a list of all that stand in a statement, and of all that stand in these
abbrev AllIn : Located → Type 0
AllIn l = (xs : List Located) × ((u : Located) → StandsIn l u → Contains xs u)

abbrev Listed : Statement → Type 0
Listed s = (place : Place) → AllIn (record { statement = s; place = place })

abbrev AllAmong : List Statement → Place → Type 0
AllAmong ss place = (xs : List Located) × ((i : ℕ) (t : Statement) (u : Located) → slice_get ss i ≡ Some t → StandsIn (record { statement = t; place = place }) u → Contains xs u)

all_among : (ss : List Statement) (place : Place) → ((i : ℕ) (t : Statement) → slice_get ss i ≡ Some t → Listed t) → AllAmong ss place
all_among [] place each = ([], (λ i t u e d. absurd (cc)))
all_among (s ∷ ss) place each = joined (each 0 s refl place) (all_among ss place (λ i t e. each (suc i) t e))
  where
    joined : AllIn (record { statement = s; place = place }) → AllAmong ss place → AllAmong (s ∷ ss) place
    joined a b = (a.0 ++ b.0, by)
      where
        by : (i : ℕ) (t : Statement) (u : Located) → slice_get (s ∷ ss) i ≡ Some t → StandsIn (record { statement = t; place = place }) u → Contains (a.0 ++ b.0) u
        by zero t u e d = let same : t ≡ s = cc in Contains-append_left a.0 b.0 u (a.1 u (subst (λ z. StandsIn (record { statement = z; place = place }) u) same d))
        by (suc i) t u e d = Contains-append_right a.0 b.0 u (b.1 i t u e d)

one_more : (here : Located) → AllAmong (below here.statement) (inside_of here) → AllIn here
one_more here b = (here ∷ b.0, (λ u d. by u here refl d))
  where
    by : (u k : Located) → k ≡ here → StandsIn k u → Contains (here ∷ b.0) u
    by u k same (itself j) = subst (λ z. Contains (here ∷ b.0) z) (sym same) (contains_first here b.0)
    by u k same (inside j c i place is_open one d) =
        let m = child_of here c place (subst (λ z. child place z ≡ Some c) same one) in
        contains_later here b.0 u (b.1 place m.0 u m.1 (subst (λ z. StandsIn z u) (sym m.2) d))

listed : (s : Statement) → Listed s
listed = tree Listed (λ s each place. one_more (record { statement = s; place = place }) (all_among (below s) (inside_of (record { statement = s; place = place })) each))

-- of all that stand in texts
abbrev AllBefore : List Statement → ℕ → Type 0
AllBefore texts count = (xs : List Located) × ((i : ℕ) (s : Statement) (u : Located) → i < count → slice_get texts i ≡ Some s → StandsIn (lay i s) u → Contains xs u)

all_before : (texts : List Statement) (count : ℕ) → AllBefore texts count
all_before texts zero = ([], (λ i s u less e d. absurd (omega (arith, less))))
all_before texts (suc count) = by (slice_get texts count) refl (all_before texts count)
  where
    by : (o : Option Statement) → slice_get texts count ≡ o → AllBefore texts count → AllBefore texts (suc count)
    by None none a = (
      a.0,
      (λ i s u less e d. elim (cases_lt i count) [
        | inl earlier ↦ a.1 i s u earlier e d
        | inr now ↦ absurd (let same : i ≡ count = omega (arith, less, now) in let f : slice_get texts i ≡ None = ap (slice_get texts) same ∙ none in cc)
      ]),
    )
    by (Some r) some a = (
      a.0 ++ (listed r (lay count r).place).0,
      (λ i s u less e d. elim (cases_lt i count) [
        | inl earlier ↦ Contains-append_left a.0 (listed r (lay count r).place).0 u (a.1 i s u earlier e d)
        | inr now ↦
            let same : i ≡ count = omega (arith, less, now) in
            let one : s ≡ r = let f : slice_get texts i ≡ Some r = ap (slice_get texts) same ∙ some in cc in
            Contains-append_right a.0 (listed r (lay count r).place).0 u
            ((listed r (lay count r).place).1 u (subst (λ n. StandsIn (lay n r) u) same (subst (λ z. StandsIn (lay i z) u) one d)))
      ]),
    )

-- of all definitions
definitions : (texts : List Statement) (sort : Defined) → (xs : List Located) × ((d : Located) → IsDefinition texts sort d → Contains xs d)
definitions texts sort = by (all_before texts (length texts))
  where
    by : AllBefore texts (length texts) → (xs : List Located) × ((d : Located) → IsDefinition texts sort d → Contains xs d)
    by a = (
      a.0,
      (λ d defined.
          let r = root_of texts defined.text defined.top defined.is_top in
          a.1 defined.text r.0 d (slice_get_within texts defined.text r.0 r.1) r.1 (subst (λ z. StandsIn z d) (sym r.2) defined.stands)),
    )

module _ (texts : List Statement) (keeps : KeepsLoops texts) (sort : Defined) where
  no_circle : (here s there : Located) → Names texts sort here s there → Reaches texts sort there here → ⊥
  no_circle here s there names back =
      keeps s.place.text (record { line = line s.statement; why = Loop }) (record {
        sort = sort;
        breaks = record { statement = s; circle = record { here = here; there = there; names = names; back = back }; is_text = refl; is_fault = refl };
      })

  -- what is so of a definition where it is so of all that it names is so of each
  module _ (Good : Located → Type 0) (step : (d : Located) → IsDefinition texts sort d → ((s e : Located) → Names texts sort d s e → Good e) → Good d) where
    of_reach : (count : ℕ) (xs : List Located) → length xs ≡ count → (d : Located) → IsDefinition texts sort d →
        ((e : Located) → Reaches texts sort d e → IsDefinition texts sort e → Contains xs e) → Good d
    of_reach zero xs is d defined all = absurd (let h = all d (arrived d) defined in omega (arith, h.1, is))
    of_reach (suc count) xs is d defined all =
        let r = without xs d (all d (arrived d) defined) in
        step d defined (λ s e names. of_reach count r.0 (omega (arith, r.1, is)) e names.is_there (λ f reaches f_defined.
        r.2 f (all f (through d s e f names reaches) f_defined) (λ same. no_circle d s e names (subst (λ z. Reaches texts sort e z) same reaches))))

    pub of_each : (d : Located) → IsDefinition texts sort d → Good d
    of_each d defined = let all = definitions texts sort in of_reach (length all.0) all.0 refl d defined (λ e reaches e_defined. all.1 e e_defined)
