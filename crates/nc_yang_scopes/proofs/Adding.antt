-- The numbers of what stands in a statement.
use Rattle.std.proofs.Common.{inl, inr, ◌≡◌, ◌<◌, ◌≤◌, ◌+◌, ◌++◌, ◌∷◌, [], ℕ, true, false, List, length, get_or, refl, sym, ap, subst, ◌∙◌, arith}
use Rattle.std.specs.Prelude.{Option, Some, None, slice_get, option_map, option_and_then, Contains}
use Rattle.std.proofs.lemmas.Bool.{cases_lt}
use Rattle.std.proofs.lemmas.List.Elements.{Contains-append_left, Contains-push, Contains-push_cases}
use Rattle.nc_yang_words.specs.declared.statement.Statement.{Statement}
use Rattle.nc_yang_statements.specs.Keywords.{is_closed}
use Rattle.nc_yang_statements.specs.Statements.{below, kind}
use Rattle.nc_yang_scopes.specs.Scopes.{Located, Scoping, child, inside as inside_of}
use Rattle.nc_yang_scopes.specs.Names.{StandsIn, inside, itself}
use Rattle.nc_yang_scopes.specs.inner.Naming.{HasNumber}
use Rattle.nc_yang_scopes.proofs.Lists.{get_within}
use Rattle.nc_yang_scopes.proofs.Misnaming.{child_is, statement_is}
use Rattle.nc_yang_scopes.specs.Orders.{HasOne}
use Rattle.nc_yang_scopes.specs.inner.Links.{Adds, AddsAt, AddsSome}

-- a number stays
pub still_one : (scoping : Scoping) (old new : List ℕ) (l : Located) → ((n : ℕ) → Contains old n → Contains new n) → HasOne scoping old l → HasOne scoping new l
still_one scoping old new l kept h = record { number = h.number; among = kept h.number h.among; is = h.is }

-- what stands directly in it has a place
pub child_within : (place : ℕ) (l c : Located) → child place l ≡ Some c → place < length (below l.statement)
child_within place l c one = by (slice_get (below l.statement) place) refl one
  where
    put : Statement → Located
    put t = record { statement = t; place = inside_of l }

    by : (o : Option Statement) → slice_get (below l.statement) place ≡ o → option_map put o ≡ Some c → place < length (below l.statement)
    by None none e = absurd (cc)
    by (Some t) there e = get_within (below l.statement) place t there

module _ (scoping : Scoping) (n : ℕ) (s : Statement) (l : Located) (number : HasNumber scoping n s) (here : slice_get scoping.located n ≡ Some l) where
  pub own_number : (old new : List ℕ) → new ≡ old ++ n ∷ [] → AddsSome scoping l 0 old new
  own_number old new is = subst (AddsSome scoping l 0 old) (sym is) (record {
    kept = λ m h. Contains-append_left old (n ∷ []) m h;
    only = λ m h. elim (Contains-push_cases old n m h) [
      | inl a ↦ inl a
      | inr same ↦ inr (record { statement = l; is = ap (slice_get scoping.located) (sym same) ∙ here; stands = itself l })
    ];
    own = record { number = n; among = Contains-push old n; is = here };
    inner = λ place c t less. absurd (omega arith);
  })

  -- nothing more is asked
  pub closed_ends : (old new : List ℕ) → is_closed (kind s) ≡ true → AddsSome scoping l 0 old new → Adds scoping l old new
  closed_ends old new shut h = record { kept = h.kept; only = h.only; all = λ u stands. by l refl u stands }
    where
      by : (k : Located) → k ≡ l → (u : Located) → StandsIn k u → HasOne scoping new u
      by k same u (itself j) = subst (HasOne scoping new) (sym same) h.own
      by k same u (inside j c i place is_open one d) = absurd (let e : is_closed (kind l.statement) ≡ true = ap (λ z. is_closed (kind z)) (statement_is scoping n s l number here) ∙ shut in let f : is_closed (kind l.statement) ≡ false = subst (λ (z : Located). is_closed (kind z.statement) ≡ false) same is_open in cc)

  -- all that stands directly in it was looked at
  pub all_ends : (among : List Statement) → among ≡ below s → (count : ℕ) (old new : List ℕ) → length among ≤ count → AddsSome scoping l count old new → Adds scoping l old new
  all_ends among among_is count old new le h = record { kept = h.kept; only = h.only; all = λ u stands. by l refl u stands }
    where
      by : (k : Located) → k ≡ l → (u : Located) → StandsIn k u → HasOne scoping new u
      by k same u (itself j) = subst (HasOne scoping new) (sym same) h.own
      by k same u (inside j c i place is_open one d) =
          let one_here : child place l ≡ Some c = subst (λ z. child place z ≡ Some c) same one in
          let less : place < length (below l.statement) = child_within place l c one_here in
          let e = ap (λ z. length (below z)) (statement_is scoping n s l number here) in
          let f = ap length among_is in
          h.inner place c u (omega arith) one_here d

  -- one more that stands directly in it
  pub one_more : (among : List Statement) → among ≡ below s → (place m : ℕ) (t : Statement) (old now new : List ℕ) → is_closed (kind s) ≡ false → place < length among → t ≡ get_or among place t →
      slice_get scoping.located m ≡ option_and_then (child place) (slice_get scoping.located n) →
      AddsAt scoping m now new → AddsSome scoping l place old now → AddsSome scoping l (place + 1) old new
  one_more among among_is place m t old now new is_open less is at adds h = record {
    kept = λ k a. inner.kept k (h.kept k a);
    only = λ k a. elim (inner.only k a) [
      | inl b ↦ h.only k b
      | inr b ↦ inr (record { statement = b.statement; is = b.is; stands = inside l c b.statement place (ap (λ z. is_closed (kind z)) (statement_is scoping n s l number here) ∙ is_open) one b.stands })
    ];
    own = still_one scoping now new l inner.kept h.own;
    inner = further;
  }
    where
      c : Located
      c = record { statement = t; place = inside_of l }

      one : child place l ≡ Some c
      one = child_is scoping n s l number here among among_is place t less is

      inner : Adds scoping c now new
      inner = adds c (at ∙ ap (option_and_then (child place)) here ∙ one)

      further : (i : ℕ) (d u : Located) → i < place + 1 → child i l ≡ Some d → StandsIn d u → HasOne scoping new u
      further i d u lt one_there stands = elim (cases_lt i place) [
        | inl earlier ↦ still_one scoping now new u inner.kept (h.inner i d u earlier one_there stands)
        | inr now_it ↦
            let same : i ≡ place = omega arith in
            let eq : c ≡ d = let e : Some c ≡ Some d = sym one ∙ ap (λ z. child z l) (sym same) ∙ one_there in cc in
            inner.all u (subst (λ z. StandsIn z u) (sym eq) stands)
      ]
