-- Statements of one keyword directly in another, by their numbers.
use Rattle.std.proofs.Common.{◌≡◌, ◌<◌, ◌≤◌, ◌+◌, ℕ, Bool, true, false, cond, List, [], ◌∷◌, ◌++◌, length, take, map, refl, sym, ap, ◌∙◌, subst, arith, get_or}
use Rattle.std.specs.Prelude.{Option, Some, None, IsSome, is_some, slice_get, filter, position, option_map, option_and_then}
use Rattle.std.proofs.lemmas.Iterator.Adapters.{position_from-zero}
use Rattle.std.proofs.lemmas.List.{append-nil, map-append, take_all}
use Rattle.std.proofs.lemmas.List.Elements.{filter-append}
use Rattle.std.proofs.lemmas.Option.{slice_get-get_or}
use Rattle.nc_yang_words.specs.declared.statement.Statement.{Statement}
use Rattle.nc_yang_statements.specs.declared.keyword.Keyword.{Keyword}
use Rattle.nc_yang_statements.specs.Keywords.{is_same_keyword}
use Rattle.nc_yang_statements.specs.Statements.{below, kind, part}
use Rattle.nc_yang_scopes.specs.Scopes.{Located, Scoping, child}
use Rattle.nc_yang_scopes.specs.inner.Naming.{HasNumber}
use Rattle.nc_yang_scopes.proofs.Lists.{IsFoundAt, found_at, found_none, take_next}
use Rattle.nc_yang_scopes.specs.Parts.{in_it, part_of, parts_of}
use Rattle.nc_yang_scopes.specs.Numbers.{AreNumbers, IsNumber, OnNumber}

abbrev pub is_of : Keyword → Statement → Bool
is_of keyword s = is_same_keyword keyword (kind s)

-- the statement of a number
pub statement_is : (scoping : Scoping) (n : ℕ) (s : Statement) (l : Located) → HasNumber scoping n s → slice_get scoping.located n ≡ Some l → l.statement ≡ s
statement_is scoping n s l number here = let e : Some l.statement ≡ Some s = sym (ap (option_map (λ (k : Located). k.statement)) here) ∙ number in cc

module _ (scoping : Scoping) (n : ℕ) (s : Statement) (among : List Statement) (number : HasNumber scoping n s) (among_is : among ≡ below s) where
  -- the statement in a place
  child_is : (l : Located) (place : ℕ) (x : Statement) → slice_get scoping.located n ≡ Some l → slice_get among place ≡ Some x → child place l ≡ Some (in_it l x)
  child_is l place x here at =
      let same = statement_is scoping n s l number here in
      ap (λ z. option_map (in_it l) (slice_get (below z) place)) same ∙ ap (λ z. option_map (in_it l) (slice_get z place)) (sym among_is) ∙ ap (option_map (in_it l)) at

  -- of the first of a keyword
  pub first_place : (keyword : Keyword) (place : ℕ) → position (is_of keyword) among ≡ Some place → IsFoundAt (is_of keyword) among 0 place
  first_place keyword place is = found_at (is_of keyword) among 0 place (sym (position_from-zero (is_of keyword) among) ∙ is)

  at_place : (keyword : Keyword) (place : ℕ) → position (is_of keyword) among ≡ Some place → (x : Statement) × (slice_get among place ≡ Some x) × (part keyword among ≡ Some x)
  at_place keyword place is =
      let f = first_place keyword place is in
      let less : f.place < length among = f.within in
      let eq : f.place ≡ place = omega (arith, f.is) in
      let got : slice_get among f.place ≡ Some (get_or among f.place s) = slice_get-get_or among f.place s less in
      (get_or among f.place s, subst (λ z. slice_get among z ≡ Some (get_or among f.place s)) eq got, f.found ∙ got)

  pub part_there : (keyword : Keyword) (place : ℕ) → position (is_of keyword) among ≡ Some place → IsSome (option_and_then (child place) (slice_get scoping.located n))
  part_there keyword place is = by (slice_get scoping.located n) refl
    where
      by : (o : Option Located) → slice_get scoping.located n ≡ o → IsSome (option_and_then (child place) (slice_get scoping.located n))
      by None none = absurd (let e : None ≡ Some s = sym (ap (option_map (λ (k : Located). k.statement)) none) ∙ number in cc)
      by (Some l) here = let x = at_place keyword place is in ap (λ o. is_some (option_and_then (child place) o)) here ∙ ap is_some (child_is l place x.0 here x.1)

  pub part_found : (keyword : Keyword) (place m : ℕ) → position (is_of keyword) among ≡ Some place →
      slice_get scoping.located m ≡ option_and_then (child place) (slice_get scoping.located n) → OnNumber scoping n (λ l. IsNumber scoping.located (Some m) (part_of keyword l))
  part_found keyword place m is at = λ l here.
      let x = at_place keyword place is in
      let same = statement_is scoping n s l number here in
      let there : slice_get scoping.located m ≡ Some (in_it l x.0) = at ∙ ap (option_and_then (child place)) here ∙ child_is l place x.0 here x.1 in
      let part_is : part_of keyword l ≡ Some (in_it l x.0) = ap (λ z. option_map (in_it l) (part keyword (below z))) same ∙ ap (λ z. option_map (in_it l) (part keyword z)) (sym among_is) ∙ ap (option_map (in_it l)) x.2 in
      ap Some there ∙ sym (ap (option_map Some) part_is)

  pub part_lost : (keyword : Keyword) → position (is_of keyword) among ≡ None → OnNumber scoping n (λ l. IsNumber scoping.located None (part_of keyword l))
  part_lost keyword is = λ l here.
      let same = statement_is scoping n s l number here in
      let part_is : part_of keyword l ≡ None = ap (λ z. option_map (in_it l) (part keyword (below z))) same ∙ ap (λ z. option_map (in_it l) (part keyword z)) (sym among_is) ∙ ap (option_map (in_it l)) (found_none (is_of keyword) among 0 (sym (position_from-zero (is_of keyword) among) ∙ is)) in
      sym (ap (option_map Some) part_is)

  -- all of a keyword, as far as one has come
  abbrev pub AreFound : Keyword → ℕ → List ℕ → Type 0
  AreFound keyword place found = (l : Located) → slice_get scoping.located n ≡ Some l → AreNumbers scoping.located found (map (in_it l) (filter (is_of keyword) (take place among)))

  pub parts_more : (keyword : Keyword) (place m : ℕ) (x : Statement) (found : List ℕ) → AreFound keyword place found → place < length among → x ≡ get_or among place x → is_of keyword x ≡ true →
      slice_get scoping.located m ≡ option_and_then (child place) (slice_get scoping.located n) → (new : List ℕ) → new ≡ found ++ m ∷ [] → AreFound keyword (place + 1) new
  parts_more keyword place m x found so_far less is yes_it at new new_is = λ l here. ap (map (slice_get scoping.located)) new_is ∙ (
      let got : slice_get among place ≡ Some x = slice_get-get_or among place x less ∙ ap Some (sym is) in
      let there : slice_get scoping.located m ≡ Some (in_it l x) = at ∙ ap (option_and_then (child place)) here ∙ child_is l place x here got in
      map-append (slice_get scoping.located) found (m ∷ [])
      ∙ ap (λ z. z ++ slice_get scoping.located m ∷ []) (so_far l here) ∙ ap (λ z. map Some (map (in_it l) (filter (is_of keyword) (take place among))) ++ z ∷ []) there
      ∙ sym (ap (λ z. map Some (map (in_it l) z)) (filtered x got yes_it)
      ∙ ap (map Some) (map-append (in_it l) (filter (is_of keyword) (take place among)) (x ∷ []))
      ∙ map-append Some (map (in_it l) (filter (is_of keyword) (take place among))) (in_it l x ∷ [])))
    where
      filtered : (x : Statement) → slice_get among place ≡ Some x → is_of keyword x ≡ true → filter (is_of keyword) (take (place + 1) among) ≡ filter (is_of keyword) (take place among) ++ x ∷ []
      filtered x got yes_it = ap (filter (is_of keyword)) (take_next among place x got) ∙ filter-append (is_of keyword) (take place among) (x ∷ []) ∙ ap (λ b. filter (is_of keyword) (take place among) ++ cond b (x ∷ []) []) yes_it

  pub parts_same : (keyword : Keyword) (place : ℕ) (x : Statement) (found : List ℕ) → AreFound keyword place found → place < length among → x ≡ get_or among place x → is_of keyword x ≡ false → (new : List ℕ) → new ≡ found → AreFound keyword (place + 1) new
  parts_same keyword place x found so_far less is not_it new new_is = λ l here. ap (map (slice_get scoping.located)) new_is
      ∙ so_far l here ∙ ap (λ z. map Some (map (in_it l) z)) (sym (filtered (slice_get-get_or among place x less ∙ ap Some (sym is))))
    where
      filtered : slice_get among place ≡ Some x → filter (is_of keyword) (take (place + 1) among) ≡ filter (is_of keyword) (take place among)
      filtered got = ap (filter (is_of keyword)) (take_next among place x got) ∙ filter-append (is_of keyword) (take place among) (x ∷ [])
          ∙ ap (λ b. filter (is_of keyword) (take place among) ++ cond b (x ∷ []) []) not_it ∙ append-nil (filter (is_of keyword) (take place among))

  pub parts_all : (keyword : Keyword) (place : ℕ) (found : List ℕ) → AreFound keyword place found → length among ≤ place → OnNumber scoping n (λ l. AreNumbers scoping.located found (parts_of keyword l))
  parts_all keyword place found so_far past = λ l here.
      let same = statement_is scoping n s l number here in
      so_far l here ∙ ap (λ z. map Some (map (in_it l) (filter (is_of keyword) z))) (take_all place among past ∙ among_is) ∙ ap (λ z. map Some (map (in_it l) (filter (is_of keyword) (below z)))) (sym same)
