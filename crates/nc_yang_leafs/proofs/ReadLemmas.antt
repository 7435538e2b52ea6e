-- The values of `default` statements, one after another.
use Rattle.std.proofs.Common.{◌≡◌, ◌≢◌, ◌<◌, ◌≤◌, ◌+◌, ◌||◌, cond, ℕ, zero, suc, Bool, true, false, List, [], ◌∷◌, ◌++◌, length, take, map, get_or, refl, sym, ap, ◌∙◌, subst, arith, append_assoc}
use Rattle.std.specs.Prelude.{Option, Some, None, is_some, slice_get, Contains}
use Rattle.std.specs.List.{AllPairs, list_any}
use Rattle.std.proofs.lemmas.List.{length-take-le, map-append, take_all}
use Rattle.std.proofs.lemmas.List.Folds.{list_any-append}
use Rattle.std.proofs.lemmas.Option.{slice_get-get_or}
use Rattle.nc_names.specs.Same.{is_same_text}
use Rattle.nc_schema.specs.Tables.{Tables}
use Rattle.nc_yang_scopes.specs.Scopes.{Located, Scoping}
use Rattle.nc_yang_scopes.specs.Tables.{either, is_key, number_at, KeepsOneMore}
use Rattle.nc_yang_scopes.specs.declared.table.Table.{Table}
use Rattle.nc_yang_scopes.proofs.Lists.{take_next}
use Rattle.nc_yang_scopes.specs.Numbers.{AreNumbers, OnNumber}
use Rattle.nc_yang_statements.specs.declared.fault.ModuleWhy.TheVariants.{BadArgument, Twice}
use Rattle.nc_yang_leafs.specs.Defaults.{AreValues, IsBroken}
use Rattle.nc_yang_leafs.specs.Readings.{value_of}
use Rattle.nc_yang_leafs.specs.inner.Reading.{AreRead, IsAgain, IsFirstAgain, IsStop}
use Rattle.nc_yang_leafs.proofs.ListLemmas.{apart_more, contains_any, cut_at, cut_read, get_middle}

-- the statement of a number among others
pub numbers_at : (located : List Located) (numbers : List ℕ) (ls : List Located) (i n : ℕ) → AreNumbers located numbers ls → slice_get numbers i ≡ Some n → (l : Located) × (slice_get ls i ≡ Some l) × (slice_get located n ≡ Some l)
numbers_at located [] ls i n are at = absurd (cc)
numbers_at located (m ∷ ms) [] i n are at = absurd (cc)
numbers_at located (m ∷ ms) (l ∷ ls) zero n are at = (l, refl, let a : m ≡ n = cc in let b : slice_get located m ≡ Some l = cc in ap (slice_get located) (sym a) ∙ b)
numbers_at located (m ∷ ms) (l ∷ ls) (suc i) n are at = numbers_at located ms ls i n (cc) at

pub numbers_counted : (located : List Located) (numbers : List ℕ) (ls : List Located) → AreNumbers located numbers ls → length numbers ≡ length ls
numbers_counted located [] [] are = refl
numbers_counted located [] (l ∷ ls) are = absurd (cc)
numbers_counted located (m ∷ ms) [] are = absurd (cc)
numbers_counted located (m ∷ ms) (l ∷ ls) are = ap suc (numbers_counted located ms ls (cc))

module _ (scoping : Scoping) (tables : Tables) (number : ℕ) (numbers : List ℕ) (i default : ℕ) (less : i < length numbers) (is : default ≡ get_or numbers i 0) where
  abbrev pub f : Located → Option (List ℕ)
  f = value_of scoping.texts tables number

  abbrev pub SoFar : ℕ → List (List ℕ) → Type 0
  SoFar count values = (ls : List Located) → AreNumbers scoping.located numbers ls → map f (take count ls) ≡ map Some values

  there : slice_get numbers i ≡ Some default
  there = slice_get-get_or numbers i 0 less ∙ ap Some (sym is)

  pub read_more : (values new : List (List ℕ)) (v : List ℕ) → SoFar i values → OnNumber scoping default (λ d. Some v ≡ f d) → new ≡ values ++ v ∷ [] → SoFar (i + 1) new
  read_more values new v so_far found new_is ls are =
      let h = numbers_at scoping.located numbers ls i default are there in
      let value : f h.0 ≡ Some v = sym (found h.0 h.2) in
      ap (map f) (take_next ls i h.0 h.1) ∙ map-append f (take i ls) (h.0 ∷ []) ∙ ap (λ z. z ++ f h.0 ∷ []) (so_far ls are) ∙ ap (λ o. map Some values ++ o ∷ []) value
      ∙ sym (ap (map Some) new_is ∙ map-append Some values (v ∷ []))

  pub read_stops : (values : List (List ℕ)) → SoFar i values → OnNumber scoping default (λ d. None ≡ f d) →
      (ls : List Located) → AreNumbers scoping.located numbers ls → AreRead scoping tables number ls values (Some default)
  read_stops values so_far found ls are =
      let h = numbers_at scoping.located numbers ls i default are there in
      let cut = cut_at ls i h.0 h.1 in
      record { before = take i ls; after = cut.0; default = h.0; cut = cut.1; read = so_far ls are; is = h.2; none = sym (found h.0 h.2) }

pub read_done : (scoping : Scoping) (tables : Tables) (number : ℕ) (numbers : List ℕ) (i : ℕ) (values : List (List ℕ)) → length numbers ≤ i →
    ((ls : List Located) → AreNumbers scoping.located numbers ls → map (value_of scoping.texts tables number) (take i ls) ≡ map Some values) →
    (ls : List Located) → AreNumbers scoping.located numbers ls → AreRead scoping tables number ls values None
read_done scoping tables number numbers i values past so_far ls are =
    let counted = numbers_counted scoping.located numbers ls are in
    ap (map (value_of scoping.texts tables number)) (sym (take_all i ls (omega (arith, counted)))) ∙ so_far ls are

-- texts that were seen
abbrev pub HasSeen : Table → List (List ℕ) → Type 0
HasSeen seen values = (word : List ℕ) → is_some (number_at seen 0 word) ≡ list_any (λ u. is_same_text u word) values

some_either : (a b : Option ℕ) → is_some (either a b) ≡ (is_some a || is_some b)
some_either None b = refl
some_either (Some n) b = refl

some_cond : (b : Bool) (n : ℕ) → is_some (cond b (Some n) None) ≡ b
some_cond true n = refl
some_cond false n = refl

or_false : (b : Bool) → (b || false) ≡ b
or_false true = refl
or_false false = refl

module _ (values : List (List ℕ)) (i : ℕ) (v : List ℕ) (at : slice_get values i ≡ Some v) where
  pub seen_more : (seen new : Table) (number : ℕ) → HasSeen seen (take i values) → KeepsOneMore seen 0 v number new → HasSeen new (take (i + 1) values)
  seen_more seen new number so_far keeps word =
      ap is_some (keeps 0 word) ∙ some_either (number_at seen 0 word) (cond (is_key 0 v 0 word) (Some number) None)
      ∙ (λ j. so_far word j || some_cond (is_key 0 v 0 word) number j)
      ∙ sym (ap (list_any (λ u. is_same_text u word)) (take_next values i v at) ∙ list_any-append (λ u. is_same_text u word) (take i values) (v ∷ []) ∙ ap (λ b. list_any (λ u. is_same_text u word) (take i values) || b) (or_false (is_same_text v word)))

  pub apart_next : (seen : Table) → HasSeen seen (take i values) → is_some (number_at seen 0 v) ≡ false → AllPairs (λ one later. one ≢ later) (take i values) → AllPairs (λ one later. one ≢ later) (take (i + 1) values)
  apart_next seen so_far new apart = subst (AllPairs (λ one later. one ≢ later)) (sym (take_next values i v at)) (apart_more (take i values) v apart (sym (so_far v) ∙ new))

  pub found_again : (seen : Table) → HasSeen seen (take i values) → is_some (number_at seen 0 v) ≡ true → AllPairs (λ one later. one ≢ later) (take i values) → i < length values → IsAgain values i
  found_again seen so_far old apart less =
      let cut = cut_at values i v at in
      record { before = take i values; after = cut.0; value = v; cut = cut.1; counted = length-take-le i values (omega arith); apart = apart; again = contains_any v (take i values) (sym (so_far v) ∙ old) }

-- what is read in front of what stops, or all
pub record Front (scoping : Scoping) (tables : Tables) (number : ℕ) (defaults : List Located) (values : List (List ℕ)) : Type 0 where
  pub front : List Located
  pub rest : List Located
  pub cut : defaults ≡ front ++ rest
  pub read : map (value_of scoping.texts tables number) front ≡ map Some values

append_none : {A : Type 0} (xs : List A) → xs ≡ xs ++ []
append_none [] = refl
append_none (x ∷ xs) = ap (λ z. x ∷ z) (append_none xs)

module _ (scoping : Scoping) (tables : Tables) (number : ℕ) (defaults : List Located) (values : List (List ℕ)) where
  front_of : (stop : Option ℕ) → AreRead scoping tables number defaults values stop → Front scoping tables number defaults values
  front_of None h = record { front = defaults; rest = []; cut = append_none defaults; read = h }
  front_of (Some stop) h = record { front = h.before; rest = h.default ∷ h.after; cut = h.cut; read = h.read }

  -- a text stands before it
  pub stop_again : (stop : Option ℕ) (place at : ℕ) (numbers : List ℕ) → AreRead scoping tables number defaults values stop → IsAgain values place →
      AreNumbers scoping.located numbers defaults → slice_get numbers place ≡ Some at → IsStop scoping tables number defaults (record { at = at; why = Twice })
  stop_again stop place at numbers read again are at_is =
      let f = front_of stop read in
      let c = cut_read (value_of scoping.texts tables number) f.front again.before again.after again.value (f.read ∙ ap (map Some) again.cut) in
      let cut : defaults ≡ c.before ++ c.x ∷ (c.after ++ f.rest) = f.cut ∙ ap (λ z. z ++ f.rest) c.cut ∙ append_assoc c.before (c.x ∷ c.after) f.rest in
      let n = numbers_at scoping.located numbers defaults place at are at_is in
      let place_is : length c.before ≡ place = c.counted ∙ again.counted in
      let here : slice_get defaults place ≡ Some c.x = ap (λ z. slice_get z place) cut ∙ ap (slice_get (c.before ++ c.x ∷ (c.after ++ f.rest))) (sym place_is) ∙ get_middle c.before (c.after ++ f.rest) c.x in
      let same : n.0 ≡ c.x = let e : Some n.0 ≡ Some c.x = sym n.1 ∙ here in cc in
      record {
        default = c.x;
        is = n.2 ∙ ap Some same;
        stops = record {
          before = c.before;
          after = c.after ++ f.rest;
          cut = cut;
          earlier = again.before;
          values = record { read = c.read; apart = again.apart };
          why = Twice;
          broken = subst (λ o. IsBroken again.before o Twice) (sym c.is) (again.again, refl);
        };
        why = refl;
      }

  pub stop_again_at : (stop : Option ℕ) (place at : ℕ) (numbers : List ℕ) → place < length numbers → at ≡ get_or numbers place 0 → AreRead scoping tables number defaults values stop → IsAgain values place →
      AreNumbers scoping.located numbers defaults → IsStop scoping tables number defaults (record { at = at; why = Twice })
  stop_again_at stop place at numbers less is read again are = stop_again stop place at numbers read again are (slice_get-get_or numbers place 0 less ∙ ap Some (sym is))

  -- a text has no value
  pub stop_lacks : (stop : ℕ) → AreRead scoping tables number defaults values (Some stop) → IsFirstAgain values None → IsStop scoping tables number defaults (record { at = stop; why = BadArgument })
  stop_lacks stop h apart = record {
    default = h.default;
    is = h.is;
    stops = record {
      before = h.before;
      after = h.after;
      cut = h.cut;
      earlier = values;
      values = record { read = h.read; apart = apart };
      why = BadArgument;
      broken = subst (λ o. IsBroken values o BadArgument) (sym h.none) refl;
    };
    why = refl;
  }

  pub all_read : AreRead scoping tables number defaults values None → IsFirstAgain values None → AreValues scoping.texts tables number defaults values
  all_read h apart = record { read = h; apart = apart }
