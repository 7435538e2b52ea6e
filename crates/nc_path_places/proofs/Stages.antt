-- The pieces of a path text: where each leads, or where it stops.
use Rattle.std.proofs.Common.{◌≡◌, ◌⊎◌, inl, inr, ℕ, ◌-◌, Bool, true, false, not, cond, eqb, ◌||◌, List, [], ◌∷◌, ◌++◌, Option, Some, None, length, filter, find, option_map, option_and_then, refl, sym, ap, subst, ◌∙◌, append_assoc, append-nil, arith}
use Rattle.std.specs.List.{list_all, list_any}
use Rattle.std.proofs.lemmas.Bool.Decides.{Decides-eqb, nat_tests}
use Rattle.std.proofs.lemmas.Option.{some_pair_parts}
use Rattle.nc_names.proofs.SameLemmas.{first_true, second_true, both_true}
use Rattle.nc_names.specs.Ends.{after_white, past}
use Rattle.nc_names.specs.Identifiers.{is_identifier}
use Rattle.nc_names.specs.Signs.{begins_identifier, is_in_identifier, is_white, apostrophe, quote, dot, colon, equals, closing_bracket}
use Rattle.nc_schema.specs.InstancePaths.{is_of_key}
use Rattle.nc_schema.specs.PathWords.{begins_with, leading, predicate_key, quoted_string, sign, up_to, written_name}
use Rattle.nc_schema.specs.declared.written.WrittenName.{WrittenName}
use Rattle.nc_path_places.specs.inner.Halting.{Leads, Halts, first_sign}
use Rattle.nc_path_places.specs.inner.Going.{Reading, Signed, Valued, Keyed, key_named, without}
use Rattle.nc_path_places.specs.inner.Candidates.{is_giveable, is_nameable, is_named, farthest, key_first, is_marked, value_left}
use Rattle.nc_path_places.proofs.Cuts.{Stops, past_more, past_none, past_stops, same_stops, same_first, sign_is, white_first}
use Rattle.nc_path_places.proofs.Names.{In, Ends, map_some, wording, name_reads, name_cut, any_in}
use Rattle.nc_path_places.proofs.Naming.{find_passes, CanBeWritten, StopsName, stops_name, nameable_is_written}

-- ---- lists
filter_step : {X : Type 0} (p : X → Bool) (y x : X) (ys : List X) (t : Bool) → p y ≡ t → (In x (filter p ys) → In x ys × (p x ≡ true)) → In x (cond t (y ∷ filter p ys) (filter p ys)) → In x (y ∷ ys) × (p x ≡ true)
filter_step p y x ys true here further (inl same) = (inl same, ap p (sym same) ∙ here)
filter_step p y x ys true here further (inr at) = let found = further at in (inr found.0, found.1)
filter_step p y x ys false here further at = let found = further at in (inr found.0, found.1)

pub in_filter : {X : Type 0} (p : X → Bool) (xs : List X) (x : X) → In x (filter p xs) → In x xs × (p x ≡ true)
in_filter p [] x at = absurd at
in_filter p (y ∷ ys) x at = filter_step p y x ys (p y) refl (in_filter p ys x) at

in_cond : {X : Type 0} (p : X → Bool) (y x : X) (ys : List X) (t : Bool) → In x ys → In x (cond t (y ∷ ys) ys)
in_cond p y x ys true at = inr at
in_cond p y x ys false at = at

pub filter_in : {X : Type 0} (p : X → Bool) (xs : List X) (x : X) → In x xs → p x ≡ true → In x (filter p xs)
filter_in p [] x at e = absurd at
filter_in p (y ∷ ys) x (inl same) e = rw (ap p same ∙ e) (inl same)
filter_in p (y ∷ ys) x (inr at) e = in_cond p y x (filter p ys) (p y) (filter_in p ys x at e)

find_step : {X : Type 0} (p : X → Bool) (y : X) (ys : List X) (t : Bool) → ((x : X) × (find p ys ≡ Some x) × In x ys) → (x : X) × (cond t (Some y) (find p ys) ≡ Some x) × In x (y ∷ ys)
find_step p y ys true further = (y, refl, inl refl)
find_step p y ys false further = (further.0, further.1, inr further.2)

pub find_some : {X : Type 0} (p : X → Bool) (xs : List X) (x : X) → In x xs → p x ≡ true → (y : X) × (find p xs ≡ Some y) × In y xs
find_some p [] x at e = absurd at
find_some p (y ∷ ys) x (inl same) e = (y, rw (ap p same ∙ e) refl, inl refl)
find_some p (y ∷ ys) x (inr at) e = find_step p y ys (p y) (find_some p ys x at e)

pub regroup : (a b c d : List ℕ) → (a ++ (b ++ c)) ++ d ≡ (a ++ b) ++ (c ++ d)
regroup a b c d = simp append_assoc

pub first_is : (c : ℕ) (text : List ℕ) → first_sign text ≡ Some c → (rest : List ℕ) × (text ≡ c ∷ rest)
first_is c [] e = cc
first_is c (d ∷ text) e = (text, (let same : d ≡ c = cc in λ i. same i ∷ text))

pub first_clash : (s : Reading) (number : ℕ) (left text : List ℕ) (found : Option WrittenName × List ℕ) (key : ℕ) → predicate_key text ≡ Some found → key_named s number left found.0 ≡ Some key → key_first s number left text ≡ None → ⊥
first_clash s number left text found key reads named missing =
    let some : key_first s number left text ≡ Some (key, found.1) =
    ap (λ o. option_and_then (λ one. option_map (λ k. (k, one.1)) (key_named s number left one.0)) o) reads ∙ ap (λ o. option_map (λ k. (k, found.1)) o) named in
    let both : ◌≡◌ {A = Option (ℕ × List ℕ)} None (Some (key, found.1)) = sym missing ∙ some in
    cc

-- ---- a sign that stands first
abbrev pub Plain : ℕ → (List ℕ → Type 0) → List ℕ → Type 0
Plain wanted K text = (after : List ℕ) × (sign wanted text ≡ Some after) × K after

-- ---- values
abbrev PutFirst : ℕ → Option (List ℕ × List ℕ) → Option (List ℕ × List ℕ)
PutFirst c found = option_map (λ one. (c ∷ one.0, one.1)) found

pub record IsUpTo (mark : ℕ) (text value rest : List ℕ) : Type 0 where
  pub is : text ≡ value ++ mark ∷ rest
  pub again : (next : List ℕ) → up_to mark (value ++ mark ∷ next) ≡ Some (value, next)

up_to_step : (mark c : ℕ) (cs value rest : List ℕ) (t : Bool) → eqb c mark ≡ t → ((v r : List ℕ) → up_to mark cs ≡ Some (v, r) → IsUpTo mark cs v r) → cond t (Some ([], cs)) (PutFirst c (up_to mark cs)) ≡ Some (value, rest) → IsUpTo mark (c ∷ cs) value rest
up_to_step mark c cs value rest true same further e =
    let (none, back) = some_pair_parts [] value cs rest e in
    let head : c ≡ mark = (Decides-eqb c mark).0 same in
    record {
      is = (λ i. head i ∷ back i) ∙ ap (λ v. v ++ mark ∷ rest) none;
      again = λ next. ap (λ v. up_to mark (v ++ mark ∷ next)) (sym none) ∙ (rw ((Decides-eqb mark mark).1 refl) refl) ∙ ap (λ v. Some (v, next)) none;
    }
up_to_step mark c cs value rest false same further e =
    let (found, found_is, both) = map_some (up_to mark cs) (λ (one : List ℕ × List ℕ). let it : List ℕ × List ℕ = (c ∷ one.0, one.1) in it) (value, rest) e in
    let cut = further found.0 found.1 found_is in
    let front : c ∷ found.0 ≡ value = ap (λ (one : List ℕ × List ℕ). one.0) both in
    let back : found.1 ≡ rest = ap (λ (one : List ℕ × List ℕ). one.1) both in
    record {
      is = ap (λ x. c ∷ x) cut.is ∙ (λ i. front i ++ mark ∷ back i);
      again = λ next. ap (λ v. up_to mark (v ++ mark ∷ next)) (sym front) ∙ (rw same (ap (PutFirst c) (cut.again next))) ∙ ap (λ v. Some (v, next)) front;
    }

pub up_to_cut : (mark : ℕ) (text value rest : List ℕ) → up_to mark text ≡ Some (value, rest) → IsUpTo mark text value rest
up_to_cut mark [] value rest e = cc
up_to_cut mark (c ∷ cs) value rest e = up_to_step mark c cs value rest (eqb c mark) refl (up_to_cut mark cs) e

open_step : (mark c : ℕ) (cs next : List ℕ) (t : Bool) → eqb c mark ≡ t → (up_to mark cs ≡ None → up_to mark (cs ++ mark ∷ next) ≡ Some (cs, next)) → cond t (Some ([], cs)) (PutFirst c (up_to mark cs)) ≡ None → up_to mark (c ∷ (cs ++ mark ∷ next)) ≡ Some (c ∷ cs, next)
open_step mark c cs next true same further e = cc
open_step mark c cs next false same further e = rw same (ap (PutFirst c) (further (none (up_to mark cs) e)))
  where
    none : (o : Option (List ℕ × List ℕ)) → PutFirst c o ≡ None → o ≡ None
    none None f = refl
    none (Some x) f = cc

pub up_to_open : (mark : ℕ) (text next : List ℕ) → up_to mark text ≡ None → up_to mark (text ++ mark ∷ next) ≡ Some (text, next)
up_to_open mark [] next e = rw ((Decides-eqb mark mark).1 refl) refl
up_to_open mark (c ∷ cs) next e = open_step mark c cs next (eqb c mark) refl (up_to_open mark cs next) e

-- a value between marks
pub record IsQuoted (text value rest : List ℕ) : Type 0 where
  pub mark : ℕ
  pub dark : is_white mark ≡ false
  pub is : text ≡ mark ∷ (value ++ mark ∷ rest)
  pub again : (next : List ℕ) → quoted_string (mark ∷ (value ++ mark ∷ next)) ≡ Some (value, next)

mark_dark : (c : ℕ) → (eqb c apostrophe || eqb c quote) ≡ true → is_white c ≡ false
mark_dark c e = by (eqb c apostrophe) refl e
  where
    by : (t : Bool) → eqb c apostrophe ≡ t → (t || eqb c quote) ≡ true → is_white c ≡ false
    by true same f = ap is_white ((Decides-eqb c apostrophe).0 same)
    by false same f = ap is_white ((Decides-eqb c quote).0 f)

pub quoted_cut : (text value rest : List ℕ) → quoted_string text ≡ Some (value, rest) → IsQuoted text value rest
unfolding quoted_string
quoted_cut [] value rest e = cc
quoted_cut (c ∷ cs) value rest e = by (eqb c apostrophe || eqb c quote) refl e
  where
    by : (t : Bool) → (eqb c apostrophe || eqb c quote) ≡ t → cond t (up_to c cs) None ≡ Some (value, rest) → IsQuoted (c ∷ cs) value rest
    by true marks f =
        let cut = up_to_cut c cs value rest f in
        record {
          mark = c;
          dark = mark_dark c marks;
          is = ap (λ x. c ∷ x) cut.is;
          again = λ next. rw marks (cut.again next);
        }
    by false marks f = cc

-- what stands after white space is read as it stands
white_chunk : (text chunk next : List ℕ) → Stops is_white (chunk ++ next) → after_white ((leading is_white text ++ chunk) ++ next) ≡ chunk ++ next
white_chunk text chunk next stops =
    ap after_white (append_assoc (leading is_white text) chunk next) ∙ past_more is_white text (chunk ++ next) ∙ past_none is_white (chunk ++ next) stops

abbrev between : ℕ → List ℕ → List ℕ
between mark value = mark ∷ (value ++ mark ∷ [])

between_then : (mark : ℕ) (value next : List ℕ) → between mark value ++ next ≡ mark ∷ (value ++ mark ∷ next)
between_then mark value next = ap (λ x. mark ∷ x) (append_assoc value (mark ∷ []) next)

value_again : (text next : List ℕ) (mark : ℕ) (value : List ℕ) → is_white mark ≡ false → ((x : List ℕ) → quoted_string (mark ∷ (value ++ mark ∷ x)) ≡ Some (value, x)) → quoted_string (after_white ((leading is_white text ++ between mark value) ++ next)) ≡ Some (value, next)
value_again text next mark value dark again =
    ap quoted_string (white_chunk text (between mark value) next dark ∙ between_then mark value next) ∙ again next

pub valued_leads : (K : List ℕ → Type 0) (text value rest : List ℕ) → quoted_string (after_white text) ≡ Some (value, rest) → Leads (Valued K) (Signed closing_bracket K) text rest
valued_leads K text value rest e =
    let cut = quoted_cut (after_white text) value rest e in
    record {
      chunk = leading is_white text ++ between cut.mark value;
      is = white_first text (cut.mark ∷ (value ++ cut.mark ∷ rest)) cut.is ∙ ap (λ x. leading is_white text ++ x) (sym (between_then cut.mark value rest)) ∙ sym (append_assoc (leading is_white text) (between cut.mark value) rest);
      into = λ next holds. ((value, next), value_again text next cut.mark value cut.dark cut.again, holds);
      back = λ next f holds. subst (Signed closing_bracket K) (same next holds.0 (sym (value_again text next cut.mark value cut.dark cut.again) ∙ holds.1)) holds.2;
    }
  where
    same : (next : List ℕ) (found : List ℕ × List ℕ) → ◌≡◌ {A = Option (List ℕ × List ℕ)} (Some (value, next)) (Some found) → found.1 ≡ next
    same next found f = let both : ◌≡◌ {A = List ℕ × List ℕ} (value, next) found = cc in sym (ap (λ (x : List ℕ × List ℕ). x.1) both)

-- an empty value and what closes it
abbrev pub closes : List ℕ → List ℕ
closes tail = apostrophe ∷ apostrophe ∷ closing_bracket ∷ tail

closes_signed : (K : List ℕ → Type 0) (tail : List ℕ) → K tail → Signed closing_bracket K (closing_bracket ∷ tail)
closes_signed K tail holds = (tail, refl, holds)

pub closes_valued : (K : List ℕ → Type 0) (text tail : List ℕ) → K tail → Valued K (leading is_white text ++ closes tail)
unfolding quoted_string
closes_valued K text tail holds =
    (([], closing_bracket ∷ tail), ap quoted_string (past_more is_white text (closes tail)), closes_signed K tail holds)

marked_again : (text : List ℕ) (mark : ℕ) (inside next : List ℕ) → after_white text ≡ mark ∷ inside → is_white mark ≡ false → after_white (text ++ next) ≡ mark ∷ (inside ++ next)
marked_again text mark inside next e dark =
    let whole : text ++ next ≡ (leading is_white text ++ mark ∷ inside) ++ next = ap (λ x. x ++ next) (white_first text (mark ∷ inside) e) in
    ap after_white whole ∙ white_chunk text (mark ∷ inside) next dark

pub valued_halts : (K : List ℕ → Type 0) (text tail : List ℕ) → K tail → quoted_string (after_white text) ≡ None → Halts (Valued K) text (value_left (after_white text))
unfolding quoted_string
valued_halts K text tail holds e = by (after_white text) refl e
  where
    none : (inside : List ℕ) → after_white text ≡ inside → is_marked inside ≡ false → Halts (Valued K) text (length inside)
    none inside is unmarked = record {
      front = leading is_white text;
      rest = inside;
      is = white_first text inside is;
      long = refl;
      more = closes tail;
      before = closes_valued K text tail holds;
      there = λ c cs next f stands. clash c cs next stands.0 f stands.1;
    }
      where
        clash : (c : ℕ) (cs next : List ℕ) (found : List ℕ × List ℕ) → inside ≡ c ∷ cs → quoted_string (after_white (leading is_white text ++ c ∷ next)) ≡ Some found → ⊥
        clash c cs next found f g =
            let stops : is_white c ≡ false = subst (Stops is_white) (is ∙ f) (past_stops is_white text) in
            let reads : after_white (leading is_white text ++ c ∷ next) ≡ c ∷ next = past_more is_white text (c ∷ next) ∙ past_none is_white (c ∷ next) stops in
            let unmarked_there : is_marked (c ∷ cs) ≡ false = ap is_marked (sym f) ∙ unmarked in
            let nothing : quoted_string (c ∷ next) ≡ None = ap (λ b. cond b (up_to c next) None) unmarked_there in
            let both : Some found ≡ None = sym g ∙ ap quoted_string reads ∙ nothing in
            cc

    opened : (mark : ℕ) (inside : List ℕ) → after_white text ≡ mark ∷ inside → is_marked (mark ∷ inside) ≡ true → up_to mark inside ≡ None → Halts (Valued K) text 0
    opened mark inside is marked missing =
        let dark = mark_dark mark marked in
        let next : List ℕ = mark ∷ closing_bracket ∷ tail in
        record {
          front = text;
          rest = [];
          is = sym (append-nil text);
          long = refl;
          more = next;
          before = ((inside, closing_bracket ∷ tail), ap quoted_string (marked_again text mark inside next is dark) ∙ ap (λ b. cond b (up_to mark (inside ++ next)) None) marked ∙ up_to_open mark inside (closing_bracket ∷ tail) missing, closes_signed K tail holds);
          there = λ c cs next f stands. (let clash : [] ≡ c ∷ cs = f in cc);
        }

    cases : (c : ℕ) (cs : List ℕ) (t : Bool) → is_marked (c ∷ cs) ≡ t → after_white text ≡ c ∷ cs → cond t (up_to c cs) None ≡ None → Halts (Valued K) text (cond t 0 (length (c ∷ cs)))
    cases c cs true marks is f = opened c cs is marks f
    cases c cs false marks is f = none (c ∷ cs) is marks

    by : (inside : List ℕ) → after_white text ≡ inside → quoted_string inside ≡ None → Halts (Valued K) text (value_left inside)
    by [] is f = none [] is refl
    by (c ∷ cs) is f = cases c cs (is_marked (c ∷ cs)) refl is f

-- ---- keys of predicates
abbrev pub key_wording : Option WrittenName → List ℕ
key_wording None = dot ∷ []
key_wording (Some w) = wording w

abbrev pub IsProperKey : Option WrittenName → Type 0
IsProperKey None = Unit {0}
IsProperKey (Some w) = (is_identifier w.prefix ≡ true) × (is_identifier w.name ≡ true)

abbrev pub KeyEnds : Option WrittenName → List ℕ → Type 0
KeyEnds None text = Unit {0}
KeyEnds (Some w) text = Ends text

no_dot : (c : ℕ) → begins_identifier c ≡ true → eqb c dot ≡ false
no_dot c e = by (eqb c dot) refl
  where
    by : (t : Bool) → eqb c dot ≡ t → t ≡ false
    by true same = let clash : false ≡ true = ap begins_identifier (sym ((Decides-eqb c dot).0 same)) ∙ e in cc
    by false same = refl

no_white : (c : ℕ) → begins_identifier c ≡ true → is_white c ≡ false
no_white c e = by (is_white c) refl
  where
    by : (t : Bool) → is_white c ≡ t → t ≡ false
    by true same = grind (arith, nat_tests)
    by false same = refl

name_begins : (name next : List ℕ) → is_identifier name ≡ true → begins_with dot (name ++ next) ≡ false
name_begins [] next e = cc
name_begins (c ∷ cs) next e = no_dot c (first_true (begins_identifier c) (list_all is_in_identifier cs) e)

name_dark : (name next : List ℕ) → is_identifier name ≡ true → Stops is_white (name ++ next)
name_dark [] next e = cc
name_dark (c ∷ cs) next e = no_white c (first_true (begins_identifier c) (list_all is_in_identifier cs) e)

wording_then : (w : WrittenName) (next : List ℕ) → wording w ++ next ≡ w.prefix ++ (colon ∷ (w.name ++ next))
wording_then w next = append_assoc w.prefix (colon ∷ w.name) next

pub key_dark : (k : Option WrittenName) (next : List ℕ) → IsProperKey k → Stops is_white (key_wording k ++ next)
key_dark None next proper = refl
key_dark (Some w) next proper = subst (Stops is_white) (sym (wording_then w next)) (name_dark w.prefix (colon ∷ (w.name ++ next)) proper.0)

pub key_reads : (k : Option WrittenName) (next : List ℕ) → IsProperKey k → KeyEnds k next → predicate_key (key_wording k ++ next) ≡ Some (k, next)
unfolding predicate_key
key_reads None next proper ends = refl
key_reads (Some w) next proper ends =
    let no : begins_with dot (wording w ++ next) ≡ false = ap (begins_with dot) (wording_then w next) ∙ name_begins w.prefix (colon ∷ (w.name ++ next)) proper.0 in
    rw (no, name_reads w next proper.0 proper.1 ends) refl

pub record IsKey (text : List ℕ) (k : Option WrittenName) (rest : List ℕ) : Type 0 where
  pub is : text ≡ key_wording k ++ rest
  pub proper : IsProperKey k
  pub ends : KeyEnds k rest

abbrev put_some : Option (WrittenName × List ℕ) → Option (Option WrittenName × List ℕ)
put_some o = option_map (λ found. (Some found.0, found.1)) o

abbrev put_none : Option (List ℕ) → Option (Option WrittenName × List ℕ)
put_none o = option_map (λ after. (None, after)) o

pub key_cut : (text : List ℕ) (k : Option WrittenName) (rest : List ℕ) → predicate_key text ≡ Some (k, rest) → IsKey text k rest
unfolding predicate_key
key_cut text k rest e = by (begins_with dot text) refl e
  where
    by : (t : Bool) → begins_with dot text ≡ t → cond t (put_none (sign dot text)) (put_some (written_name text)) ≡ Some (k, rest) → IsKey text k rest
    by true begins f =
        let (after, after_is, both) = map_some (sign dot text) (λ (x : List ℕ). let it : Option WrittenName × List ℕ = (None, x) in it) (k, rest) f in
        let none : None ≡ k = ap (λ (x : Option WrittenName × List ℕ). x.0) both in
        let back : after ≡ rest = ap (λ (x : Option WrittenName × List ℕ). x.1) both in
        subst (λ (x : Option WrittenName). IsKey text x rest) none (record { is = sign_is dot text rest (after_is ∙ ap Some back); proper = tt; ends = tt })
    by false begins f =
        let (found, found_is, both) = map_some (written_name text) (λ (x : WrittenName × List ℕ). let it : Option WrittenName × List ℕ = (Some x.0, x.1) in it) (k, rest) f in
        let some : Some found.0 ≡ k = ap (λ (x : Option WrittenName × List ℕ). x.0) both in
        let back : found.1 ≡ rest = ap (λ (x : Option WrittenName × List ℕ). x.1) both in
        let cut = name_cut text found.0 rest (found_is ∙ (λ i. Some (found.0, back i))) in
        subst (λ (x : Option WrittenName). IsKey text x rest) some (record { is = cut.is; proper = (cut.prefix, cut.name); ends = cut.ends })

-- white space, or the sign: no name goes on there
white_ends : (c : ℕ) → is_white c ≡ true → is_in_identifier c ≡ false
white_ends c e = by (is_in_identifier c) refl
  where
    by : (t : Bool) → is_in_identifier c ≡ t → t ≡ false
    by true same = grind (arith, nat_tests)
    by false same = refl

signed_ends : (K : List ℕ → Type 0) (text : List ℕ) → Signed equals K text → Ends text
signed_ends K [] holds = tt
signed_ends K (c ∷ cs) holds = by (is_white c) refl holds.0 holds.1
  where
    by : (t : Bool) → is_white c ≡ t → (after : List ℕ) → sign equals (cond t (past is_white cs) (c ∷ cs)) ≡ Some after → is_in_identifier c ≡ false
    by true white after e = white_ends c white
    by false white after e =
        let is : c ∷ cs ≡ equals ∷ after = sign_is equals (c ∷ cs) after e in
        let head : c ≡ equals = cc in ap is_in_identifier head

key_ends : (k : Option WrittenName) (K : List ℕ → Type 0) (text : List ℕ) → Signed equals K text → KeyEnds k text
key_ends None K text holds = tt
key_ends (Some w) K text holds = signed_ends K text holds

key_ends_same : (k : Option WrittenName) (next rest : List ℕ) → first_sign next ≡ first_sign rest → KeyEnds k rest → KeyEnds k next
key_ends_same None next rest e ends = tt
key_ends_same (Some w) next rest e ends = same_stops is_in_identifier next rest e ends

white_key : (text : List ℕ) (k : Option WrittenName) (next : List ℕ) → IsProperKey k → KeyEnds k next → predicate_key (after_white ((leading is_white text ++ key_wording k) ++ next)) ≡ Some (k, next)
white_key text k next proper ends = ap predicate_key (white_chunk text (key_wording k) next (key_dark k next proper)) ∙ key_reads k next proper ends

module _ (s : Reading) (number : ℕ) (left : List ℕ) (K : ℕ → List ℕ → Type 0) where
  pub keyed_leads : (text : List ℕ) (k : Option WrittenName) (key : ℕ) (rest : List ℕ) → predicate_key (after_white text) ≡ Some (k, rest) → key_named s number left k ≡ Some key → Leads (Keyed s number left K) (Signed equals (Valued (K key))) text rest
  keyed_leads text k key rest e named =
      let cut = key_cut (after_white text) k rest e in
      record {
        chunk = leading is_white text ++ key_wording k;
        is = white_first text (key_wording k ++ rest) cut.is ∙ sym (append_assoc (leading is_white text) (key_wording k) rest);
        into = λ next holds. ((k, next), key, white_key text k next cut.proper (key_ends k (Valued (K key)) next holds), named, holds);
        back = λ next f holds. same next holds.0 holds.1 (sym (white_key text k next cut.proper (key_ends_same k next rest f cut.ends)) ∙ holds.2) holds.3 holds.4;
      }
    where
      same : (next : List ℕ) (found : Option WrittenName × List ℕ) (other : ℕ) → ◌≡◌ {A = Option (Option WrittenName × List ℕ)} (Some (k, next)) (Some found) → key_named s number left found.0 ≡ Some other → Signed equals (Valued (K other)) found.1 → Signed equals (Valued (K key)) next
      same next found other f other_named holds =
          let both : ◌≡◌ {A = Option WrittenName × List ℕ} (k, next) found = cc in
          let one : Some key ≡ Some other = sym named ∙ ap (λ (x : Option WrittenName × List ℕ). key_named s number left x.0) both ∙ other_named in
          let keys : other ≡ key = cc in
          let rests : found.1 ≡ next = ap (λ (x : Option WrittenName × List ℕ). x.1) (sym both) in
          subst (λ (x : List ℕ). Signed equals (Valued (K key)) x) rests (subst (λ (n : ℕ). Signed equals (Valued (K n)) found.1) keys holds)

  -- a predicate of the key with an empty value
  pub keyed_made : (text : List ℕ) (k : Option WrittenName) (key : ℕ) (tail : List ℕ) → IsProperKey k → key_named s number left k ≡ Some key → K key tail → Keyed s number left K ((leading is_white text ++ key_wording k) ++ equals ∷ closes tail)
  keyed_made text k key tail proper named holds =
      ((k, equals ∷ closes tail), key, white_key text k (equals ∷ closes tail) proper (key_ends k (Valued (K key)) (equals ∷ closes tail) signed), named, signed)
    where
      signed : Signed equals (Valued (K key)) (equals ∷ closes tail)
      signed = (closes tail, refl, closes_valued (K key) [] tail holds)

  -- one of the keys can be given
  chosen : (key : ℕ) → is_giveable s number key ≡ true → (k : Option WrittenName) × IsProperKey k × (is_of_key s.tables s.bounds number key k ≡ true)
  chosen key e = by (eqb key number) refl e
    where
      by : (t : Bool) → eqb key number ≡ t → (t || is_nameable s key) ≡ true → (k : Option WrittenName) × IsProperKey k × (is_of_key s.tables s.bounds number key k ≡ true)
      by true same f = (None, tt, same)
      by false same f = let (w, can) = nameable_is_written s key f in (Some w, (can.prefix, can.name), rw same can.named)

  first_of : (k : Option WrittenName) (key : ℕ) → In key left → is_of_key s.tables s.bounds number key k ≡ true → (other : ℕ) × (key_named s number left k ≡ Some other) × In other left
  first_of k key at of = find_some (λ other. is_of_key s.tables s.bounds number other k) left key at of

  pub given : (key : ℕ) → In key left → is_giveable s number key ≡ true → (k : Option WrittenName) × (other : ℕ) × IsProperKey k × (key_named s number left k ≡ Some other) × In other left
  given key at e =
      let (k, proper, of) = chosen key e in
      let (other, named, within) = first_of k key at of in
      (k, other, proper, named, within)

  abbrev Begins : List ℕ → List ℕ → Type 0
  Begins text front = (more : List ℕ) × Keyed s number left K ((leading is_white text ++ front) ++ more)

  -- where no key is read
  pub keyed_halts : (text : List ℕ) → list_any (is_giveable s number) left ≡ true → ((key : ℕ) → In key left → (tail : List ℕ) × K key tail) → key_first s number left (after_white text) ≡ None → Halts (Keyed s number left K) text (length (after_white text) - farthest s (after_white text) (without number left))
  keyed_halts text some live missing = record {
    front = leading is_white text ++ stop.front;
    rest = stop.rest;
    is = white_first text (stop.front ++ stop.rest) stop.is ∙ sym (append_assoc (leading is_white text) stop.front stop.rest);
    long = stop.long;
    more = (begins stop.begun).0;
    before = (begins stop.begun).1;
    there = λ c cs next f stands. clash c cs next f stands.0 stands.1 stands.2 stands.3;
  }
    where
      others : List ℕ
      others = without number left

      absent : (found : WrittenName × List ℕ) (key : ℕ) → written_name (after_white text) ≡ Some found → In key (without number left) → is_named s key found.0 ≡ true → ⊥
      absent found key reads at named =
          let cut = name_cut (after_white text) found.0 found.1 reads in
          let within = in_filter (λ other. not (eqb other number)) left key at in
          let of : is_of_key s.tables s.bounds number key (Some found.0) ≡ true = both_true (not (eqb key number)) (is_named s key found.0) within.1 named in
          let first = first_of (Some found.0) key within.0 of in
          let reads_key : predicate_key (after_white text) ≡ Some (Some found.0, found.1) = ap predicate_key cut.is ∙ key_reads (Some found.0) found.1 (cut.prefix, cut.name) cut.ends in
          first_clash s number left (after_white text) (Some found.0, found.1) first.0 reads_key first.1 missing

      stop : StopsName s (without number left) (after_white text) (length (after_white text) - farthest s (after_white text) (without number left))
      stop = stops_name s (without number left) (after_white text) absent

      made : (front more : List ℕ) (k : Option WrittenName) (key : ℕ) → IsProperKey k → key_named s number left k ≡ Some key → In key left → front ++ more ≡ key_wording k → Begins text front
      made front more k key proper named at e =
          let (tail, holds) = live key at in
          let whole : (leading is_white text ++ key_wording k) ++ equals ∷ closes tail ≡ (leading is_white text ++ front) ++ (more ++ equals ∷ closes tail) =
          ap (λ x. (leading is_white text ++ x) ++ equals ∷ closes tail) (sym e) ∙ regroup (leading is_white text) front more (equals ∷ closes tail) in
          (more ++ equals ∷ closes tail, subst (Keyed s number left K) whole (keyed_made text k key tail proper named holds))

      begins : (stop.front ≡ []) ⊎ ((key : ℕ) × (w : WrittenName) × (more : List ℕ) × In key (without number left) × CanBeWritten s key w × (stop.front ++ more ≡ wording w)) → Begins text stop.front
      begins (inl none) =
          let (key, at, giveable) = any_in (is_giveable s number) left some in
          let (k, other, proper, named, within) = given key at giveable in
          made stop.front (key_wording k) k other proper named within (ap (λ x. x ++ key_wording k) none)
      begins (inr (key, w, more, at, can, e)) =
          let within = in_filter (λ other. not (eqb other number)) left key at in
          let (other, named, place) = first_of (Some w) key within.0 (both_true (not (eqb key number)) (is_named s key w) within.1 can.named) in
          made stop.front more (Some w) other (can.prefix, can.name) named place e

      clash : (c : ℕ) (cs next : List ℕ) → stop.rest ≡ c ∷ cs → (found : Option WrittenName × List ℕ) (key : ℕ) → predicate_key (after_white ((leading is_white text ++ stop.front) ++ c ∷ next)) ≡ Some found → key_named s number left found.0 ≡ Some key → ⊥
      clash c cs next f found key reads named =
          let firsts : first_sign (stop.front ++ c ∷ next) ≡ first_sign (after_white text) = same_first stop.front (c ∷ next) stop.rest (ap first_sign (sym f)) ∙ ap first_sign (sym stop.is) in
          let dark : Stops is_white (stop.front ++ c ∷ next) = same_stops is_white (stop.front ++ c ∷ next) (after_white text) firsts (past_stops is_white text) in
          let reads_key : predicate_key (stop.front ++ c ∷ next) ≡ Some found = ap predicate_key (sym (white_chunk text stop.front (c ∷ next) dark)) ∙ reads in
          by firsts found key reads_key named (find_passes (λ other. is_of_key s.tables s.bounds number other found.0) left key named)
        where
          by : first_sign (stop.front ++ c ∷ next) ≡ first_sign (after_white text) → (found : Option WrittenName × List ℕ) (key : ℕ) → predicate_key (stop.front ++ c ∷ next) ≡ Some found → key_named s number left found.0 ≡ Some key → (is_of_key s.tables s.bounds number key found.0 ≡ true) × In key left → ⊥
          by firsts (None, rest) key reads named of =
              let cut = key_cut (stop.front ++ c ∷ next) None rest reads in
              let first : first_sign (after_white text) ≡ Some dot = sym firsts ∙ ap first_sign cut.is in
              let (after, is) = first_is dot (after_white text) first in
              first_clash s number left (after_white text) (None, after) key (ap predicate_key is ∙ key_reads None after tt tt) named missing
          by firsts (Some w, rest) key reads named of =
              let cut = key_cut (stop.front ++ c ∷ next) (Some w) rest reads in
              let it : written_name (stop.front ++ c ∷ next) ≡ Some (w, rest) = ap written_name cut.is ∙ name_reads w rest cut.proper.0 cut.proper.1 cut.ends in
              stop.there c cs next (w, rest) key f it
              (filter_in (λ other. not (eqb other number)) left key of.1 (first_true (not (eqb key number)) (is_named s key w) of.0))
              (second_true (not (eqb key number)) (is_named s key w) of.0)
