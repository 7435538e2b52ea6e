-- Names and keys, read and written.
use Rattle.std.proofs.Common.{◌≡◌, ◌⊎◌, inl, inr, ℕ, Bool, true, false, cond, ◌||◌, List, [], ◌∷◌, ◌++◌, Option, Some, None, option_map, option_and_then, refl, sym, ap, subst, ◌∙◌, append_assoc}
use Rattle.std.specs.List.{list_all, list_any}
use Rattle.std.specs.Option.{option_map_or}
use Rattle.std.proofs.lemmas.Option.{some_pair_parts}
use Rattle.nc_names.proofs.SameLemmas.{first_true, second_true, both_true}
use Rattle.nc_names.specs.Ends.{past}
use Rattle.nc_names.specs.Identifiers.{is_identifier}
use Rattle.nc_names.specs.Signs.{begins_identifier, is_in_identifier, colon}
use Rattle.nc_schema.specs.PathWords.{begins_name, identifier, leading, sign, written_name}
use Rattle.nc_schema.specs.declared.written.WrittenName.{WrittenName}
use Rattle.nc_path_places.proofs.Cuts.{Stops, leading_past, past_stops, sign_is}

-- ---- options
pub bind_some : {A B : Type 0} (o : Option A) (f : A → Option B) (v : B) → option_and_then f o ≡ Some v → (x : A) × (o ≡ Some x) × (f x ≡ Some v)
bind_some None f v e = cc
bind_some (Some x) f v e = (x, refl, e)

pub map_some : {A B : Type 0} (o : Option A) (f : A → B) (v : B) → option_map f o ≡ Some v → (x : A) × (o ≡ Some x) × (f x ≡ v)
map_some None f v e = cc
map_some (Some x) f v e = (x, refl, (let both : Some (f x) ≡ Some v = e in cc))

pub map_or_true : {A : Type 0} (f : A → Bool) (o : Option A) → option_map_or f o false ≡ true → (x : A) × (o ≡ Some x) × (f x ≡ true)
map_or_true f None e = cc
map_or_true f (Some x) e = (x, refl, e)

pub map_or_some : {A B : Type 0} (f : A → B) (o : Option A) (d : B) (x : A) → o ≡ Some x → option_map_or f o d ≡ f x
map_or_some f o d x e = ap (λ y. option_map_or f y d) e

-- ---- names
abbrev pub Ends : List ℕ → Type 0
Ends text = Stops is_in_identifier text

-- a name as it is written
abbrev pub wording : WrittenName → List ℕ
wording w = w.prefix ++ colon ∷ w.name

identifier_starts : (name next : List ℕ) → is_identifier name ≡ true → begins_name (name ++ next) ≡ true
identifier_starts [] next e = cc
identifier_starts (c ∷ cs) next e = first_true (begins_identifier c) (list_all is_in_identifier cs) e

all_lead : (name next : List ℕ) → list_all is_in_identifier name ≡ true → Ends next → (leading is_in_identifier (name ++ next) ≡ name) × (past is_in_identifier (name ++ next) ≡ next)
all_lead [] [] e ends = (refl, refl)
all_lead [] (d ∷ next) e ends = (rw ends refl, rw ends refl)
all_lead (c ∷ cs) next e ends =
    let here = first_true (is_in_identifier c) (list_all is_in_identifier cs) e in
    let rest = all_lead cs next (second_true (is_in_identifier c) (list_all is_in_identifier cs) e) ends in
    (rw here (ap (λ x. c ∷ x) rest.0), rw here rest.1)

begins_in : (c : ℕ) → begins_identifier c ≡ true → is_in_identifier c ≡ true
begins_in c e = rw e refl

pub identifier_passes : (name : List ℕ) → is_identifier name ≡ true → list_all is_in_identifier name ≡ true
identifier_passes [] e = cc
identifier_passes (c ∷ cs) e =
    both_true (is_in_identifier c) (list_all is_in_identifier cs) (begins_in c (first_true (begins_identifier c) (list_all is_in_identifier cs) e)) (second_true (begins_identifier c) (list_all is_in_identifier cs) e)

pub identifier_reads : (name next : List ℕ) → is_identifier name ≡ true → Ends next → identifier (name ++ next) ≡ Some (name, next)
identifier_reads name next e ends =
    let cut = all_lead name next (identifier_passes name e) ends in
    rw (identifier_starts name next e) (λ i. Some (cut.0 i, cut.1 i))

leads_pass : (text : List ℕ) → list_all is_in_identifier (leading is_in_identifier text) ≡ true
leads_pass [] = refl
leads_pass (c ∷ cs) = by (is_in_identifier c) refl (leads_pass cs)
  where
    by : (b : Bool) → is_in_identifier c ≡ b → list_all is_in_identifier (leading is_in_identifier cs) ≡ true → list_all is_in_identifier (cond b (c ∷ leading is_in_identifier cs) []) ≡ true
    by true e rest = both_true (is_in_identifier c) (list_all is_in_identifier (leading is_in_identifier cs)) e rest
    by false e rest = refl

leading_identifier : (text : List ℕ) → begins_name text ≡ true → is_identifier (leading is_in_identifier text) ≡ true
leading_identifier [] e = cc
leading_identifier (c ∷ cs) e = rw (begins_in c e) (both_true (begins_identifier c) (list_all is_in_identifier (leading is_in_identifier cs)) e (leads_pass cs))

-- what an identifier that is read is
pub record IsCut (text name rest : List ℕ) : Type 0 where
  pub is : text ≡ name ++ rest
  pub proper : is_identifier name ≡ true
  pub ends : Ends rest

pub identifier_cut : (text name rest : List ℕ) → identifier text ≡ Some (name, rest) → IsCut text name rest
identifier_cut text name rest e = by (begins_name text) refl e
  where
    by : (b : Bool) → begins_name text ≡ b → cond {A = Option (List ℕ × List ℕ)} b (Some (leading is_in_identifier text, past is_in_identifier text)) None ≡ Some (name, rest) → IsCut text name rest
    by true begins f =
        let (front, back) = some_pair_parts (leading is_in_identifier text) name (past is_in_identifier text) rest f in
        record {
          is = sym (leading_past is_in_identifier text) ∙ (λ i. front i ++ back i);
          proper = ap is_identifier (sym front) ∙ leading_identifier text begins;
          ends = subst Ends back (past_stops is_in_identifier text);
        }
    by false begins f = cc

colon_ends : (next : List ℕ) → Ends (colon ∷ next)
colon_ends next = refl

pub name_reads : (w : WrittenName) (next : List ℕ) → is_identifier w.prefix ≡ true → is_identifier w.name ≡ true → Ends next → written_name (wording w ++ next) ≡ Some (w, next)
unfolding written_name
name_reads w next prefix name ends =
    let parts : wording w ++ next ≡ w.prefix ++ (colon ∷ (w.name ++ next)) = append_assoc w.prefix (colon ∷ w.name) next in
    let first : identifier (wording w ++ next) ≡ Some (w.prefix, colon ∷ (w.name ++ next)) = ap identifier parts ∙ identifier_reads w.prefix (colon ∷ (w.name ++ next)) prefix (colon_ends (w.name ++ next)) in
    let third = identifier_reads w.name next name ends in
    rw (first, third) refl

-- what a name that is read is
pub record IsName (text : List ℕ) (w : WrittenName) (rest : List ℕ) : Type 0 where
  pub is : text ≡ wording w ++ rest
  pub prefix : is_identifier w.prefix ≡ true
  pub name : is_identifier w.name ≡ true
  pub ends : Ends rest

pub name_cut : (text : List ℕ) (w : WrittenName) (rest : List ℕ) → written_name text ≡ Some (w, rest) → IsName text w rest
unfolding written_name
name_cut text w rest e =
    let (one, one_is, one_then) = bind_some (identifier text) (λ prefix. option_and_then (λ after. option_and_then (λ name. Some (record { prefix = prefix.0; name = name.0 }, name.1)) (identifier after)) (sign colon prefix.1)) (w, rest) e in
    let (two, two_is, two_then) = bind_some (sign colon one.1) (λ after. option_and_then (λ name. Some (record { prefix = one.0; name = name.0 }, name.1)) (identifier after)) (w, rest) one_then in
    let (three, three_is, three_then) = bind_some (identifier two) (λ name. Some (record { prefix = one.0; name = name.0 }, name.1)) (w, rest) two_then in
    let pair : ◌≡◌ {A = WrittenName × List ℕ} (record { prefix = one.0; name = three.0 }, three.1) (w, rest) = some_same {A = WrittenName × List ℕ} (record { prefix = one.0; name = three.0 }, three.1) (w, rest) three_then in
    let named : ◌≡◌ {A = WrittenName} (record { prefix = one.0; name = three.0 }) w = ap (λ (p : WrittenName × List ℕ). p.0) pair in
    let behind : three.1 ≡ rest = ap (λ (p : WrittenName × List ℕ). p.1) pair in
    let first = identifier_cut text one.0 one.1 one_is in
    let third = identifier_cut two three.0 three.1 three_is in
    let whole : text ≡ (one.0 ++ colon ∷ three.0) ++ three.1 =
    first.is ∙ ap (λ x. one.0 ++ x) (sign_is colon one.1 two two_is ∙ ap (λ x. colon ∷ x) third.is) ∙ sym (append_assoc one.0 (colon ∷ three.0) three.1) in
    record {
      is = whole ∙ (λ i. wording (named i) ++ behind i);
      prefix = ap (λ (x : WrittenName). is_identifier x.prefix) (sym named) ∙ first.proper;
      name = ap (λ (x : WrittenName). is_identifier x.name) (sym named) ∙ third.proper;
      ends = subst Ends behind third.ends;
    }
  where
    some_same : {A : Type 0} (x y : A) → ◌≡◌ {A = Option A} (Some x) (Some y) → x ≡ y
    some_same x y e = cc

-- the same name is read before another rest
pub name_again : (text : List ℕ) (w : WrittenName) (rest next : List ℕ) → written_name text ≡ Some (w, rest) → Ends next → written_name (wording w ++ next) ≡ Some (w, next)
name_again text w rest next e ends = let cut = name_cut text w rest e in name_reads w next cut.prefix cut.name ends

-- ---- membership
abbrev pub In : {X : Type 0} → X → List X → Type 0
In x [] = ⊥
In x (y ∷ ys) = (y ≡ x) ⊎ In x ys

any_step : {X : Type 0} (p : X → Bool) (y : X) (ys : List X) (b : Bool) → p y ≡ b → (list_any p ys ≡ true → (x : X) × In x ys × (p x ≡ true)) → (b || list_any p ys) ≡ true → (x : X) × In x (y ∷ ys) × (p x ≡ true)
any_step p y ys true here further e = (y, inl refl, here)
any_step p y ys false here further e = let found = further e in (found.0, inr found.1, found.2)

pub any_in : {X : Type 0} (p : X → Bool) (xs : List X) → list_any p xs ≡ true → (x : X) × In x xs × (p x ≡ true)
any_in p [] e = cc
any_in p (y ∷ ys) e = any_step p y ys (p y) refl (any_in p ys) e

pub in_any : {X : Type 0} (p : X → Bool) (xs : List X) (x : X) → In x xs → p x ≡ true → list_any p xs ≡ true
in_any p [] x at e = absurd at
in_any p (y ∷ ys) x (inl same) e = rw (ap p same ∙ e) refl
in_any p (y ∷ ys) x (inr at) e = or_true (p y) (list_any p ys) (in_any p ys x at e)
  where
    or_true : (a b : Bool) → b ≡ true → (a || b) ≡ true
    or_true true b f = refl
    or_true false b f = f
