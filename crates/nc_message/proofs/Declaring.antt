-- The declarations at one use after another.
use Rattle.std.proofs.Common.{◌≡◌, ℕ, ◌+◌, ◌<◌, Bool, true, false, not, ◌||◌, List, [], ◌∷◌, ◌++◌, map, take, length, get_or, sym, ap, subst, ◌∙◌, append-nil, append_assoc, refl, if◌then◌else◌}
use Rattle.std.specs.BTreeSet.{BTreeSet}
use Rattle.std.specs.Cmp.Lexicographic.{bytes_decides}
use Rattle.nc_names.specs.Same.{is_same_text}
use Rattle.nc_names.proofs.Extending.{extends_self, extends_twice}
use Rattle.nc_message.specs.inner.Declaring.{prefixes, has, AreSeen, IsAdded, Declares}
use Rattle.std.specs.List.{list_any}
use Rattle.std.specs.Str.{bytes_eq}
use Rattle.std.proofs.lemmas.List.{take_more, map-append}
use Rattle.nc_names.specs.declared.name.Bound.{Bound}
use Rattle.nc_message.specs.declared.tree.Attr.{Attr}
use Rattle.nc_message.specs.declared.tree.Part.{Part}
use Rattle.nc_message.specs.Written.{declaration, declarations, use_of, uses, is_chars, is_declarable, prefix_declaration}

abbrev pub used : List Attr → List (List ℕ)
used xs = map (λ a. a.prefix) xs

pub prefixes-uses : (xs : List Attr) → prefixes (map use_of xs) ≡ used xs
prefixes-uses [] = refl
prefixes-uses (a ∷ xs) = ap (λ x. a.prefix ∷ x) (prefixes-uses xs)

pub declarations-append : (seen : List (List ℕ)) (us vs : List Bound)
    → declarations seen (us ++ vs) ≡ declarations seen us ++ declarations (seen ++ prefixes us) vs
declarations-append seen [] vs = rw append-nil refl
declarations-append seen (u ∷ us) vs =
    ap (λ x. declaration seen u ++ x) (declarations-append (seen ++ u.prefix ∷ []) us vs)
    ∙ ap (λ x. declaration seen u ++ (declarations (seen ++ u.prefix ∷ []) us ++ declarations x vs))
    (append_assoc seen (u.prefix ∷ []) (prefixes us))
    ∙ sym (append_assoc (declaration seen u) (declarations (seen ++ u.prefix ∷ []) us)
    (declarations (seen ++ u.prefix ∷ prefixes us) vs))

same_back : (a b : List ℕ) → is_same_text a b ≡ true → is_same_text b a ≡ true
same_back a b e = (bytes_decides b a).1 (sym ((bytes_decides a b).0 e))

same_turned : (a b : List ℕ) → is_same_text a b ≡ is_same_text b a
same_turned a b = turned (is_same_text a b) (is_same_text b a) (same_back a b) (same_back b a) where
  turned : (x y : Bool) → (x ≡ true → y ≡ true) → (y ≡ true → x ≡ true) → x ≡ y
  turned true y f g = sym (f refl)
  turned false true f g = g refl
  turned false false f g = refl

-- one prefix more
any_more : (q p : List ℕ) (seen : List (List ℕ)) →
    list_any (is_same_text q) (seen ++ p ∷ []) ≡ (if is_same_text p q then true else list_any (is_same_text q) seen)
any_more q p [] = ap (λ b. b || false) (same_turned q p) ∙ split (is_same_text p q) where
  split : (b : Bool) → (b || false) ≡ (if b then true else false)
  split true = refl
  split false = refl
any_more q p (s ∷ seen) =
    ap (λ b. is_same_text q s || b) (any_more q p seen)
    ∙ split (is_same_text q s) (is_same_text p q) (list_any (is_same_text q) seen) where
      split : (a b c : Bool) → (a || (if b then true else c)) ≡ (if b then true else (a || c))
      split true true c = refl
      split true false c = refl
      split false true c = refl
      split false false c = refl

-- a prefix that has to be declared is none that has not
apart : (q p : List ℕ) → is_declarable q ≡ true → is_declarable p ≡ false → is_same_text p q ≡ false
apart q p must not_so = none (is_same_text p q) refl where
  none : (b : Bool) → is_same_text p q ≡ b → is_same_text p q ≡ false
  none false e = e
  none true e = absurd (cc (must, not_so, ap is_declarable ((bytes_decides p q).0 e)))

-- what stands at one use
declaration_none : (seen : List (List ℕ)) (u : Bound) → is_declarable u.prefix ≡ false → declaration seen u ≡ []
declaration_none seen u e = rw e refl

declaration_seen : (seen : List (List ℕ)) (u : Bound) → is_declarable u.prefix ≡ true →
    list_any (bytes_eq u.prefix) seen ≡ true → declaration seen u ≡ []
declaration_seen seen u e f = rw (e, f) refl

declaration_new : (seen : List (List ℕ)) (u : Bound) → is_declarable u.prefix ≡ true →
    list_any (bytes_eq u.prefix) seen ≡ false → declaration seen u ≡ prefix_declaration u
declaration_new seen u e f = rw (e, f) refl

nothing_more : (out text : List ℕ) → text ≡ [] → out ≡ out ++ (text ++ [])
nothing_more out text e = rw (e, append-nil out) refl

not_true : (b : Bool) → false ≡ not b → b ≡ true
not_true true e = refl
not_true false e = absurd (cc e)

not_false : (b : Bool) → true ≡ not b → b ≡ false
not_false false e = refl
not_false true e = absurd (cc e)

pub not_declared : (set : BTreeSet (List ℕ)) (out : List ℕ) (u : Bound) → is_declarable u.prefix ≡ false →
    Declares set set out out (u ∷ [])
not_declared set out u not_so = record {
  seen =
      λ seen are q must. are q must
      ∙ sym (any_more q u.prefix seen
      ∙ ap (λ b. if b then true else list_any (is_same_text q) seen) (apart q u.prefix must not_so));
  output = λ seen are. nothing_more out (declaration seen u) (declaration_none seen u not_so);
  grown = extends_self out out refl;
}

added_is : (before after : BTreeSet (List ℕ)) (prefix : List ℕ) (added : Bool) → IsAdded before after prefix added
    → (seen : List (List ℕ)) → AreSeen before seen → AreSeen after (seen ++ prefix ∷ [])
added_is before after prefix added is seen are q must =
    is.1 q ∙ ap (λ b. if is_same_text prefix q then true else b) (are q must) ∙ sym (any_more q prefix seen)

pub seen_before : (before after : BTreeSet (List ℕ)) (out : List ℕ) (u : Bound) → is_declarable u.prefix ≡ true
    → IsAdded before after u.prefix false → Declares before after out out (u ∷ [])
seen_before before after out u must is = record {
  seen = added_is before after u.prefix false is;
  output =
      λ seen are. nothing_more out (declaration seen u)
      (declaration_seen seen u must (sym (are u.prefix must) ∙ not_true (has before u.prefix) is.0));
  grown = extends_self out out refl;
}

pub newly_declared : (before after : BTreeSet (List ℕ)) (old new : List ℕ) (u : Bound) → is_declarable u.prefix ≡ true
    → IsAdded before after u.prefix true → new ≡ old ++ prefix_declaration u → Declares before after old new (u ∷ [])
newly_declared before after old new u must is now = record {
  seen = added_is before after u.prefix true is;
  output = λ seen are. now ∙ ap (λ x. old ++ x)
      (sym (declaration_new seen u must (sym (are u.prefix must) ∙ not_false (has before u.prefix) is.0))
      ∙ sym (append-nil (declaration seen u)));
  grown = record { more = prefix_declaration u; is = now };
}

prefixes-append : (us vs : List Bound) → prefixes (us ++ vs) ≡ prefixes us ++ prefixes vs
prefixes-append us vs = map-append (λ u. u.prefix) us vs

-- uses and then more
pub declares_more : {a b c : BTreeSet (List ℕ)} {first mid last : List ℕ} (us vs : List Bound)
    → Declares a b first mid us → Declares b c mid last vs → Declares a c first last (us ++ vs)
declares_more {a} {b} {c} {first} {mid} {last} us vs one two = record {
  seen = λ seen are. let P : List (List ℕ) → Type 0 = λ xs. AreSeen c xs in
      subst P (append_assoc seen (prefixes us) (prefixes vs) ∙ ap (λ x. seen ++ x) (sym (prefixes-append us vs)))
      (two.seen (seen ++ prefixes us) (one.seen seen are));
  output = λ seen are. two.output (seen ++ prefixes us) (one.seen seen are)
      ∙ ap (λ x. x ++ declarations (seen ++ prefixes us) vs) (one.output seen are)
      ∙ append_assoc first (declarations seen us) (declarations (seen ++ prefixes us) vs)
      ∙ ap (λ x. first ++ x) (sym (declarations-append seen us vs));
  grown = extends_twice one.grown two.grown;
}

-- the next attribute's use
pub attr_step : (xs : List Attr) (k : ℕ) (a : Attr) {x y z : BTreeSet (List ℕ)} {first mid last : List ℕ}
    → k < length xs → a ≡ get_or xs k a → Declares x y first mid (map use_of (take k xs)) →
    Declares y z mid last (use_of a ∷ [])
    → Declares x z first last (map use_of (take (k + 1) xs))
attr_step xs k a {x} {y} {z} {first} {mid} {last} within at so_far one =
    let more : take (k + 1) xs ≡ take k xs ++ a ∷ [] = rw (← at) at (take_more xs k a within) in
    let uses : map use_of (take k xs) ++ use_of a ∷ [] ≡ map use_of (take (k + 1) xs) =
    sym (ap (map use_of) more ∙ map-append use_of (take k xs) (a ∷ [])) in
    let P : List Bound → Type 0 = λ us. Declares x z first last us in
    subst P uses (declares_more (map use_of (take k xs)) (use_of a ∷ []) so_far one)

-- where an element has text, what its attributes use comes first, then what is bound in it
pub declarations-uses : (bounds : List Bound) (xs : List Attr) (parts : List Part) → list_any is_chars parts ≡ true
    → declarations [] (uses bounds xs parts) ≡ declarations [] (map use_of xs) ++ declarations (used xs) bounds
declarations-uses bounds xs parts has =
    rw (has, declarations-append [] (map use_of xs) bounds, prefixes-uses xs) refl
