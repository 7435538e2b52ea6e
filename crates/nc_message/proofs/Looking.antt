-- A prefix is found among the bindings in force.
use Rattle.std.proofs.Common.{◌≡◌, ℕ, Bool, true, false, cond, not, ◌||◌, List, [], ◌∷◌, ◌++◌, filter, Option, None, Some, option_map, refl, sym, ap, ◌∙◌, append-nil}
use Rattle.std.specs.Prelude.{Result, Ok, Err, IfOk}
use Rattle.std.specs.Prelude.{IsSome, is_some, ◌&&◌}
use Rattle.std.specs.List.{list_any}
use Rattle.std.specs.Cmp.Lexicographic.{bytes_decides}
use Rattle.nc_names.specs.Same.{is_same_text}
use Rattle.nc_names.specs.declared.name.Bound.{Bound}
use Rattle.nc_names.specs.Bindings.{space_of}
use Rattle.nc_message.specs.Bindings.{Declared, declares, inside, is_empty}
use Rattle.nc_message.specs.inner.Levels.{later}

same_to : (a b : List ℕ) → is_same_text a b ≡ true → a ≡ b
same_to a b e = (bytes_decides a b).0 e

-- the first of them, or else the second
abbrev or_else : {A : Type 0} → Option A → Option A → Option A
or_else None o = o
or_else (Some x) o = Some x

or_none : {A : Type 0} (o : Option A) → or_else o None ≡ o
or_none None = refl
or_none (Some x) = refl

space_append : (prefix : List ℕ) (xs ys : List Bound) →
    space_of prefix (xs ++ ys) ≡ or_else (space_of prefix xs) (space_of prefix ys)
space_append prefix [] ys = refl
space_append prefix (b ∷ more) ys =
    append_at prefix b more ys (is_same_text prefix b.prefix) (space_append prefix more ys) where
      append_at : (prefix : List ℕ) (b : Bound) (more ys : List Bound) (t : Bool) →
          space_of prefix (more ++ ys) ≡ or_else (space_of prefix more) (space_of prefix ys)
          → cond t (Some b.space) (space_of prefix (more ++ ys))
          ≡ or_else (cond t (Some b.space) (space_of prefix more)) (space_of prefix ys)
      append_at prefix b more ys true h = refl
      append_at prefix b more ys false h = h

-- a prefix that the test keeps is found as before, and another not at all
kept : (keeps : List ℕ → Bool) (prefix : List ℕ) (bounds : List Bound) (k : Bool) → keeps prefix ≡ k
    → space_of prefix (filter (λ b. keeps b.prefix) bounds) ≡ cond k (space_of prefix bounds) None
kept keeps prefix [] true e = refl
kept keeps prefix [] false e = refl
kept keeps prefix (b ∷ more) k e =
    kept_at keeps prefix b more k (is_same_text prefix b.prefix) refl (keeps b.prefix) refl e
    (kept keeps prefix more k e) where
      kept_at : (keeps : List ℕ → Bool) (prefix : List ℕ) (b : Bound) (more : List Bound) (k : Bool) (t : Bool) →
          is_same_text prefix b.prefix ≡ t
          → (u : Bool) → keeps b.prefix ≡ u → keeps prefix ≡ k
          → space_of prefix (filter (λ b. keeps b.prefix) more) ≡ cond k (space_of prefix more) None
          → space_of prefix (cond u (b ∷ filter (λ b. keeps b.prefix) more) (filter (λ b. keeps b.prefix) more))
          ≡ cond k (cond t (Some b.space) (space_of prefix more)) None
      kept_at keeps prefix b more true false e true d p h =
          ap (λ x. cond x (Some b.space) (space_of prefix (filter (λ b. keeps b.prefix) more))) e ∙ h
      kept_at keeps prefix b more true false e false d p h = h
      kept_at keeps prefix b more true true e true d p h =
          ap (λ x. cond x (Some b.space) (space_of prefix (filter (λ b. keeps b.prefix) more))) e
      kept_at keeps prefix b more true true e false d p h = absurd (cc (p, d, ap keeps (same_to prefix b.prefix e)))
      kept_at keeps prefix b more false false e true d p h =
          ap (λ x. cond x (Some b.space) (space_of prefix (filter (λ b. keeps b.prefix) more))) e ∙ h
      kept_at keeps prefix b more false false e false d p h = h
      kept_at keeps prefix b more false true e true d p h = absurd (cc (p, d, ap keeps (same_to prefix b.prefix e)))
      kept_at keeps prefix b more false true e false d p h = h

-- a prefix is among bindings where it is found
among : (prefix : List ℕ) (bounds : List Bound) (o : Option (List ℕ)) → space_of prefix bounds ≡ o
    → list_any (λ b. is_same_text prefix b.prefix) bounds ≡ elim o [ None ↦ false | Some s ↦ true ]
among prefix [] None e = refl
among prefix [] (Some s) e = absurd (cc e)
among prefix (b ∷ more) o e =
    among_at prefix b more o (is_same_text prefix b.prefix) (λ h. among prefix more o h) e where
      among_at : (prefix : List ℕ) (b : Bound) (more : List Bound) (o : Option (List ℕ)) (t : Bool)
          → (space_of prefix more ≡ o →
          list_any (λ b. is_same_text prefix b.prefix) more ≡ elim o [ None ↦ false | Some s ↦ true ])
          → cond t (Some b.space) (space_of prefix more) ≡ o
          → (t || list_any (λ b. is_same_text prefix b.prefix) more) ≡ elim o [ None ↦ false | Some s ↦ true ]
      among_at prefix b more None true e h = absurd (cc h)
      among_at prefix b more (Some s) true e h = refl
      among_at prefix b more o false e h = e h

inner_at : (prefix : List ℕ) (outer : List Bound) (d : Declared) (k : Bool) → declares d prefix ≡ k
    → space_of prefix (inside outer d) ≡ or_else (cond k None (space_of prefix outer)) (space_of prefix d.own)
inner_at prefix outer d true e =
    space_append prefix (filter (λ b. not (declares d b.prefix)) outer) d.own
    ∙ ap (λ o. or_else o (space_of prefix d.own)) (kept (λ p. not (declares d p)) prefix outer false (ap not e))
inner_at prefix outer d false e =
    space_append prefix (filter (λ b. not (declares d b.prefix)) outer) d.own
    ∙ ap (λ o. or_else o (space_of prefix d.own)) (kept (λ p. not (declares d p)) prefix outer true (ap not e))

-- what the tag declares itself
pub own_first : (prefix : List ℕ) (d : Declared) (space : List ℕ) → space_of prefix d.own ≡ Some space
    → (outer : List Bound) → space_of prefix (inside outer d) ≡ Some space
own_first prefix d space e outer =
    let here : declares d prefix ≡ true =
    ap (λ b. b || (d.undeclares && is_empty prefix)) (among prefix d.own (Some space) e) in
    inner_at prefix outer d true here ∙ e

-- what the tag takes away
pub taken_away : (prefix : List ℕ) (d : Declared) → space_of prefix d.own ≡ None →
    (d.undeclares && is_empty prefix) ≡ true
    → (outer : List Bound) → space_of prefix (inside outer d) ≡ None
taken_away prefix d e h outer =
    let here : declares d prefix ≡ true =
    ap (λ b. b || (d.undeclares && is_empty prefix)) (among prefix d.own None e) ∙ h in
    inner_at prefix outer d true here ∙ e

-- what the tag does not speak of
pub left_alone : (prefix : List ℕ) (d : Declared) → space_of prefix d.own ≡ None →
    (d.undeclares && is_empty prefix) ≡ false
    → (outer : List Bound) → space_of prefix (inside outer d) ≡ space_of prefix outer
left_alone prefix d e h outer =
    let here : declares d prefix ≡ false =
    ap (λ b. b || (d.undeclares && is_empty prefix)) (among prefix d.own None e) ∙ h in
    inner_at prefix outer d false here ∙ ap (or_else (space_of prefix outer)) e ∙ or_none (space_of prefix outer)

-- one binding more: a prefix that was bound keeps its namespace
pub bound_before : (prefix space : List ℕ) (bounds : List Bound) (found : Option (List ℕ)) →
    space_of prefix bounds ≡ found → is_some found ≡ true
    → (other : List ℕ) →
    space_of other bounds ≡ space_of other (bounds ++ record { prefix = prefix; space = space } ∷ [])
bound_before prefix space bounds None e h other = absurd (cc h)
bound_before prefix space bounds (Some s) e h other =
    at (is_same_text other prefix) refl (space_of other bounds) refl where
      at : (t : Bool) → is_same_text other prefix ≡ t → (o : Option (List ℕ)) → space_of other bounds ≡ o
          → space_of other bounds ≡ space_of other (bounds ++ record { prefix = prefix; space = space } ∷ [])
      at t same (Some s') d =
          d ∙ sym (space_append other bounds (record { prefix = prefix; space = space } ∷ [])
          ∙ ap (λ o. or_else o (cond (is_same_text other prefix) (Some space) None)) d)
      at false same None d = d ∙ sym (space_append other bounds (record { prefix = prefix; space = space } ∷ [])
          ∙ ap (λ o. or_else o (cond (is_same_text other prefix) (Some space) None)) d
          ∙ ap (λ t. cond t (Some space) None) same)
      at true same None d = absurd (cc (d, e, ap (λ p. space_of p bounds) (same_to other prefix same)))

-- and another gets its own
pub bound_now : (prefix space : List ℕ) (bounds : List Bound) → space_of prefix bounds ≡ None
    → (other : List ℕ) →
    space_of other (bounds ++ record { prefix = prefix; space = space } ∷ [])
    ≡ cond (is_same_text prefix other) (Some space) (space_of other bounds)
bound_now prefix space bounds e other = at (is_same_text prefix other) refl (is_same_text other prefix) refl where
  at : (t : Bool) → is_same_text prefix other ≡ t → (u : Bool) → is_same_text other prefix ≡ u
      → space_of other (bounds ++ record { prefix = prefix; space = space } ∷ [])
      ≡ cond (is_same_text prefix other) (Some space) (space_of other bounds)
  at true d u f =
      let same : prefix ≡ other = same_to prefix other d in
      let back : is_same_text other prefix ≡ true = (bytes_decides other prefix).1 (sym same) in
      space_append other bounds (record { prefix = prefix; space = space } ∷ [])
      ∙ ap (λ o. or_else o (cond (is_same_text other prefix) (Some space) None))
      (ap (λ p. space_of p bounds) (sym same) ∙ e)
      ∙ ap (λ t. cond t (Some space) None) back ∙ sym (ap (λ t. cond t (Some space) (space_of other bounds)) d)
  at false d false f =
      space_append other bounds (record { prefix = prefix; space = space } ∷ [])
      ∙ ap (λ t. or_else (space_of other bounds) (cond t (Some space) None)) f ∙ or_none (space_of other bounds)
      ∙ sym (ap (λ t. cond t (Some space) (space_of other bounds)) d)
  at false d true f = absurd (cc (d, (bytes_decides prefix other).1 (sym (same_to other prefix f))))

-- what the tag declares itself, as it was found
pub looked : (prefix : List ℕ) (d : Declared) (found : Option (List ℕ)) → space_of prefix d.own ≡ found → IsSome found
    → (outer : List Bound) → space_of prefix (inside outer d) ≡ found
looked prefix d None e h outer = absurd (cc h)
looked prefix d (Some space) e h outer = own_first prefix d space e outer

pub mapped_some : {A B : Type 0} (f : A → B) (o : Option A) → is_some o ≡ true → IsSome (option_map f o)
mapped_some f None e = absurd (cc e)
mapped_some f (Some x) e = refl

pub mapped_none : {A B : Type 0} (f : A → B) (o : Option A) → is_some o ≡ false → option_map f o ≡ None
mapped_none f None e = refl
mapped_none f (Some x) e = absurd (cc e)

-- a tag that declares nothing
pub nothing_declared : (outer : List Bound) (d : Declared) → d.own ≡ [] → d.undeclares ≡ false → outer ≡ inside outer d
nothing_declared outer d own undeclares =
    let keeps : (b : Bound) → not (declares d b.prefix) ≡ true =
    λ b. ap (λ l. not (list_any (λ x. is_same_text b.prefix x.prefix) l || (d.undeclares && is_empty b.prefix))) own
    ∙ ap (λ u. not (u && is_empty b.prefix)) undeclares in
    sym (ap (λ l. filter (λ b. not (declares d b.prefix)) outer ++ l) own
    ∙ append-nil (filter (λ b. not (declares d b.prefix)) outer)
    ∙ filtered (λ b. not (declares d b.prefix)) keeps outer) where
      filtered : (p : Bound → Bool) → ((b : Bound) → p b ≡ true) → (bounds : List Bound) → filter p bounds ≡ bounds
      filtered p all [] = refl
      filtered p all (b ∷ more) =
          ap (λ t. cond t (b ∷ filter p more) (filter p more)) (all b) ∙ ap (λ l. b ∷ l) (filtered p all more)

-- whether a tag speaks of a prefix, as it was looked up
pub spoken : (prefix : List ℕ) (d : Declared) (found : Option (List ℕ)) → found ≡ space_of prefix d.own
    → declares d prefix ≡ (is_some found || (d.undeclares && is_empty prefix))
spoken prefix d None e = ap (λ b. b || (d.undeclares && is_empty prefix)) (among prefix d.own None (sym e))
spoken prefix d (Some s) e = ap (λ b. b || (d.undeclares && is_empty prefix)) (among prefix d.own (Some s) (sym e))

pub or_false : (a b : Bool) → (a || b) ≡ false → a ≡ false
or_false true b e = absurd (cc e)
or_false false b e = refl

pub copied_is : {A B : Type 0} (f : A → B) (o : Option A) → is_some (option_map f o) ≡ is_some o
copied_is f None = refl
copied_is f (Some x) = refl

pub ok_as : {A E : Type 0} (r : Result A E) (x y : A) → x ≡ y → IfOk r (λ it. it ≡ x) → IfOk r (λ it. it ≡ y)
ok_as (Ok it) x y e h = h ∙ e
ok_as (Err f) x y e h = h

pub ok_then : {A E : Type 0} (r : Result A E) (P Q : A → Type 0) → ((it : A) → P it → Q it) → IfOk r P → IfOk r Q
ok_then (Ok it) P Q more h = more it h
ok_then (Err f) P Q more h = h

pub none_of : {A : Type 0} (o : Option A) → is_some o ≡ false → o ≡ None
none_of None e = refl
none_of (Some x) e = absurd (cc e)

-- the first of them is what its prefix is bound to, and each other prefix is bound by those after it
pub at_first : (prefix : List ℕ) (b : Bound) (more : List Bound) → is_same_text prefix b.prefix ≡ true → Some b.space ≡ space_of prefix (b ∷ more)
at_first prefix b more e = ap (λ t. cond t (Some b.space) (space_of prefix more)) (sym e)

pub at_later : (prefix : List ℕ) (b : Bound) (more : List Bound) → is_same_text prefix b.prefix ≡ false → space_of prefix more ≡ space_of prefix (b ∷ more)
at_later prefix b more e = ap (λ t. cond t (Some b.space) (space_of prefix more)) (sym e)

-- one more, which is the first or comes after it
pub later_first : (own : List Bound) (b : Bound) → own ≡ [] → later (own ++ b ∷ []) ≡ later own
later_first own b none = ap (λ (xs : List Bound). later (xs ++ b ∷ [])) none ∙ sym (ap later none)

pub later_more : (own : List Bound) (b : Bound) → (own ≡ [] → ⊥) → later (own ++ b ∷ []) ≡ later own ++ b ∷ []
later_more [] b some = absurd (some refl)
later_more (x ∷ own) b some = refl
