-- The numbers of definitions are marked.
use Rattle.std.proofs.Common.{inl, inr, ◌≡◌, ◌<◌, ◌≤◌, ◌+◌, ◌++◌, ◌∷◌, [], ℕ, zero, suc, List, length, get_or, take, set, refl, sym, ap, subst, ◌∙◌, arith}
use Rattle.std.specs.Prelude.{Bool, true, false, Option, Some, None, slice_get, option_map, unwrap_or, replicate, Contains}
use Rattle.std.specs.Option.{option_map_or}
use Rattle.std.proofs.lemmas.Bool.{cases_eq, cases_lt}
use Rattle.std.proofs.lemmas.List.{length-set, length-replicate, take_more, take_all}
use Rattle.std.proofs.lemmas.List.Elements.{Contains-append_left, Contains-push, Contains-push_cases}
use Rattle.std.proofs.lemmas.Option.{slice_get-get_or}
use Rattle.nc_yang_words.specs.declared.statement.Statement.{Statement}
use Rattle.nc_yang_statements.specs.declared.keyword.Keyword.{Keyword}
use Rattle.nc_yang_statements.specs.Keywords.{is_same_keyword}
use Rattle.nc_yang_statements.specs.Statements.{kind}
use Rattle.nc_yang_scopes.specs.Scopes.{Located, Scoping, root}
use Rattle.nc_yang_scopes.specs.Names.{StandsIn}
use Rattle.nc_yang_scopes.proofs.Lists.{get_within, past_end}
use Rattle.nc_yang_order.proofs.Lists.{contains_none, get_set_other, get_set_same}
use Rattle.nc_yang_scopes.specs.declared.kinds.Defined.{Defined}
use Rattle.nc_yang_scopes.specs.Loops.{IsDefinition, defining}
use Rattle.nc_yang_scopes.specs.inner.Links.{AreIn, AreMarked, AreMarks, HasMark, IsDefined, IsMarked, Marks, is_marked, is_of, marked_if}

-- a mark, and what the code reads of it
pub marked_is : (marks : List Bool) (n : ℕ) → is_marked marks n ≡ true → IsMarked marks n
marked_is marks n e = by (slice_get marks n) refl
  where
    by : (o : Option Bool) → slice_get marks n ≡ o → slice_get marks n ≡ Some true
    by None none = absurd (let f : is_marked marks n ≡ false = ap (λ o. unwrap_or o false) none in cc)
    by (Some b) some = let f : is_marked marks n ≡ b = ap (λ o. unwrap_or o false) some in some ∙ ap Some (sym f ∙ e)

pub is_mark : (marks : List Bool) (n : ℕ) → IsMarked marks n → is_marked marks n ≡ true
is_mark marks n e = ap (λ o. unwrap_or o false) e

there_is : (marks : List Bool) (n : ℕ) → n < length marks → (b : Bool) × (slice_get marks n ≡ Some b)
there_is marks n less = (get_or marks n false, slice_get-get_or marks n false less)

-- the statement of a number has that keyword
pub of_keyword : (scoping : Scoping) (keyword : Keyword) (n : ℕ) (l : Located) → slice_get scoping.located n ≡ Some l → is_of scoping keyword n ≡ is_same_keyword keyword (kind l.statement)
of_keyword scoping keyword n l here = ap (λ o. option_map_or (λ (l : Located). is_same_keyword keyword (kind l.statement)) o false) here

module _ (scoping : Scoping) (keyword : Keyword) where
  pub none_yet : (numbers : List ℕ) (marks : List Bool) → Marks scoping keyword [] marks marks
  none_yet numbers marks = record {
    counted = refl;
    kept = λ n h. h;
    only = λ n h. inl h;
    all = λ n less among is. absurd (contains_none n among);
  }

  one_marked : (xs : List ℕ) (x : ℕ) (old now : List Bool) → is_of scoping keyword x ≡ true → Marks scoping keyword xs old now → Marks scoping keyword (xs ++ x ∷ []) old (set now x true)
  one_marked xs x old now is h = record {
    counted = length-set now x true ∙ h.counted;
    kept = λ n m. stays n (h.kept n m);
    only = λ n m. elim (cases_eq n x) [
      | inl same ↦ inr (subst (λ z. Contains (xs ++ x ∷ []) z) (sym same) (Contains-push xs x), ap (is_of scoping keyword) same ∙ is)
      | inr other ↦ elim (h.only n (sym (get_set_other now x n true other) ∙ m)) [
        | inl a ↦ inl a
        | inr b ↦ inr (Contains-append_left xs (x ∷ []) n b.0, b.1)
      ]
    ];
    all = λ n less among of. elim (Contains-push_cases xs x n among) [
      | inl a ↦ stays n (h.all n less a of)
      | inr same ↦ subst (IsMarked (set now x true)) same (fresh (omega (arith, h.counted, less, same)))
    ];
  }
    where
      fresh : x < length now → IsMarked (set now x true) x
      fresh less = get_set_same now x (there_is now x less).0 true (there_is now x less).1

      stays : (n : ℕ) → IsMarked now n → IsMarked (set now x true) n
      stays n m = elim (cases_eq n x) [
        | inl same ↦ subst (IsMarked (set now x true)) (sym same) (get_set_same now x true true (subst (IsMarked now) same m))
        | inr other ↦ get_set_other now x n true other ∙ m
      ]

  none_marked : (xs : List ℕ) (x : ℕ) (old now : List Bool) → is_of scoping keyword x ≡ false → Marks scoping keyword xs old now → Marks scoping keyword (xs ++ x ∷ []) old now
  none_marked xs x old now is h = record {
    counted = h.counted;
    kept = h.kept;
    only = λ n m. elim (h.only n m) [ inl a ↦ inl a | inr b ↦ inr (Contains-append_left xs (x ∷ []) n b.0, b.1) ];
    all = λ n less among of. elim (Contains-push_cases xs x n among) [
      | inl a ↦ h.all n less a of
      | inr same ↦ absurd (let e : is_of scoping keyword x ≡ is_of scoping keyword n = ap (is_of scoping keyword) same in cc)
    ];
  }

  pub one_more : (numbers : List ℕ) (i : ℕ) (old now new : List Bool) → i < length numbers →
      new ≡ marked_if (is_of scoping keyword (get_or numbers i 0)) now (get_or numbers i 0) →
      Marks scoping keyword (take i numbers) old now → Marks scoping keyword (take (i + 1) numbers) old new
  one_more numbers i old now new less is h =
      subst (λ xs. Marks scoping keyword xs old new) (sym (take_more numbers i 0 less))
      (subst (Marks scoping keyword (take i numbers ++ x ∷ []) old) (sym is) (by (is_of scoping keyword x) refl))
    where
      x : ℕ
      x = get_or numbers i 0

      by : (b : Bool) → is_of scoping keyword x ≡ b → Marks scoping keyword (take i numbers ++ x ∷ []) old (marked_if b now x)
      by true e = one_marked (take i numbers) x old now e h
      by false e = none_marked (take i numbers) x old now e h

  pub all_done : (numbers : List ℕ) (i : ℕ) (old now : List Bool) → length numbers ≤ i → Marks scoping keyword (take i numbers) old now → Marks scoping keyword numbers old now
  all_done numbers i old now le h = subst (λ xs. Marks scoping keyword xs old now) (take_all i numbers le) h

-- a text has its statement
pub root_there : (texts : List Statement) (text : ℕ) → text < length texts → (top : Located) × (root texts text ≡ Some top)
root_there texts text less = by (slice_get texts text) refl
  where
    put : Statement → Located
    put s = record { statement = s; place = record { text = text; blocks = [] } }

    by : (o : Option Statement) → slice_get texts text ≡ o → (top : Located) × (root texts text ≡ Some top)
    by None none = absurd (omega (arith, past_end texts text none, less))
    by (Some s) some = (put s, ap (option_map put) some)

pub root_within : (texts : List Statement) (text : ℕ) (top : Located) → root texts text ≡ Some top → text < length texts
root_within texts text top is = by (slice_get texts text) refl
  where
    put : Statement → Located
    put s = record { statement = s; place = record { text = text; blocks = [] } }

    by : (o : Option Statement) → slice_get texts text ≡ o → text < length texts
    by None none = absurd (let e : root texts text ≡ None = ap (option_map put) none in cc)
    by (Some s) some = get_within texts text s some

unmarked_none : (count n : ℕ) → IsMarked (replicate count false) n → ⊥
unmarked_none zero n e = cc
unmarked_none (suc count) zero e = cc
unmarked_none (suc count) (suc n) e = unmarked_none count n e

pub marks_begin : (scoping : Scoping) (sort : Defined) (marks : List Bool) → marks ≡ replicate (length scoping.located) false → AreMarked scoping sort 0 marks
marks_begin scoping sort marks is = record {
  counted = ap length is ∙ length-replicate (length scoping.located) false;
  only = λ n m. absurd (unmarked_none (length scoping.located) n (subst (λ ms. IsMarked ms n) is m));
  all = λ l d less. absurd (omega (arith, less));
}

pub marks_end : (scoping : Scoping) (sort : Defined) (text : ℕ) (marks : List Bool) → length scoping.texts ≤ text → AreMarked scoping sort text marks → AreMarks scoping sort marks
marks_end scoping sort text marks le h = record {
  counted = h.counted;
  only = h.only;
  all = λ l d. h.all l d (let e = root_within scoping.texts d.text d.top d.is_top in omega arith);
}

-- the definitions of one more text
pub marks_more : (scoping : Scoping) (sort : Defined) (text root_number : ℕ) (numbers : List ℕ) (old new : List Bool) → text < length scoping.texts →
    slice_get scoping.located root_number ≡ root scoping.texts text → AreIn scoping root_number numbers → Marks scoping (defining sort) numbers old new →
    AreMarked scoping sort text old → AreMarked scoping sort (text + 1) new
marks_more scoping sort text root_number numbers old new less is_root are_in marks h = record {
  counted = marks.counted ∙ h.counted;
  only = λ n m. elim (marks.only n m) [ inl a ↦ h.only n a | inr b ↦ defined n b.0 b.1 ];
  all = all;
}
  where
    top : Located
    top = (root_there scoping.texts text less).0

    is_top : root scoping.texts text ≡ Some top
    is_top = (root_there scoping.texts text less).1

    defined : (n : ℕ) → Contains numbers n → is_of scoping (defining sort) n ≡ true → IsDefined scoping sort n
    defined n among of = elim ((are_in top (is_root ∙ is_top)).only n among) [
      | inl a ↦ absurd (contains_none n a)
      | inr b ↦ record {
        definition = b.statement;
        is = b.is;
        defines = record { text = text; top = top; is_top = is_top; stands = b.stands; keyword = sym (of_keyword scoping (defining sort) n b.statement b.is) ∙ of };
      }
    ]

    all : (l : Located) (d : IsDefinition scoping.texts sort l) → d.text < text + 1 → HasMark scoping new l
    all l d lt = elim (cases_lt d.text text) [
      | inl earlier ↦ (let m = h.all l d earlier in record { number = m.number; marked = marks.kept m.number m.marked; is = m.is })
      | inr now ↦
          let same : d.text ≡ text = omega arith in
          let eq : d.top ≡ top = let e : Some d.top ≡ Some top = sym d.is_top ∙ ap (root scoping.texts) same ∙ is_top in cc in
          let one = (are_in top (is_root ∙ is_top)).all l (subst (λ z. StandsIn z l) eq d.stands) in
          record {
            number = one.number;
            marked = marks.all one.number (let e = get_within scoping.located one.number l one.is in omega (arith, h.counted, e)) one.among
                (of_keyword scoping (defining sort) one.number l one.is ∙ d.keyword);
            is = one.is;
          }
    ]
