-- The links of definitions.
use Rattle.std.proofs.Common.{inl, inr, ◌≡◌, ◌<◌, ◌≤◌, ◌+◌, ◌++◌, ◌∷◌, [], ℕ, List, length, get_or, take, refl, sym, ap, subst, ◌∙◌}
use Rattle.std.specs.Prelude.{Bool, true, false, Option, Some, None, slice_get, Contains}
use Rattle.std.specs.Option.{option_to_list}
use Rattle.std.proofs.lemmas.List.{append-nil, take_more, take_all}
use Rattle.std.proofs.lemmas.List.Elements.{Contains-append_left, Contains-push, Contains-push_cases}
use Rattle.nc_yang_scopes.specs.Scopes.{Located, Scoping}
use Rattle.nc_yang_scopes.specs.Names.{StandsIn}
use Rattle.nc_yang_order.proofs.Lists.{contains_none}
use Rattle.nc_yang_scopes.specs.declared.kinds.Defined.{Defined}
use Rattle.nc_yang_scopes.specs.declared.references.Link.{Link}
use Rattle.nc_yang_scopes.specs.Loops.{IsDefinition, Names, named}
use Rattle.nc_yang_scopes.specs.inner.Links.{AddsLink, AreIn, AreLinks, AreMarks, Collects, HasLink, HasReference, IsLink, IsMarked, Links, NamesNone, NamesOne, is_marked}
use Rattle.nc_yang_scopes.proofs.Marking.{is_mark}

module _ (scoping : Scoping) (sort : Defined) (marks : List Bool) where
  pub none_yet : Collects scoping sort marks [] []
  none_yet = record {
    only = λ link h. absurd (contains_none link h);
    all = λ n h. absurd (contains_none n h);
  }

  still : (links : List Link) (link : Link) (n : ℕ) → HasReference links n → HasReference (links ++ link ∷ []) n
  still links link n h = record { link = h.link; among = Contains-append_left links (link ∷ []) h.link h.among; is = h.is }

  none_named : (xs : List ℕ) (x : ℕ) (links : List Link) → NamesNone scoping sort x → Collects scoping sort marks xs links → Collects scoping sort marks (xs ++ x ∷ []) links
  none_named xs x links none h = record {
    only = λ link a. (Contains-append_left xs (x ∷ []) link.reference (h.only link a).0, (h.only link a).1);
    all = λ n among. elim (Contains-push_cases xs x n among) [
      | inl a ↦ h.all n a
      | inr same ↦ inl (subst (NamesNone scoping sort) same none)
    ];
  }

  one_named : (xs : List ℕ) (x : ℕ) (links : List Link) (link : Link) → NamesOne scoping sort marks x link → Collects scoping sort marks xs links →
      Collects scoping sort marks (xs ++ x ∷ []) (links ++ link ∷ [])
  one_named xs x links link one h = record {
    only = λ other a. elim (Contains-push_cases links link other a) [
      | inl b ↦ (Contains-append_left xs (x ∷ []) other.reference (h.only other b).0, (h.only other b).1)
      | inr same ↦ subst (λ (z : Link). Contains (xs ++ x ∷ []) z.reference × NamesOne scoping sort marks z.reference z) same
          (subst (Contains (xs ++ x ∷ [])) (sym one.reference) (Contains-push xs x), subst (λ n. NamesOne scoping sort marks n link) (sym one.reference) one)
    ];
    all = λ n among. elim (Contains-push_cases xs x n among) [
      | inl a ↦ elim (h.all n a) [ inl none ↦ inl none | inr some ↦ inr (still links link n some) ]
      | inr same ↦ inr (record { link = link; among = Contains-push links link; is = one.reference ∙ same })
    ];
  }

  pub one_more : (numbers : List ℕ) (i : ℕ) (old new : List Link) → i < length numbers → AddsLink scoping sort marks (get_or numbers i 0) old new →
      Collects scoping sort marks (take i numbers) old → Collects scoping sort marks (take (i + 1) numbers) new
  one_more numbers i old new less adds h =
      subst (λ xs. Collects scoping sort marks xs new) (sym (take_more numbers i 0 less))
      (subst (Collects scoping sort marks (take i numbers ++ get_or numbers i 0 ∷ [])) (sym adds.added) (by adds.link adds.links))
    where
      by : (o : Option Link) → Links scoping sort marks (get_or numbers i 0) o → Collects scoping sort marks (take i numbers ++ get_or numbers i 0 ∷ []) (old ++ option_to_list o)
      by None none = subst (Collects scoping sort marks (take i numbers ++ get_or numbers i 0 ∷ [])) (sym (append-nil old)) (none_named (take i numbers) (get_or numbers i 0) old none h)
      by (Some link) one = one_named (take i numbers) (get_or numbers i 0) old link one h

  pub all_done : (numbers : List ℕ) (i : ℕ) (links : List Link) → length numbers ≤ i → Collects scoping sort marks (take i numbers) links → Collects scoping sort marks numbers links
  all_done numbers i links le h = subst (λ xs. Collects scoping sort marks xs links) (take_all i numbers le) h

  -- what is no definition has none
  pub no_links : (n : ℕ) → is_marked marks n ≡ false → AreLinks scoping sort marks n []
  no_links n unmarked = record {
    only = λ link h. absurd (contains_none link h);
    marked = λ link h. absurd (contains_none link h);
    all = λ marked. absurd (let e = is_mark marks n marked in cc);
  }

  -- what is named in a definition
  pub links_are : AreMarks scoping sort marks → (n : ℕ) (numbers : List ℕ) (links : List Link) → is_marked marks n ≡ true → IsMarked marks n → AreIn scoping n numbers → Collects scoping sort marks numbers links →
      AreLinks scoping sort marks n links
  links_are are n numbers links e marked are_in h = record { only = only; marked = λ link a. (h.only link a).1.marked; all = λ m. all }
    where
      here : Located
      here = (are.only n marked).definition

      is_here : slice_get scoping.located n ≡ Some here
      is_here = (are.only n marked).is

      only : (link : Link) → Contains links link → IsLink scoping sort n link
      only link a =
          let among = (h.only link a).0 in
          let one = (h.only link a).1 in
          elim ((are_in here is_here).only link.reference among) [
            | inl b ↦ absurd (contains_none link.reference b)
            | inr b ↦
                let same : b.statement ≡ one.statement = let f : Some b.statement ≡ Some one.statement = sym b.is ∙ one.is in cc in
                let target = are.only link.target one.marked in
                let is_target : target.definition ≡ one.there = let f : Some target.definition ≡ Some one.there = sym target.is ∙ one.is_there in cc in
                record {
                  here = here;
                  statement = one.statement;
                  there = one.there;
                  is_here = is_here;
                  is_statement = one.is;
                  is_there = one.is_there;
                  names = record {
                    is_here = (are.only n marked).defines;
                    stands = subst (StandsIn here) same b.stands;
                    keyword = one.keyword;
                    means = one.means;
                    is_there = subst (IsDefinition scoping.texts sort) is_target target.defines;
                  };
                }
          ]

      all : (own statement there : Located) → slice_get scoping.located n ≡ Some own → Names scoping.texts sort own statement there → HasLink scoping links there
      all own statement there is names =
          let same : own ≡ here = let f : Some own ≡ Some here = sym is ∙ is_here in cc in
          let at = (are_in here is_here).all statement (subst (λ z. StandsIn z statement) same names.stands) in
          elim (h.all at.number at.among) [
            | inl none ↦ absurd (none statement there at.is names.keyword names.means names.is_there)
            | inr some ↦
                let one = (h.only some.link some.among).1 in
                let of : one.statement ≡ statement = let f : Some one.statement ≡ Some statement = sym one.is ∙ ap (slice_get scoping.located) some.is ∙ at.is in cc in
                let to : one.there ≡ there = let f : Some one.there ≡ Some there = sym one.means ∙ ap (named scoping.texts sort) of ∙ names.means in cc in
                record { link = some.link; among = some.among; is = one.is_there ∙ ap Some to }
          ]
