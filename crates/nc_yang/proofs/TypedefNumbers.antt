-- The numbers of typedefs, level after level.
use Rattle.std.proofs.Common.{◌≡◌, ◌≢◌, ◌<◌, ◌≤◌, ◌+◌, ◌-◌, ℕ, zero, suc, Bool, true, false, cond, List, [], ◌∷◌, ◌++◌, length, map, take, get_or, refl, sym, ap, subst, ◌∙◌, append_assoc, arith}
use Rattle.std.specs.Prelude.{Some, slice_get, option_and_then}
use Rattle.std.specs.List.{flat_map}
use Rattle.std.proofs.lemmas.Grind.{flat_map-append}
use Rattle.std.proofs.lemmas.List.{append-nil, length-map, take_all}
use Rattle.std.proofs.lemmas.Option.{slice_get-get_or, slice_get-map}
use Rattle.nc_yang_words.specs.declared.statement.Statement.{Statement}
use Rattle.nc_yang_statements.specs.declared.keyword.Keyword.TheVariants.{Typedef}
use Rattle.nc_yang_statements.specs.Keywords.{is_closed, is_same_keyword}
use Rattle.nc_yang_statements.specs.Statements.{below, kind}
use Rattle.nc_yang_order.proofs.Lists.{take_next}
use Rattle.nc_yang_scopes.specs.Parts.{in_it}
use Rattle.nc_yang_scopes.specs.Scopes.{Located, Scoping, child}
use Rattle.nc_yang_scopes.specs.inner.Naming.{HasNumber}
use Rattle.nc_yang_scopes.proofs.Misnaming.{child_is, statement_is}
use Rattle.nc_yang_nodes.proofs.NumberLemmas.{numbers_append}
use Rattle.nc_yang.specs.Typedefs.{opened, own_typedef, typedefs_within}
use Rattle.nc_yang.specs.inner.Judged.{Adds, AddsTypedefs, is_end}

-- where more levels are asked only what is passed over is an end
pub asks_more : (levels : ℕ) (s : Statement) → levels ≢ 0 → is_end levels s ≡ is_closed (kind s)
asks_more zero s some = absurd (some refl)
asks_more (suc levels) s some = refl

-- ---- what a statement has in it
pub ended : (levels : ℕ) (l : Located) → is_end levels l.statement ≡ true → typedefs_within levels l ≡ own_typedef l
unfolding typedefs_within
ended zero l e = refl
ended (suc levels) l e =
    ap (λ b. own_typedef l ++ flat_map (typedefs_within levels) (cond b [] (map (in_it l) (below l.statement)))) e ∙ append-nil (own_typedef l)

pub further : (levels : ℕ) (l : Located) → is_end levels l.statement ≡ false →
    typedefs_within levels l ≡ own_typedef l ++ flat_map (typedefs_within (levels - 1)) (map (in_it l) (below l.statement))
unfolding typedefs_within
further zero l e = absurd (cc)
further (suc levels) l e =
    let n : suc levels - 1 ≡ levels = omega arith in
    ap (λ b. own_typedef l ++ flat_map (typedefs_within levels) (cond b [] (map (in_it l) (below l.statement)))) e
    ∙ ap (λ k. own_typedef l ++ flat_map (typedefs_within k) (map (in_it l) (below l.statement))) (sym n)

-- ---- numbers that are added
module _ (located : List Located) where
  pub adds_more : (ls ks : List Located) (a b c : List ℕ) → Adds located ls a b → Adds located ks b c → Adds located (ls ++ ks) a c
  adds_more ls ks a b c x y = (
    x.0 ++ y.0,
    y.1 ∙ ap (λ z. z ++ y.0) x.1 ∙ append_assoc a x.0 y.0,
    numbers_append located x.0 y.0 ls ks x.2 y.2,
  )

  own_added : (l : Located) (n : ℕ) → slice_get located n ≡ Some l → (b : Bool) (old new : List ℕ) → new ≡ old ++ cond b (n ∷ []) [] → Adds located (cond b (l ∷ []) []) old new
  own_added l n here true old new is = (n ∷ [], is, ap (λ o. o ∷ []) here)
  own_added l n here false old new is = ([], is, refl)

module _ (scoping : Scoping) (n : ℕ) (s : Statement) (number : HasNumber scoping n s) (l : Located) (here : slice_get scoping.located n ≡ Some l) where
  same : l.statement ≡ s
  same = statement_is scoping n s l number here

  abbrev children : List Located
  children = map (in_it l) (below l.statement)

  -- the statement itself
  pub own : (b : Bool) (old new : List ℕ) → b ≡ is_same_keyword Typedef (kind s) → new ≡ old ++ cond b (n ∷ []) [] → Adds scoping.located (own_typedef l) old new
  own b old new is added =
      subst (λ z. Adds scoping.located (cond z (l ∷ []) []) old new) (is ∙ ap (λ z. is_same_keyword Typedef (kind z)) (sym same)) (own_added scoping.located l n here b old new added)

  pub ends : (levels : ℕ) (old new : List ℕ) → is_end levels s ≡ true → Adds scoping.located (own_typedef l) old new → Adds scoping.located (typedefs_within levels l) old new
  ends levels old new e h = subst (λ z. Adds scoping.located z old new) (sym (ended levels l (ap (is_end levels) same ∙ e))) h

  -- and what stands directly in it, one after another
  abbrev pub So : (lower place : ℕ) → (old new : List ℕ) → Type 0
  So lower place old new = Adds scoping.located (own_typedef l ++ flat_map (typedefs_within lower) (take place children)) old new

  pub begins : (lower : ℕ) (old new : List ℕ) → Adds scoping.located (own_typedef l) old new → So lower 0 old new
  begins lower old new h = subst (λ z. Adds scoping.located z old new) (sym (append-nil (own_typedef l))) h

  pub one_more : (among : List Statement) → among ≡ below s → (lower place m : ℕ) (t : Statement) (old now new : List ℕ) → place < length among → t ≡ get_or among place t →
      slice_get scoping.located m ≡ option_and_then (child place) (slice_get scoping.located n) → AddsTypedefs scoping lower m now new → So lower place old now → So lower (place + 1) old new
  one_more among among_is lower place m t old now new less is at adds so_far =
      let one : child place l ≡ Some (in_it l t) = child_is scoping n s l number here among among_is place t less is in
      let there : slice_get scoping.located m ≡ Some (in_it l t) = at ∙ ap (option_and_then (child place)) here ∙ one in
      let next : take (place + 1) children ≡ take place children ++ in_it l t ∷ [] = take_next children place (in_it l t) (slice_get-map (in_it l) (below l.statement) place ∙ one) in
      let list : own_typedef l ++ flat_map (typedefs_within lower) (take (place + 1) children) ≡ (own_typedef l ++ flat_map (typedefs_within lower) (take place children)) ++ typedefs_within lower (in_it l t) =
      ap (λ z. own_typedef l ++ flat_map (typedefs_within lower) z) next
      ∙ ap (λ z. own_typedef l ++ z) (flat_map-append (typedefs_within lower) (take place children) (in_it l t ∷ []) ∙ ap (λ z. flat_map (typedefs_within lower) (take place children) ++ z) (append-nil (typedefs_within lower (in_it l t))))
      ∙ sym (append_assoc (own_typedef l) (flat_map (typedefs_within lower) (take place children)) (typedefs_within lower (in_it l t))) in
      subst (λ z. Adds scoping.located z old new) (sym list)
      (adds_more scoping.located (own_typedef l ++ flat_map (typedefs_within lower) (take place children)) (typedefs_within lower (in_it l t)) old now new so_far (adds (in_it l t) there))

  pub all_in : (among : List Statement) → among ≡ below s → (levels place : ℕ) (old new : List ℕ) → is_end levels s ≡ false → length among ≤ place → So (levels - 1) place old new →
      Adds scoping.located (typedefs_within levels l) old new
  all_in among among_is levels place old new e past so_far =
      let long : length children ≤ place =
      (let a = length-map (below l.statement) (in_it l) in let b = ap (λ z. length (below z)) same in let c = ap length among_is in omega arith) in
      subst (λ z. Adds scoping.located z old new)
      (ap (λ z. own_typedef l ++ flat_map (typedefs_within (levels - 1)) z) (take_all place children long) ∙ sym (further levels l (ap (is_end levels) same ∙ e)))
      so_far
