-- `base` statements that name the same identities have the same names.
use Rattle.std.proofs.Common.{inl, inr, ◌≡◌, ℕ, suc, List, [], ◌∷◌, map, refl, sym, ap, subst, ◌∙◌, arith}
use Rattle.std.specs.Prelude.{Some, slice_get, Contains}
use Rattle.nc_yang_words.specs.declared.statement.Statement.{Statement}
use Rattle.nc_yang_order.proofs.Lists.{contains_none}
use Rattle.nc_yang_scopes.proofs.LinkLists.{contains_cases, contains_first, contains_later}
use Rattle.nc_yang_scopes.specs.Numbers.{AreNumbers}
use Rattle.nc_yang_scopes.specs.Scopes.{Located, Scoping}
use Rattle.nc_yang_nodes.specs.Roles.{FeatureTest}
use Rattle.nc_yang_nodes.specs.Identities.{identities}
use Rattle.nc_yang_nodes.specs.Picks.{Picks, none, passed, picked}
use Rattle.nc_yang_nodes.specs.Values.{IsUnder, IsValue}
use Rattle.nc_yang_leafs.specs.Named.{AreAlike, NameOne, NameSame, identity_of}
use Rattle.nc_yang.specs.Schemas.{AreNames}

-- two `base` statements name one identity
record Meet (texts : List Statement) (one other : Located) : Type 0 where
  found : Located
  first : identity_of texts one ≡ Some found
  second : identity_of texts other ≡ Some found

-- so do those of two lists, one after another
abbrev AllMeet : List Statement → List Located → List Located → Type 0
AllMeet texts [] [] = Unit {0}
AllMeet texts (l ∷ ls) (o ∷ os) = Meet texts l o × AllMeet texts ls os
AllMeet texts ls os = ⊥

turned : (texts : List Statement) (ls os : List Located) → AllMeet texts ls os → AllMeet texts os ls
turned texts [] [] m = tt
turned texts [] (o ∷ os) m = absurd m
turned texts (l ∷ ls) [] m = absurd m
turned texts (l ∷ ls) (o ∷ os) m = (record { found = m.0.found; first = m.0.second; second = m.0.first }, turned texts ls os m.1)

met : (texts : List Statement) (ls os : List Located) → AllMeet texts ls os → (o : Located) → Contains os o → (l : Located) × Contains ls l × Meet texts l o
met texts [] [] m o c = absurd (contains_none o c)
met texts [] (x ∷ os) m o c = absurd m
met texts (l ∷ ls) [] m o c = absurd m
met texts (l ∷ ls) (x ∷ os) m o c = elim (contains_cases x os o c) [
  | inl here ↦ (l, contains_first l ls, subst (Meet texts l) here m.0)
  | inr later ↦ let p = met texts ls os m.1 o later in (p.0, contains_later l ls p.0 p.1, p.2)
]

under_met : (texts : List Statement) (l o x : Located) → Meet texts l o → IsUnder texts l x → IsUnder texts o x
under_met texts l o x m u = record {
  from = u.from;
  stands = u.stands;
  named = record { found = u.named.found; leads = m.second ∙ sym m.first ∙ u.named.leads; is = u.named.is };
  derived = u.derived;
}

value_met : (texts : List Statement) (on : FeatureTest) (ls os : List Located) → AllMeet texts ls os → (x : Located) → IsValue texts on ls x → IsValue texts on os x
value_met texts on ls os m x v = record {
  supported = v.supported;
  under = λ o c. (let p = met texts ls os m o c in under_met texts p.0 o x p.2 (v.under p.0 p.1));
}

picks_alike : {A : Type 0} (P Q : A → Type 0) → ((x : A) → P x → Q x) → ((x : A) → Q x → P x) → (xs found : List A) → Picks P xs found → Picks Q xs found
picks_alike P Q to back _ _ none = none
picks_alike P Q to back _ _ (picked x xs found p more) = picked x xs found (to x p) (picks_alike P Q to back xs found more)
picks_alike P Q to back _ _ (passed x xs found not_p more) = passed x xs found (λ q. not_p (back x q)) (picks_alike P Q to back xs found more)

-- the statements of the first numbers, where those of the others are known
record Beside (scoping : Scoping) (bases : List ℕ) (os : List Located) : Type 0 where
  ls : List Located
  are : AreNumbers scoping.located bases ls
  meet : AllMeet scoping.texts ls os

beside : (scoping : Scoping) (bases others : List ℕ) → NameSame scoping bases others → (os : List Located) → AreNumbers scoping.located others os → Beside scoping bases os
beside scoping [] [] same [] are = record { ls = []; are = refl; meet = tt }
beside scoping [] [] same (o ∷ os) are = absurd (cc)
beside scoping [] (n ∷ others) same os are = absurd (let c = same.counted in omega (arith, c))
beside scoping (b ∷ bases) [] same os are = absurd (let c = same.counted in omega (arith, c))
beside scoping (b ∷ bases) (n ∷ others) same [] are = absurd (cc)
beside scoping (b ∷ bases) (n ∷ others) same (o ∷ os) are =
    let one : NameOne scoping b n = same.each 0 b n refl refl in
    let here : slice_get scoping.located n ≡ Some o = cc in
    let tail : AreNumbers scoping.located others os = cc in
    let statement : one.second.statement ≡ o = (let e = one.second.is in cc) in
    let identity : one.second.identity ≡ one.first.identity = (let e = one.first.there in let f = one.second.there in cc) in
    let rest = beside scoping bases others (record { counted = (let c = same.counted in omega (arith, c)); each = λ place base other at there. same.each (suc place) base other at there }) os tail in
    record {
      ls = one.first.statement ∷ rest.ls;
      are = ap (λ z. z ∷ map (slice_get scoping.located) bases) one.first.is ∙ ap (λ z. Some one.first.statement ∷ z) rest.are;
      meet = (
        record { found = one.first.identity; first = one.first.named; second = ap (identity_of scoping.texts) (sym statement) ∙ one.second.named ∙ ap Some identity },
        rest.meet,
      );
    }

pub alike : (scoping : Scoping) (on : FeatureTest) (bases others : List ℕ) → NameSame scoping bases others → AreAlike (AreNames scoping on) scoping.located bases others
alike scoping on bases others same = λ names have os are.
    let b = beside scoping bases others same os are in
    let n = have b.ls b.are in (
      n.0,
      picks_alike (IsValue scoping.texts on b.ls) (IsValue scoping.texts on os) (value_met scoping.texts on b.ls os b.meet)
          (value_met scoping.texts on os b.ls (turned scoping.texts b.ls os b.meet)) (identities scoping.texts) n.0 n.1,
      n.2,
    )
