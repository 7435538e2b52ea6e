-- The `default` statements of a data node.
use Rattle.std.proofs.Common.{inl, inr, ◌≡◌, cond, ℕ, Bool, true, false, List, [], ◌∷◌, map, refl, sym, ap, ◌∙◌, subst}
use Rattle.std.specs.Prelude.{Option, Some, None, option_map, filter, find}
use Rattle.nc_schema.specs.declared.node.Kind.{Kind}
use Rattle.nc_schema.specs.declared.node.Kind.TheVariants.{Container, Leaf, LeafList, List as ListKind}
use Rattle.nc_schema.specs.Kinds.{has_value}
use Rattle.nc_yang_words.specs.declared.statement.Statement.{Statement}
use Rattle.nc_yang_statements.specs.declared.keyword.Keyword.TheVariants.{Default, TypeName}
use Rattle.nc_yang_statements.specs.Keywords.{is_same_keyword}
use Rattle.nc_yang_statements.specs.Statements.{below, kind}
use Rattle.nc_yang_scopes.specs.Scopes.{Located, Scoping}
use Rattle.nc_yang_nodes.specs.Expansion.{list_of}
use Rattle.nc_yang_types.specs.Defaults.{Brings, IsLeafDefault}
use Rattle.nc_yang_types.specs.Meanings.{Meaning, Means}
use Rattle.nc_yang_scopes.specs.Parts.{in_it, part_of}
use Rattle.nc_yang_types.proofs.DefaultLemmas.{one_default}
use Rattle.nc_yang_leafs.specs.Sources.{AreSources, BringsTo, Defined, brought, may_lack, nothing, own, own_of}
use Rattle.nc_yang_leafs.specs.Typed.{HasMeaning}
use Rattle.nc_yang_leafs.specs.inner.Reading.{IsBrought, MeansIt}

no_first : {A B : Type 0} (test : A → Bool) (g : A → B) (xs : List A) → map g (filter test xs) ≡ [] → find test xs ≡ None
no_first test g [] e = refl
no_first {A} {B} test g (x ∷ xs) e = by (test x) e (no_first test g xs)
  where
    by : (b : Bool) → map g (cond b (x ∷ filter test xs) (filter test xs)) ≡ [] → (map g (filter test xs) ≡ [] → find test xs ≡ None) → cond b (Some x) (find test xs) ≡ None
    by true e further = absurd (cc)
    by false e further = further e

no_list : (o : Option Located) → list_of o ≡ [] → o ≡ None
no_list None e = refl
no_list (Some l) e = absurd (cc)

-- without a `default` statement of its own
pub no_own : (kind_of : Kind) (mandatory : Bool) (least : ℕ) (l : Located) → may_lack kind_of mandatory least ≡ true → own_of kind_of l ≡ [] → part_of Default l ≡ None
no_own Leaf mandatory least l lacks none = no_list (part_of Default l) none
no_own LeafList mandatory least l lacks none = ap (option_map (in_it l)) (no_first (λ s. is_same_keyword Default (kind s)) (in_it l) (below l.statement) none)
no_own ListKind mandatory least l lacks none = absurd (cc)
no_own (Container presence) mandatory least l lacks none = absurd (cc)

pub lacks_value : (kind_of : Kind) (mandatory : Bool) (least : ℕ) → may_lack kind_of mandatory least ≡ true → has_value kind_of ≡ true
lacks_value Leaf mandatory least lacks = refl
lacks_value LeafList mandatory least lacks = refl
lacks_value ListKind mandatory least lacks = absurd (cc)
lacks_value (Container presence) mandatory least lacks = absurd (cc)

module _ (scoping : Scoping) (d : Defined) where
  pub brought_by : (r : Option ℕ) → may_lack d.node.kind d.node.mandatory d.node.least ≡ true → own_of d.node.kind d.statement ≡ [] → MeansIt scoping.texts d →
      ((on : ℕ → List ℕ → Bool) → (of_type : Located) → (m : Meaning) → part_of TypeName d.statement ≡ Some of_type → Means on scoping.texts of_type m → IsLeafDefault scoping d.statement of_type r) → IsBrought scoping d r
  brought_by r lacks none means found =
      let h = means (lacks_value d.node.kind d.node.mandatory d.node.least lacks) in
      by r h (found h.on h.of_type h.meaning h.is_type h.means)
    where
      own_none : part_of Default d.statement ≡ None
      own_none = no_own d.node.kind d.node.mandatory d.node.least d.statement lacks none

      by : (r : Option ℕ) (h : HasMeaning scoping.texts d.statement) → IsLeafDefault scoping d.statement h.of_type r → IsBrought scoping d r
      by None h has = λ default b.
          let same : b.of_type ≡ h.of_type = let e : Some b.of_type ≡ Some h.of_type = sym b.is_type ∙ h.is_type in cc in
          has default (inr (own_none, subst (λ t. Brings scoping.texts t default) same b.brings))
      by (Some n) h has = (
        has.0,
        has.1,
        elim has.2 [
          | inl its_own ↦ absurd (let e : None ≡ Some has.0 = sym own_none ∙ its_own in cc)
          | inr deep ↦ record { lacks = lacks; of_type = h.of_type; is_type = h.is_type; brings = deep.1 }
        ],
      )

  pub brought_none : may_lack d.node.kind d.node.mandatory d.node.least ≡ false → IsBrought scoping d None
  brought_none lacks = λ default b. let clash : true ≡ false = sym b.lacks ∙ lacks in cc

-- the statements are fixed
pub one_brought : (texts : List Statement) (d : Defined) (a b : Located) → BringsTo texts d a → BringsTo texts d b → a ≡ b
one_brought texts d a b first other =
    let same : other.of_type ≡ first.of_type = let e : Some other.of_type ≡ Some first.of_type = sym other.is_type ∙ first.is_type in cc in
    one_default texts first.of_type a b first.brings (subst (λ t. Brings texts t b) same other.brings)

pub one_sources : (texts : List Statement) (d : Defined) (xs ys : List Located) → AreSources texts d xs → AreSources texts d ys → xs ≡ ys
one_sources texts d _ _ (own f m e) (own g n h) = sym e ∙ h
one_sources texts d _ _ (own f m e) (brought x none b) = absurd (cc)
one_sources texts d _ _ (own f m e) (nothing none lost) = absurd (cc)
one_sources texts d _ _ (brought x none b) (own f m e) = absurd (cc)
one_sources texts d _ _ (brought x none b) (brought y other c) = ap (λ z. z ∷ []) (one_brought texts d x y b c)
one_sources texts d _ _ (brought x none b) (nothing other lost) = absurd (lost x b)
one_sources texts d _ _ (nothing none lost) (own f m e) = absurd (cc)
one_sources texts d _ _ (nothing none lost) (brought y other c) = absurd (lost y c)
one_sources texts d _ _ (nothing none lost) (nothing other gone) = refl
