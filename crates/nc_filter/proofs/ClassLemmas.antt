-- Classes of elements whose levels have the same content matches.
use Rattle.std.proofs.Common.{◌≡◌, ◌&&◌, ◌||◌, Bool, true, false, List, [], ◌∷◌, ◌++◌, refl, sym, ap, ◌∙◌, Bor}
use Rattle.std.specs.Prelude.{map}
use Rattle.std.specs.List.{list_any}
use Rattle.std.proofs.lemmas.List.Folds.{list_any-append}
use Rattle.nc_message.specs.declared.tree.Elem.{Elem}
use Rattle.nc_filter.specs.declared.guards.Class.{Class}
use Rattle.nc_filter.specs.inner.Keys.{has_all}
use Rattle.nc_filter.specs.inner.Runs.{AddsClass, class_says}
use Rattle.nc_filter.proofs.Unions.{or_assoc, or_false}

pub map_join : (xs ys : List (Bor Elem)) → map (λ elem. elem.now) (xs ++ ys) ≡ map (λ elem. elem.now) xs ++ map (λ elem. elem.now) ys
map_join [] ys = refl
map_join (x ∷ xs) ys = ap (λ more. x.now ∷ more) (map_join xs ys)

and_or : (m a b : Bool) → (m && (a || b)) ≡ ((m && a) || (m && b))
and_or true a b = refl
and_or false a b = refl

pub class_joined : (before : List Class) (last class now : Class) → now.keys ≡ last.keys → now.elems ≡ last.elems ++ class.elems → last.keys ≡ class.keys → AddsClass (before ++ last ∷ []) (before ++ now ∷ []) class
class_joined before last class now keys elems same has test =
    list_any-append says before (now ∷ [])
    ∙ ap (λ b. list_any says before || b) (or_false (says now) ∙ here)
    ∙ sym (or_assoc (list_any says before) (says last) (says class))
    ∙ ap (λ b. b || says class) (ap (λ b. list_any says before || b) (sym (or_false (says last))) ∙ sym (list_any-append says before (last ∷ [])))
  where
    says : Class → Bool
    says class = class_says has test class

    any : Class → Bool
    any class = list_any test (map (λ elem. elem.now) class.elems)

    here : says now ≡ (says last || says class)
    here =
        (λ i. has_all has (keys i) && list_any test (map (λ elem. elem.now) (elems i)))
        ∙ ap (λ b. has_all has last.keys && b) (ap (list_any test) (map_join last.elems class.elems) ∙ list_any-append test (map (λ elem. elem.now) last.elems) (map (λ elem. elem.now) class.elems))
        ∙ and_or (has_all has last.keys) (any last) (any class)
        ∙ ap (λ keys. says last || (has_all has keys && any class)) same

pub class_apart : (before : List Class) (class : Class) → AddsClass before (before ++ class ∷ []) class
class_apart before class has test =
    list_any-append (class_says has test) before (class ∷ []) ∙ ap (λ b. list_any (class_says has test) before || b) (or_false (class_says has test class))
