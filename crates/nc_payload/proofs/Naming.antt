-- The elements of a payload, and the texts of keys.
use Rattle.std.proofs.Common.{◌≡◌, ◌++◌, ℕ, List, [], ◌∷◌, Option, Some, length, refl, sym, ap, ◌∙◌, arith, false}
use Rattle.std.proofs.lemmas.List.{append-nil}
use Rattle.std.specs.Prelude.{option_map}
use Rattle.nc_message.specs.declared.tree.Elem.{Elem}
use Rattle.nc_message.specs.declared.tree.Part.{Part}
use Rattle.nc_message.specs.declared.tree.Part.TheVariants.{Child}
use Rattle.nc_message.specs.declared.tree.Part.TheBlock.{items_hidden-the_row-Part-0, hidden-the_row-Part-0, hidden-the_row-Elem-1}
use denote.Hole.Carrier.{hidden}
use Rattle.nc_schema.specs.declared.node.Case.{Case}
use Rattle.nc_schema.specs.Standing.{cases_differ}
use Rattle.nc_schema.specs.Values.{Gives, canonical_keys}
use Rattle.nc_protocol.specs.Elements.{elem_of}

-- the element that a child is
pub elem_is : (e : Elem) → elem_of (Child e) ≡ Some e
unfolding hidden-the_row-Part-0 hidden-the_row-Elem-1 hidden
elem_is e =
    let with_parts : List Part → Elem = λ ps. record { name = e.name; bounds = e.bounds; attrs = e.attrs; parts = ps } in
    ap (λ (ps : List Part). Some (with_parts ps)) (items_hidden-the_row-Part-0 e.parts)

-- no case differs from none
pub none_differ : (cases : List Case) → cases_differ cases [] ≡ false
none_differ [] = refl
none_differ (case ∷ cases) = none_differ cases

none_left : {X : Type 0} (xs : List X) → length xs ≡ 0 → xs ≡ []
none_left [] none = refl
none_left (x ∷ xs) none = absurd (omega (arith, none))

no_keys : (gives : Gives) (nodes : List ℕ) → canonical_keys gives nodes [] ≡ Some []
no_keys gives [] = refl
no_keys gives (node ∷ nodes) = refl

-- no key is left
pub keys_end : (whole : Option (List (List ℕ))) (gives : Gives) (nodes : List ℕ) (keys out : List (List ℕ)) → length keys ≡ 0 →
    option_map (λ more. out ++ more) (canonical_keys gives nodes keys) ≡ whole → Some out ≡ whole
keys_end whole gives nodes keys out none so_far =
    (λ i. Some (sym (append-nil out) i)) ∙ ap (option_map (λ more. out ++ more)) (sym (no_keys gives nodes)) ∙ (λ i. option_map (λ more. out ++ more) (canonical_keys gives nodes (sym (none_left keys none) i))) ∙ so_far
