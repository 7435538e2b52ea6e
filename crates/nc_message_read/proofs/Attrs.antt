-- The attributes that are read so far.
use Rattle.std.proofs.Common.{◌≡◌, ℕ, suc, ◌+◌, ◌<◌, false, cond, List, [], ◌∷◌, ◌++◌, length, drop, get_or, Some, option_and_then, sym, ap, ◌∙◌, drop-cons, arith}
use Rattle.nc_names.specs.declared.name.Bound.{Bound}
use Rattle.nc_message.specs.declared.tree.Attr.{Attr}
use Rattle.nc_message.specs.Tokens.{Attribute}
use Rattle.nc_message.specs.Texts.{onto}
use Rattle.nc_message.specs.Resolved.{is_declaration, attr_of, attrs_of}
use Rattle.nc_message_read.proofs.Resolving.{onto_twice}

pub attrs_more : (bounds : List Bound) (all : List Attribute) (i : ℕ) (a : Attribute) (x : Attr) (out new : List Attr) → i < length all → a ≡ get_or all i a
    → is_declaration a.name ≡ false → attr_of bounds a ≡ Some x → new ≡ out ++ x ∷ [] → onto out (attrs_of bounds (drop i all)) ≡ onto new (attrs_of bounds (drop (i + 1) all))
attrs_more bounds all i a x out new less at plain read joined =
    let next : suc i ≡ i + 1 = omega arith in
    let here : drop i all ≡ a ∷ drop (i + 1) all = drop-cons all i a less ∙ ap (λ y. y ∷ drop (suc i) all) (sym at) ∙ ap (λ k. a ∷ drop k all) next in
    let rest = attrs_of bounds (drop (i + 1) all) in
    let step : attrs_of bounds (drop i all) ≡ onto (x ∷ []) rest =
    ap (attrs_of bounds) here ∙ ap (λ b. cond b rest (option_and_then (λ y. onto (y ∷ []) rest) (attr_of bounds a))) plain ∙ ap (option_and_then (λ (y : Attr). onto (y ∷ []) rest)) read in
    ap (onto out) step ∙ onto_twice out (x ∷ []) rest ∙ ap (λ l. onto l rest) (sym joined)
