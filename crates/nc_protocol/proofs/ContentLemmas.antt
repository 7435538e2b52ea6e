-- The child element and the text that a part is.
use Rattle.std.proofs.Common.{◌≡◌, true, false, List, Some, None, refl, sym, ap, ◌∙◌, Bor}
use Rattle.std.specs.Prelude.{Option, MatchOption}
use Rattle.std.specs.Option.{option_copied}
use Rattle.nc_message.specs.declared.tree.Elem.{Elem}
use Rattle.nc_message.specs.declared.tree.Part.{Part, Child', Chars}
use Rattle.nc_message.specs.declared.tree.Part.TheBlock.{hidden-the_row-Part-0, hidden-the_row-Elem-1, items_hidden-the_row-Part-0}
use Rattle.nc_message.specs.declared.tree.Part.TheVariants.{Child}
use denote.Hole.Carrier.{hidden}
use Rattle.nc_message.specs.Written.{is_chars}
use Rattle.nc_protocol.specs.Elements.{elem_of, is_child}

pub elem_of_child : (e : Elem) → elem_of (Child e) ≡ Some e
unfolding hidden-the_row-Part-0 hidden-the_row-Elem-1 hidden
elem_of_child e =
    ap (λ (parts : List Part). Some (record { name = e.name; bounds = e.bounds; attrs = e.attrs; parts = parts }))
    (items_hidden-the_row-Part-0 e.parts)

text_is_no_child : (part : Part) → is_chars part ≡ true → None ≡ elem_of part
text_is_no_child (Chars text) e = refl
text_is_no_child (Child' u child) e = let clash : false ≡ true = e in cc

pub child_is :
    (part : Part) (o : Option (Bor Elem)) → MatchOption o (is_chars part ≡ true) (λ elem. part ≡ Child elem.now) →
    option_copied o ≡ elem_of part
child_is part None e = text_is_no_child part e
child_is part (Some elem) e = sym (ap elem_of e ∙ elem_of_child elem.now)

pub no_text : (part : Part) → is_chars part ≡ false → true ≡ is_child part
no_text (Chars text) e = let clash : true ≡ false = e in cc
no_text (Child' u child) e = refl
