-- Parts, one after another.
use Rattle.std.proofs.Common.{◌≡◌, ℕ, List, [], ◌∷◌, ◌++◌, Option, Some, None, option_map, option_and_then, refl, sym, ap, ◌∙◌, append_assoc, append-nil}
use Rattle.nc_schema.specs.declared.value_type.Between.{Between}
use Rattle.nc_yang_types.specs.declared.bound.Counted.{Counted}
use Rattle.nc_yang_types.specs.Ranges.{part_of, parts_of}
use Rattle.nc_yang_types.specs.inner.Cuts.{joined}

join_more : (before : List Between) (part : Between) (more : Option (List Between)) → joined before (option_map (λ parts. part ∷ parts) more) ≡ joined (before ++ part ∷ []) more
join_more before part None = refl
join_more before part (Some parts) = ap Some (sym (append_assoc before (part ∷ []) parts))

first_of : (part : Between) (more : Option (List Between)) → option_and_then (λ parts. Some (part ∷ parts)) more ≡ option_map (λ parts. part ∷ parts) more
first_of part None = refl
first_of part (Some parts) = refl

pub part_more : (counted : Counted) (whole : Between) (before : List Between) (text : List ℕ) (texts : List (List ℕ)) (part : Between) → part_of counted whole text ≡ Some part
    → joined before (parts_of counted whole (text ∷ texts)) ≡ joined (before ++ part ∷ []) (parts_of counted whole texts)
part_more counted whole before text texts part e =
    ap (λ o. joined before (option_and_then (λ first. option_and_then (λ more. Some (first ∷ more)) (parts_of counted whole texts)) o)) e
    ∙ ap (joined before) (first_of part (parts_of counted whole texts)) ∙ join_more before part (parts_of counted whole texts)

pub no_part : (counted : Counted) (whole : Between) (before : List Between) (text : List ℕ) (texts : List (List ℕ)) → part_of counted whole text ≡ None
    → joined before (parts_of counted whole (text ∷ texts)) ≡ None
no_part counted whole before text texts e =
    ap (λ o. joined before (option_and_then (λ first. option_and_then (λ more. Some (first ∷ more)) (parts_of counted whole texts)) o)) e

pub all_parts : (counted : Counted) (whole : Between) (before : List Between) → joined before (parts_of counted whole []) ≡ Some before
all_parts counted whole before = ap Some (append-nil before)
