-- Elements moved out of lists, one after another.
use Rattle.std.proofs.Common.{◌≡◌, ◌≢◌, ◌<◌, ◌≤◌, ℕ, Bool, true, false, cond, List, [], ◌∷◌, ◌++◌, length, Option, Some, None, refl, sym, ap, ◌∙◌, arith, length-append}
use Rattle.std.specs.Prelude.{option_to_list, position, slice_get}
use Rattle.std.specs.List.{cons_option, filter, filter_map, find, position_or_len}
use Rattle.std.proofs.lemmas.List.Elements.{filter_map-append}
use Rattle.std.proofs.lemmas.List.Folds.{find_at}
use Rattle.std.proofs.lemmas.Bool.{lt-ltb}
use Rattle.std.proofs.lemmas.Option.{slice_get_past}
use Rattle.nc_message.specs.declared.tree.Elem.{Elem}
use Rattle.nc_message.specs.declared.tree.Part.{Part}
use Rattle.nc_protocol.specs.declared.asked.Select.{Select}
use Rattle.nc_protocol.specs.Asking.{is_select, only, select_in}
use Rattle.nc_protocol.specs.Content.{children}
use Rattle.nc_protocol.specs.Elements.{elem_of}
use Rattle.nc_requests.specs.inner.Parameters.{selects_among}

one_of : {X : Type 0} (o : Option X) → cons_option o [] ≡ option_to_list o
one_of None = refl
one_of (Some x) = refl

pub children_push : (parts : List Part) (part : Part) → children (parts ++ part ∷ []) ≡ children parts ++ option_to_list (elem_of part)
children_push parts part = filter_map-append elem_of parts (part ∷ []) ∙ ap (λ more. children parts ++ more) (one_of (elem_of part))

-- an element gives at most one expression
pub select_turn : (elem : Elem) (chosen : Bool) (found : Option Select) (more : List Elem) (rest : List Select) → rest ≡ filter_map select_in (filter is_select more) →
    filter_map select_in (cond chosen (elem ∷ filter is_select more) (filter is_select more)) ≡ cond chosen (cons_option (select_in elem) rest) rest
select_turn elem true found more rest is = ap (cons_option (select_in elem)) (sym is)
select_turn elem false found more rest is = sym is

one_more : (o : Option Select) (rest : List Select) → cons_option o rest ≡ option_to_list o ++ rest
one_more None rest = refl
one_more (Some select) rest = refl

select_step : (chosen : Bool) (o : Option Select) (rest : List Select) → cond chosen (cons_option o rest) rest ≡ cond chosen (option_to_list o) [] ++ rest
select_step true o rest = one_more o rest
select_step false o rest = refl

pub selects_are : (elems : List Elem) → filter_map select_in (filter is_select elems) ≡ selects_among elems
selects_are [] = refl
selects_are (elem ∷ more) =
    select_turn elem (is_select elem) (select_in elem) more (selects_among more) (sym (selects_are more))
    ∙ select_step (is_select elem) (select_in elem) (selects_among more)

pub only_none : (elems : List Elem) → length elems ≢ 1 → only elems ≡ None
only_none [] some = refl
only_none (elem ∷ []) some = absurd (some refl)
only_none (elem ∷ other ∷ more) some = refl

pub only_some : (elems front : List Elem) (elem : Elem) → length elems ≡ 1 → elems ≡ front ++ elem ∷ [] → only elems ≡ Some elem
only_some elems [] elem one is = ap only is
only_some elems (first ∷ front) elem one is =
    absurd (omega (arith, ap length is, length-append front (elem ∷ [])))

same_place : (b : Bool) (n i : ℕ) → cond b (Some n) None ≡ Some i → n ≡ i
same_place true n i is = cc
same_place false n i is = absurd (let f : None ≡ Some i = is in cc)

no_place : (b : Bool) (n : ℕ) → cond b (Some n) None ≡ None → ¬ (b ≡ true)
no_place true n is t = cc
no_place false n is t = cc

pub found_at : {X : Type 0} (p : X → Bool) (xs : List X) (i : ℕ) (x : X) → position p xs ≡ Some i → slice_get xs i ≡ Some x → Some x ≡ find p xs
found_at p xs i x place is = sym (find_at p xs ∙ ap (slice_get xs) (same_place _ (position_or_len p xs) i place) ∙ is)

past : (a b : ℕ) → ¬ (a < b) → b ≤ a
past a b never = grind arith

pub found_nowhere : {X : Type 0} (p : X → Bool) (xs : List X) → position p xs ≡ None → None ≡ find p xs
found_nowhere p xs place =
    sym (find_at p xs ∙ slice_get_past xs (position_or_len p xs)
    (past (position_or_len p xs) (length xs) (λ less. no_place _ (position_or_len p xs) place (lt-ltb (position_or_len p xs) (length xs) less))))

-- a list without a second element whose last is known
pub one_alone : (elems front : List Elem) (elem : Elem) → slice_get elems 1 ≡ None → elems ≡ front ++ elem ∷ [] → elems ≡ elem ∷ []
one_alone elems [] elem none is = is
one_alone elems (first ∷ []) elem none is = absurd (let some : None ≡ Some elem = sym none ∙ ap (λ xs. slice_get xs 1) is in cc)
one_alone elems (first ∷ second ∷ front) elem none is = absurd (let some : None ≡ Some second = sym none ∙ ap (λ xs. slice_get xs 1) is in cc)
