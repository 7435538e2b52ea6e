-- The keys that are printed in a list entry, as they are read.
use Rattle.std.proofs.Common.{◌≡◌, ◌≢◌, ◌==◌, ◌<◌, ◌++◌, ◌∙◌, cond, ℕ, zero, suc, Bool, true, false, List, [], ◌∷◌, Option, Some, length, refl, sym, ap, subst, arith}
use Rattle.std.specs.Prelude.{slice_get, option_and_then}
use Rattle.std.specs.List.{AllPairs, cons_option, filter_map, find}
use Rattle.std.specs.Option.{option_map_or}
use Rattle.std.proofs.lemmas.Bool.Decides.{Decides-eqb}
use Rattle.std.proofs.lemmas.Option.{get_or_from_slice_get, none-some, slice_get_within}
use Rattle.nc_message.specs.declared.tree.Part.{Part}
use Rattle.nc_schema.specs.Proper.{IsProperSchema}
use Rattle.nc_protocol.proofs.ElementLemmas.{find_in, found_here}
use Rattle.nc_protocol.specs.Elements.{Reading, Named, first_child, key_values, named_part, value_in, with_key}
use Rattle.nc_protocol.specs.Printed.{node_part}
use Rattle.nc_print.proofs.ReadBack.{printed_is_named, printed_value_is_read}
use Rattle.nc_print.specs.Laws.{IsKeyReadBack, PrintedKeysAreRead, key_parts, printed_elem}

differs : (a b : ℕ) → a ≢ b → (a == b) ≡ false
differs a b apart = by (a == b) refl
  where
    by : (t : Bool) → (a == b) ≡ t → (a == b) ≡ false
    by true e = absurd (apart ((Decides-eqb a b).0 e))
    by false e = e

-- a key's element as it is read
abbrev child_of : (reading : Reading) (number key : ℕ) (value : List ℕ) → IsKeyReadBack reading number key value → Named
child_of reading number key value is =
    record { number = key; node = is.node; elem = printed_elem reading.tables key (Some value) [] is.node }

key_named : (reading : Reading) (number key : ℕ) (value : List ℕ) (is : IsKeyReadBack reading number key value) → IsProperSchema reading.tables →
    named_part reading (Some number) (node_part reading.tables key (Some value) [] is.node) ≡ Some (child_of reading number key value is)
key_named reading number key value is proper =
    subst (λ (parent : Option ℕ). named_part reading parent (node_part reading.tables key (Some value) [] is.node) ≡ Some (child_of reading number key value is))
    is.parent (printed_is_named reading key is.node (Some value) [] proper is.at)

-- the first of the keys stands first among the parts
first_part : (reading : Reading) (number key : ℕ) (value : List ℕ) (keys : List ℕ) (values : List (List ℕ)) (more : List Part) (is : IsKeyReadBack reading number key value) →
    key_parts reading.tables (key ∷ keys) (value ∷ values) ++ more
    ≡ node_part reading.tables key (Some value) [] is.node ∷ (key_parts reading.tables keys values ++ more)
first_part reading number key value keys values more is =
    ap (λ found. (option_map_or (λ node. node_part reading.tables key (Some value) [] node ∷ []) found [] ++ key_parts reading.tables keys values) ++ more) is.at

-- it is found there by its number, and passed over for another
first_read : (reading : Reading) (number key : ℕ) (value : List ℕ) (keys : List ℕ) (values : List (List ℕ)) (more : List Part) (is : IsKeyReadBack reading number key value) →
    IsProperSchema reading.tables →
    option_and_then (value_in reading) (find_in reading (Some number) (key_parts reading.tables (key ∷ keys) (value ∷ values) ++ more) key) ≡ Some value
first_read reading number key value keys values more is proper =
    ap (λ parts. option_and_then (value_in reading) (find_in reading (Some number) parts key)) (first_part reading number key value keys values more is)
    ∙ ap (option_and_then (value_in reading))
    (found_here reading (Some number) (node_part reading.tables key (Some value) [] is.node) (key_parts reading.tables keys values ++ more)
    (child_of reading number key value is) (key_named reading number key value is proper))
    ∙ printed_value_is_read reading key is.node value ∙ is.read

other_passed : (reading : Reading) (number first : ℕ) (value : List ℕ) (keys : List ℕ) (values : List (List ℕ)) (more : List Part) (is : IsKeyReadBack reading number first value) →
    IsProperSchema reading.tables → (key : ℕ) → first ≢ key →
    find_in reading (Some number) (key_parts reading.tables (first ∷ keys) (value ∷ values) ++ more) key
    ≡ find_in reading (Some number) (key_parts reading.tables keys values ++ more) key
other_passed reading number first value keys values more is proper key apart =
    let child : Named = child_of reading number first value is in
    let rest : List Part = key_parts reading.tables keys values ++ more in
    ap (λ parts. find_in reading (Some number) parts key) (first_part reading number first value keys values more is)
    ∙ ap (λ o. find (λ one. one.number == key) (cons_option o (filter_map (named_part reading (Some number)) rest))) (key_named reading number first value is proper)
    ∙ ap (λ b. cond b (Some child) (find_in reading (Some number) rest key)) (differs first key apart)

-- each key among them is found with its value
abbrev AreKeys : Reading → ℕ → List ℕ → List (List ℕ) → Type 0
AreKeys reading number keys values =
    (place key : ℕ) (value : List ℕ) → slice_get keys place ≡ Some key → slice_get values place ≡ Some value → IsKeyReadBack reading number key value

key_found : (reading : Reading) (number : ℕ) (keys : List ℕ) (values : List (List ℕ)) (more : List Part) → IsProperSchema reading.tables →
    AllPairs (λ key later. key ≢ later) keys → AreKeys reading number keys values →
    (place key : ℕ) (value : List ℕ) → slice_get keys place ≡ Some key → slice_get values place ≡ Some value →
    option_and_then (value_in reading) (find_in reading (Some number) (key_parts reading.tables keys values ++ more) key) ≡ Some value
key_found reading number [] values more proper apart each place key value at there = absurd (none-some key at)
key_found reading number (first ∷ keys) [] more proper apart each place key value at there = absurd (none-some value there)
key_found reading number (first ∷ keys) (one ∷ values) more proper apart each zero key value at there =
    let same : first ≡ key = cc in
    let is : IsKeyReadBack reading number first one = each 0 first one refl refl in
    ap (λ k. option_and_then (value_in reading) (find_in reading (Some number) (key_parts reading.tables (first ∷ keys) (one ∷ values) ++ more) k)) (sym same)
    ∙ first_read reading number first one keys values more is proper ∙ there
key_found reading number (first ∷ keys) (one ∷ values) more proper apart each (suc place) key value at there =
    let within : place < length keys = slice_get_within keys place key at in
    let differ : first ≢ key = subst (λ (k : ℕ). first ≢ k) (get_or_from_slice_get keys place key key at) (apart 0 (suc place) key (omega arith) (omega (arith, within))) in
    ap (option_and_then (value_in reading)) (other_passed reading number first one keys values more (each 0 first one refl refl) proper key differ)
    ∙ key_found reading number keys values more proper (λ i j d less inside. apart (suc i) (suc j) d (omega (arith, less)) (omega (arith, inside)))
    (λ i k v k_at v_at. each (suc i) k v k_at v_at) place key value at there

-- so the values of all are read
all_read : (reading : Reading) (it : Named) (keys : List ℕ) (values : List (List ℕ)) → length values ≡ length keys →
    ((place key : ℕ) (value : List ℕ) → slice_get keys place ≡ Some key → slice_get values place ≡ Some value →
    option_and_then (value_in reading) (first_child reading it key) ≡ Some value) →
    key_values reading it keys ≡ Some values
all_read reading it [] [] same each = refl
all_read reading it [] (value ∷ values) same each = absurd (omega (arith, same))
all_read reading it (key ∷ keys) [] same each = absurd (omega (arith, same))
all_read reading it (key ∷ keys) (value ∷ values) same each =
    ap (λ first. with_key first (key_values reading it keys)) (each 0 key value refl refl)
    ∙ ap (with_key (Some value)) (all_read reading it keys values (omega (arith, same)) (λ place k v k_at v_at. each (suc place) k v k_at v_at))

pub printed_keys_are_read : PrintedKeysAreRead
printed_keys_are_read reading it values more proper apart same each parts =
    all_read reading it it.node.keys values same (λ place key value at there.
    ap (λ ps. option_and_then (value_in reading) (find_in reading (Some it.number) ps key)) parts
    ∙ key_found reading it.number it.node.keys values more proper apart each place key value at there)
