-- How a path text may go on, from each place in it (RFC 7950 9.13, 14).
use Rattle.std.specs.Prelude.{◌≡◌, ◌==◌, ◌⊎◌, ℕ, zero, suc, Bool, true, false, not, List, [], Option, Some, find, filter}
use Rattle.nc_names.specs.declared.name.Bound.{Bound}
use Rattle.nc_names.specs.Ends.{after_white}
use Rattle.nc_names.specs.Signs.{slash, equals, opening_bracket, closing_bracket}
use Rattle.nc_schema.specs.Children.{child_number}
use Rattle.nc_schema.specs.InstancePaths.{is_of_key, key_nodes, qualified}
use Rattle.nc_schema.specs.PathWords.{◌>>=◌, begins_with, predicate_key, quoted_string, sign, written_name}
use Rattle.nc_schema.specs.Tables.{Tables}
use Rattle.nc_schema.specs.declared.written.WrittenName.{WrittenName}

-- by what a text is read; where `all` is set no key may be left out
pub record Reading : Type 0 where
  pub tables : Tables
  pub bounds : List Bound
  pub all : Bool

-- the child of a node, or at the top, that a written name names
abbrev pub child_named : Reading → Option ℕ → WrittenName → Option ℕ
child_named s above written = qualified s.tables s.bounds written >>= child_number s.tables above

-- the first of these keys of an entry of the node that a predicate is of
abbrev pub key_named : Reading → ℕ → List ℕ → Option WrittenName → Option ℕ
key_named s number left written = find (λ key. is_of_key s.tables s.bounds number key written) left

-- the numbers but one
abbrev pub without : ℕ → List ℕ → List ℕ
without one numbers = filter (λ other. not (other == one)) numbers

-- white space, the sign, and what follows it
abbrev pub Signed : ℕ → (List ℕ → Type 0) → List ℕ → Type 0
Signed wanted K text = (after : List ℕ) × (sign wanted (after_white text) ≡ Some after) × K after

-- white space, a value, and the end of the predicate
abbrev pub Valued : (List ℕ → Type 0) → List ℕ → Type 0
Valued K text =
    (found : List ℕ × List ℕ) × (quoted_string (after_white text) ≡ Some found) × Signed closing_bracket K found.1

-- white space, the name of one of the keys, and its value
abbrev pub Keyed : Reading → ℕ → List ℕ → (ℕ → List ℕ → Type 0) → List ℕ → Type 0
Keyed s number left K text =
    (found : Option WrittenName × List ℕ) × (key : ℕ) × (predicate_key (after_white text) ≡ Some found) ×
    (key_named s number left found.0 ≡ Some key) × Signed equals (Valued (K key)) found.1

-- the name of a child
abbrev pub Named : Reading → Option ℕ → (ℕ → List ℕ → Type 0) → List ℕ → Type 0
Named s above K text =
    (found : WrittenName × List ℕ) × (number : ℕ) × (written_name text ≡ Some found) ×
    (child_named s above found.0 ≡ Some number) × K number found.1

-- a place in a path: before a step to a child of that node, or before predicates of these keys of an entry
pub data Spot : Type 0 where
  AtStep : Option ℕ → Spot
  AtKeys : ℕ → List ℕ → Spot

-- a path goes on so up to its end, by at most so many steps and predicates
unfoldable pub Goes : Reading → (most : ℕ) → Spot → List ℕ → Type 0
Goes s zero spot text = ⊥
Goes s (suc most) (AtStep above) text =
    (text ≡ []) ⊎ ((after : List ℕ) × (sign slash text ≡ Some after) ×
    Named s above (λ number rest. Goes s most (AtKeys number (key_nodes s.tables number)) rest) after)
Goes s (suc most) (AtKeys number left) text =
    ((begins_with opening_bracket text ≡ false) × (s.all ≡ true → left ≡ []) ×
    Goes s most (AtStep (Some number)) text) ⊎
    ((inside : List ℕ) × (sign opening_bracket text ≡ Some inside) ×
    Keyed s number left (λ key rest. Goes s most (AtKeys number (without key left)) rest) inside)

-- a path goes on so up to its end
unfoldable pub GoesOn : Reading → Spot → List ℕ → Type 0
GoesOn s spot text = (most : ℕ) × Goes s most spot text

-- so a path goes on before a step to a child of the node, or from the top
abbrev pub Steps : Reading → Option ℕ → List ℕ → Type 0
Steps s above = GoesOn s (AtStep above)

-- so a path goes on where predicates of these keys of an entry may come
abbrev pub Keys : Reading → ℕ → List ℕ → List ℕ → Type 0
Keys s number left = GoesOn s (AtKeys number left)

-- after the sign of a step
abbrev pub StepNames : Reading → Option ℕ → List ℕ → Type 0
StepNames s above = Named s above (λ number. Keys s number (key_nodes s.tables number))

-- after the bracket of a predicate
abbrev pub KeyNames : Reading → ℕ → List ℕ → List ℕ → Type 0
KeyNames s number left = Keyed s number left (λ key. Keys s number (without key left))
