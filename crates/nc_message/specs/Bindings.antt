-- The namespace bindings in force (Namespaces in XML 1.0, 3 and 6).
use Rattle.std.specs.Prelude.{ℕ, Bool, true, false, not, ◌||◌, ◌&&◌, List, [], ◌∷◌, ◌++◌, filter}
use Rattle.std.specs.List.{list_any}
use Rattle.nc_names.specs.Same.{is_same_text}
use Rattle.nc_names.specs.declared.name.Bound.{Bound}

-- what one start tag declares: its bindings, and whether `xmlns=""` takes the default namespace away
pub record Declared : Type 0 where
  pub own : List Bound
  pub undeclares : Bool

-- no prefix, or no namespace
abbrev pub is_empty : List ℕ → Bool
is_empty [] = true
is_empty (c ∷ cs) = false

-- whether a start tag says what this prefix is bound to, or that it is not (the empty prefix is the
-- default namespace)
abbrev pub declares : Declared → List ℕ → Bool
declares d prefix = list_any (λ b. is_same_text prefix b.prefix) d.own || (d.undeclares && is_empty prefix)

-- the bindings in force in an element: those outside of it that its start tag does not replace, and
-- then its own (6.1, 6.2)
abbrev pub inside : List Bound → Declared → List Bound
inside outer d = filter (λ b. not (declares d b.prefix)) outer ++ d.own

-- the same prefix bound to the same namespace
abbrev pub is_same_bound : Bound → Bound → Bool
is_same_bound a b = is_same_text a.prefix b.prefix && is_same_text a.space b.space
