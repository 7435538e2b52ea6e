-- The bindings in force, one after another.
use Rattle.std.proofs.Common.{◌≡◌, ℕ, Bool, true, false, not, ◌||◌, List, [], ◌∷◌, ◌++◌, filter, fold, refl, sym, ap, ◌∙◌, append-nil, append_assoc, if◌then◌else◌}
use Rattle.nc_names.specs.declared.name.Bound.{Bound}
use Rattle.nc_message.specs.Bindings.{Declared, declares, inside}
use Rattle.nc_message.specs.inner.Levels.{in_force, is_replaced, shown}

abbrev kept : (List ℕ → Bool) → List Bound → List Bound
kept gone bounds = filter (λ b. not (gone b.prefix)) bounds

kept-append : (gone : List ℕ → Bool) (xs ys : List Bound) → kept gone (xs ++ ys) ≡ kept gone xs ++ kept gone ys
kept-append gone [] ys = refl
kept-append gone (x ∷ xs) ys = at (not (gone x.prefix)) (kept-append gone xs ys) where
  at : (b : Bool) → kept gone (xs ++ ys) ≡ kept gone xs ++ kept gone ys
      → (if b then x ∷ kept gone (xs ++ ys) else kept gone (xs ++ ys))
      ≡ (if b then x ∷ kept gone xs else kept gone xs) ++ kept gone ys
  at true e = ap (λ l. x ∷ l) e
  at false e = e

kept-kept : (gone more : List ℕ → Bool) (xs : List Bound) → kept more (kept gone xs) ≡ kept (λ p. gone p || more p) xs
kept-kept gone more [] = refl
kept-kept gone more (x ∷ xs) = at (gone x.prefix) (more x.prefix) refl (kept-kept gone more xs) where
  at : (a b : Bool) → more x.prefix ≡ b → kept more (kept gone xs) ≡ kept (λ p. gone p || more p) xs
      → kept more (if not a then x ∷ kept gone xs else kept gone xs)
      ≡ (if not (a || b) then x ∷ kept (λ p. gone p || more p) xs else kept (λ p. gone p || more p) xs)
  at true b d e = e
  at false true d e = ap (λ t. if not t then x ∷ kept more (kept gone xs) else kept more (kept gone xs)) d ∙ e
  at false false d e =
      ap (λ t. if not t then x ∷ kept more (kept gone xs) else kept more (kept gone xs)) d ∙ ap (λ l. x ∷ l) e

kept_all : (gone : List ℕ → Bool) → ((p : List ℕ) → gone p ≡ false) → (xs : List Bound) → kept gone xs ≡ xs
kept_all gone none [] = refl
kept_all gone none (x ∷ xs) =
    ap (λ t. if not t then x ∷ kept gone xs else kept gone xs) (none x.prefix) ∙ ap (λ l. x ∷ l) (kept_all gone none xs)

-- tags further in, below some bindings
below : (outer : List Bound) (tags : List Declared) →
    fold inside outer tags ≡ kept (is_replaced tags) outer ++ shown tags
below outer [] = sym (append-nil (kept (is_replaced []) outer) ∙ kept_all (is_replaced []) (λ p. refl) outer)
below outer (d ∷ more) =
    below (inside outer d) more
    ∙ ap (λ l. l ++ shown more) (kept-append (is_replaced more) (kept (declares d) outer) d.own
    ∙ ap (λ l. l ++ kept (is_replaced more) d.own) (kept-kept (declares d) (is_replaced more) outer))
    ∙ append_assoc (kept (is_replaced (d ∷ more)) outer) (kept (is_replaced more) d.own) (shown more)

-- the bindings of the tags in their order
pub shown_is : (tags : List Declared) → in_force tags ≡ shown tags
shown_is tags = below [] tags
