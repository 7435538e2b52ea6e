-- Features at the top of a text, and lines one after another.
use Rattle.std.proofs.Common.{◌≡◌, ◌≢◌, ◌<◌, ◌+◌, ◌∷◌, [], ◌||◌, ℕ, zero, suc, Bool, true, false, cond, List, length, take, refl, sym, ap, ◌∙◌, arith}
use Rattle.std.specs.Prelude.{Option, Some, None, slice_get, option_map, option_and_then, IsSome, IfSome, is_some, get_or}
use Rattle.std.proofs.Common.{Bor}
use Rattle.std.specs.List.{list_any}
use Rattle.std.specs.Option.{option_map_or}
use Rattle.std.proofs.lemmas.List.Folds.{list_any_more}
use Rattle.nc_yang_words.specs.declared.statement.Statement.{Statement}
use Rattle.nc_names.specs.Same.{is_same_text}
use Rattle.nc_yang_statements.specs.declared.keyword.Keyword.TheVariants.{Feature, Prefix}
use Rattle.nc_yang_statements.specs.Statements.{below, name, part}
use Rattle.nc_yang_scopes.specs.Scopes.{Located, SplitsReference, child, found, found_in, has_colon, has_prefix, import_of, inside, local_of, prefix_of, resolved, root, text_of, text_of_prefix, top}
use Rattle.nc_yang.specs.Features.{at_top, is_given, names_it}

-- ---- the first statement in a module
abbrev rooted : ℕ → Statement → Located
rooted text s = record { statement = s; place = record { text = text; blocks = [] } }

first_of : (l : Located) → below l.statement ≢ [] → IsSome (child 0 l)
first_of l some = by (below l.statement) some
  where
    by : (ss : List Statement) → ss ≢ [] → IsSome {T = Located} (option_map (λ s. record { statement = s; place = inside l }) (slice_get ss 0))
    by [] some = absurd (some refl)
    by (s ∷ ss) some = refl

-- a module that is not empty has one
pub first_there : (at : Option Located) (s : Statement) → Some s ≡ option_map (λ l. l.statement) at → below s ≢ []
    → IsSome (option_and_then (child 0) at)
first_there None s is some = absurd (cc)
first_there (Some l) s is some = let same : s ≡ l.statement = cc in first_of l (λ none. some (ap below same ∙ none))

-- there a reference means what it means directly in the module
pub means_top : (texts : List Statement) (text : ℕ) (reference : List ℕ) → IsSome (option_and_then (child 0) (root texts text))
    → option_and_then (λ (l : Located). resolved texts Feature reference l.place) (option_and_then (child 0) (root texts text))
    ≡ resolved texts Feature reference (at_top texts text)
means_top texts text reference there = by (slice_get texts text) there
  where
    within : (s : Statement) (ss : List Statement) → IsSome {T = Located} (option_map (λ t. record { statement = t; place = inside (rooted text s) }) (slice_get ss 0))
        → option_and_then (λ (l : Located). resolved texts Feature reference l.place) (option_map (λ t. record { statement = t; place = inside (rooted text s) }) (slice_get ss 0))
        ≡ resolved texts Feature reference (record { text = text; blocks = below s ∷ [] })
    within s [] there = absurd (cc)
    within s (t ∷ ss) there = refl

    by : (at : Option Statement) → IsSome (option_and_then (child 0) (option_map (rooted text) at))
        → option_and_then (λ (l : Located). resolved texts Feature reference l.place) (option_and_then (child 0) (option_map (rooted text) at))
        ≡ resolved texts Feature reference (record { text = text; blocks = option_map_or below at [] ∷ [] })
    by None there = absurd (cc)
    by (Some s) there = within s (below s) there

-- in a module without statements it means nothing
pub means_nothing : (texts : List Statement) (text : ℕ) (reference : List ℕ) → top texts text ≡ []
    → None ≡ resolved texts Feature reference (at_top texts text)
means_nothing texts text reference empty = by (has_colon reference)
  where
    prefix : List ℕ
    prefix = prefix_of reference

    own : (at : Option Statement) → option_map_or below at [] ≡ [] → option_map_or (has_prefix prefix) at false ≡ false
    own None none = refl
    own (Some s) none = ap (λ ss. option_map_or (λ p. is_same_text (name p) prefix) (part Prefix ss) false) none

    unknown : text_of_prefix texts text prefix ≡ None
    unknown =
        ap (λ b. cond b (Some text) (option_and_then (λ i. text_of texts (name i)) (import_of prefix (top texts text)))) (own (slice_get texts text) empty)
        ∙ ap (λ ss. option_and_then (λ i. text_of texts (name i)) (import_of prefix ss)) empty

    near : found Feature reference text (top texts text ∷ []) ≡ None
    near = ap (λ ss. found Feature reference text (ss ∷ [])) empty

    by : (b : Bool) → None ≡ cond b (option_and_then (found_in texts Feature (local_of reference) (at_top texts text)) (text_of_prefix texts text prefix)) (found Feature reference text (top texts text ∷ []))
    by true = sym (ap (option_and_then (found_in texts Feature (local_of reference) (at_top texts text))) unknown)
    by false = sym near

-- the statements of a text by its root
pub top_of : (texts : List Statement) (text : ℕ) (l : Option Located) → l ≡ root texts text → top texts text ≡ option_map_or (λ (r : Located). below r.statement) l []
top_of texts text l is = by (slice_get texts text) l is
  where
    by : (at : Option Statement) (l : Option Located) → l ≡ option_map (rooted text) at → option_map_or below at [] ≡ option_map_or (λ (r : Located). below r.statement) l []
    by None None is = refl
    by None (Some r) is = absurd (cc)
    by (Some s) None is = absurd (cc)
    by (Some s) (Some r) is = let same : r ≡ rooted text s = cc in sym (ap (λ (r : Located). below r.statement) same)

pub none_below : (l : Option Located) → None ≡ option_map (λ (r : Located). r.statement) l → option_map_or (λ (r : Located). below r.statement) l [] ≡ []
none_below None none = refl
none_below (Some r) none = absurd (cc)

-- a number that is that of a statement says that there is one
pub some_there : (located : List Located) (number : Option ℕ) (at : Option Located)
    → IfSome number (λ n. n < length located) → option_and_then (slice_get located) number ≡ at → is_some number ≡ is_some at
some_there located None at within is = ap is_some is
some_there located (Some n) at within is = sym (there located n within) ∙ ap is_some is
  where
    there : (ls : List Located) (n : ℕ) → n < length ls → is_some (slice_get ls n) ≡ true
    there [] n less = absurd (omega (arith, less))
    there (l ∷ ls) zero less = refl
    there (l ∷ ls) (suc n) less = there ls n (omega (arith, less))

-- ---- one line more
or_swap : (a b : Bool) → (a || b) ≡ (b || a)
or_swap true true = refl
or_swap true false = refl
or_swap false true = refl
or_swap false false = refl

pub given_more : (texts : List Statement) (lines : List (List ℕ)) (i : ℕ) (d : List ℕ) (text : ℕ) (feature : List ℕ) → i < length lines
    → is_given texts (take (i + 1) lines) text feature ≡ (names_it texts text feature (get_or lines i d) || is_given texts (take i lines) text feature)
given_more texts lines i d text feature less =
    list_any_more (names_it texts text feature) lines i d less
    ∙ or_swap (list_any (names_it texts text feature) (take i lines)) (names_it texts text feature (get_or lines i d))

-- what is not split has no colon
pub no_colon : (word : List ℕ) (split : Option (Bor (List ℕ) × Bor (List ℕ))) → SplitsReference word split → is_some split ≡ false
    → has_colon word ≡ false
no_colon word None is none = is
no_colon word (Some x) is none = absurd (cc)
