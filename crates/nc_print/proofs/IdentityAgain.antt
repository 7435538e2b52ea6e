-- The names of identities, read under the names of modules.
use Rattle.std.proofs.Common.{◌≡◌, ◌≢◌, ◌&&◌, ◌||◌, ◌==◌, ◌+◌, not, cond, take, drop, ℕ, zero, suc, Bool, true, false, List, [], ◌∷◌, ◌++◌, length, Option, Some, None, refl, sym, ap, subst, ◌∙◌, inl, inr, arith}
use Rattle.std.proofs.lemmas.List.{append_cancel_left}
use Rattle.std.specs.Cmp.Lexicographic.{bytes_decides}
use Rattle.std.specs.List.{All, AllPairs, Contains, after_first, before_first, find, list_all, list_any, position_or_len}
use Rattle.std.proofs.lemmas.Bool.Decides.{nat_tests, Decides-eqb}
use Rattle.nc_names.specs.declared.name.Bound.{Bound}
use Rattle.nc_names.specs.declared.name.Module.{Module}
use Rattle.nc_names.specs.declared.name.QName.{QName}
use Rattle.nc_names.specs.Bindings.{space_of}
use Rattle.nc_names.specs.Ends.{past, trimmed, without_last}
use Rattle.nc_names.specs.Identifiers.{IsIdentifier}
use Rattle.nc_names.specs.Same.{is_same_name, is_same_text}
use Rattle.nc_names.specs.Signs.{colon, is_in_identifier, is_white}
use Rattle.nc_names.proofs.SameLemmas.{name_decide}
use Rattle.nc_schema.specs.Bindings.{module_bounds, module_of}
use Rattle.nc_schema.specs.PathWords.{◌>>=◌}
use Rattle.nc_schema.specs.Proper.{IsIdentityOf, IsProperModule, IsProperSchema}
use Rattle.nc_schema.specs.Tables.{Tables}
use Rattle.nc_schema.specs.Values.{identity_name, identity_text, name_in}
use Rattle.nc_schema.proofs.TextLemmas.{all_in_identifier}
use Rattle.nc_protocol.proofs.AboveLemmas.{some_passes}
use Rattle.nc_protocol.proofs.BoolLemmas.{is_false}
use Rattle.nc_protocol.proofs.ListLemmas.{contains_behind, tails_same}
use Rattle.nc_protocol.proofs.Parts.{all_at}
use Rattle.nc_protocol.specs.ModuleNames.{is_apart}
use Rattle.nc_print.proofs.NamesKnown.{EndsApart, IsPrefix, Knows, before_colon, bounds_of, knows_part}
use Rattle.nc_print.proofs.SimpleAgain.{passed}
use Rattle.nc_print.proofs.TrimAgain.{HasNoWhite, left_true, no_white, right_true}

-- ---- a trimmed text is a part of the text, behind white space
abbrev pub IsPartOfText : List ℕ → List ℕ → Type 0
IsPartOfText text part = (before after : List ℕ) × (text ≡ before ++ (part ++ after)) × EndsApart before

white_apart : (c : ℕ) → is_white c ≡ true → is_apart c ≡ true
white_apart c e = grind (arith, nat_tests)

pub past_front : (text : List ℕ) → (front : List ℕ) × (text ≡ front ++ past is_white text) × EndsApart front
past_front [] = ([], refl, inl refl)
past_front (c ∷ cs) = by (is_white c) refl (past_front cs)
  where
    by : (b : Bool) → is_white c ≡ b → (front : List ℕ) × (cs ≡ front ++ past is_white cs) × EndsApart front → (front : List ℕ) × (c ∷ cs ≡ front ++ cond b (past is_white cs) (c ∷ cs)) × EndsApart front
    by false is rest = ([], refl, inl refl)
    by true is (front, whole, ends) = (c ∷ front, ap (λ more. c ∷ more) whole, go ends)
      where
        go : EndsApart front → EndsApart (c ∷ front)
        go (inl none) = inr ([], c, ap (λ f. c ∷ f) none, white_apart c is)
        go (inr (most, sign, f_is, apart)) = inr (c ∷ most, sign, ap (λ f. c ∷ f) f_is, apart)

last_behind : (p : ℕ → Bool) (text : List ℕ) → (after : List ℕ) × (text ≡ without_last p text ++ after)
last_behind p [] = ([], refl)
last_behind p (c ∷ cs) = by (p c && list_all p cs) (last_behind p cs)
  where
    by : (b : Bool) → (after : List ℕ) × (cs ≡ without_last p cs ++ after) → (after : List ℕ) × (c ∷ cs ≡ cond b [] (c ∷ without_last p cs) ++ after)
    by true rest = (c ∷ cs, refl)
    by false (after, is) = (after, ap (λ more. c ∷ more) is)

pub trimmed_part : (text : List ℕ) → IsPartOfText text (trimmed text)
trimmed_part text =
    let front = past_front text in
    let behind = last_behind is_white (past is_white text) in
    (front.0, behind.0, front.1 ∙ ap (λ more. front.0 ++ more) behind.1, front.2)

pub knows_trimmed : (tables : Tables) (bounds : List Bound) (text : List ℕ) → Knows tables bounds text → Knows tables bounds (trimmed text)
knows_trimmed tables bounds text knows = let part = trimmed_part text in knows_part tables bounds text part.0 (trimmed text) part.1 knows part.2 part.3

-- ---- a text with a colon is what stands before the first, and behind it
colon_cut : (text : List ℕ) → list_any (λ c. c == colon) text ≡ true → text ≡ before_first (λ c. c == colon) text ++ colon ∷ after_first (λ c. c == colon) text
colon_cut [] e = let clash : false ≡ true = e in cc
colon_cut (c ∷ cs) e = by (c == colon) refl e (colon_cut cs)
  where
    at : ℕ
    at = position_or_len (λ c. c == colon) cs

    next : 1 + position_or_len (λ c. c == colon) cs ≡ suc (position_or_len (λ c. c == colon) cs)
    next = omega arith

    further : 1 + position_or_len (λ c. c == colon) cs + 1 ≡ suc (position_or_len (λ c. c == colon) cs + 1)
    further = omega arith

    by : (b : Bool) → (c == colon) ≡ b → (b || list_any (λ c. c == colon) cs) ≡ true → (list_any (λ c. c == colon) cs ≡ true → cs ≡ before_first (λ c. c == colon) cs ++ colon ∷ after_first (λ c. c == colon) cs) →
        c ∷ cs ≡ take (cond (not b) (1 + position_or_len (λ c. c == colon) cs) 0) (c ∷ cs) ++ colon ∷ drop (cond (not b) (1 + position_or_len (λ c. c == colon) cs) 0 + 1) (c ∷ cs)
    by true is f rest = ap (λ x. x ∷ cs) ((Decides-eqb c colon).0 is)
    by false is f rest = ap (λ more. c ∷ more) (rest f) ∙ (λ i. take (sym next i) (c ∷ cs) ++ colon ∷ drop (sym further i) (c ∷ cs))

module _ (tables : Tables) (bounds : List Bound) where
  abbrev names : List Bound
  names = module_bounds tables

  -- a prefix that stands there gives the same space
  pub same_space : (before prefix after text : List ℕ) → Knows tables bounds text → Knows tables names text → text ≡ before ++ (prefix ++ colon ∷ after) → EndsApart before → space_of prefix bounds ≡ space_of prefix names
  same_space before prefix after text knows known text_is ends = by (list_all is_in_identifier prefix) refl
    where
      by : (b : Bool) → list_all is_in_identifier prefix ≡ b → space_of prefix bounds ≡ space_of prefix names
      by true named = knows.known before prefix after text_is ends named
      by false other = knows.other prefix other ∙ sym (known.other prefix other)

  same_name : (text : List ℕ) → Knows tables bounds text → Knows tables names text → identity_name bounds text ≡ identity_name names text
  same_name text knows known = by (list_any (λ c. c == colon) text) refl
    where
      prefix : List ℕ
      prefix = before_first (λ c. c == colon) text

      rest : List ℕ
      rest = after_first (λ c. c == colon) text

      made : Bool → Option (List ℕ) → Option (List ℕ) → Option QName
      made b space default =
          cond b (cond (length (before_first (λ c. c == colon) text) == 0) None (name_in space (after_first (λ c. c == colon) text))) (name_in default text)

      by : (b : Bool) → list_any (λ c. c == colon) text ≡ b → identity_name bounds text ≡ identity_name names text
      by true has = ap (λ space. made (list_any (λ c. c == colon) text) space (space_of [] bounds)) (same_space [] prefix rest text knows known (colon_cut text has) (inl refl))
          ∙ ap (λ default. made (list_any (λ c. c == colon) text) (space_of prefix names) default) (knows.default ∙ sym known.default)
      by false none = (λ i. cond (none i) (cond (length prefix == 0) None (name_in (space_of prefix bounds) rest)) (name_in ((knows.default ∙ sym known.default) i) text))
          ∙ (λ i. cond (sym none i) (cond (length prefix == 0) None (name_in (space_of prefix names) rest)) (name_in (space_of [] names) text))

  pub same_identity : (among : List QName) (text : List ℕ) → Knows tables bounds text → Knows tables names text → identity_text tables among bounds text ≡ identity_text tables among names text
  unfolding identity_text
  same_identity among text knows known = ap (λ o. o >>= (λ name. module_of tables name.space >>= (λ found. cond (list_any (is_same_name name) among) (Some (found.name ++ colon ∷ name.name)) None))) (same_name text knows known)

-- ---- what is found in a list
pub find_is : {X : Type 0} (p : X → Bool) (xs : List X) (x : X) → find p xs ≡ Some x → Contains xs x × (p x ≡ true)
find_is p [] x e = absurd (let none : None ≡ Some x = e in cc)
find_is {X} p (y ∷ xs) x e = by (p y) refl e (find_is p xs x)
  where
    by : (b : Bool) → p y ≡ b → cond b (Some y) (find p xs) ≡ Some x → (find p xs ≡ Some x → Contains xs x × (p x ≡ true)) → Contains (y ∷ xs) x × (p x ≡ true)
    by true is f rest = let same : y ≡ x = cc in ((0, omega arith, same), ap p (sym same) ∙ is)
    by false is f rest = let inner = rest f in (contains_behind y xs x inner.0, inner.1)

-- the name of a module stands for its namespace, as no other module has it
pub module_space : (modules : List Module) (found : Module) → AllPairs (λ one later. (one.name ≢ later.name) × (one.space ≢ later.space)) modules → Contains modules found →
    space_of found.name (bounds_of modules) ≡ Some found.space
module_space [] found apart (k, within, here) = absurd (omega (arith, within))
module_space (m ∷ modules) found apart (zero, within, here) =
    ap (λ t. cond t (Some m.space) (space_of found.name (bounds_of modules))) ((bytes_decides found.name m.name).1 (ap (λ (x : Module). x.name) (sym here))) ∙ ap (λ (x : Module). Some x.space) here
module_space (m ∷ modules) found apart (suc k, within, here) =
    ap (λ t. cond t (Some m.space) (space_of found.name (bounds_of modules))) (is_false (is_same_text found.name m.name) (λ same.
    differ.0 (sym ((bytes_decides found.name m.name).0 same))))
    ∙ module_space modules found (λ i j d less inside. apart (suc i) (suc j) d (omega (arith, less)) (omega (arith, inside))) (k, omega (arith, within), here)
  where
    differ : (m.name ≢ found.name) × (m.space ≢ found.space)
    differ = subst (λ (x : Module). (m.name ≢ x.name) × (m.space ≢ x.space)) here (apart 0 (suc k) found (omega arith) within)

-- so does its namespace stand for it
pub module_back : (modules : List Module) (found : Module) (space : List ℕ) → AllPairs (λ one later. (one.name ≢ later.name) × (one.space ≢ later.space)) modules → Contains modules found → found.space ≡ space →
    find (λ (one : Module). is_same_text one.space space) modules ≡ Some found
module_back [] found space apart (k, within, here) same = absurd (omega (arith, within))
module_back (m ∷ modules) found space apart (zero, within, here) same =
    ap (λ t. cond t (Some m) (find (λ (one : Module). is_same_text one.space space) modules)) ((bytes_decides m.space space).1 (ap (λ (x : Module). x.space) here ∙ same)) ∙ ap Some here
module_back (m ∷ modules) found space apart (suc k, within, here) same =
    ap (λ t. cond t (Some m) (find (λ (one : Module). is_same_text one.space space) modules)) (is_false (is_same_text m.space space) (λ e.
    differ.1 ((bytes_decides m.space space).0 e ∙ sym same)))
    ∙ module_back modules found space (λ i j d less inside. apart (suc i) (suc j) d (omega (arith, less)) (omega (arith, inside))) (k, omega (arith, within), here) same
  where
    differ : (m.name ≢ found.name) × (m.space ≢ found.space)
    differ = subst (λ (x : Module). (m.name ≢ x.name) × (m.space ≢ x.space)) here (apart 0 (suc k) found (omega arith) within)

pub after_colon : (prefix rest : List ℕ) → IsPrefix prefix → after_first (λ c. c == colon) (prefix ++ colon ∷ rest) ≡ rest
after_colon prefix rest named =
    let first = before_colon prefix rest named in
    let cut = colon_cut (prefix ++ colon ∷ rest) first.1 in
    let same : prefix ++ colon ∷ rest ≡ prefix ++ colon ∷ after_first (λ c. c == colon) (prefix ++ colon ∷ rest) = cut ∙ ap (λ p. p ++ colon ∷ after_first (λ c. c == colon) (prefix ++ colon ∷ rest)) first.0 in
    sym (tails_same colon colon rest (after_first (λ c. c == colon) (prefix ++ colon ∷ rest)) (append_cancel_left prefix (colon ∷ rest) (colon ∷ after_first (λ c. c == colon) (prefix ++ colon ∷ rest)) same))

name_black : (c : ℕ) → is_in_identifier c ≡ true → not (is_white c) ≡ true
name_black c e = grind (arith, nat_tests)

pub prefix_black : (name : List ℕ) → IsPrefix name → HasNoWhite name
prefix_black [] e = refl
prefix_black (c ∷ cs) e = (λ i. name_black c (left_true (is_in_identifier c) (list_all is_in_identifier cs) e) i && prefix_black cs (right_true (is_in_identifier c) (list_all is_in_identifier cs) e) i)

pub black_join : (xs ys : List ℕ) → HasNoWhite xs → HasNoWhite ys → HasNoWhite (xs ++ ys)
black_join [] ys e f = f
black_join (x ∷ xs) ys e f = (λ i. left_true (not (is_white x)) (list_all (λ c. not (is_white c)) xs) e i && black_join xs ys (right_true (not (is_white x)) (list_all (λ c. not (is_white c)) xs) e) f i)

pub some_name : (name : List ℕ) → IsIdentifier name → (length name == 0) ≡ false
some_name [] e = let clash : false ≡ true = e in cc
some_name (c ∷ cs) e = some (length cs)
  where
    some : (n : ℕ) → (suc n == 0) ≡ false
    some n = grind (arith, nat_tests)

module _ (tables : Tables) (schema : IsProperSchema tables) (among : List QName) (identities : All (IsIdentityOf tables) among) where
  again : (name : QName) (found : Module) → module_of tables name.space ≡ Some found → list_any (is_same_name name) among ≡ true →
      identity_text tables among (module_bounds tables) (trimmed (found.name ++ colon ∷ name.name)) ≡ Some (found.name ++ colon ∷ name.name)
  unfolding identity_text
  again name found is has =
      ap (identity_text tables among (module_bounds tables)) (no_white (found.name ++ colon ∷ name.name) black)
      ∙ (λ i. cond (first.1 i) (cond (length (first.0 i) == 0) None (name_in (space_of (first.0 i) (module_bounds tables)) (after_colon found.name name.name named i))) (name_in (space_of [] (module_bounds tables)) (found.name ++ colon ∷ name.name)) >>= give)
      ∙ (λ i. cond (some_name found.name module_is.name i) None (name_in (module_space tables.modules found schema.modules.modules_apart there.0 i) name.name) >>= give)
      ∙ ap give (λ i. record { space = same_space_is i; name = name.name })
      ∙ ap (λ o. o >>= show) is
      ∙ ap (λ b. cond b (Some (found.name ++ colon ∷ name.name)) None) has
    where
      show : Module → Option (List ℕ)
      show of = cond (list_any (is_same_name name) among) (Some (of.name ++ colon ∷ name.name)) None

      give : QName → Option (List ℕ)
      give one = module_of tables one.space >>= (λ of. cond (list_any (is_same_name one) among) (Some (of.name ++ colon ∷ one.name)) None)

      there : Contains tables.modules found × (is_same_text found.space name.space ≡ true)
      there = find_is (λ (one : Module). is_same_text one.space name.space) tables.modules found is

      same_space_is : found.space ≡ name.space
      same_space_is = (bytes_decides found.space name.space).0 there.1

      module_is : IsProperModule found
      module_is = all_at IsProperModule tables.modules found schema.modules.modules there.0

      named : IsPrefix found.name
      named = all_in_identifier found.name module_is.name

      first : (before_first (λ c. c == colon) (found.name ++ colon ∷ name.name) ≡ found.name) × (list_any (λ c. c == colon) (found.name ++ colon ∷ name.name) ≡ true)
      first = before_colon found.name name.name named

      identity : IsIdentifier name.name
      identity =
          let one = some_passes (is_same_name name) among has in
          let is_it = all_at (IsIdentityOf tables) among one.0 identities one.1 in
          subst (λ (q : QName). IsIdentifier q.name) (sym ((name_decide name one.0).0 one.2)) is_it.0

      black : HasNoWhite (found.name ++ colon ∷ name.name)
      black = black_join found.name (colon ∷ name.name) (prefix_black found.name named) (prefix_black name.name (all_in_identifier name.name identity))

  pub identity_again : (bounds : List Bound) (given text : List ℕ) → identity_text tables among bounds given ≡ Some text → identity_text tables among (module_bounds tables) (trimmed text) ≡ Some text
  unfolding identity_text
  identity_again bounds given text e = by (identity_name bounds given) e
    where
      by : (o : Option QName) → (o >>= (λ name. module_of tables name.space >>= (λ found. cond (list_any (is_same_name name) among) (Some (found.name ++ colon ∷ name.name)) None))) ≡ Some text →
          identity_text tables among (module_bounds tables) (trimmed text) ≡ Some text
      by None f = absurd (let none : None ≡ Some text = f in cc)
      by (Some name) f = go (module_of tables name.space) refl f
        where
          go : (o : Option Module) → module_of tables name.space ≡ o → (o >>= (λ found. cond (list_any (is_same_name name) among) (Some (found.name ++ colon ∷ name.name)) None)) ≡ Some text →
              identity_text tables among (module_bounds tables) (trimmed text) ≡ Some text
          go None is g = absurd (let none : None ≡ Some text = g in cc)
          go (Some found) is g =
              let both = passed (list_any (is_same_name name) among) (found.name ++ colon ∷ name.name) text g in
              subst (λ (t : List ℕ). identity_text tables among (module_bounds tables) (trimmed t) ≡ Some t) both.1 (again name found is both.0)
