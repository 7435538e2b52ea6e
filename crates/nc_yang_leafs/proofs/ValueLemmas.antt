-- The text of a default read.
use Rattle.std.proofs.Common.{◌≡◌, ◌≢◌, ◌&&◌, ◌==◌, cond, ℕ, Bool, true, false, List, [], ◌∷◌, drop, refl, sym, ap, ◌∙◌}
use Rattle.std.specs.Prelude.{Option, Some, None, Result, Ok, Err, IfOk, option_map, slice_get}
use Rattle.std.specs.Str.Parse.{without_leading_plus, without_leading_sign}
use Rattle.std.proofs.lemmas.Bool.{eqb-true}
use Rattle.nc_names.specs.declared.memory.Memory.{Memory}
use Rattle.nc_schema.specs.Tables.{Tables}
use Rattle.nc_schema.specs.Values.{canonical}
use Rattle.nc_yang_words.specs.declared.statement.Statement.{Statement}
use Rattle.nc_yang_statements.specs.Statements.{name}
use Rattle.nc_yang_scopes.specs.Prefixes.{prefixes_in}
use Rattle.nc_yang_scopes.specs.Scopes.{Located, Scoping}
use Rattle.nc_yang_scopes.specs.Numbers.{OnNumber}
use Rattle.nc_yang_leafs.specs.Readings.{has_whole, is_other_base, value_of}

not_same : (a b : ℕ) → a ≢ b → (a == b) ≡ false
not_same a b apart = by (a == b) refl
  where
    by : (t : Bool) → (a == b) ≡ t → t ≡ false
    by true e = absurd (apart (eqb-true a b e))
    by false e = refl

-- a text without a sign is as it is
pub no_sign : (text : List ℕ) → ((rest : List ℕ) → text ≢ 45 ∷ rest) → ((rest : List ℕ) → text ≢ 43 ∷ rest) → text ≡ without_leading_sign text
no_sign [] minus plus = refl
no_sign (c ∷ cs) minus plus =
    let no_minus : (c == 45) ≡ false = not_same c 45 (λ e. minus cs (ap (λ z. z ∷ cs) e)) in
    let no_plus : (c == 43) ≡ false = not_same c 43 (λ e. plus cs (ap (λ z. z ∷ cs) e)) in
    sym (ap (λ t. cond t (drop 1 (c ∷ cs)) (without_leading_plus (c ∷ cs))) no_minus ∙ ap (λ t. drop (cond t 1 0) (c ∷ cs)) no_plus)

module _ (scoping : Scoping) (tables : Tables) (number default : ℕ) (s : Statement) (text : ℕ) (word : List ℕ)
    (is_statement : Some s ≡ option_map (λ (l : Located). l.statement) (slice_get scoping.located default))
    (is_text : Some text ≡ option_map (λ (l : Located). l.place.text) (slice_get scoping.located default))
    (is_word : word ≡ name s) (reads : (has_whole tables number && is_other_base word) ≡ false) where
  value_is : (value : Option (List ℕ)) → value ≡ canonical tables number word (prefixes_in scoping.texts text) → OnNumber scoping default (λ d. value ≡ value_of scoping.texts tables number d)
  value_is value found = λ l here.
      let same : s ≡ l.statement = let e : Some s ≡ Some l.statement = is_statement ∙ ap (option_map (λ (k : Located). k.statement)) here in cc in
      let place : text ≡ l.place.text = let e : Some text ≡ Some l.place.text = is_text ∙ ap (option_map (λ (k : Located). k.place.text)) here in cc in
      let words : word ≡ name l.statement = is_word ∙ ap name same in
      found ∙ ap (λ z. canonical tables number word (prefixes_in scoping.texts z)) place
      ∙ sym (ap (λ z. cond (has_whole tables number && is_other_base z) None (canonical tables number z (prefixes_in scoping.texts l.place.text))) (sym words)
      ∙ ap (λ b. cond b None (canonical tables number word (prefixes_in scoping.texts l.place.text))) reads)

  pub value_read : (P : Type 0) (r : Result (Option (List ℕ)) Memory) → (P → IfOk r (λ it. it ≡ canonical tables number word (prefixes_in scoping.texts text))) →
      IfOk r (λ it. P → OnNumber scoping default (λ d. it ≡ value_of scoping.texts tables number d))
  value_read P (Ok it) h = λ p. value_is it (h p)
  value_read P (Err e) h = tt
