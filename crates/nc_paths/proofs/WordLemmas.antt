-- Words read one after another.
use Rattle.std.proofs.Common.{◌≡◌, ℕ, Bool, true, false, cond, eqb, List, [], ◌∷◌, Option, Some, None, refl, ap, ◌∙◌}
use Rattle.std.proofs.lemmas.Bool.Decides.{Decides-eqb}
use Rattle.std.proofs.lemmas.Option.{cond_some}
use Rattle.nc_names.specs.Ends.{after_white}
use Rattle.nc_names.specs.Signs.{apostrophe, quote, dot, colon, equals, opening_bracket, closing_bracket}
use Rattle.nc_schema.specs.PathWords.{begins_with, identifier, predicate, predicate_key, quoted_string, sign, up_to, written_name}
use Rattle.nc_schema.specs.declared.written.WrittenName.{WrittenName}

-- a name
pub name_no_prefix : (text : List ℕ) → identifier text ≡ None → written_name text ≡ None
unfolding written_name
name_no_prefix text e = rw e refl

pub name_no_colon : (text rest prefix : List ℕ) → identifier text ≡ Some (prefix, rest) → sign colon rest ≡ None → written_name text ≡ None
unfolding written_name
name_no_colon text rest prefix e f = rw (e, f) refl

pub name_no_name : (text rest after prefix : List ℕ) → identifier text ≡ Some (prefix, rest) → sign colon rest ≡ Some after → identifier after ≡ None → written_name text ≡ None
unfolding written_name
name_no_name text rest after prefix e f g = rw (e, f, g) refl

pub name_whole : (text rest after more prefix name : List ℕ) → identifier text ≡ Some (prefix, rest) → sign colon rest ≡ Some after → identifier after ≡ Some (name, more) → written_name text ≡ Some (record { prefix = prefix; name = name }, more)
unfolding written_name
name_whole text rest after more prefix name e f g = rw (e, f, g) refl

-- ---- signs
pub sign_stands : (byte : ℕ) (text rest : List ℕ) → sign byte text ≡ Some rest → text ≡ byte ∷ rest
sign_stands byte [] rest e = cc
sign_stands byte (c ∷ cs) rest e =
    let parts = cond_some (eqb c byte) cs rest e in
    let same : c ≡ byte = (Decides-eqb c byte).0 parts.0 in
    λ i. same i ∷ parts.1 i

no_sign : (byte : ℕ) (c : ℕ) (cs : List ℕ) → sign byte (c ∷ cs) ≡ None → eqb c byte ≡ false
no_sign byte c cs e = by (eqb c byte) e
  where
    by : (b : Bool) → cond b (Some cs) None ≡ None → b ≡ false
    by true clash = cc
    by false none = refl

-- ---- values
pub apostrophe_whole : (text rest value more : List ℕ) → sign apostrophe text ≡ Some rest → up_to apostrophe rest ≡ Some (value, more) → quoted_string text ≡ Some (value, more)
unfolding quoted_string
apostrophe_whole text rest value more e f = ap quoted_string (sign_stands apostrophe text rest e) ∙ f

pub apostrophe_open : (text rest : List ℕ) → sign apostrophe text ≡ Some rest → up_to apostrophe rest ≡ None → quoted_string text ≡ None
unfolding quoted_string
apostrophe_open text rest e f = ap quoted_string (sign_stands apostrophe text rest e) ∙ f

pub quote_whole : (text rest value more : List ℕ) → sign quote text ≡ Some rest → up_to quote rest ≡ Some (value, more) → quoted_string text ≡ Some (value, more)
unfolding quoted_string
quote_whole text rest value more e f = ap quoted_string (sign_stands quote text rest e) ∙ f

pub quote_open : (text rest : List ℕ) → sign quote text ≡ Some rest → up_to quote rest ≡ None → quoted_string text ≡ None
unfolding quoted_string
quote_open text rest e f = ap quoted_string (sign_stands quote text rest e) ∙ f

pub no_mark : (text : List ℕ) → sign apostrophe text ≡ None → sign quote text ≡ None → quoted_string text ≡ None
unfolding quoted_string
no_mark [] e f = refl
no_mark (c ∷ cs) e f = rw (no_sign apostrophe c cs e, no_sign quote c cs f) refl

-- ---- keys
key_begins : (text rest : List ℕ) → sign dot text ≡ Some rest → begins_with dot text ≡ true
key_begins text rest e = ap (begins_with dot) (sign_stands dot text rest e)

key_other : (text : List ℕ) → sign dot text ≡ None → begins_with dot text ≡ false
key_other [] e = refl
key_other (c ∷ cs) e = no_sign dot c cs e

pub key_dot : (text rest : List ℕ) → sign dot text ≡ Some rest → predicate_key text ≡ Some (None, rest)
unfolding predicate_key
key_dot text rest e = rw (key_begins text rest e, e) refl

pub key_none : (text : List ℕ) → sign dot text ≡ None → written_name text ≡ None → predicate_key text ≡ None
unfolding predicate_key
key_none text e f = rw (key_other text e, f) refl

pub key_name : (text more : List ℕ) (name : WrittenName) → sign dot text ≡ None → written_name text ≡ Some (name, more) → predicate_key text ≡ Some (Some name, more)
unfolding predicate_key
key_name text more name e f = rw (key_other text e, f) refl

-- ---- predicates
pub predicate_not_open : (text : List ℕ) → sign opening_bracket text ≡ None → predicate text ≡ None
unfolding predicate
predicate_not_open text e = rw e refl

pub predicate_no_key : (text a : List ℕ) → sign opening_bracket text ≡ Some a → predicate_key (after_white a) ≡ None → predicate text ≡ None
unfolding predicate
predicate_no_key text a e f = rw (e, f) refl

pub predicate_no_equals : (text a b : List ℕ) (key : Option WrittenName) → sign opening_bracket text ≡ Some a → predicate_key (after_white a) ≡ Some (key, b) → sign equals (after_white b) ≡ None → predicate text ≡ None
unfolding predicate
predicate_no_equals text a b key e f g = rw (e, f, g) refl

pub predicate_no_value : (text a b d : List ℕ) (key : Option WrittenName) → sign opening_bracket text ≡ Some a → predicate_key (after_white a) ≡ Some (key, b) → sign equals (after_white b) ≡ Some d → quoted_string (after_white d) ≡ None → predicate text ≡ None
unfolding predicate
predicate_no_value text a b d key e f g h = rw (e, f, g, h) refl

pub predicate_not_closed : (text a b d more value : List ℕ) (key : Option WrittenName) → sign opening_bracket text ≡ Some a → predicate_key (after_white a) ≡ Some (key, b) → sign equals (after_white b) ≡ Some d → quoted_string (after_white d) ≡ Some (value, more) → sign closing_bracket (after_white more) ≡ None → predicate text ≡ None
unfolding predicate
predicate_not_closed text a b d more value key e f g h i = rw (e, f, g, h, i) refl

pub predicate_whole : (text a b d more value rest : List ℕ) (key : Option WrittenName) → sign opening_bracket text ≡ Some a → predicate_key (after_white a) ≡ Some (key, b) → sign equals (after_white b) ≡ Some d → quoted_string (after_white d) ≡ Some (value, more) → sign closing_bracket (after_white more) ≡ Some rest → predicate text ≡ Some (record { key = key; value = value }, rest)
unfolding predicate
predicate_whole text a b d more value rest key e f g h i = rw (e, f, g, h, i) refl
