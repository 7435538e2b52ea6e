-- Texts read up to a place, one piece after another.
use Rattle.std.proofs.Common.{◌≡◌, ℕ, Bool, true, false, cond, eqb, List, [], ◌∷◌, ◌++◌, Some, None, length, refl, sym, ap, subst, ◌∙◌, append_assoc}
use Rattle.std.proofs.lemmas.Bool.Decides.{Decides-eqb}
use Rattle.nc_names.specs.Ends.{after_white, past}
use Rattle.nc_names.specs.Signs.{is_white}
use Rattle.nc_schema.specs.PathWords.{leading, sign}
use Rattle.nc_path_places.specs.inner.Halting.{Leads, Halts, first_sign}
use Rattle.nc_path_places.specs.inner.Going.{Signed}

pub same_first : (front : List ℕ) (x y : List ℕ) → first_sign x ≡ first_sign y → first_sign (front ++ x) ≡ first_sign (front ++ y)
same_first [] x y e = e
same_first (c ∷ front) x y e = refl

-- ---- pieces joined
pub leads_on : (L M N : List ℕ → Type 0) (text mid rest : List ℕ) → Leads L M text mid → Leads M N mid rest → Leads L N text rest
leads_on L M N text mid rest one two = record {
  chunk = one.chunk ++ two.chunk;
  is = one.is ∙ ap (λ x. one.chunk ++ x) two.is ∙ sym (append_assoc one.chunk two.chunk rest);
  into = λ next holds. subst L (sym (append_assoc one.chunk two.chunk next)) (one.into (two.chunk ++ next) (two.into next holds));
  back = λ next e holds. two.back next e (one.back (two.chunk ++ next) (same_first two.chunk next rest e ∙ ap first_sign (sym two.is)) (subst L (append_assoc one.chunk two.chunk next) holds));
}

pub halts_on : (L M : List ℕ → Type 0) (text mid : List ℕ) (left : ℕ) → Leads L M text mid → Halts M mid left → Halts L text left
halts_on L M text mid left one two = record {
  front = one.chunk ++ two.front;
  rest = two.rest;
  is = one.is ∙ ap (λ x. one.chunk ++ x) two.is ∙ sym (append_assoc one.chunk two.front two.rest);
  long = two.long;
  more = two.more;
  before = subst L (sym (append_assoc one.chunk two.front two.more)) (one.into (two.front ++ two.more) two.before);
  there = λ c cs next e holds. two.there c cs next e (one.back (two.front ++ c ∷ next)
      (same_first two.front (c ∷ next) two.rest (ap first_sign (sym e)) ∙ ap first_sign (sym two.is))
      (subst L (append_assoc one.chunk two.front (c ∷ next)) holds));
}

-- at the text itself
pub halts_here : (L : List ℕ → Type 0) (text more : List ℕ) → L more → ((c : ℕ) (cs next : List ℕ) → text ≡ c ∷ cs → L (c ∷ next) → ⊥) → Halts L text (length text)
halts_here L text more holds none = record { front = []; rest = text; is = refl; long = refl; more = more; before = holds; there = none }

-- ---- signs
pub sign_is : (wanted : ℕ) (text rest : List ℕ) → sign wanted text ≡ Some rest → text ≡ wanted ∷ rest
sign_is wanted [] rest e = cc
sign_is wanted (c ∷ cs) rest e = by (eqb c wanted) refl e
  where
    by : (b : Bool) → eqb c wanted ≡ b → cond b (Some cs) None ≡ Some rest → c ∷ cs ≡ wanted ∷ rest
    by true same e = let head : c ≡ wanted = (Decides-eqb c wanted).0 same in let tail : cs ≡ rest = cc in λ i. head i ∷ tail i
    by false same e = cc

pub sign_of : (wanted : ℕ) (rest : List ℕ) → sign wanted (wanted ∷ rest) ≡ Some rest
sign_of wanted rest = rw ((Decides-eqb wanted wanted).1 refl) refl

-- ---- white space
lead_step : (b : Bool) (c : ℕ) (cs front rest : List ℕ) → front ++ rest ≡ cs → cond b (c ∷ front) [] ++ cond b rest (c ∷ cs) ≡ c ∷ cs
lead_step true c cs front rest e = ap (λ x. c ∷ x) e
lead_step false c cs front rest e = refl

pub leading_past : (p : ℕ → Bool) (text : List ℕ) → leading p text ++ past p text ≡ text
leading_past p [] = refl
leading_past p (c ∷ cs) = lead_step (p c) c cs (leading p cs) (past p cs) (leading_past p cs)

past_step : (p : ℕ → Bool) (b : Bool) (c : ℕ) (front next : List ℕ) → p c ≡ b → past p (front ++ next) ≡ past p next → past p (cond b (c ∷ front) [] ++ next) ≡ past p next
past_step p true c front next e f = rw e f
past_step p false c front next e f = refl

pub past_more : (p : ℕ → Bool) (text next : List ℕ) → past p (leading p text ++ next) ≡ past p next
past_more p [] next = refl
past_more p (c ∷ cs) next = past_step p (p c) c (leading p cs) next refl (past_more p cs next)

-- a text that is read up to a sign that fails the test is not read on there
abbrev pub Stops : (ℕ → Bool) → List ℕ → Type 0
Stops p [] = Unit {0}
Stops p (c ∷ cs) = p c ≡ false

pub past_stops : (p : ℕ → Bool) (text : List ℕ) → Stops p (past p text)
past_stops p [] = tt
past_stops p (c ∷ cs) = stops_step (p c) refl (past_stops p cs)
  where
    stops_step : (b : Bool) → p c ≡ b → Stops p (past p cs) → Stops p (cond b (past p cs) (c ∷ cs))
    stops_step true e rest = rest
    stops_step false e rest = e

pub past_none : (p : ℕ → Bool) (text : List ℕ) → Stops p text → past p text ≡ text
past_none p [] stops = refl
past_none p (c ∷ cs) stops = rw stops refl

pub same_stops : (p : ℕ → Bool) (x y : List ℕ) → first_sign x ≡ first_sign y → Stops p y → Stops p x
same_stops p [] y e stops = tt
same_stops p (c ∷ x) [] e stops = cc
same_stops p (c ∷ x) (d ∷ y) e stops = let same : c ≡ d = cc in ap p same ∙ stops

-- all signs pass
pub leading_more : (p : ℕ → Bool) (text next : List ℕ) → Stops p next → leading p (leading p text ++ next) ≡ leading p text
leading_more p [] [] stops = refl
leading_more p [] (c ∷ next) stops = rw stops refl
leading_more p (c ∷ cs) next stops = lead_again (p c) refl (leading_more p cs next stops)
  where
    none : (next : List ℕ) → Stops p next → leading p next ≡ []
    none [] stops = refl
    none (d ∷ next) stops = rw stops refl

    lead_again : (b : Bool) → p c ≡ b → leading p (leading p cs ++ next) ≡ leading p cs → leading p (cond b (c ∷ leading p cs) [] ++ next) ≡ cond b (c ∷ leading p cs) []
    lead_again true e f = rw e (ap (λ x. c ∷ x) f)
    lead_again false e f = none next stops

-- ---- a sign after white space
pub white_first : (text rest : List ℕ) → after_white text ≡ rest → text ≡ leading is_white text ++ rest
white_first text rest e = sym (leading_past is_white text) ∙ ap (λ x. leading is_white text ++ x) e

module _ (wanted : ℕ) (dark : is_white wanted ≡ false) (K : List ℕ → Type 0) where
  signed_reads : (text next : List ℕ) → sign wanted (after_white ((leading is_white text ++ wanted ∷ []) ++ next)) ≡ Some next
  signed_reads text next =
      let joined : (leading is_white text ++ wanted ∷ []) ++ next ≡ leading is_white text ++ wanted ∷ next = append_assoc (leading is_white text) (wanted ∷ []) next in
      let past_it : after_white ((leading is_white text ++ wanted ∷ []) ++ next) ≡ wanted ∷ next = ap (past is_white) joined ∙ past_more is_white text (wanted ∷ next) ∙ past_none is_white (wanted ∷ next) dark in
      ap (sign wanted) past_it ∙ sign_of wanted next

  pub signed_leads : (text rest : List ℕ) → sign wanted (after_white text) ≡ Some rest → Leads (Signed wanted K) K text rest
  signed_leads text rest e = record {
    chunk = leading is_white text ++ wanted ∷ [];
    is = white_first text (wanted ∷ rest) (sign_is wanted (after_white text) rest e) ∙ sym (append_assoc (leading is_white text) (wanted ∷ []) rest);
    into = λ next holds. (next, signed_reads text next, holds);
    back = λ next f holds. let same : next ≡ holds.0 = (let both : Some next ≡ Some holds.0 = sym (signed_reads text next) ∙ holds.1 in cc) in subst K (sym same) holds.2;
  }

  pub signed_halts : (text more : List ℕ) → K more → sign wanted (after_white text) ≡ None → Halts (Signed wanted K) text (length (after_white text))
  signed_halts text more holds e = record {
    front = leading is_white text;
    rest = after_white text;
    is = white_first text (after_white text) refl;
    long = refl;
    more = wanted ∷ more;
    before = (more, ap (sign wanted) (past_more is_white text (wanted ∷ more) ∙ past_none is_white (wanted ∷ more) dark) ∙ sign_of wanted more, holds);
    there = λ c cs next f stands. clash c cs next stands.0 f stands.1;
  }
    where
      clash : (c : ℕ) (cs next after : List ℕ) → after_white text ≡ c ∷ cs → sign wanted (after_white (leading is_white text ++ c ∷ next)) ≡ Some after → ⊥
      clash c cs next after f g =
          let stops : is_white c ≡ false = subst (Stops is_white) f (past_stops is_white text) in
          let reads : after_white (leading is_white text ++ c ∷ next) ≡ c ∷ next = past_more is_white text (c ∷ next) ∙ past_none is_white (c ∷ next) stops in
          let is : c ∷ next ≡ wanted ∷ after = sign_is wanted (c ∷ next) after (sym (ap (sign wanted) reads) ∙ g) in
          let head : c ≡ wanted = cc in
          let found : sign wanted (after_white text) ≡ Some cs = ap (sign wanted) (f ∙ ap (λ x. x ∷ cs) head) ∙ sign_of wanted cs in
          cc
