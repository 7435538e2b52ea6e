-- A text is its parts, one after another.
use Rattle.std.proofs.Common.{◌≡◌, ℕ, zero, suc, ◌-◌, ◌≤◌, Bool, true, false, List, [], ◌∷◌, ◌++◌, length, take, drop, Some, None, inl, inr, refl, ap, sym, subst, ◌∙◌, arith, append_assoc}
use Rattle.std.proofs.lemmas.List.{take-append-drop, length-drop}
use Rattle.nc_yang_words.specs.Places.{after, passed, start}
use Rattle.nc_yang_words.specs.Pieces.{piece}
use Rattle.nc_yang_words.specs.Tokens.{tokens}
use Rattle.nc_yang_words.specs.Parts.{Part, all_chars, IsInParts, TextIsInParts}
use Rattle.nc_yang_words.specs.declared.place.Place.{Place}
use Rattle.nc_yang_words.specs.declared.piece.Piece.{Piece}
use Rattle.nc_yang_words.specs.declared.piece.Piece.TheVariants.{Gap, Whole, Torn as NothingWhole}
use Rattle.nc_yang_words.specs.declared.token.Token.{Token}
use Rattle.nc_yang_words.specs.declared.token.Kind.TheVariants.{End, Torn}
use Rattle.nc_yang_words.proofs.Tokens.{skipped}
use Rattle.nc_yang_words.proofs.Forms.{HasItsForm, piece_form}

-- a part before others
whole_with : (c n : ℕ) (cs : List ℕ) (parts : List Part) (rest : List ℕ) → drop n cs ≡ all_chars parts ++ rest
    → c ∷ cs ≡ ((c ∷ take n cs) ++ all_chars parts) ++ rest
whole_with c n cs parts rest h =
    ap (λ xs. c ∷ xs) (sym (take-append-drop n cs) ∙ ap (λ xs. take n cs ++ xs) h)
    ∙ sym (append_assoc (c ∷ take n cs) (all_chars parts) rest)

by_piece : (it : Piece) (apart : Bool) (p : Place) (c : ℕ) (cs : List ℕ) → piece (after p c).column c cs ≡ it
    → ((n : ℕ) (a : Bool) (q : Place) → IsInParts a q (drop n cs))
    → IsInParts apart p (c ∷ cs)
by_piece (Gap n) apart p c cs e later =
    let next = passed p (c ∷ take n cs) in
    let r = later n true next in
    record {
      parts = (record { chars = c ∷ take n cs; kind = None }) ∷ r.parts;
      rest = r.rest;
      last = r.last;
      whole = whole_with c n cs r.parts r.rest r.whole;
      ends = r.ends;
      forms = (subst (λ it. HasItsForm c cs it) e (piece_form (after p c).column c cs), r.forms);
      tokens_are = rw (e, tokens) (skipped n true (after p c) cs ∙ r.tokens_are);
    }
by_piece (Whole kind n) apart p c cs e later =
    let next = passed p (c ∷ take n cs) in
    let r = later n false next in
    let first : Token = record { line = p.line; apart = apart; kind = kind } in
    record {
      parts = (record { chars = c ∷ take n cs; kind = Some kind }) ∷ r.parts;
      rest = r.rest;
      last = r.last;
      whole = whole_with c n cs r.parts r.rest r.whole;
      ends = r.ends;
      forms = (subst (λ it. HasItsForm c cs it) e (piece_form (after p c).column c cs), r.forms);
      tokens_are = rw (e, tokens) (ap (λ ts. first ∷ ts) (skipped n false (after p c) cs ∙ r.tokens_are));
    }
by_piece NothingWhole apart p c cs e later =
    record {
      parts = [];
      rest = c ∷ cs;
      last = Torn;
      whole = refl;
      ends = inr (refl, (c, (cs, refl)));
      forms = tt;
      tokens_are = rw (e, tokens) refl;
    }

no_more : (apart : Bool) (p : Place) → IsInParts apart p []
no_more apart p =
    record { parts = []; rest = []; last = End; whole = refl; ends = inl (refl, refl); forms = tt; tokens_are = refl }

in_parts : (m : ℕ) (apart : Bool) (p : Place) (cs : List ℕ) → length cs ≤ m → IsInParts apart p cs
in_parts m apart p [] h = no_more apart p
in_parts zero apart p (c ∷ cs) h = absurd (omega arith)
in_parts (suc m) apart p (c ∷ cs) h =
    by_piece (piece (after p c).column c cs) apart p c cs refl
    (λ n a q. in_parts m a q (drop n cs) (let e : length (drop n cs) ≡ length cs - n = length-drop n cs in omega arith))

pub the_text_is_in_parts : TextIsInParts
the_text_is_in_parts text = in_parts (length text) false start text (omega arith)
