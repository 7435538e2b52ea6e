-- The fault of a text is its first.
use Rattle.std.proofs.Common.{◌≡◌, ℕ, zero, suc, Bool, true, false, List, [], ◌∷◌, ◌++◌, Option, Some, None, Result, Ok, Err, refl, sym, ap, ◌∙◌}
use Rattle.nc_yang_words.specs.Places.{after, start}
use Rattle.nc_yang_words.specs.Pieces.{piece, is_last}
use Rattle.nc_yang_words.specs.Tokens.{tokens}
use Rattle.nc_yang_words.specs.inner.Grammar.{Expect, Begins, Argues, Joins, Quotes, Ends, Done, Over, State, state, begun, closed, ended, with_child, at_begin, at_argument, at_join, at_quote, at_end, at_done, at_token, root_of, reads, reading}
use Rattle.nc_yang_words.specs.Tokens.{tokens_of}
use Rattle.nc_yang_words.specs.declared.begun.Begun.{Begun}
use Rattle.nc_yang_words.specs.declared.place.Place.{Place}
use Rattle.nc_yang_words.specs.declared.piece.Piece.{Piece}
use Rattle.nc_yang_words.specs.declared.piece.Piece.TheVariants.{Gap, Whole, Torn as NothingWhole}
use Rattle.nc_yang_words.specs.declared.statement.Statement.{Statement}
use Rattle.nc_yang_words.specs.declared.token.Token.{Token}
use Rattle.nc_yang_words.specs.declared.token.Kind.{Kind}
use Rattle.nc_yang_words.specs.declared.token.Kind.TheVariants.{Word, Quoted, Semicolon, Close, End, Torn}

-- the last of the tokens is one that none follows
abbrev pub IsEnded : List Token → Type 0
IsEnded [] = ⊥
IsEnded (t ∷ []) = is_last t.kind ≡ true
IsEnded (t ∷ u ∷ ts) = IsEnded (u ∷ ts)

ended_more : (t : Token) (ts : List Token) → IsEnded ts → IsEnded (t ∷ ts)
ended_more t [] h = absurd h
ended_more t (u ∷ ts) h = h

by_piece : (it : Piece) (apart : Bool) (p q : Place) (cs : List ℕ)
    → ((n : ℕ) (a : Bool) → IsEnded (tokens n a q cs))
    → IsEnded (elim it [
      | Gap more ↦ tokens more true q cs
      | Whole kind more ↦ (record { line = p.line; apart = apart; kind = kind }) ∷ tokens more false q cs
      | NothingWhole ↦ (record { line = p.line; apart = apart; kind = Torn }) ∷ []
    ])
by_piece (Gap more) apart p q cs ih = ih more true
by_piece (Whole kind more) apart p q cs ih = ended_more (record { line = p.line; apart = apart; kind = kind }) (tokens more false q cs) (ih more false)
by_piece NothingWhole apart p q cs ih = refl

-- the tokens of a text are ended
pub tokens_ended : (skip : ℕ) (apart : Bool) (p : Place) (cs : List ℕ) → IsEnded (tokens skip apart p cs)
tokens_ended zero apart p [] = refl
tokens_ended (suc skip) apart p [] = refl
tokens_ended (suc skip) apart p (c ∷ cs) = tokens_ended skip apart (after p c) cs
tokens_ended zero apart p (c ∷ cs) = by_piece (piece (after p c).column c cs) apart p (after p c) cs (λ n a. tokens_ended n a (after p c) cs)

-- a `}` for each statement, and the end
abbrev closes : List Begun → List Token
closes [] = (record { line = 1; apart = true; kind = End }) ∷ []
closes (b ∷ above) = (record { line = 1; apart = true; kind = Close }) ∷ closes above

-- the tokens lead from there to a root
abbrev pub Completes : State → List Token → Type 0
Completes s ts = (root : Statement) × (reads s ts ≡ Ok root)

-- behind a statement's end
completes_ended : (b : Begun) (above : List Begun) → Completes (ended b above) (closes above)
completes_ended b [] = (closed b, refl)
completes_ended b (parent ∷ above) = completes_ended (with_child parent (closed b)) above

-- wherever a text stands, tokens can complete it
abbrev semicolon : Token
semicolon = record { line = 1; apart = true; kind = Semicolon }

completes : (e : Expect) (above : List Begun) → (ts : List Token) × Completes (state e above) ts
completes Begins [] = ((record { line = 1; apart = true; kind = Word (97 ∷ []) }) ∷ semicolon ∷ closes [], completes_ended (begun (97 ∷ []) None 1) [])
completes Begins (b ∷ above) = (closes (b ∷ above), completes_ended b above)
completes (Argues keyword line) above = (semicolon ∷ closes above, completes_ended (begun keyword None line) above)
completes (Joins keyword text line) above = (semicolon ∷ closes above, completes_ended (begun keyword (Some text) line) above)
completes (Quotes keyword text line) above = ((record { line = 1; apart = true; kind = Quoted [] }) ∷ semicolon ∷ closes above, completes_ended (begun keyword (Some (text ++ [])) line) above)
completes (Ends keyword text line) above = (semicolon ∷ closes above, completes_ended (begun keyword (Some text) line) above)
completes (Done root) above = (closes [], (root, refl))
completes (Over root) above = ([], (root, refl))

-- a token that none follows leads nowhere but from the root's end
begin_last : (above : List Begun) (line : ℕ) (k : Kind) (next : State) → is_last k ≡ true → at_begin above line k ≡ Some next → ⊥
begin_last above line End next h e = cc
begin_last above line Torn next h e = cc
begin_last above line _ next h e = cc

argument_last : (keyword : List ℕ) (line : ℕ) (above : List Begun) (apart : Bool) (k : Kind) (next : State) → is_last k ≡ true → at_argument keyword line above apart k ≡ Some next → ⊥
argument_last keyword line above apart End next h e = cc
argument_last keyword line above apart Torn next h e = cc
argument_last keyword line above apart _ next h e = cc

join_last : (keyword text : List ℕ) (line : ℕ) (above : List Begun) (k : Kind) (next : State) → is_last k ≡ true → at_join keyword text line above k ≡ Some next → ⊥
join_last keyword text line above End next h e = cc
join_last keyword text line above Torn next h e = cc
join_last keyword text line above _ next h e = cc

quote_last : (keyword text : List ℕ) (line : ℕ) (above : List Begun) (k : Kind) (next : State) → is_last k ≡ true → at_quote keyword text line above k ≡ Some next → ⊥
quote_last keyword text line above End next h e = cc
quote_last keyword text line above Torn next h e = cc
quote_last keyword text line above _ next h e = cc

end_last : (b : Begun) (above : List Begun) (k : Kind) (next : State) → is_last k ≡ true → at_end b above k ≡ Some next → ⊥
end_last b above End next h e = cc
end_last b above Torn next h e = cc
end_last b above _ next h e = cc

done_last : (root : Statement) (k : Kind) (next : State) (line : ℕ) → is_last k ≡ true → at_done root k ≡ Some next → root_of next.expect ≡ Err line → ⊥
done_last root End next line h e f = let g : next ≡ state (Over root) [] = cc in cc
done_last root Torn next line h e f = cc
done_last root _ next line h e f = cc

last_leads_nowhere : (e : Expect) (above : List Begun) (t : Token) (next : State) (line : ℕ) → is_last t.kind ≡ true → at_token e above t ≡ Some next → root_of next.expect ≡ Err line → ⊥
last_leads_nowhere Begins above t next line h e f = begin_last above t.line t.kind next h e
last_leads_nowhere (Argues keyword l) above t next line h e f = argument_last keyword l above t.apart t.kind next h e
last_leads_nowhere (Joins keyword text l) above t next line h e f = join_last keyword text l above t.kind next h e
last_leads_nowhere (Quotes keyword text l) above t next line h e f = quote_last keyword text l above t.kind next h e
last_leads_nowhere (Ends keyword text l) above t next line h e f = end_last (begun keyword (Some text) l) above t.kind next h e
last_leads_nowhere (Done root) above t next line h e f = done_last root t.kind next line h e f
last_leads_nowhere (Over root) above t next line h e f = cc

-- the first fault from a place on
pub record FaultFrom (s : State) (ts : List Token) (line : ℕ) : Type 0 where
  pub before : List Token
  pub token : Token
  pub rest : List Token
  pub whole : ts ≡ before ++ token ∷ rest
  pub line_is : line ≡ token.line
  pub more : List Token
  pub possible : Completes s (before ++ more)
  pub impossible : (others : List Token) → Completes s (before ++ token ∷ others) → ⊥

-- what reading goes on with
unfoldable pub follow : Option State → ℕ → List Token → Result Statement ℕ
follow None line ts = Err line
follow (Some next) line ts = reads next ts

follow_is : (o : Option State) (line : ℕ) (ts : List Token) → elim o [ None ↦ Err line | Some next ↦ reads next ts ] ≡ follow o line ts
unfolding follow
follow_is None line ts = refl
follow_is (Some next) line ts = refl

pub reads_follow : (s : State) (t : Token) (ts : List Token) → reads s (t ∷ ts) ≡ follow (at_token s.expect s.above t) t.line ts
reads_follow s t ts = follow_is (at_token s.expect s.above t) t.line ts

-- reading goes on behind a token
pub goes : (s next : State) (t : Token) (ts : List Token) → at_token s.expect s.above t ≡ Some next → reads s (t ∷ ts) ≡ reads next ts
unfolding follow
goes s next t ts e = reads_follow s t ts ∙ ap (λ o. follow o t.line ts) e

fault_here : (s : State) (t : Token) (ts : List Token) (line : ℕ) → at_token s.expect s.above t ≡ None → reads s (t ∷ ts) ≡ Err line → FaultFrom s (t ∷ ts) line
unfolding follow
fault_here s t ts line e h =
    let c = completes s.expect s.above in
    let stops = λ (us : List Token). reads_follow s t us ∙ ap (λ o. follow o t.line us) e in
    record {
      before = [];
      token = t;
      rest = ts;
      whole = refl;
      line_is = (let a : Err line ≡ Err t.line = sym h ∙ stops ts in cc);
      more = c.0;
      possible = c.1;
      impossible = λ others w. (let a : Ok w.0 ≡ Err t.line = sym w.1 ∙ stops others in cc);
    }

fault_later : (s next : State) (t : Token) (ts : List Token) (line : ℕ) → at_token s.expect s.above t ≡ Some next → FaultFrom next ts line → FaultFrom s (t ∷ ts) line
unfolding follow
fault_later s next t ts line e f =
    let goes = λ (us : List Token). reads_follow s t us ∙ ap (λ o. follow o t.line us) e in
    record {
      before = t ∷ f.before;
      token = f.token;
      rest = f.rest;
      whole = ap (λ us. t ∷ us) f.whole;
      line_is = f.line_is;
      more = f.more;
      possible = (f.possible.0, goes (f.before ++ f.more) ∙ f.possible.1);
      impossible = λ others w. f.impossible others (w.0, sym (goes (f.before ++ f.token ∷ others)) ∙ w.1);
    }

at_first : (o : Option State) (s : State) (t : Token) (ts : List Token) (line : ℕ) → at_token s.expect s.above t ≡ o
    → IsEnded (t ∷ ts) → reads s (t ∷ ts) ≡ Err line
    → ((next : State) → IsEnded ts → reads next ts ≡ Err line → FaultFrom next ts line)
    → FaultFrom s (t ∷ ts) line
unfolding follow
at_first None s t ts line e ended h later = fault_here s t ts line e h
at_first (Some next) s t [] line e ended h later =
    absurd (last_leads_nowhere s.expect s.above t next line ended e (sym (reads_follow s t [] ∙ ap (λ o. follow o t.line []) e) ∙ h))
at_first (Some next) s t (u ∷ us) line e ended h later =
    fault_later s next t (u ∷ us) line e (later next ended (sym (reads_follow s t (u ∷ us) ∙ ap (λ o. follow o t.line (u ∷ us)) e) ∙ h))

faults_from : (s : State) (ts : List Token) (line : ℕ) → IsEnded ts → reads s ts ≡ Err line → FaultFrom s ts line
faults_from s [] line ended h = absurd ended
faults_from s (t ∷ ts) line ended h =
    at_first (at_token s.expect s.above t) s t ts line refl ended h (λ next e r. faults_from next ts line e r)

pub first_fault : (cs : List ℕ) (line : ℕ) → reading cs ≡ Err line → FaultFrom (state Begins []) (tokens_of cs) line
first_fault cs line h = faults_from (state Begins []) (tokens_of cs) line (tokens_ended 0 false start cs) h
