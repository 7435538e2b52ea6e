-- A text that spells a tree is read as that tree.
use Rattle.std.proofs.Common.{◌≡◌, ℕ, zero, suc, ◌+◌, ◌<◌, ◌≤◌, Bool, true, List, [], ◌∷◌, ◌++◌, length, Option, Some, None, Ok, ◌⊎◌, inl, inr, refl, sym, ap, subst, ◌∙◌, append_assoc, append-nil, arith, rules, tests}
use Rattle.nc_yang_words.specs.Keywords.{is_keyword}
use Rattle.nc_yang_words.specs.inner.Grammar.{Begins, Argues, Joins, Quotes, Ends, Done, Over, State, state, begun, closed, ended, with_child, at_begin, at_argument, at_join, at_quote, at_end, at_done, at_token, reads}
use Rattle.nc_yang_words.specs.Spelling.{AreJoined, IsQuoted, IsUnquoted, IsArgument, AreEach, IsSemicolon, IsBlock, IsStatement, Spells, TokensSpell}
use Rattle.nc_yang_words.specs.declared.begun.Begun.{Begun}
use Rattle.nc_yang_words.specs.declared.statement.Statement.{Statement}
use Rattle.nc_yang_words.specs.declared.token.Token.{Token}
use Rattle.nc_yang_words.specs.declared.token.Kind.{Kind}
use Rattle.nc_yang_words.specs.declared.token.Kind.TheVariants.{Word, Quoted, Semicolon, Open, Close, End, Torn}
use Rattle.nc_yang_words.proofs.Faults.{goes}

-- behind the end of this statement
abbrev behind : Statement → List Begun → State
behind s [] = state (Done s) []
behind s (parent ∷ above) = state Begins (with_child parent s ∷ above)

behind_is : (b : Begun) (above : List Begun) → ended b above ≡ behind (closed b) above
behind_is b [] = refl
behind_is b (parent ∷ above) = refl

-- a token that ends a statement or opens its block does so behind a keyword and behind a quoted string
argument_ends : (keyword : List ℕ) (line : ℕ) (above : List Begun) (apart : Bool) (k : Kind) (next : State)
    → at_end (begun keyword None line) above k ≡ Some next → at_argument keyword line above apart k ≡ Some next
argument_ends keyword line above apart (Word w) next e = cc
argument_ends keyword line above apart (Quoted q) next e = cc
argument_ends keyword line above apart Semicolon next e = e
argument_ends keyword line above apart Open next e = e
argument_ends keyword line above apart Close next e = e
argument_ends keyword line above apart End next e = e
argument_ends keyword line above apart Torn next e = e

join_ends : (keyword text : List ℕ) (line : ℕ) (above : List Begun) (k : Kind) (next : State)
    → at_end (begun keyword (Some text) line) above k ≡ Some next → at_join keyword text line above k ≡ Some next
join_ends keyword text line above (Word w) next e = cc
join_ends keyword text line above (Quoted q) next e = e
join_ends keyword text line above Semicolon next e = e
join_ends keyword text line above Open next e = e
join_ends keyword text line above Close next e = e
join_ends keyword text line above End next e = e
join_ends keyword text line above Torn next e = e

-- quoted strings that are joined to a text
joined_read : (keyword before text : List ℕ) (line : ℕ) (above : List Begun) (ts : List Token) (t : Token) (more : List Token) (next : State)
    → AreJoined text ts → at_end (begun keyword (Some (before ++ text)) line) above t.kind ≡ Some next
    → reads (state (Joins keyword before line) above) (ts ++ t ∷ more) ≡ reads next more
joined_read keyword before text line above [] t more next h e =
    goes (state (Joins keyword before line) above) next t more
    (join_ends keyword before line above t.kind next
    (subst (λ x. at_end (begun keyword (Some x) line) above t.kind ≡ Some next) (ap (λ x. before ++ x) h ∙ append-nil before) e))
joined_read keyword before text line above (plus ∷ []) t more next h e = absurd h
joined_read keyword before text line above (plus ∷ part ∷ ts) t more next (first, (rest, (text_is, (plus_is, (part_is, joined))))) e =
    goes (state (Joins keyword before line) above) (state (Quotes keyword before line) above) plus (part ∷ (ts ++ t ∷ more))
    (ap (λ k. at_join keyword before line above k) plus_is)
    ∙ (goes (state (Quotes keyword before line) above) (state (Joins keyword (before ++ first) line) above) part (ts ++ t ∷ more)
    (ap (λ k. at_quote keyword before line above k) part_is)
    ∙ joined_read keyword (before ++ first) rest line above ts t more next joined
    (subst (λ x. at_end (begun keyword (Some x) line) above t.kind ≡ Some next) (ap (λ x. before ++ x) text_is ∙ sym (append_assoc before first rest)) e))

-- an argument, up to the `;` or the `{` behind it
quoted_read : (keyword text : List ℕ) (line : ℕ) (above : List Begun) (ts : List Token) (t : Token) (more : List Token) (next : State)
    → IsQuoted text ts → at_end (begun keyword (Some text) line) above t.kind ≡ Some next
    → reads (state (Argues keyword line) above) (ts ++ t ∷ more) ≡ reads next more
quoted_read keyword text line above [] t more next h e = absurd h
quoted_read keyword text line above (part ∷ ts) t more next (apart, (first, (rest, (text_is, (part_is, joined))))) e =
    goes (state (Argues keyword line) above) (state (Joins keyword first line) above) part (ts ++ t ∷ more)
    (ap (λ k. at_argument keyword line above part.apart k) part_is ∙ ap (λ a. at_argument keyword line above a (Quoted first)) apart)
    ∙ joined_read keyword first rest line above ts t more next joined
    (subst (λ x. at_end (begun keyword (Some x) line) above t.kind ≡ Some next) text_is e)

unquoted_read : (keyword text : List ℕ) (line : ℕ) (above : List Begun) (ts : List Token) (t : Token) (more : List Token) (next : State)
    → IsUnquoted text ts → at_end (begun keyword (Some text) line) above t.kind ≡ Some next
    → reads (state (Argues keyword line) above) (ts ++ t ∷ more) ≡ reads next more
unquoted_read keyword text line above ts t more next (w, (ts_is, w_is)) e =
    ap (λ x. reads (state (Argues keyword line) above) (x ++ t ∷ more)) ts_is
    ∙ (goes (state (Argues keyword line) above) (state (Ends keyword text line) above) w (t ∷ more)
    (ap (λ k. at_argument keyword line above w.apart k) w_is)
    ∙ goes (state (Ends keyword text line) above) next t more e)

argument_read : (keyword : List ℕ) (argument : Option (List ℕ)) (line : ℕ) (above : List Begun) (ts : List Token) (t : Token) (more : List Token) (next : State)
    → IsArgument argument ts → at_end (begun keyword argument line) above t.kind ≡ Some next
    → reads (state (Argues keyword line) above) (ts ++ t ∷ more) ≡ reads next more
argument_read keyword None line above ts t more next h e =
    ap (λ x. reads (state (Argues keyword line) above) (x ++ t ∷ more)) h
    ∙ goes (state (Argues keyword line) above) next t more (argument_ends keyword line above t.apart t.kind next e)
argument_read keyword (Some text) line above ts t more next (inl h) e = unquoted_read keyword text line above ts t more next h e
argument_read keyword (Some text) line above ts t more next (inr h) e = quoted_read keyword text line above ts t more next h e

-- a keyword under fewer than 64 statements
keyword_read : (above : List Begun) (t : Token) (name : List ℕ) → t.kind ≡ Word name → is_keyword name ≡ true → length above < 64
    → at_token Begins above t ≡ Some (state (Argues name t.line) above)
keyword_read above t name kind is below = ap (λ k. at_begin above t.line k) kind ∙ search (rules, tests)

-- with more statements below it
abbrev with_children : Begun → List Statement → Begun
with_children b ss = record { keyword = b.keyword; argument = b.argument; line = b.line; below = b.below ++ ss }

-- the statements of a block, where each is read by itself
abbrev IsReadAt : (Statement → List Token → Type 0) → List Begun → Type 0
IsReadAt Of above = (s : Statement) (ts : List Token) (more : List Token) → Of s ts → reads (state Begins above) (ts ++ more) ≡ reads (behind s above) more

children_read : (Of : Statement → List Token → Type 0) (ss : List Statement) (ts : List Token) (b : Begun) (above : List Begun) (more : List Token)
    → ((parent : Begun) → IsReadAt Of (parent ∷ above)) → AreEach Of ss ts
    → reads (state Begins (b ∷ above)) (ts ++ more) ≡ reads (state Begins (with_children b ss ∷ above)) more
children_read Of [] ts b above more read h =
    ap (λ x. reads (state Begins (b ∷ above)) (x ++ more)) h
    ∙ ap (λ x. reads (state Begins ((record { keyword = b.keyword; argument = b.argument; line = b.line; below = x }) ∷ above)) more) (sym (append-nil b.below))
children_read Of (s ∷ ss) ts b above more read (front, (rest, (ts_is, (of, each)))) =
    ap (λ x. reads (state Begins (b ∷ above)) (x ++ more)) ts_is
    ∙ (ap (λ x. reads (state Begins (b ∷ above)) x) (append_assoc front rest more)
    ∙ (read b s front (rest ++ more) of
    ∙ (children_read Of ss rest (with_child b s) above more read each
    ∙ ap (λ x. reads (state Begins ((record { keyword = b.keyword; argument = b.argument; line = b.line; below = x }) ∷ above)) more) (append_assoc b.below (s ∷ []) ss))))

-- the end of a statement
end_read : (Of : Statement → List Token → Type 0) (name : List ℕ) (argument : Option (List ℕ)) (line : ℕ) (below : List Statement) (words block : List Token)
    (above : List Begun) (more : List Token)
    → IsArgument argument words → IsSemicolon below block ⊎ IsBlock Of below block → ((parent : Begun) → IsReadAt Of (parent ∷ above))
    → reads (state (Argues name line) above) (words ++ (block ++ more)) ≡ reads (behind (closed (record { keyword = name; argument = argument; line = line; below = below })) above) more
end_read Of name argument line below words block above more a (inl (below_is, (t, (block_is, t_is)))) read =
    let b = begun name argument line in
    ap (λ x. reads (state (Argues name line) above) (words ++ (x ++ more))) block_is
    ∙ (argument_read name argument line above words t more (ended b above) a (ap (λ k. at_end b above k) t_is)
    ∙ (ap (λ s. reads s more) (behind_is b above)
    ∙ ap (λ x. reads (behind (closed (record { keyword = name; argument = argument; line = line; below = x })) above) more) (sym below_is)))
end_read Of name argument line below words block above more a (inr k) read =
    let b = begun name argument line in
    let c = with_children b below in
    ap (λ x. reads (state (Argues name line) above) (words ++ (x ++ more))) k.whole
    ∙ (argument_read name argument line above words k.opening ((k.inner ++ k.closing ∷ []) ++ more) (state Begins (b ∷ above)) a (ap (λ x. at_end b above x) k.opens)
    ∙ (ap (λ x. reads (state Begins (b ∷ above)) x) (append_assoc k.inner (k.closing ∷ []) more)
    ∙ (children_read Of below k.inner b above (k.closing ∷ more) read k.each
    ∙ (goes (state Begins (c ∷ above)) (ended c above) k.closing more (ap (λ x. at_begin (c ∷ above) k.closing.line x) k.closes)
    ∙ ap (λ s. reads s more) (behind_is c above)))))

statement_read : (Of : Statement → List Token → Type 0) (s : Statement) (ts : List Token) (above : List Begun) (more : List Token)
    → IsStatement Of s ts → length above < 64 → ((parent : Begun) → IsReadAt Of (parent ∷ above))
    → reads (state Begins above) (ts ++ more) ≡ reads (behind s above) more
statement_read Of s ts above more h below read =
    ap (λ x. reads (state Begins above) (x ++ more)) h.whole
    ∙ (goes (state Begins above) (state (Argues h.name h.keyword.line) above) h.keyword ((h.words ++ h.block) ++ more)
    (keyword_read above h.keyword h.name h.keyword_is h.name_is below)
    ∙ (ap (λ x. reads (state (Argues h.name h.keyword.line) above) x) (append_assoc h.words h.block more)
    ∙ (end_read Of h.name h.argument h.keyword.line h.below h.words h.block above more h.argument_is h.block_is read
    ∙ ap (λ x. reads (behind x above) more) (sym h.tree))))

-- a statement with no more levels than may stand there
one_read : (levels : ℕ) (s : Statement) (ts : List Token) (above : List Begun) (more : List Token)
    → length above + levels ≤ 64 → Spells levels s ts
    → reads (state Begins above) (ts ++ more) ≡ reads (behind s above) more
one_read zero s ts above more le h = absurd h
one_read (suc levels) s ts above more le h =
    statement_read (Spells levels) s ts above more h (omega arith)
    (λ parent child us rest of. one_read levels child us (parent ∷ above) rest (omega arith) of)

pub the_spelled_are_read : (ts : List Token) (root : Statement) → TokensSpell ts root → reads (state Begins []) ts ≡ Ok root
the_spelled_are_read ts root h =
    ap (λ us. reads (state Begins []) us) h.whole
    ∙ (one_read 64 root h.front [] (h.last ∷ []) (omega arith) h.spells
    ∙ goes (state (Done root) []) (state (Over root) []) h.last [] (ap (λ k. at_done root k) h.ends))
