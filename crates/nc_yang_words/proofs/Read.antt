-- A text that is read as a tree spells that tree.
use Rattle.std.proofs.Common.{◌≡◌, ℕ, suc, ◌-◌, ◌<◌, Bool, true, false, List, [], ◌∷◌, ◌++◌, length, if◌then◌else◌, ◌&&◌, Option, Some, None, Ok, Err, ◌⊎◌, inl, inr, refl, sym, ap, subst, ◌∙◌, append_assoc, append-nil, arith, rules, tests, nat_lt}
use Rattle.nc_yang_words.specs.Keywords.{is_keyword, is_plus}
use Rattle.nc_yang_words.specs.inner.Grammar.{Expect, Begins, Argues, Joins, Quotes, Ends, Done, Over, State, state, begun, closed, ended, with_child, at_begin, at_argument, at_join, at_quote, at_end, at_done, at_close, at_token, root_of, reads}
use Rattle.nc_yang_words.specs.Spelling.{AreJoined, IsArgument, AreEach, IsSemicolon, IsBlock, IsStatement, Spells, TokensSpell}
use Rattle.nc_yang_words.specs.declared.begun.Begun.{Begun}
use Rattle.nc_yang_words.specs.declared.statement.Statement.{Statement}
use Rattle.nc_yang_words.specs.declared.token.Token.{Token}
use Rattle.nc_yang_words.specs.declared.token.Kind.{Kind}
use Rattle.nc_yang_words.specs.declared.token.Kind.TheVariants.{Word, Quoted, Semicolon, Open, Close, End, Torn}
use Rattle.nc_yang_words.proofs.Faults.{reads_follow, follow}

-- the statements of a block under these, where as many levels are left
abbrev Child : List Begun → Statement → List Token → Type 0
Child above = Spells (63 - length above)

-- a `;` or a block
abbrev IsTail : List Begun → List Statement → List Token → Type 0
IsTail above below ts = IsSemicolon below ts ⊎ IsBlock (Child above) below ts

-- only the end is left
record IsEnd (ts : List Token) : Type 0 where
  last : Token
  whole : ts ≡ last ∷ []
  ends : last.kind ≡ End

-- the rest of a block, and what is left behind it by Behind
record IsInside (Behind : Statement → List Token → Type 0) (Of : Statement → List Token → Type 0) (b : Begun) (ts : List Token) : Type 0 where
  more : List Statement
  inner : List Token
  closing : Token
  rest : List Token
  whole : ts ≡ inner ++ closing ∷ rest
  each : AreEach Of more inner
  closes : closing.kind ≡ Close
  behind : Behind (closed (record { keyword = b.keyword; argument = b.argument; line = b.line; below = b.below ++ more })) rest

-- what is left behind a statement that has ended under these
abbrev IsBehind : Statement → List Begun → List Token → Statement → Type 0
IsBehind s [] ts root = (s ≡ root) × IsEnd ts
IsBehind s (b ∷ above) ts root = IsInside (λ t us. IsBehind t above us root) (Child above) (with_child b s) ts

-- the tail of a statement, and what is left behind it
record HasTail (keyword : List ℕ) (argument : Option (List ℕ)) (line : ℕ) (above : List Begun) (ts : List Token) (root : Statement) : Type 0 where
  below : List Statement
  block : List Token
  rest : List Token
  whole : ts ≡ block ++ rest
  tail : IsTail above below block
  behind : IsBehind (closed (record { keyword = keyword; argument = argument; line = line; below = below })) above rest root

-- strings joined to a text, the tail, and what is left
record HasJoined (keyword text : List ℕ) (line : ℕ) (above : List Begun) (ts : List Token) (root : Statement) : Type 0 where
  words : List Token
  joined : List ℕ
  after : List Token
  whole : ts ≡ words ++ after
  are : AreJoined joined words
  tail : HasTail keyword (Some (text ++ joined)) line above after root

-- a quoted string, those joined to it, the tail, and what is left
record HasPart (keyword text : List ℕ) (line : ℕ) (above : List Begun) (ts : List Token) (root : Statement) : Type 0 where
  part : Token
  first : List ℕ
  after : List Token
  whole : ts ≡ part ∷ after
  is : part.kind ≡ Quoted first
  tail : HasJoined keyword (text ++ first) line above after root

-- an argument, the tail, and what is left
record HasArgument (keyword : List ℕ) (line : ℕ) (above : List Begun) (ts : List Token) (root : Statement) : Type 0 where
  words : List Token
  argument : Option (List ℕ)
  after : List Token
  whole : ts ≡ words ++ after
  is : IsArgument argument words
  tail : HasTail keyword argument line above after root

-- a whole statement, and what is left
record HasRoot (ts : List Token) (root : Statement) : Type 0 where
  front : List Token
  after : List Token
  whole : ts ≡ front ++ after
  spells : Spells 64 root front
  ends : IsEnd after

-- what is left where this is to come
abbrev Has : Expect → List Begun → List Token → Statement → Type 0
Has Begins [] ts root = HasRoot ts root
Has Begins (b ∷ above) ts root = IsInside (λ s us. IsBehind s above us root) (Child above) b ts
Has (Argues keyword line) above ts root = HasArgument keyword line above ts root
Has (Joins keyword text line) above ts root = HasJoined keyword text line above ts root
Has (Quotes keyword text line) above ts root = HasPart keyword text line above ts root
Has (Ends keyword text line) above ts root = HasTail keyword (Some text) line above ts root
Has (Done s) above ts root = (s ≡ root) × IsEnd ts
Has (Over s) above ts root = (s ≡ root) × (ts ≡ [])

-- what is left behind a statement's end is behind it
behind_ended : (b : Begun) (above : List Begun) (ts : List Token) (root : Statement) → Has (ended b above).expect (ended b above).above ts root → IsBehind (closed b) above ts root
behind_ended b [] ts root h = h
behind_ended b (parent ∷ above) ts root h = h

none_some : {A : Type 0} (x : A) → None ≡ Some x → ⊥
none_some x e = cc

same_some : {A : Type 0} (x y : A) → Some x ≡ Some y → y ≡ x
same_some x y e = cc

-- from a state to the one that it is
from_next : (s next : State) (ts : List Token) (root : Statement) → Some s ≡ Some next → Has next.expect next.above ts root → Has s.expect s.above ts root
from_next s next ts root e h = subst (λ n. Has n.expect n.above ts root) (same_some s next e) h

-- a `;` or a `{` begins the tail
tail_here : (keyword : List ℕ) (argument : Option (List ℕ)) (line : ℕ) (above : List Begun) (t : Token) (k : Kind) (ts : List Token) (root : Statement) (next : State)
    → t.kind ≡ k → at_end (begun keyword argument line) above k ≡ Some next → Has next.expect next.above ts root
    → HasTail keyword argument line above (t ∷ ts) root
tail_here keyword argument line above t (Word w) ts root next k e h = absurd (none_some next e)
tail_here keyword argument line above t (Quoted q) ts root next k e h = absurd (none_some next e)
tail_here keyword argument line above t Close ts root next k e h = absurd (none_some next e)
tail_here keyword argument line above t End ts root next k e h = absurd (none_some next e)
tail_here keyword argument line above t Torn ts root next k e h = absurd (none_some next e)
tail_here keyword argument line above t Semicolon ts root next k e h =
    let b = begun keyword argument line in
    record {
      below = [];
      block = t ∷ [];
      rest = ts;
      whole = refl;
      tail = inl (refl, (t, (refl, k)));
      behind = behind_ended b above ts root (from_next (ended b above) next ts root e h);
    }
tail_here keyword argument line above t Open ts root next k e h =
    let b = begun keyword argument line in
    let i = from_next (state Begins (b ∷ above)) next ts root e h in
    record {
      below = i.more;
      block = t ∷ (i.inner ++ i.closing ∷ []);
      rest = i.rest;
      whole = ap (λ us. t ∷ us) (i.whole ∙ sym (append_assoc i.inner (i.closing ∷ []) i.rest));
      tail = inr (record { opening = t; inner = i.inner; closing = i.closing; whole = refl; opens = k; closes = i.closes; each = i.each });
      behind = i.behind;
    }

plus_is : (w : List ℕ) → is_plus w ≡ true → w ≡ 43 ∷ []
plus_is [] h = cc
plus_is (c ∷ []) h = search (rules, tests)
plus_is (c ∷ d ∷ cs) h = cc

-- a statement at its keyword
statement_here : (above : List Begun) (t : Token) (name : List ℕ) (ts : List Token) (root : Statement) → t.kind ≡ Word name → is_keyword name ≡ true
    → (a : HasArgument name t.line above ts root)
    → IsStatement (Child above) (closed (record { keyword = name; argument = a.argument; line = t.line; below = a.tail.below })) (t ∷ (a.words ++ a.tail.block))
statement_here above t name ts root k is a =
    record {
      keyword = t;
      name = name;
      argument = a.argument;
      below = a.tail.below;
      words = a.words;
      block = a.tail.block;
      whole = refl;
      tree = refl;
      keyword_is = k;
      name_is = is;
      argument_is = a.is;
      block_is = a.tail.tail;
    }

statement_whole : (above : List Begun) (t : Token) (name : List ℕ) (ts : List Token) (root : Statement) (a : HasArgument name t.line above ts root)
    → t ∷ ts ≡ (t ∷ (a.words ++ a.tail.block)) ++ a.tail.rest
statement_whole above t name ts root a =
    ap (λ us. t ∷ us) (a.whole ∙ (ap (λ us. a.words ++ us) a.tail.whole ∙ sym (append_assoc a.words a.tail.block a.tail.rest)))

both_true : (a b : Bool) (x next : State) → (if a && b then Some x else None) ≡ Some next → (a ≡ true) × ((b ≡ true) × (Some x ≡ Some next))
both_true true true x next e = (refl, (refl, e))
both_true true false x next e = absurd (none_some next e)
both_true false true x next e = absurd (none_some next e)
both_true false false x next e = absurd (none_some next e)

if_true : (a : Bool) (x next : State) → (if a then Some x else None) ≡ Some next → (a ≡ true) × (Some x ≡ Some next)
if_true true x next e = (refl, e)
if_true false x next e = absurd (none_some next e)

less : (a b : ℕ) → nat_lt a b ≡ true → a < b
less a b h = search (rules, tests)

word_step : (above : List Begun) (t : Token) (name : List ℕ) (ts : List Token) (root : Statement) → t.kind ≡ Word name → is_keyword name ≡ true
    → length above < 64 → HasArgument name t.line above ts root → Has Begins above (t ∷ ts) root
word_step [] t name ts root k is below a =
    record {
      front = t ∷ (a.words ++ a.tail.block);
      after = a.tail.rest;
      whole = statement_whole [] t name ts root a;
      spells = subst (λ s. Spells 64 s (t ∷ (a.words ++ a.tail.block))) a.tail.behind.0 (statement_here [] t name ts root k is a);
      ends = a.tail.behind.1;
    }
word_step (b ∷ above) t name ts root k is below a =
    let i = a.tail.behind in
    let s = closed (record { keyword = name; argument = a.argument; line = t.line; below = a.tail.below }) in
    let front = t ∷ (a.words ++ a.tail.block) in
    let levels : suc (63 - length (b ∷ above)) ≡ 63 - length above = omega arith in
    record {
      more = s ∷ i.more;
      inner = front ++ i.inner;
      closing = i.closing;
      rest = i.rest;
      whole = statement_whole (b ∷ above) t name ts root a ∙ (ap (λ us. front ++ us) i.whole ∙ sym (append_assoc front i.inner (i.closing ∷ i.rest)));
      each = (front, (i.inner, (refl, (subst (λ n. Spells n s front) levels (statement_here (b ∷ above) t name ts root k is a), i.each))));
      closes = i.closes;
      behind = subst (λ x. IsBehind (closed (record { keyword = b.keyword; argument = b.argument; line = b.line; below = x })) above i.rest root) (append_assoc b.below (s ∷ []) i.more) i.behind;
    }

close_step : (above : List Begun) (t : Token) (ts : List Token) (root : Statement) (next : State) → t.kind ≡ Close
    → at_close above ≡ Some next → Has next.expect next.above ts root → Has Begins above (t ∷ ts) root
close_step [] t ts root next k e h = absurd (none_some next e)
close_step (b ∷ above) t ts root next k e h =
    record {
      more = [];
      inner = [];
      closing = t;
      rest = ts;
      whole = refl;
      each = refl;
      closes = k;
      behind = subst (λ x. IsBehind (closed (record { keyword = b.keyword; argument = b.argument; line = b.line; below = x })) above ts root) (sym (append-nil b.below))
          (behind_ended b above ts root (from_next (ended b above) next ts root e h));
    }

begin_step : (above : List Begun) (t : Token) (k : Kind) (ts : List Token) (root : Statement) (next : State)
    → t.kind ≡ k → at_begin above t.line k ≡ Some next → Has next.expect next.above ts root → Has Begins above (t ∷ ts) root
begin_step above t (Word w) ts root next k e h =
    let b = both_true (is_keyword w) (nat_lt (length above) 64) (state (Argues w t.line) above) next e in
    word_step above t w ts root k b.0 (less (length above) 64 b.1.0) (from_next (state (Argues w t.line) above) next ts root b.1.1 h)
begin_step above t (Quoted q) ts root next k e h = absurd (none_some next e)
begin_step above t Semicolon ts root next k e h = absurd (none_some next e)
begin_step above t Open ts root next k e h = absurd (none_some next e)
begin_step above t Close ts root next k e h = close_step above t ts root next k e h
begin_step above t End ts root next k e h = absurd (none_some next e)
begin_step above t Torn ts root next k e h = absurd (none_some next e)

-- a `;` or a `{` with no argument before
bare_step : (keyword : List ℕ) (line : ℕ) (above : List Begun) (t : Token) (ts : List Token) (root : Statement)
    → HasTail keyword None line above (t ∷ ts) root → HasArgument keyword line above (t ∷ ts) root
bare_step keyword line above t ts root h = record { words = []; argument = None; after = t ∷ ts; whole = refl; is = refl; tail = h }

argument_step : (keyword : List ℕ) (line : ℕ) (above : List Begun) (t : Token) (k : Kind) (ts : List Token) (root : Statement) (next : State)
    → t.kind ≡ k → at_argument keyword line above t.apart k ≡ Some next → Has next.expect next.above ts root → HasArgument keyword line above (t ∷ ts) root
argument_step keyword line above t (Word w) ts root next k e h =
    record {
      words = t ∷ [];
      argument = Some w;
      after = ts;
      whole = refl;
      is = inl (t, (refl, k));
      tail = from_next (state (Ends keyword w line) above) next ts root e h;
    }
argument_step keyword line above t (Quoted q) ts root next k e h =
    let b = if_true t.apart (state (Joins keyword q line) above) next e in
    let j = from_next (state (Joins keyword q line) above) next ts root b.1 h in
    record {
      words = t ∷ j.words;
      argument = Some (q ++ j.joined);
      after = j.after;
      whole = ap (λ us. t ∷ us) j.whole;
      is = inr (b.0, (q, (j.joined, (refl, (k, j.are)))));
      tail = j.tail;
    }
argument_step keyword line above t Semicolon ts root next k e h = bare_step keyword line above t ts root (tail_here keyword None line above t Semicolon ts root next k e h)
argument_step keyword line above t Open ts root next k e h = bare_step keyword line above t ts root (tail_here keyword None line above t Open ts root next k e h)
argument_step keyword line above t Close ts root next k e h = absurd (none_some next e)
argument_step keyword line above t End ts root next k e h = absurd (none_some next e)
argument_step keyword line above t Torn ts root next k e h = absurd (none_some next e)

-- a `;` or a `{` with no more strings before
last_step : (keyword text : List ℕ) (line : ℕ) (above : List Begun) (t : Token) (ts : List Token) (root : Statement)
    → HasTail keyword (Some text) line above (t ∷ ts) root → HasJoined keyword text line above (t ∷ ts) root
last_step keyword text line above t ts root h =
    record {
      words = [];
      joined = [];
      after = t ∷ ts;
      whole = refl;
      are = refl;
      tail = subst (λ x. HasTail keyword (Some x) line above (t ∷ ts) root) (sym (append-nil text)) h;
    }

join_step : (keyword text : List ℕ) (line : ℕ) (above : List Begun) (t : Token) (k : Kind) (ts : List Token) (root : Statement) (next : State)
    → t.kind ≡ k → at_join keyword text line above k ≡ Some next → Has next.expect next.above ts root → HasJoined keyword text line above (t ∷ ts) root
join_step keyword text line above t (Word w) ts root next k e h =
    let b = if_true (is_plus w) (state (Quotes keyword text line) above) next e in
    let p = from_next (state (Quotes keyword text line) above) next ts root b.1 h in
    let j = p.tail in
    record {
      words = t ∷ p.part ∷ j.words;
      joined = p.first ++ j.joined;
      after = j.after;
      whole = ap (λ us. t ∷ us) (p.whole ∙ ap (λ us. p.part ∷ us) j.whole);
      are = (p.first, (j.joined, (refl, (k ∙ ap (λ x. Word x) (plus_is w b.0), (p.is, j.are)))));
      tail = subst (λ x. HasTail keyword (Some x) line above j.after root) (append_assoc text p.first j.joined) j.tail;
    }
join_step keyword text line above t (Quoted q) ts root next k e h = absurd (none_some next e)
join_step keyword text line above t Semicolon ts root next k e h = last_step keyword text line above t ts root (tail_here keyword (Some text) line above t Semicolon ts root next k e h)
join_step keyword text line above t Open ts root next k e h = last_step keyword text line above t ts root (tail_here keyword (Some text) line above t Open ts root next k e h)
join_step keyword text line above t Close ts root next k e h = absurd (none_some next e)
join_step keyword text line above t End ts root next k e h = absurd (none_some next e)
join_step keyword text line above t Torn ts root next k e h = absurd (none_some next e)

quote_step : (keyword text : List ℕ) (line : ℕ) (above : List Begun) (t : Token) (k : Kind) (ts : List Token) (root : Statement) (next : State)
    → t.kind ≡ k → at_quote keyword text line above k ≡ Some next → Has next.expect next.above ts root → HasPart keyword text line above (t ∷ ts) root
quote_step keyword text line above t (Word w) ts root next k e h = absurd (none_some next e)
quote_step keyword text line above t (Quoted q) ts root next k e h =
    record { part = t; first = q; after = ts; whole = refl; is = k; tail = from_next (state (Joins keyword (text ++ q) line) above) next ts root e h }
quote_step keyword text line above t Semicolon ts root next k e h = absurd (none_some next e)
quote_step keyword text line above t Open ts root next k e h = absurd (none_some next e)
quote_step keyword text line above t Close ts root next k e h = absurd (none_some next e)
quote_step keyword text line above t End ts root next k e h = absurd (none_some next e)
quote_step keyword text line above t Torn ts root next k e h = absurd (none_some next e)

done_step : (s : Statement) (t : Token) (k : Kind) (ts : List Token) (root : Statement) (next : State)
    → t.kind ≡ k → at_done s k ≡ Some next → Has next.expect next.above ts root → (s ≡ root) × IsEnd (t ∷ ts)
done_step s t (Word w) ts root next k e h = absurd (none_some next e)
done_step s t (Quoted q) ts root next k e h = absurd (none_some next e)
done_step s t Semicolon ts root next k e h = absurd (none_some next e)
done_step s t Open ts root next k e h = absurd (none_some next e)
done_step s t Close ts root next k e h = absurd (none_some next e)
done_step s t End ts root next k e h =
    let o = from_next (state (Over s) []) next ts root e h in
    (o.0, record { last = t; whole = ap (λ us. t ∷ us) o.1; ends = k })
done_step s t Torn ts root next k e h = absurd (none_some next e)

step : (e : Expect) (above : List Begun) (t : Token) (ts : List Token) (root : Statement) (next : State)
    → at_token e above t ≡ Some next → Has next.expect next.above ts root → Has e above (t ∷ ts) root
step Begins above t ts root next e h = begin_step above t t.kind ts root next refl e h
step (Argues keyword line) above t ts root next e h = argument_step keyword line above t t.kind ts root next refl e h
step (Joins keyword text line) above t ts root next e h = join_step keyword text line above t t.kind ts root next refl e h
step (Quotes keyword text line) above t ts root next e h = quote_step keyword text line above t t.kind ts root next refl e h
step (Ends keyword text line) above t ts root next e h = tail_here keyword (Some text) line above t t.kind ts root next refl e h
step (Done s) above t ts root next e h = done_step s t t.kind ts root next refl e h
step (Over s) above t ts root next e h = absurd (none_some next e)

err_ok : (line : ℕ) (root : Statement) → Err line ≡ Ok root → ⊥
err_ok line root e = cc

at_end_of : (e : Expect) (above : List Begun) (root : Statement) → root_of e ≡ Ok root → Has e above [] root
at_end_of Begins above root h = absurd (err_ok 0 root h)
at_end_of (Argues keyword line) above root h = absurd (err_ok 0 root h)
at_end_of (Joins keyword text line) above root h = absurd (err_ok 0 root h)
at_end_of (Quotes keyword text line) above root h = absurd (err_ok 0 root h)
at_end_of (Ends keyword text line) above root h = absurd (err_ok 0 root h)
at_end_of (Done s) above root h = absurd (err_ok 0 root h)
at_end_of (Over s) above root h = (cc, refl)

next_has : (o : Option State) (e : Expect) (above : List Begun) (t : Token) (ts : List Token) (root : Statement)
    → at_token e above t ≡ o → reads (state e above) (t ∷ ts) ≡ Ok root
    → ((next : State) → reads next ts ≡ Ok root → Has next.expect next.above ts root)
    → Has e above (t ∷ ts) root
unfolding follow
next_has None e above t ts root o h later =
    absurd (err_ok t.line root (sym (reads_follow (state e above) t ts ∙ ap (λ x. follow x t.line ts) o) ∙ h))
next_has (Some next) e above t ts root o h later =
    step e above t ts root next o (later next (sym (reads_follow (state e above) t ts ∙ ap (λ x. follow x t.line ts) o) ∙ h))

read_has : (ts : List Token) (e : Expect) (above : List Begun) (root : Statement) → reads (state e above) ts ≡ Ok root → Has e above ts root
read_has [] e above root h = at_end_of e above root h
read_has (t ∷ ts) e above root h =
    next_has (at_token e above t) e above t ts root refl h (λ next r. read_has ts next.expect next.above root r)

pub the_read_is_spelled : (ts : List Token) (root : Statement) → reads (state Begins []) ts ≡ Ok root → TokensSpell ts root
the_read_is_spelled ts root h =
    let r = read_has ts Begins [] root h in
    record {
      front = r.front;
      last = r.ends.last;
      whole = r.whole ∙ ap (λ us. r.front ++ us) r.ends.whole;
      ends = r.ends.ends;
      spells = r.spells;
    }
