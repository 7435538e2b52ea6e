-- What the reading of a text says of the text.
use Rattle.std.proofs.Common.{◌≡◌, ℕ, List, [], ◌∷◌, ◌++◌, Result, Ok, Err, MatchResult, ◌⊎◌, inl, inr, refl, ap, sym, subst, ◌∙◌, append_assoc}
use Rattle.std.specs.Result.{IfOk, IfErr}
use Rattle.nc_yang_words.specs.Tokens.{tokens_of}
use Rattle.nc_yang_words.specs.Spelling.{TextSpells, TokensSpell}
use Rattle.nc_yang_words.specs.Faults.{IsText, HasFaultAt, IsFaultOf}
use Rattle.nc_yang_words.specs.Laws.{SpellsOrFails, NeverBoth, OneTree, OneFault}
use Rattle.nc_yang_words.specs.inner.Grammar.{Begins, state, Faults, reading}
use Rattle.nc_yang_words.specs.declared.fault.WordFault.{WordFault}
use Rattle.nc_yang_words.specs.declared.fault.WordFault.TheVariants.{Bad, Memory}
use Rattle.nc_yang_words.specs.declared.statement.Statement.{Statement}
use Rattle.nc_yang_words.specs.declared.token.Token.{Token}
use Rattle.nc_yang_words.proofs.Faults.{Completes, FaultFrom, first_fault}
use Rattle.nc_yang_words.proofs.Spelled.{the_spelled_are_read}
use Rattle.nc_yang_words.proofs.Read.{the_read_is_spelled}

-- the result is the text's reading, or want of memory
abbrev pub IsReading : Result Statement WordFault → List ℕ → Type 0
IsReading r cs = MatchResult r (λ root. reading cs ≡ Ok root) (λ fault. Faults fault (reading cs))

pub spells_of : (r : Result Statement WordFault) (cs : List ℕ) → IsReading r cs → IfOk r (λ root. TextSpells cs root)
spells_of (Ok root) cs h = the_read_is_spelled (tokens_of cs) root h
spells_of (Err fault) cs h = tt

-- tokens that are read as a tree spell it, and the other way round
is_text : (ts : List Token) → Completes (state Begins []) ts → IsText ts
is_text ts h = (h.0, the_read_is_spelled ts h.0 h.1)

completes_text : (ts : List Token) → IsText ts → Completes (state Begins []) ts
completes_text ts h = (h.0, the_spelled_are_read ts h.0 h.1)

has_fault : (cs : List ℕ) (line : ℕ) → FaultFrom (state Begins []) (tokens_of cs) line → HasFaultAt cs line
has_fault cs line f =
    record {
      before = f.before;
      token = f.token;
      rest = f.rest;
      whole = f.whole;
      line_is = f.line_is;
      more = f.more;
      possible = is_text (f.before ++ f.more) f.possible;
      impossible = λ others h. f.impossible others (completes_text (f.before ++ f.token ∷ others) h);
    }

fault_is : (fault : WordFault) (cs : List ℕ) → Faults fault (reading cs) → IsFaultOf cs fault
fault_is (Bad line) cs h = has_fault cs line (first_fault cs line h)
fault_is Memory cs h = tt

pub fault_of : (r : Result Statement WordFault) (cs : List ℕ) → IsReading r cs → IfErr r (λ fault. IsFaultOf cs fault)
fault_of (Ok root) cs h = tt
fault_of (Err fault) cs h = fault_is fault cs h

-- a text spells one tree, or has one fault
by_reading : (text : List ℕ) (r : Result Statement ℕ) → reading text ≡ r
    → ((root : Statement) × TextSpells text root) ⊎ ((line : ℕ) × HasFaultAt text line)
by_reading text (Ok root) e = inl (root, the_read_is_spelled (tokens_of text) root e)
by_reading text (Err line) e = inr (line, has_fault text line (first_fault text line e))

pub spells_or_fails : SpellsOrFails
spells_or_fails text = by_reading text (reading text) refl

pub never_both : NeverBoth
never_both text root line spelled f = f.impossible f.rest (root, subst (λ ts. TokensSpell ts root) f.whole spelled)

pub one_tree : OneTree
one_tree text root other h k =
    let e : Ok root ≡ Ok other = sym (the_spelled_are_read (tokens_of text) root h) ∙ the_spelled_are_read (tokens_of text) other k in cc

-- of two tokens with what is before them in one list, they are one, or one is before the other
abbrev IsLater : List Token → List Token → Token → Type 0
IsLater later before token = (more : List Token) × (later ≡ before ++ token ∷ more)

later_too : (x y : Token) (later before : List Token) (token : Token) → x ≡ y → IsLater later before token → IsLater (y ∷ later) (x ∷ before) token
later_too x y later before token e h = (h.0, sym (ap (λ z. z ∷ later) e) ∙ ap (λ ts. x ∷ ts) h.1)

compared : (before other : List Token) (token next : Token) (rest behind : List Token)
    → before ++ token ∷ rest ≡ other ++ next ∷ behind
    → (token ≡ next) ⊎ (IsLater other before token ⊎ IsLater before other next)
compared [] [] token next rest behind e = inl (let a : token ≡ next = cc in a)
compared [] (y ∷ ys) token next rest behind e =
    let a : token ≡ y = cc in
    inr (inl (ys, sym (ap (λ z. z ∷ ys) a)))
compared (x ∷ xs) [] token next rest behind e =
    let a : x ≡ next = cc in
    inr (inr (xs, ap (λ z. z ∷ xs) a))
compared (x ∷ xs) (y ∷ ys) token next rest behind e =
    let a : x ≡ y = cc in
    let b : xs ++ token ∷ rest ≡ ys ++ next ∷ behind = cc in
    elim (compared xs ys token next rest behind b) [
      | inl same ↦ inl same
      | inr h ↦ elim h [
        | inl later ↦ inr (inl (later_too x y ys xs token a later))
        | inr later ↦ inr (inr (later_too y x xs ys next (sym a) later))
      ]
    ]

-- a token after which a text can go on is no fault
no_fault_before : (text : List ℕ) (line other : ℕ) (f : HasFaultAt text line) (g : HasFaultAt text other) → IsLater g.before f.before f.token → ⊥
no_fault_before text line other f g later =
    f.impossible (later.0 ++ g.more)
    (subst (λ ts. IsText ts) (ap (λ ts. ts ++ g.more) later.1 ∙ append_assoc f.before (f.token ∷ later.0) g.more) g.possible)

pub one_fault : OneFault
one_fault text line other f g =
    elim (compared f.before g.before f.token g.token f.rest g.rest (sym f.whole ∙ g.whole)) [
      | inl same ↦ f.line_is ∙ (ap (λ t. t.line) same ∙ sym g.line_is)
      | inr h ↦ elim h [
        | inl later ↦ absurd (no_fault_before text line other f g later)
        | inr later ↦ absurd (no_fault_before text other line g f later)
      ]
    ]
