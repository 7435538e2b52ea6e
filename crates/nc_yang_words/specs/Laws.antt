-- Laws of module texts.
use Rattle.std.specs.Prelude.{◌≡◌, ℕ, ◌+◌, ◌-◌, ◌^◌, ◌==◌, if◌then◌else◌, min, List, [], ◌∷◌, ◌++◌, ◌⊎◌}
use Rattle.nc_names.specs.Signs.{line_feed}
use Rattle.nc_yang_words.specs.Places.{passed, start}
use Rattle.nc_yang_words.specs.Tokens.{tokens_of}
use Rattle.nc_yang_words.specs.Spelling.{TextSpells}
use Rattle.nc_yang_words.specs.Faults.{HasFaultAt}
use Rattle.nc_yang_words.specs.declared.statement.Statement.{Statement}
use Rattle.nc_yang_words.specs.declared.token.Token.{Token}
use Rattle.nc_yang_words.specs.declared.token.Kind.TheVariants.{End}

-- a text spells a tree, or has a fault at a line
abbrev pub SpellsOrFails : Type 0
SpellsOrFails = (text : List ℕ) → ((root : Statement) × TextSpells text root) ⊎ ((line : ℕ) × HasFaultAt text line)

-- and never both
abbrev pub NeverBoth : Type 0
NeverBoth = (text : List ℕ) (root : Statement) (line : ℕ) → TextSpells text root → HasFaultAt text line → ⊥

-- it spells at most one tree
abbrev pub OneTree : Type 0
OneTree = (text : List ℕ) (root other : Statement) → TextSpells text root → TextSpells text other → root ≡ other

-- and has a fault at no more than one line
abbrev pub OneFault : Type 0
OneFault = (text : List ℕ) (line other : ℕ) → HasFaultAt text line → HasFaultAt text other → line ≡ other

-- how many LF these characters have
abbrev pub line_feeds : List ℕ → ℕ
line_feeds [] = 0
line_feeds (c ∷ cs) = (if c == line_feed then 1 else 0) + line_feeds cs

-- the line after characters from a text's start on is 1 and the number of their LF, so far as a line is
-- counted
abbrev pub LinesAreCounted : Type 0
LinesAreCounted = (cs : List ℕ) → (passed start cs).line ≡ min (1 + line_feeds cs) (2 ^ 32 - 1)

-- the end of a text is a token at the line that is 1 and the number of its LF, so far as a line is counted
abbrev pub EndIsCounted : Type 0
EndIsCounted =
    (text : List ℕ) (before : List Token) (last : Token) → tokens_of text ≡ before ++ last ∷ [] → last.kind ≡ End
    → last.line ≡ min (1 + line_feeds text) (2 ^ 32 - 1)
