-- What is read of a pattern.
use Rattle.std.proofs.Common.{◌≡◌, ◌++◌, ℕ, Bool, true, false, cond, List, [], ◌∷◌, Option, Some, None, inl, inr, refl, ap, sym}
use Rattle.std.specs.Prelude.{◌⊎◌, Ok, Err, IsOk}
use Rattle.nc_schema.specs.declared.value_type.ValueType.{ValueType}
use Rattle.nc_yang_words.specs.declared.statement.Statement.{Statement}
use Rattle.nc_yang_statements.specs.declared.built_in.BuiltIn.{BuiltIn}
use Rattle.nc_yang_statements.specs.declared.keyword.Keyword.TheVariants.{Pattern}
use Rattle.nc_yang_statements.specs.Keywords.{is_same_keyword}
use Rattle.nc_yang_statements.specs.Rules.{at}
use Rattle.nc_yang_statements.specs.Statements.{below, kind, name}
use Rattle.nc_yang_statements.specs.declared.fault.ModuleWhy.{ModuleWhy}
use Rattle.nc_yang_types.specs.Entries.{misnarrowed, misused, narrowed_faults, own_faults}
use Rattle.nc_yang_types.specs.Parts.{foreign_over, misshapen}
use Rattle.nc_patterns.specs.Reading.{IsPattern, Reading, tokens}
use Rattle.nc_patterns.specs.declared.fault.ReadFault.TheVariants.{BadArgument, Unsupported, Memory}
use Rattle.nc_yang_statements.specs.declared.fault.ModuleWhy.TheVariants.{BadArgument as BadWhy, Unsupported as UnsupportedWhy}
use Rattle.nc_yang_types.specs.declared.member.Named.{Named}
use Rattle.nc_yang_types.specs.Patterns.{ill_patterns, why_ill, why_unread}

whole : (r : Reading) → IsOk r → None ≡ why_unread r
whole (Ok spelled) is = refl
whole (Err fault) is = absurd (cc)

pub read_whole : (pattern : List ℕ) → IsPattern pattern → None ≡ why_unread (tokens pattern)
read_whole pattern is = whole (tokens pattern) is

pub read_badly : (pattern : List ℕ) (place : ℕ) → (BadArgument place ≡ Memory) ⊎ (tokens pattern ≡ Err (BadArgument place)) →
    Some BadWhy ≡ why_unread (tokens pattern)
read_badly pattern place (inl e) = absurd (cc)
read_badly pattern place (inr e) = ap why_unread (sym e)

pub not_supported : (pattern : List ℕ) (place : ℕ) → (Unsupported place ≡ Memory) ⊎ (tokens pattern ≡ Err (Unsupported place)) →
    Some UnsupportedWhy ≡ why_unread (tokens pattern)
not_supported pattern place (inl e) = absurd (cc)
not_supported pattern place (inr e) = ap why_unread (sym e)

whole_back : (r : Reading) → why_unread r ≡ None → IsOk r
whole_back (Ok spelled) e = cc
whole_back (Err (BadArgument place)) e = absurd (cc)
whole_back (Err (Unsupported place)) e = absurd (cc)
whole_back (Err Memory) e = absurd (cc)

no_why : (o : Option ModuleWhy) (s : Statement) → at o s ≡ [] → o ≡ None
no_why None s e = refl
no_why (Some why) s e = absurd (cc)

left_none : {A : Type 0} (xs ys : List A) → xs ++ ys ≡ [] → xs ≡ []
left_none [] ys e = refl
left_none (x ∷ xs) ys e = absurd (cc)

right_none : {A : Type 0} (xs ys : List A) → xs ++ ys ≡ [] → ys ≡ []
right_none [] ys e = e
right_none (x ∷ xs) ys e = absurd (cc)

-- where none is at fault, each `pattern` statement can be read
abbrev pub AreRead : List Statement → Type 0
AreRead [] = Unit {0}
AreRead (s ∷ ss) = (is_same_keyword Pattern (kind s) ≡ true → IsPattern (name s)) × AreRead ss

one_read : (s : Statement) (b : Bool) → cond b (why_unread (tokens (name s))) None ≡ None → b ≡ true → IsPattern (name s)
one_read s true e is = whole_back (tokens (name s)) e
one_read s false e is = absurd (cc)

pub are_read : (ss : List Statement) → ill_patterns ss ≡ [] → AreRead ss
are_read [] e = tt
are_read (s ∷ ss) e = (
  one_read s (is_same_keyword Pattern (kind s)) (no_why (why_ill s) s (left_none (at (why_ill s) s) (ill_patterns ss) e)),
  are_read ss (right_none (at (why_ill s) s) (ill_patterns ss) e),
)

-- a type that breaks no rule
pub own_read : (one : BuiltIn) (s : Statement) → own_faults one s ≡ [] → AreRead (below s)
own_read one s off = are_read (below s) (left_none (ill_patterns (below s)) (misused one (below s)) (right_none (misshapen one s) (ill_patterns (below s) ++ misused one (below s)) off))

pub narrowed_read : (base : ValueType) (names : List Named) (ss : List Statement) → narrowed_faults base names ss ≡ [] → AreRead ss
narrowed_read base names ss off = are_read ss (left_none (ill_patterns ss) (misnarrowed base names ss) (right_none (foreign_over base ss) (ill_patterns ss ++ misnarrowed base names ss) off))
