-- What the laws say.
use Rattle.std.specs.Prelude.{◌≡◌, ℕ, Bool, List}
use Rattle.nc_yang_words.specs.declared.statement.Statement.{Statement}
use Rattle.nc_yang_statements.specs.declared.fault.Fault.{Fault}
use Rattle.nc_yang_scopes.specs.Scopes.{Located}
use Rattle.nc_yang_types.specs.Defaults.{Brings}
use Rattle.nc_yang_types.specs.Meanings.{Breaks, Meaning, Means}

-- a `type` statement means one thing at most
abbrev pub OneMeaning : Type 0
OneMeaning =
    (on : ℕ → List ℕ → Bool) (texts : List Statement) (l : Located) (m n : Meaning) → Means on texts l m
    → Means on texts l n → m ≡ n

-- one that means something breaks no rule
abbrev pub MeaningKeepsRules : Type 0
MeaningKeepsRules =
    (on : ℕ → List ℕ → Bool) (texts : List Statement) (l : Located) (m : Meaning) (fault : Fault) →
    Means on texts l m → Breaks on texts l fault → ⊥

-- a type brings one default at most (RFC 7950 7.3.4)
abbrev pub OneDefault : Type 0
OneDefault = (texts : List Statement) (l one other : Located) → Brings texts l one → Brings texts l other → one ≡ other
