-- The words that readers answer, as the definitions say them.
use Rattle.std.specs.Prelude.{◌≡◌, ℕ, List, Option, Some, None, MatchOption, option_map}
use Rattle.std.specs.Borrow.{Bor}
use Rattle.nc_paths.specs.declared.words.Name.{Name}
use Rattle.nc_paths.specs.declared.words.Predicate.{Predicate}
use Rattle.nc_schema.specs.PathWords.{written_name, predicate_key, predicate}
use Rattle.nc_schema.specs.declared.written.WrittenName.{WrittenName}
use Rattle.nc_schema.specs.declared.written.WrittenPredicate.{WrittenPredicate}

-- a name, and a predicate, as they stand for
abbrev pub name_of : Name → WrittenName
name_of n = record { prefix = n.prefix.now; name = n.name.now }

-- a predicate as it is written
abbrev pub predicate_of : Predicate → WrittenPredicate
predicate_of p = record { key = option_map name_of p.key; value = p.value.now }

-- what was read with the text after it, or nothing
abbrev pub ReadsName : List ℕ → Option (Name × Bor (List ℕ)) → Type 0
ReadsName text found =
    MatchOption found (written_name text ≡ None) (λ x. written_name text ≡ Some (name_of x.0, x.1.now))

-- the key of a predicate, and the rest
abbrev pub ReadsKey : List ℕ → Option (Option Name × Bor (List ℕ)) → Type 0
ReadsKey text found =
    MatchOption found (predicate_key text ≡ None) (λ x. predicate_key text ≡ Some (option_map name_of x.0, x.1.now))

-- a predicate, and the rest
abbrev pub ReadsPredicate : List ℕ → Option (Predicate × Bor (List ℕ)) → Type 0
ReadsPredicate text found =
    MatchOption found (predicate text ≡ None) (λ x. predicate text ≡ Some (predicate_of x.0, x.1.now))
