-- Rules in chains: each rule is in the chain of one mark that every path has which it matches.
use Rattle.std.specs.Prelude.{◌≡◌, ◌≤◌, ◌<◌, ◌+◌, ◌%◌, ◌==◌, ◌&&◌, ℕ, zero, suc, Bool, true, List, [], ◌∷◌, cond, drop, length}
use Rattle.std.specs.List.{AllZip, list_any, slice_index_or}
use Rattle.nc_names.specs.declared.path.Right.{Right}
use Rattle.nc_names.specs.declared.path.Step.{Step}
use Rattle.nc_model.specs.declared.policy.Rule.{Rule}
use Rattle.nc_nacm.specs.declared.chains.Chains.{Chains}
use Rattle.nc_nacm.specs.inner.Found.{matches_under}
use Rattle.nc_nacm.specs.inner.Marks.{is_among, path_marks}

abbrev pub lesser : ℕ → ℕ → ℕ
lesser zero n = zero
lesser (suc m) zero = zero
lesser (suc m) (suc n) = suc (lesser m n)

-- the place of the first that passes, or how many there are
abbrev pub place : {X : Type 0} → (X → Bool) → List X → ℕ
place test [] = 0
place test (x ∷ xs) = cond (test x) 0 (suc (place test xs))

-- the same of rules beside their marks
abbrev pub place_of : (ℕ → Rule → Bool) → List ℕ → List Rule → ℕ
place_of test [] rules = 0
place_of test (mark ∷ marks) [] = 0
place_of test (mark ∷ marks) (rule ∷ rules) = cond (test mark rule) 0 (suc (place_of test marks rules))

-- each path that the rule matches has that mark
abbrev pub IsAnchor : ℕ → Rule → Type 0
IsAnchor mark rule =
    (name : List ℕ) (steps : List Step) (right : Right) →
    matches_under name steps right rule ≡ true → is_among (path_marks name steps) mark ≡ true

-- the marks of a bucket, of so many
abbrev pub is_in : ℕ → ℕ → ℕ → Bool
is_in count bucket mark = mark % count == bucket

-- of so many buckets: from a place on, each has the place of its first mark, and each mark that of the next
pub record IsLinkedIn (count from : ℕ) (marks heads nexts : List ℕ) : Type 0 where
  pub some : 0 < count
  pub wide : length heads ≡ count
  pub long : length nexts ≡ length marks
  pub heads_are : (bucket : ℕ) → bucket < count →
      slice_index_or heads bucket 0 ≡ from + place (is_in count bucket) (drop from marks)
  pub nexts_are : (at : ℕ) → from ≤ at → at < length marks →
      slice_index_or nexts at 0
      ≡ at + 1 + place (is_in count (slice_index_or marks at 0 % count)) (drop (at + 1) marks)

abbrev pub IsLinkedFrom : ℕ → List ℕ → List ℕ → List ℕ → Type 0
IsLinkedFrom from marks heads nexts = IsLinkedIn (length heads) from marks heads nexts

pub record IsChained (rules : List Rule) (chains : Chains) : Type 0 where
  pub anchored : AllZip IsAnchor chains.marks rules
  pub linked : IsLinkedFrom 0 chains.marks chains.heads chains.nexts

-- a rule of the chain of a mark passes
abbrev pub is_candidate : (Rule → Bool) → ℕ → ℕ → Rule → Bool
is_candidate test mark its rule = its == mark && test rule

-- where the first rule is that is in the chain of one of some marks and passes
abbrev pub place_among : (Rule → Bool) → List ℕ → List ℕ → List Rule → ℕ
place_among test marks its rules =
    place_of (λ one rule. list_any (λ mark. is_candidate test mark one rule) marks) its rules
