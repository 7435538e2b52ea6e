-- The names of bits are apart where each name stands once.
use Rattle.std.proofs.Common.{◌≡◌, ◌≢◌, ◌&&◌, ◌||◌, ◌++◌, ℕ, Bool, true, false, cond, List, [], ◌∷◌, map, Option, Some, None, refl, sym, ap, subst, arith}
use Rattle.std.specs.Prelude.{ℤ, int_lt}
use Rattle.std.specs.BTreeMap.{insert_entry}
use Rattle.std.specs.List.{All, AllPairs, filter}
use Rattle.std.specs.Ordering.{int_cmp, match_ordering}
use Rattle.std.specs.declared.cmp.Ordering.TheVariants.{Less, Equal, Greater}
use Rattle.std.specs.Cmp.Lexicographic.{bytes_decides}
use Rattle.std.proofs.lemmas.List.Elements.{All-cons, All-nil}
use Rattle.std.proofs.lemmas.List.Kept.{AllPairs-cons, AllPairs-filter}
use Rattle.nc_names.specs.Same.{is_same_text}
use Rattle.nc_names.proofs.SameLemmas.{both_true}
use Rattle.nc_yang_words.specs.declared.statement.Statement.{Statement}
use Rattle.nc_yang_statements.specs.declared.fault.ModuleWhy.TheVariants.{Twice}
use Rattle.nc_yang_statements.specs.Rules.{at_if}
use Rattle.nc_yang_statements.specs.declared.built_in.BuiltIn.TheVariants.{Bits}
use Rattle.nc_yang_statements.specs.Statements.{below, has, name}
use Rattle.nc_yang_types.specs.declared.member.Listed.TheVariants.{Flags}
use Rattle.nc_yang_types.specs.Entries.{misused, own_faults}
use Rattle.nc_yang_types.specs.Parts.{misshapen}
use Rattle.nc_yang_types.specs.Patterns.{ill_patterns}
use Rattle.nc_yang_types.specs.Members.{bit_names, chosen, gives_name, has_name, higher, ill_listed, is_chosen, is_member, member_word, misnumbered, number_at, numbered, renamed, with_bit, with_bits}

abbrev names : List (ℤ × List ℕ) → List (List ℕ)
names bits = map (λ entry. entry.1) bits

-- a name is none of those
abbrev IsNone : List ℕ → List (List ℕ) → Type 0
IsNone one [] = Unit {0}
IsNone one (other ∷ others) = (one ≢ other) × IsNone one others

abbrev AreApart : List (List ℕ) → Type 0
AreApart [] = Unit {0}
AreApart (one ∷ others) = IsNone one others × AreApart others

all_none : (one : List ℕ) (others : List (List ℕ)) → IsNone one others → All (λ later. one ≢ later) others
all_none one [] h = All-nil (λ later. one ≢ later)
all_none one (other ∷ others) h = All-cons (λ later. one ≢ later) other others h.0 (all_none one others h.1)

all_apart : (ns : List (List ℕ)) → AreApart ns → AllPairs (λ one later. one ≢ later) ns
all_apart [] h = λ i j d less within. absurd (omega (arith, within))
all_apart (one ∷ others) h = AllPairs-cons (λ one later. one ≢ later) one others (all_none one others h.0) (all_apart others h.1)

-- one more at its place
none_step : (x y : Bool) (one : List ℕ) (k : ℤ) (text : List ℕ) (bit : ℤ × List ℕ) (bits : List (ℤ × List ℕ)) → one ≢ text → IsNone one (names (bit ∷ bits)) → IsNone one (names (insert_entry int_cmp bits k text)) →
    IsNone one (names (match_ordering (cond x Less (cond y Greater Equal)) ((k, text) ∷ bit ∷ bits) ((bit.0, text) ∷ bits) (bit ∷ insert_entry int_cmp bits k text)))
none_step true y one k text bit bits apart h further = (apart, h)
none_step false true one k text bit bits apart h further = (h.0, further)
none_step false false one k text bit bits apart h further = (apart, h.1)

none_more : (one : List ℕ) (k : ℤ) (text : List ℕ) (bits : List (ℤ × List ℕ)) → one ≢ text → IsNone one (names bits) → IsNone one (names (insert_entry int_cmp bits k text))
none_more one k text [] apart h = (apart, tt)
none_more one k text (bit ∷ bits) apart h = none_step (int_lt k bit.0) (int_lt bit.0 k) one k text bit bits apart h (none_more one k text bits apart h.1)

put_step : (x y : Bool) (k : ℤ) (text : List ℕ) (bit : ℤ × List ℕ) (bits : List (ℤ × List ℕ)) → IsNone text (names (bit ∷ bits)) → AreApart (names (bit ∷ bits)) → AreApart (names (insert_entry int_cmp bits k text)) →
    AreApart (names (match_ordering (cond x Less (cond y Greater Equal)) ((k, text) ∷ bit ∷ bits) ((bit.0, text) ∷ bits) (bit ∷ insert_entry int_cmp bits k text)))
put_step true y k text bit bits none h further = (none, h)
put_step false true k text bit bits none h further = (none_more bit.1 k text bits (λ e. none.0 (sym e)) h.0, further)
put_step false false k text bit bits none h further = (none.1, h.1)

put : (k : ℤ) (text : List ℕ) (bits : List (ℤ × List ℕ)) → IsNone text (names bits) → AreApart (names bits) → AreApart (names (insert_entry int_cmp bits k text))
put k text [] none h = (tt, tt)
put k text (bit ∷ bits) none h = put_step (int_lt k bit.0) (int_lt bit.0 k) k text bit bits none h (put k text bits none.1 h.1)

-- the names that are kept stand in the statements before
abbrev StandBefore : List Statement → List (ℤ × List ℕ) → Type 0
StandBefore before [] = Unit {0}
StandBefore before (bit ∷ bits) = (has_name Flags bit.1 before ≡ true) × StandBefore before bits

stand_step : (x y : Bool) (before : List Statement) (k : ℤ) (text : List ℕ) (bit : ℤ × List ℕ) (bits : List (ℤ × List ℕ)) → has_name Flags text before ≡ true → StandBefore before (bit ∷ bits) →
    StandBefore before (insert_entry int_cmp bits k text) → StandBefore before (match_ordering (cond x Less (cond y Greater Equal)) ((k, text) ∷ bit ∷ bits) ((bit.0, text) ∷ bits) (bit ∷ insert_entry int_cmp bits k text))
stand_step true y before k text bit bits e h further = (e, h)
stand_step false true before k text bit bits e h further = (h.0, further)
stand_step false false before k text bit bits e h further = (e, h.1)

stand_put : (before : List Statement) (k : ℤ) (text : List ℕ) (bits : List (ℤ × List ℕ)) → has_name Flags text before ≡ true → StandBefore before bits → StandBefore before (insert_entry int_cmp bits k text)
stand_put before k text [] e h = (e, tt)
stand_put before k text (bit ∷ bits) e h = stand_step (int_lt k bit.0) (int_lt bit.0 k) before k text bit bits e h (stand_put before k text bits e h.1)

has_step : (x : Bool) (text : List ℕ) (before : List Statement) (s : Statement) → (x || has_name Flags text before) ≡ true → (has_name Flags text before ≡ true → has_name Flags text (before ++ s ∷ []) ≡ true) → (x || has_name Flags text (before ++ s ∷ [])) ≡ true
has_step true text before s e further = refl
has_step false text before s e further = further e

has_more : (text : List ℕ) (before : List Statement) (s : Statement) → has_name Flags text before ≡ true → has_name Flags text (before ++ s ∷ []) ≡ true
has_more text [] s e = absurd (cc)
has_more text (t ∷ before) s e = has_step (gives_name Flags text t) text before s e (has_more text before s)

either : (a b : Bool) → b ≡ true → (a || b) ≡ true
either true b e = refl
either false b e = e

gives_own : (s : Statement) → is_member Flags s ≡ true → gives_name Flags (name s) s ≡ true
gives_own s e = both_true (is_member Flags s) (is_same_text (name s) (name s)) e ((bytes_decides (name s) (name s)).1 refl)

has_last : (before : List Statement) (s : Statement) → is_member Flags s ≡ true → has_name Flags (name s) (before ++ s ∷ []) ≡ true
has_last [] s e = ap (λ b. b || false) (gives_own s e)
has_last (t ∷ before) s e = either (gives_name Flags (name s) t) (has_name Flags (name s) (before ++ s ∷ [])) (has_last before s e)

stand_more : (before : List Statement) (s : Statement) (bits : List (ℤ × List ℕ)) → StandBefore before bits → StandBefore (before ++ s ∷ []) bits
stand_more before s [] h = tt
stand_more before s (bit ∷ bits) h = (has_more bit.1 before s h.0, stand_more before s bits h.1)

none_before : (before : List Statement) (text : List ℕ) (bits : List (ℤ × List ℕ)) → has_name Flags text before ≡ false → StandBefore before bits → IsNone text (names bits)
none_before before text [] e h = tt
none_before before text (bit ∷ bits) e h =
    ((λ same. let there : has_name Flags text before ≡ true = subst (λ z. has_name Flags z before ≡ true) (sym same) h.0 in cc), none_before before text bits e h.1)

-- one statement more
module _ (stands : Statement → Bool) (before : List Statement) (s : Statement) (is : is_member Flags s ≡ true) (once : has_name Flags (name s) before ≡ false) where
  bit_apart : (b : Bool) (position : ℤ) (bits : List (ℤ × List ℕ)) → StandBefore before bits → AreApart (names bits) → AreApart (names (cond b (insert_entry int_cmp bits position (name s)) bits))
  bit_apart true position bits stand h = put position (name s) bits (none_before before (name s) bits once stand) h
  bit_apart false position bits stand h = h

  with_apart : (position : Option ℤ) (bits : List (ℤ × List ℕ)) → StandBefore before bits → AreApart (names bits) → AreApart (names (with_bit stands bits (s, position)))
  with_apart None bits stand h = h
  with_apart (Some position) bits stand h = bit_apart (stands s) position bits stand h

  bit_stands : (b : Bool) (position : ℤ) (bits : List (ℤ × List ℕ)) → StandBefore before bits → StandBefore (before ++ s ∷ []) (cond b (insert_entry int_cmp bits position (name s)) bits)
  bit_stands true position bits stand = stand_put (before ++ s ∷ []) position (name s) bits (has_last before s is) (stand_more before s bits stand)
  bit_stands false position bits stand = stand_more before s bits stand

  with_stands : (position : Option ℤ) (bits : List (ℤ × List ℕ)) → StandBefore before bits → StandBefore (before ++ s ∷ []) (with_bit stands bits (s, position))
  with_stands None bits stand = stand_more before s bits stand
  with_stands (Some position) bits stand = bit_stands (stands s) position bits stand

left_none : {A : Type 0} (xs ys : List A) → xs ++ ys ≡ [] → xs ≡ []
left_none [] ys e = refl
left_none (x ∷ xs) ys e = absurd (cc)

right_none : {A : Type 0} (xs ys : List A) → xs ++ ys ≡ [] → ys ≡ []
right_none [] ys e = e
right_none (x ∷ xs) ys e = absurd (cc)

once_of : (b c : Bool) (s : Statement) → b ≡ true → at_if (b && c) s Twice ≡ [] → c ≡ false
once_of true false s is e = refl
once_of true true s is e = absurd (cc)
once_of false c s is e = absurd (cc)

more_apart : (stands : Statement → Bool) (ss before : List Statement) (high : Option ℤ) (bits : List (ℤ × List ℕ)) → renamed Flags before ss ≡ [] → StandBefore before bits → AreApart (names bits) →
    AreApart (names (with_bits stands bits (numbered Flags high ss)))
more_apart stands [] before high bits off stand h = h
more_apart stands (s ∷ ss) before high bits off stand h =
    by (is_member Flags s) refl (λ high bits. more_apart stands ss (before ++ s ∷ []) high bits (right_none (at_if (is_member Flags s && has_name Flags (name s) before) s Twice) (renamed Flags (before ++ s ∷ []) ss) off))
  where
    here : at_if (is_member Flags s && has_name Flags (name s) before) s Twice ≡ []
    here = left_none (at_if (is_member Flags s && has_name Flags (name s) before) s Twice) (renamed Flags (before ++ s ∷ []) ss) off

    by : (b : Bool) → is_member Flags s ≡ b →
        ((high : Option ℤ) (bits : List (ℤ × List ℕ)) → StandBefore (before ++ s ∷ []) bits → AreApart (names bits) → AreApart (names (with_bits stands bits (numbered Flags high ss)))) →
        AreApart (names (with_bits stands bits (cond b ((s, number_at Flags high s) ∷ numbered Flags (higher high (number_at Flags high s)) ss) (numbered Flags high ss))))
    by false is further = further high bits (stand_more before s bits stand) h
    by true is further =
        let once : has_name Flags (name s) before ≡ false = once_of (is_member Flags s) (has_name Flags (name s) before) s is here in
        further (higher high (number_at Flags high s)) (with_bit stands bits (s, number_at Flags high s))
        (with_stands stands before s is once (number_at Flags high s) bits stand) (with_apart stands before s is once (number_at Flags high s) bits stand h)

-- the names of the bits of a type that breaks no rule
pub names_apart : (stands : Statement → Bool) (s : Statement) → own_faults Bits s ≡ [] → AllPairs (λ one later. one ≢ later) (bit_names stands (below s))
names_apart stands s off =
    let ill : ill_listed Flags (below s) ≡ [] = right_none (ill_patterns (below s)) (misused Bits (below s)) (right_none (misshapen Bits s) (ill_patterns (below s) ++ misused Bits (below s)) off) in
    all_apart (bit_names stands (below s))
    (more_apart stands (below s) [] None [] (left_none (renamed Flags [] (below s)) (misnumbered Flags [] (numbered Flags None (below s))) ill) tt tt)

-- those that a type over bits leaves of its names are apart too
pub chosen_apart : (stands : Statement → Bool) (ss : List Statement) (taken : List (List ℕ)) → AllPairs (λ one later. one ≢ later) taken → AllPairs (λ one later. one ≢ later) (chosen stands Flags ss taken)
chosen_apart stands ss taken h = by (has (member_word Flags) ss)
  where
    by : (b : Bool) → AllPairs (λ one later. one ≢ later) (cond b (filter (is_chosen stands Flags ss) taken) taken)
    by true = AllPairs-filter (λ one later. one ≢ later) (is_chosen stands Flags ss) taken h
    by false = h
