-- Bits stand in the order of their positions.
use Rattle.std.proofs.Common.{◌≡◌, ◌&&◌, ℕ, Bool, true, false, cond, List, [], ◌∷◌, Option, Some, None, refl}
use Rattle.std.specs.Prelude.{ℤ, int_lt}
use Rattle.std.specs.BTreeMap.{insert_entry}
use Rattle.std.specs.Ordering.{int_cmp, match_ordering}
use Rattle.std.specs.declared.cmp.Ordering.TheVariants.{Less, Equal, Greater}
use Rattle.nc_yang_words.specs.declared.statement.Statement.{Statement}
use Rattle.nc_yang_statements.specs.Statements.{name}
use Rattle.nc_yang_types.specs.declared.member.Listed.TheVariants.{Flags}
use Rattle.nc_yang_types.specs.Laws.{ascend, is_before}
use Rattle.nc_yang_types.specs.Members.{numbered, with_bit, with_bits}

left : (a b : Bool) → (a && b) ≡ true → a ≡ true
left true b e = refl
left false b e = e

right : (a b : Bool) → (a && b) ≡ true → b ≡ true
right true b e = e
right false b e = cc

both : (a b : Bool) → a ≡ true → b ≡ true → (a && b) ≡ true
both a b e f = cc

before_step : (x y : Bool) (at k : ℤ) (text : List ℕ) (bit : ℤ × List ℕ) (bits : List (ℤ × List ℕ)) → int_lt at k ≡ true → int_lt at bit.0 ≡ true
    → is_before at (match_ordering (cond x Less (cond y Greater Equal)) ((k, text) ∷ bit ∷ bits) ((bit.0, text) ∷ bits) (bit ∷ insert_entry int_cmp bits k text)) ≡ true
before_step true y at k text bit bits e f = e
before_step false true at k text bit bits e f = f
before_step false false at k text bit bits e f = f

before : (at k : ℤ) (text : List ℕ) (bits : List (ℤ × List ℕ)) → int_lt at k ≡ true → is_before at bits ≡ true → is_before at (insert_entry int_cmp bits k text) ≡ true
before at k text [] e f = e
before at k text (bit ∷ bits) e f = before_step (int_lt k bit.0) (int_lt bit.0 k) at k text bit bits e f

put_step : (x y : Bool) (k : ℤ) (text : List ℕ) (bit : ℤ × List ℕ) (bits : List (ℤ × List ℕ)) → int_lt k bit.0 ≡ x → int_lt bit.0 k ≡ y → (is_before bit.0 bits && ascend bits) ≡ true
    → (ascend bits ≡ true → ascend (insert_entry int_cmp bits k text) ≡ true)
    → ascend (match_ordering (cond x Less (cond y Greater Equal)) ((k, text) ∷ bit ∷ bits) ((bit.0, text) ∷ bits) (bit ∷ insert_entry int_cmp bits k text)) ≡ true
put_step true y k text bit bits e f up further = both (int_lt k bit.0) (is_before bit.0 bits && ascend bits) e up
put_step false true k text bit bits e f up further =
    both (is_before bit.0 (insert_entry int_cmp bits k text)) (ascend (insert_entry int_cmp bits k text))
    (before bit.0 k text bits f (left (is_before bit.0 bits) (ascend bits) up)) (further (right (is_before bit.0 bits) (ascend bits) up))
put_step false false k text bit bits e f up further = up

put : (k : ℤ) (text : List ℕ) (bits : List (ℤ × List ℕ)) → ascend bits ≡ true → ascend (insert_entry int_cmp bits k text) ≡ true
put k text [] up = refl
put k text (bit ∷ bits) up = put_step (int_lt k bit.0) (int_lt bit.0 k) k text bit bits refl refl up (put k text bits)

one_step : (x : Bool) (s : Statement) (position : ℤ) (bits : List (ℤ × List ℕ)) → ascend bits ≡ true → ascend (cond x (insert_entry int_cmp bits position (name s)) bits) ≡ true
one_step true s position bits up = put position (name s) bits up
one_step false s position bits up = up

one_more : (stands : Statement → Bool) (bits : List (ℤ × List ℕ)) (s : Statement) (position : Option ℤ) → ascend bits ≡ true → ascend (with_bit stands bits (s, position)) ≡ true
one_more stands bits s None up = up
one_more stands bits s (Some position) up = one_step (stands s) s position bits up

all_more : (stands : Statement → Bool) (bits : List (ℤ × List ℕ)) (ps : List (Statement × Option ℤ)) → ascend bits ≡ true → ascend (with_bits stands bits ps) ≡ true
all_more stands bits [] up = up
all_more stands bits ((s, position) ∷ ps) up = all_more stands (with_bit stands bits (s, position)) ps (one_more stands bits s position up)

pub bits_ascend : (stands : Statement → Bool) (ss : List Statement) → ascend (with_bits stands [] (numbered Flags None ss)) ≡ true
bits_ascend stands ss = all_more stands [] (numbered Flags None ss) refl
