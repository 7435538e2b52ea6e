-- Rows are found in the bytes of their records, one after another.
use Rattle.std.proofs.Common.{◌≡◌, ◌∙◌, ◌<◌, ◌≤◌, ◌+◌, ◌^◌, ◌++◌, ap, sym, subst, refl, ℕ, zero, suc, Bool, true, false, List, [], ◌∷◌, length, take, drop, map, Option, Some, None, Result, Ok, Err, arith}
use Rattle.std.specs.Prelude.{◌==◌, IsUtf8}
use Rattle.std.specs.List.{All, flat_map}
use Rattle.std.proofs.lemmas.Bool.{eqb-true}
use Rattle.std.proofs.lemmas.List.{append-nil, append_assoc, drop_at, length-drop, length-take-le, take_at}
use Rattle.nc_names.specs.declared.path.Row.{Row}
use Rattle.nc_schema.specs.Record.{in_four_bytes, last_node, row_record, value_bytes}
use Rattle.nc_record.specs.declared.fault.RecordFault.{RecordFault}
use Rattle.nc_record.specs.declared.fault.RecordFault.TheVariants.{Unreadable, Memory}
use Rattle.nc_record.specs.declared.spelled.Spelled.{Spelled}
use Rattle.nc_record.specs.inner.Given.{FitsRecord, Gives, IsFound, spelled_of}

-- ---- faults and tests
pub gives_err : {A B : Type 0} (P : A → Type 0) (Q : B → Type 0) (fault : RecordFault) → Gives P (Err fault) → Gives Q (Err fault)
gives_err P Q Unreadable it = it
gives_err P Q Memory it = tt

pub some_left : {X : Type 0} (xs : List X) (b : Bool) → b ≡ (length xs == 0) → b ≡ false → 0 < length xs
some_left [] b is e = let clash : false ≡ true = sym e ∙ is in cc
some_left (x ∷ xs) b is e = omega arith

pub none_left : {X : Type 0} (xs : List X) (b : Bool) → b ≡ (length xs == 0) → b ≡ true → xs ≡ []
none_left [] b is e = refl
none_left (x ∷ xs) b is e = absurd (let none : length (x ∷ xs) ≡ 0 = eqb-true (length (x ∷ xs)) 0 (sym is ∙ e) in omega (arith, none))

-- ---- the bytes of one row
-- what follows the number of its data node, and the length of its value
pub after_node : (row : Row) (bytes more : List ℕ) → bytes ≡ row_record row ++ more → drop 4 bytes ≡ in_four_bytes (length (value_bytes row)) ++ (value_bytes row ++ more)
after_node row bytes more is = ap (drop 4) is

pub after_size : (row : Row) (bytes more : List ℕ) → bytes ≡ in_four_bytes (length (value_bytes row)) ++ (value_bytes row ++ more) → drop 4 bytes ≡ value_bytes row ++ more
after_size row bytes more is = ap (drop 4) is

pub value_front : (row : Row) (bytes more : List ℕ) (size : ℕ) → bytes ≡ value_bytes row ++ more → size ≡ length (value_bytes row) → take size bytes ≡ value_bytes row
value_front row bytes more size is same = ap (take size) is ∙ take_at (value_bytes row) more size (sym same)

-- a row has at least the bytes of its head and its value
pub within_bytes : (bytes second rest front value : List ℕ) (size : ℕ) → second ≡ drop 4 bytes → rest ≡ drop 4 second → front ≡ take size rest → value ≡ front → 4 ≤ length bytes → 4 ≤ length second → size ≤ length rest →
    8 + length value ≤ length bytes
within_bytes bytes second rest front value size second_is rest_is front_is value_is one two three =
    let a = ap length second_is ∙ length-drop 4 bytes in
    let b = ap length rest_is ∙ length-drop 4 second in
    let d = ap length value_is ∙ ap length front_is ∙ length-take-le size rest three in
    omega (arith, a, b, d, one, two, three)

record_size_is : (row : Row) → length (row_record row) ≡ 8 + length (value_bytes row)
record_size_is row = omega arith

-- ---- the rows that are left
pub record IsNextFound (nodes : ℕ) (rows : List Row) (found : List Spelled) (rest : List ℕ) : Type 0 where
  pub row : Row
  pub more : List Row
  pub fits : FitsRecord nodes row
  pub others : All (FitsRecord nodes) more
  pub is : rest ≡ row_record row ++ flat_map row_record more
  pub same : map spelled_of rows ≡ found ++ spelled_of row ∷ map spelled_of more

pub next_found : (nodes : ℕ) (rows : List Row) (found : List Spelled) (rest : List ℕ) → 0 < length rest → IsFound nodes rows found rest → IsNextFound nodes rows found rest
next_found nodes rows found rest some it = by it.more it.same it.fit it.left
  where
    by : (more : List Row) → map spelled_of rows ≡ found ++ map spelled_of more → All (FitsRecord nodes) more → rest ≡ flat_map row_record more → IsNextFound nodes rows found rest
    by [] same fit left = absurd (let none : length rest ≡ 0 = ap length left in omega (arith, none, some))
    by (row ∷ more) same fit left = record {
      row = row;
      more = more;
      fits = fit 0 row (omega arith);
      others = λ k d less. fit (suc k) d (omega (arith, less));
      is = left;
      same = same;
    }

pub found_more : (nodes : ℕ) (rows : List Row) (found : List Spelled) (rest next : List ℕ) (made : Spelled) (it : IsNextFound nodes rows found rest) → made ≡ spelled_of it.row → next ≡ drop (8 + length made.value) rest →
    IsFound nodes rows (found ++ made ∷ []) next
found_more nodes rows found rest next made it is next_is = record {
  more = it.more;
  same = it.same ∙ ap (λ r. found ++ r ∷ map spelled_of it.more) (sym is) ∙ sym (append_assoc found (made ∷ []) (map spelled_of it.more));
  fit = it.others;
  left =
      let size : length (row_record it.row) ≡ 8 + length made.value = record_size_is it.row ∙ ap (λ (s : Spelled). 8 + length s.value) (sym is) in
      next_is ∙ ap (drop (8 + length made.value)) it.is ∙ drop_at (row_record it.row) (flat_map row_record it.more) (8 + length made.value) size;
}

pub found_all : (nodes : ℕ) (rows : List Row) (found : List Spelled) (rest : List ℕ) → rest ≡ [] → IsFound nodes rows found rest → found ≡ map spelled_of rows
found_all nodes rows found rest none it = by it.more it.same it.left
  where
    by : (more : List Row) → map spelled_of rows ≡ found ++ map spelled_of more → rest ≡ flat_map row_record more → found ≡ map spelled_of rows
    by [] same left = sym (same ∙ append-nil found)
    by (row ∷ more) same left = absurd (let wrong : [] ≡ row_record row ++ flat_map row_record more = sym none ∙ left in cc)
