-- Instances by those in which they stand, and those that a set of them reaches.
use Rattle.std.proofs.Common.{◌≡◌, ◌==◌, ◌&&◌, ◌||◌, ◌+◌, ◌<◌, ◌≤◌, ℕ, Bool, true, false, cond, List, [], ◌∷◌, ◌++◌, None, Some, length, take, get_or, refl, sym, ap, ◌∙◌}
use Rattle.std.specs.Prelude.{Option, slice_get}
use Rattle.std.specs.BTreeMap.{get}
use Rattle.std.specs.Cmp.{unsigned_tied}
use Rattle.std.specs.List.{list_any}
use Rattle.std.specs.Option.{option_map_or}
use Rattle.std.specs.Ordering.{is_eq, nat_cmp}
use Rattle.std.proofs.lemmas.Bool.Decides.{Decides-eqb}
use Rattle.std.proofs.lemmas.List.Folds.{list_any-append}
use Rattle.nc_filter.specs.declared.members.Members.{Members}
use Rattle.nc_filter.specs.declared.runs.Run.{Run}
use Rattle.nc_filter.specs.inner.Below.{AddsInside, AreInsides, Insides, in_number, without_number}
use Rattle.nc_filter.specs.inner.Runs.{at_number}
use Rattle.nc_filter.specs.inner.Sets.{bit_of, has}
use Rattle.nc_filter.proofs.BitLemmas.{empty_bits}
use Rattle.nc_filter.proofs.NumberLemmas.{at_more, turned}
use Rattle.nc_filter.proofs.TableLemmas.{taken_all}
use Rattle.nc_filter.proofs.Unions.{any_nothing, any_same, or_false}

-- ---- a table with a number more
pub inside_put : (before gone now : Insides) (parent number : ℕ) → without_number parent before gone →
    ((other : ℕ) → get nat_cmp now other ≡ cond (is_eq (nat_cmp parent other)) (Some (in_number before parent ++ number ∷ [])) (get nat_cmp gone other)) →
    AddsInside before now parent number
inside_put before gone now parent number taken put other n = by (other == parent) refl
  where
    looked : (b : Bool) → (other == parent) ≡ b → get nat_cmp now other ≡ cond b (Some (in_number before parent ++ number ∷ [])) (cond b None (get nat_cmp before other))
    looked b e =
        let is : is_eq (nat_cmp parent other) ≡ b = unsigned_tied parent other ∙ turned parent other ∙ e in
        put other ∙ (λ i. cond (is i) (Some (in_number before parent ++ number ∷ [])) (get nat_cmp gone other))
        ∙ ap (λ (o : Option (List ℕ)). cond b (Some (in_number before parent ++ number ∷ [])) o) (taken other ∙ (λ i. cond (is i) None (get nat_cmp before other)))

    by : (b : Bool) → (other == parent) ≡ b → list_any (λ one. one == n) (in_number now other) ≡ (list_any (λ one. one == n) (in_number before other) || ((other == parent) && (number == n)))
    by true e =
        ap (λ (o : Option (List ℕ)). list_any (λ one. one == n) (option_map_or (λ numbers. numbers) o [])) (looked true e)
        ∙ list_any-append (λ one. one == n) (in_number before parent) (number ∷ [])
        ∙ ap (λ b. list_any (λ one. one == n) (in_number before parent) || b) (or_false (number == n))
        ∙ (λ i. list_any (λ one. one == n) (in_number before (sym ((Decides-eqb other parent).0 e) i)) || (sym e i && (number == n)))
    by false e =
        ap (λ (o : Option (List ℕ)). list_any (λ one. one == n) (option_map_or (λ numbers. numbers) o [])) (looked false e)
        ∙ sym (ap (λ b. list_any (λ one. one == n) (in_number before other) || (b && (number == n))) e ∙ or_false (list_any (λ one. one == n) (in_number before other)))

pub inside_more : (whole : List Run) (before now : Insides) (i number : ℕ) (run : Run) → i < length whole → run ≡ get_or whole i run → number ≡ i → AddsInside before now run.parent number →
    AreInsides (take i whole) before → AreInsides (take (i + 1) whole) now
inside_more whole before now i number run within is same adds so_far parent n =
    adds parent n ∙ (λ k. so_far parent n k || ((parent == run.parent) && (same k == n))) ∙ sym (at_more whole run (λ run. parent == run.parent) i n within is)

pub none_inside : (whole : List Run) (items : Insides) → ((other : ℕ) → get nat_cmp items other ≡ None) → AreInsides (take 0 whole) items
none_inside whole items none parent n = ap (λ (o : Option (List ℕ)). list_any (λ one. one == n) (option_map_or (λ numbers. numbers) o [])) (none parent)

pub all_there : (whole : List Run) (items : Insides) (i : ℕ) → length whole ≤ i → AreInsides (take i whole) items → AreInsides whole items
all_there whole items i past are parent n = are parent n ∙ ap (λ (runs : List Run). at_number runs (λ run. parent == run.parent) n) (taken_all whole i past)

-- ---- the instances in some of others
pub inside_any : (whole : List Run) (items : Insides) (parents : List ℕ) (n : ℕ) → AreInsides whole items →
    list_any (λ parent. list_any (λ one. one == n) (in_number items parent)) parents ≡ at_number whole (λ run. list_any (λ one. one == run.parent) parents) n
inside_any whole items parents n are =
    any_same (λ parent. list_any (λ one. one == n) (in_number items parent)) (λ parent. at_number whole (λ run. parent == run.parent) n) parents (λ parent. are parent n)
    ∙ by (slice_get whole n)
  where
    by : (o : Option Run) → list_any (λ parent. option_map_or (λ run. parent == run.parent) o false) parents ≡ option_map_or (λ run. list_any (λ one. one == run.parent) parents) o false
    by None = any_nothing parents
    by (Some run) = refl

-- ---- a set without bits
pub list_alone : (members : Members) (n : ℕ) → members.words ≡ [] → has members n ≡ list_any (λ one. one == n) members.few
list_alone members n none =
    ap (λ (words : List ℕ). list_any (λ one. one == n) members.few || bit_of words n) none
    ∙ ap (λ b. list_any (λ one. one == n) members.few || b) (empty_bits n) ∙ or_false (list_any (λ one. one == n) members.few)

pub at_list : (whole : List Run) (members : Members) (n : ℕ) → members.words ≡ [] →
    at_number whole (λ run. list_any (λ one. one == run.parent) members.few) n ≡ at_number whole (λ run. has members run.parent) n
at_list whole members n none = by (slice_get whole n)
  where
    by : (o : Option Run) → option_map_or (λ run. list_any (λ one. one == run.parent) members.few) o false ≡ option_map_or (λ run. has members run.parent) o false
    by None = refl
    by (Some run) = sym (list_alone members run.parent none)
