-- Sets of the numbers of instances by keys, and the instances in which keys are.
use Rattle.std.proofs.Common.{◌≡◌, ◌==◌, ◌&&◌, ◌||◌, ◌+◌, ◌/◌, ◌<◌, ◌≤◌, ℕ, zero, suc, Bool, true, false, not, cond, List, [], ◌∷◌, None, Some, length, take, get_or, refl, sym, ap, subst, ◌∙◌, Bor, arith}
use Rattle.std.specs.Prelude.{IfSome, Option, map, slice_get}
use Rattle.std.specs.List.{list_all, list_any}
use Rattle.std.specs.Option.{option_map_or}
use Rattle.std.specs.BTreeMap.{get}
use Rattle.std.specs.Cmp.Lexicographic.{bytes_decides, slice_cmp}
use Rattle.std.specs.Ordering.{is_eq, nat_cmp}
use Rattle.std.proofs.lemmas.Bool.Decides.{Decides-eqb}
use Rattle.std.proofs.lemmas.List.Folds.{list_any_at, list_any_more}
use Rattle.nc_names.specs.Same.{is_same_text}
use Rattle.nc_names.specs.declared.path.Row.{Row}
use Rattle.nc_schema.specs.Tables.{Tables}
use Rattle.nc_filter.specs.declared.groups.Group.{Group}
use Rattle.nc_filter.specs.declared.guards.Class.{Class}
use Rattle.nc_filter.specs.declared.members.Members.{Members}
use Rattle.nc_filter.specs.declared.runs.Run.{Run}
use Rattle.nc_filter.specs.inner.Keys.{among, has_all}
use Rattle.nc_filter.specs.inner.Lists.{AddsOne, any_numbered}
use Rattle.nc_filter.specs.inner.Runs.{AddsIf, AreHeld, AreKnown, AreListed, AreNumbered, AreOf, IsFrom, IsGroup, IsKeyed, IsTable, Keyed, Marks, at_number, has_at, has_key, has_keys, holds_in, is_held, without_members}
use Rattle.nc_filter.specs.inner.Sets.{bit_of, has}
use Rattle.nc_filter.specs.inner.Tables.{has_text}
use Rattle.nc_filter.proofs.BitLemmas.{empty_bits, no_bit, nothing_at}
use Rattle.nc_filter.proofs.KeyLemmas.{first_of, second_of}
use Rattle.nc_filter.proofs.NumberLemmas.{any_equal, at_more, numbered_at}
use Rattle.nc_filter.proofs.TableLemmas.{eq_text, taken_all}
use Rattle.nc_filter.proofs.Unions.{and_assoc, and_swap, any_same, or_and, or_assoc, or_false}

-- ---- a table with a number more
pub member_put : (before gone now : Keyed) (wanted : List ℕ) (inside more : Members) (number : ℕ) → without_members wanted before gone →
    ((n : ℕ) → has inside n ≡ has_at before wanted n) → ((n : ℕ) → has more n ≡ (has inside n || (number == n))) →
    ((other : List ℕ) → get (slice_cmp nat_cmp) now other ≡ cond (is_eq (slice_cmp nat_cmp wanted other)) (Some more) (get (slice_cmp nat_cmp) gone other)) →
    Marks before now (is_same_text wanted) number
member_put before gone now wanted inside more number taken found added put other n = by (is_same_text wanted other) refl
  where
    looked : (b : Bool) → is_same_text wanted other ≡ b → get (slice_cmp nat_cmp) now other ≡ cond b (Some more) (cond b None (get (slice_cmp nat_cmp) before other))
    looked b e =
        let is : is_eq (slice_cmp nat_cmp wanted other) ≡ b = eq_text wanted other ∙ e in
        put other ∙ (λ i. cond (is i) (Some more) (get (slice_cmp nat_cmp) gone other))
        ∙ ap (λ (o : Option Members). cond b (Some more) o) (taken other ∙ (λ i. cond (is i) None (get (slice_cmp nat_cmp) before other)))

    by : (b : Bool) → is_same_text wanted other ≡ b → has_at now other n ≡ (has_at before other n || (is_same_text wanted other && (number == n)))
    by true e =
        ap (λ (o : Option Members). option_map_or (λ members. has members n) o false) (looked true e)
        ∙ added n
        ∙ ap (λ b. b || (number == n)) (found n)
        ∙ (λ i. has_at before ((bytes_decides wanted other).0 e i) n || (sym e i && (number == n)))
    by false e =
        ap (λ (o : Option Members). option_map_or (λ members. has members n) o false) (looked false e)
        ∙ sym (ap (λ b. has_at before other n || (b && (number == n))) e ∙ or_false (has_at before other n))

pub marks_then : (before mid now : Keyed) (p q : List ℕ → Bool) (number : ℕ) → Marks before mid p number → Marks mid now q number → Marks before now (λ other. p other || q other) number
marks_then before mid now p q number first second other n =
    second other n ∙ ap (λ b. b || (q other && (number == n))) (first other n)
    ∙ or_assoc (has_at before other n) (p other && (number == n)) (q other && (number == n))
    ∙ ap (λ b. has_at before other n || b) (sym (or_and (p other) (q other) (number == n)))

pub marks_none : (items : Keyed) (p : List ℕ → Bool) (number : ℕ) → ((other : List ℕ) → p other ≡ false) → Marks items items p number
marks_none items p number none other n = sym (ap (λ b. has_at items other n || (b && (number == n))) (none other) ∙ or_false (has_at items other n))

pub marks_same : (before now : Keyed) (p q : List ℕ → Bool) (number : ℕ) → ((other : List ℕ) → p other ≡ q other) → Marks before now p number → Marks before now q number
marks_same before now p q number same marks other n = marks other n ∙ ap (λ b. has_at before other n || (b && (number == n))) (same other)

pub keys_marked : (keys : List (List ℕ)) (i : ℕ) (key : List ℕ) (before mid now : Keyed) (number : ℕ) → i < length keys → key ≡ get_or keys i key →
    Marks before mid (among (take i keys)) number → Marks mid now (is_same_text key) number → Marks before now (among (take (i + 1) keys)) number
keys_marked keys i key before mid now number within is first second =
    marks_same before now (λ other. among (take i keys) other || is_same_text key other) (among (take (i + 1) keys)) number
    (λ other. ap (λ (one : List ℕ). among (take i keys) other || is_same_text one other) is ∙ sym (list_any_more (λ one. is_same_text one other) keys i key within))
    (marks_then before mid now (among (take i keys)) (is_same_text key) number first second)

pub run_marked : (tables : Tables) (all : List Row) (upper : Option ℕ) (before now : Keyed) (whole : List Run) (number : ℕ) (run : Run) → number < length whole → run ≡ get_or whole number run →
    IsTable tables all upper before (take number whole) → Marks before now (has_key tables all upper run) number → IsTable tables all upper now (take (number + 1) whole)
run_marked tables all upper before now whole number run within is table marks wanted n =
    marks wanted n ∙ ap (λ b. b || (has_key tables all upper run wanted && (number == n))) (table wanted n)
    ∙ sym (at_more whole run (λ run. has_key tables all upper run wanted) number n within is)

pub all_marked : (tables : Tables) (all : List Row) (upper : Option ℕ) (items : Keyed) (whole : List Run) (i : ℕ) → length whole ≤ i → IsTable tables all upper items (take i whole) → IsTable tables all upper items whole
all_marked tables all upper items whole i past table wanted n = table wanted n ∙ ap (λ (runs : List Run). at_number runs (λ run. has_key tables all upper run wanted) n) (taken_all whole i past)

-- the instances have the keys of the rows directly in them
pub keyed : (tables : Tables) (all : List Row) (upper : Option ℕ) (items : Keyed) (runs : List Run) → AreKnown tables all upper runs → IsTable tables all upper items runs → IsKeyed items runs
keyed tables all upper items runs known table wanted n = table wanted n ∙ same runs known n
  where
    same : (runs : List Run) → AreKnown tables all upper runs → (n : ℕ) → at_number runs (λ run. has_key tables all upper run wanted) n ≡ at_number runs (λ run. has_text run.keys wanted) n
    same [] known n = refl
    same (run ∷ runs) known zero = sym (known 0 run (omega arith) wanted)
    same (run ∷ runs) known (suc n) = same runs (λ k d within. known (suc k) d (omega (arith, within))) n

-- ---- few numbers
pub few_known : (members : Members) (o : Option (Bor (List ℕ))) → members.words ≡ [] → IfSome o (λ list. list.now ≡ members.few) →
    IfSome o (λ few. (n : ℕ) → list_any (λ one. one == n) few.now ≡ has members n)
few_known members None none is = tt
few_known members (Some few) none is = λ n.
    ap (λ (list : List ℕ). list_any (λ one. one == n) list) is
    ∙ sym (ap (λ (words : List ℕ). list_any (λ one. one == n) members.few || bit_of words n) none
    ∙ ap (λ b. list_any (λ one. one == n) members.few || b) (empty_bits n) ∙ or_false (list_any (λ one. one == n) members.few))

pub few_at : (items : Keyed) (key : List ℕ) (members : Members) (o : Option (Bor (List ℕ))) → ((n : ℕ) → has members n ≡ has_at items key n) →
    IfSome o (λ few. (n : ℕ) → list_any (λ one. one == n) few.now ≡ has members n) → IfSome o (λ few. (n : ℕ) → list_any (λ one. one == n) few.now ≡ has_at items key n)
few_at items key members None same is = tt
few_at items key members (Some few) same is = λ n. is n ∙ same n

-- ---- the instances in which keys are
pub number_added : (before now : List ℕ) (passes : Bool) (number : ℕ) → passes ≡ true → AddsOne before now number → AddsIf passes number before now
number_added before now passes number is adds test = adds test ∙ ap (λ b. list_any test before || (b && test number)) (sym is)

pub number_left : (before : List ℕ) (passes : Bool) (number : ℕ) → passes ≡ false → AddsIf passes number before before
number_left before passes number is test = sym (or_false (list_any test before)) ∙ ap (λ b. list_any test before || (b && test number)) (sym is)

pub of_more : (passes : ℕ → Bool) (some before now : List ℕ) (i number d : ℕ) (there : Bool) → i < length some → number ≡ get_or some i d → there ≡ passes number →
    AddsIf there number before now → AreOf passes (take i some) before → AreOf passes (take (i + 1) some) now
of_more passes some before now i number d there within is same adds so_far test =
    adds test
    ∙ (λ k. so_far test k || (same k && test number))
    ∙ ap (λ n. list_any (λ n. passes n && test n) (take i some) || (passes n && test n)) is
    ∙ sym (list_any_more (λ n. passes n && test n) some i d within)

pub of_all : (passes : ℕ → Bool) (some numbers : List ℕ) (i : ℕ) → length some ≤ i → AreOf passes (take i some) numbers → AreOf passes some numbers
of_all passes some numbers i past so_far test = so_far test ∙ ap (list_any (λ n. passes n && test n)) (taken_all some i past)

-- those of a list that have some keys
pub holding_listed : (keys : List (List ℕ)) (whole : List Run) (here : Run → Bool) (some found : List ℕ) → AreOf (at_number whole (holds_in keys)) some found → AreNumbered whole here some →
    AreListed keys whole here found
holding_listed keys whole here some found of_those are n =
    of_those (λ one. one == n)
    ∙ any_equal (at_number whole (holds_in keys)) n some
    ∙ ap (λ b. at_number whole (holds_in keys) n && b) (are n)
    ∙ by (slice_get whole n)
  where
    by : (o : Option Run) → (option_map_or (holds_in keys) o false && option_map_or here o false) ≡ option_map_or (λ run. here run && holds_in keys run) o false
    by None = refl
    by (Some run) = and_swap (holds_in keys run) (here run)

-- all keys are there, so one of them is
one_there : (keys : List (List ℕ)) (i : ℕ) (wanted : List ℕ) (has : List ℕ → Bool) → i < length keys → wanted ≡ get_or keys i wanted → has_all has keys ≡ true → has wanted ≡ true
one_there keys i wanted has within is every = by (has wanted) refl
  where
    by : (b : Bool) → has wanted ≡ b → has wanted ≡ true
    by true e = e
    by false e = let clash : true ≡ false = sym every ∙ ap not (list_any_at (λ key. not (has key)) keys i wanted within (ap (λ key. not (has key)) (sym is) ∙ ap not e)) in cc

pub listed : (keys : List (List ℕ)) (items : Keyed) (whole : List Run) (here : Run → Bool) (from some found : List ℕ) (i : ℕ) (wanted : List ℕ) → i < length keys → wanted ≡ get_or keys i wanted →
    ((n : ℕ) → list_any (λ one. one == n) some ≡ has_at items wanted n) → AreOf (is_held keys whole from) some found → IsFrom whole here from → IsKeyed items whole → AreListed keys whole here found
listed keys items whole here from some found i wanted within is few held among_those keys_are n =
    held (λ one. one == n)
    ∙ any_equal (is_held keys whole from) n some
    ∙ (λ k. (among_those n k && at_number whole (holds_in keys) n) && (few n ∙ keys_are wanted n) k)
    ∙ by (slice_get whole n)
  where
    at_run : (run : Run) (h b : Bool) → holds_in keys run ≡ b → ((h && b) && has_text run.keys wanted) ≡ (h && b)
    at_run run false b e = refl
    at_run run true false e = refl
    at_run run true true e = one_there keys i wanted (λ wanted. has_text run.keys wanted) within is e

    by : (o : Option Run) → ((option_map_or here o false && option_map_or (holds_in keys) o false) && option_map_or (λ run. has_text run.keys wanted) o false)
        ≡ option_map_or (λ run. here run && holds_in keys run) o false
    by None = refl
    by (Some run) = at_run run (here run) (holds_in keys run) refl

not_or : (a b : Bool) → not (a || not b) ≡ (not a && b)
not_or true b = refl
not_or false true = refl
not_or false false = refl

pub keys_met : (items : Keyed) (keys : List (List ℕ)) (i : ℕ) (key : List ℕ) (from before now : List ℕ) → i < length keys → key ≡ get_or keys i key →
    ((n : ℕ) → bit_of now n ≡ (bit_of before n && has_at items key n)) → ((n : ℕ) → bit_of before n ≡ (bit_of from n && has_keys items (take i keys) n)) →
    (n : ℕ) → bit_of now n ≡ (bit_of from n && has_keys items (take (i + 1) keys) n)
keys_met items keys i key from before now within is step so_far n =
    step n
    ∙ (λ k. so_far n k && has_at items (is k) n)
    ∙ and_assoc (bit_of from n) (has_keys items (take i keys) n) (has_at items (get_or keys i key) n)
    ∙ ap (λ b. bit_of from n && b)
    (sym (ap not (list_any_more (λ key. not (has_at items key n)) keys i key within)
    ∙ not_or (list_any (λ key. not (has_at items key n)) (take i keys)) (has_at items (get_or keys i key) n)))

pub keys_held : (keys : List (List ℕ)) (items : Keyed) (whole : List Run) (here : Run → Bool) (from : List ℕ) (members : Members) →
    ((n : ℕ) → has members n ≡ (bit_of from n && has_keys items keys n)) → IsFrom whole here from → IsKeyed items whole → AreHeld keys whole here members
keys_held keys items whole here from members are among_those keys_are n =
    are n
    ∙ (λ k. among_those n k && has_all (λ wanted. keys_are wanted n k) keys)
    ∙ by (slice_get whole n)
  where
    by : (o : Option Run) → (option_map_or here o false && has_all (λ wanted. option_map_or (λ run. has_text run.keys wanted) o false) keys)
        ≡ option_map_or (λ run. here run && holds_in keys run) o false
    by None = refl
    by (Some run) = refl

pub group_is : (whole : List Run) (here : Run → Bool) (group : Group) (class : Class) → group.elems ≡ class.elems → AreHeld class.keys whole here group.members → IsGroup whole here group class
group_is whole here group class elems held test =
    (λ i. any_numbered (λ n run. held n i && list_any (test run) (map (λ elem. elem.now) (elems i))) whole)
    ∙ numbered_at whole (λ run. here run && holds_in class.keys run) says
    ∙ any_same (λ run. (here run && holds_in class.keys run) && says run) (λ run. here run && (holds_in class.keys run && says run)) whole (λ run. and_assoc (here run) (holds_in class.keys run) (says run))
  where
    says : Run → Bool
    says run = list_any (test run) (map (λ elem. elem.now) class.elems)

-- the numbers of the instances whose parents are in a set
pub run_reached : (members : Members) (whole : List Run) (before now : List ℕ) (i number : ℕ) (run : Run) → i < length whole → run ≡ get_or whole i run → number ≡ i →
    ((n : ℕ) → bit_of now n ≡ (bit_of before n || (has members run.parent && (number == n)))) → IsFrom (take i whole) (λ run. has members run.parent) before →
    IsFrom (take (i + 1) whole) (λ run. has members run.parent) now
run_reached members whole before now i number run within is same put so_far n =
    put n ∙ (λ k. so_far n k || (has members run.parent && (same k == n))) ∙ sym (at_more whole run (λ run. has members run.parent) i n within is)

pub here_put : (words now : List ℕ) (here : Bool) (number : ℕ) (test : Bool) → test ≡ here → test ≡ true → ((n : ℕ) → bit_of now n ≡ (bit_of words n || (number == n))) →
    (n : ℕ) → bit_of now n ≡ (bit_of words n || (here && (number == n)))
here_put words now here number test is e put n = put n ∙ ap (λ b. bit_of words n || (b && (number == n))) (sym e ∙ is)

pub not_here : (words : List ℕ) (here : Bool) (number : ℕ) (test : Bool) → test ≡ here → test ≡ false → (n : ℕ) → bit_of words n ≡ (bit_of words n || (here && (number == n)))
not_here words here number test is e n = sym (or_false (bit_of words n)) ∙ ap (λ b. bit_of words n || (b && (number == n))) (sym e ∙ is)

-- ---- no number
zero_words : (words : List ℕ) (i : ℕ) → list_all (λ word. word == 0) words ≡ true → get_or words i 0 ≡ 0
zero_words [] i e = nothing_at i
zero_words (word ∷ words) zero e = (Decides-eqb word 0).0 (first_of (word == 0) (list_all (λ word. word == 0) words) e)
zero_words (word ∷ words) (suc i) e = zero_words words i (second_of (word == 0) (list_all (λ word. word == 0) words) e)

pub none_of : (members : Members) (words : List ℕ) (n : ℕ) → members.few ≡ [] → words ≡ members.words → list_all (λ word. word == 0) words ≡ true → has members n ≡ false
none_of members words n none is zeros =
    ap (λ (few : List ℕ). list_any (λ one. one == n) few || bit_of members.words n) none
    ∙ ap (λ (list : List ℕ). bit_of list n) (sym is) ∙ no_bit words n (zero_words words (n / 64) zeros)

pub and_true : (b : Bool) → (b && true) ≡ b
and_true true = refl
and_true false = refl

pub none_reached : (members : Members) (whole : List Run) (words : List ℕ) → words ≡ [] → IsFrom (take 0 whole) (λ run. has members run.parent) words
none_reached members whole words none n = ap (λ (list : List ℕ). bit_of list n) none ∙ empty_bits n

pub all_reached : (members : Members) (whole : List Run) (words : List ℕ) (i : ℕ) → length whole ≤ i → IsFrom (take i whole) (λ run. has members run.parent) words →
    IsFrom whole (λ run. has members run.parent) words
all_reached members whole words i past so_far n = so_far n ∙ ap (λ (runs : List Run). at_number runs (λ run. has members run.parent) n) (taken_all whole i past)

pub listed_some : (keys : List (List ℕ)) (items : Keyed) (whole : List Run) (from : List ℕ) (o : Option (List ℕ)) (numbers : List ℕ) → o ≡ Some numbers →
    IfSome o (λ it. (here : Run → Bool) → IsFrom whole here from → IsKeyed items whole → AreListed keys whole here it) →
    (here : Run → Bool) → IsFrom whole here from → IsKeyed items whole → AreListed keys whole here numbers
listed_some keys items whole from o numbers is known =
    subst (λ (o : Option (List ℕ)). IfSome o (λ it. (here : Run → Bool) → IsFrom whole here from → IsKeyed items whole → AreListed keys whole here it)) is known
