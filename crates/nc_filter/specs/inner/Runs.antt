-- Instances, the rows at and below them, and where content matches hold.
use Rattle.std.specs.Prelude.{◌≡◌, ◌==◌, ◌&&◌, ◌||◌, ℕ, Bool, false, cond, List, Option, None, [], map}
use Rattle.std.specs.Prelude.{slice_get, take}
use Rattle.std.specs.List.{All, list_any}
use Rattle.std.specs.Option.{option_map_or}
use Rattle.std.specs.BTreeMap.{BTreeMap, get}
use Rattle.std.specs.Cmp.Lexicographic.{slice_cmp}
use Rattle.std.specs.Ordering.{is_eq, nat_cmp}
use Rattle.nc_names.specs.Same.{is_same_text}
use Rattle.nc_names.specs.declared.path.Row.{Row}
use Rattle.nc_names.specs.declared.path.Step.{Step}
use Rattle.nc_message.specs.declared.tree.Elem.{Elem}
use Rattle.nc_schema.specs.Tables.{Tables}
use Rattle.nc_filter.specs.inner.Instances.{asked_in, instance_keys}
use Rattle.nc_filter.specs.inner.Keys.{among, has_all}
use Rattle.nc_filter.specs.inner.Lists.{any_numbered}
use Rattle.nc_filter.specs.inner.Sets.{bit_of, has}
use Rattle.nc_filter.specs.inner.Tables.{has_text}
use Rattle.nc_filter.specs.declared.members.Members.{Members}
use Rattle.nc_filter.specs.declared.groups.Reached.{Reached}
use Rattle.nc_filter.specs.declared.groups.Reached.TheVariants.{Few, Bits}
use Rattle.nc_filter.specs.declared.runs.Run.{Run}
use Rattle.nc_filter.specs.declared.guards.Class.{Class}
use Rattle.nc_filter.specs.declared.groups.Group.{Group}
use Rattle.nc_filter.specs.declared.rows.Spot.{Spot}
use Rattle.nc_filter.specs.declared.wants.Want.{Want}

-- the runs are those of the rows: each row is in one whose instance is at that depth above it, below the instance
-- whose number the row has
abbrev pub AreRuns : ℕ → List Spot → List Run → Type 0
AreRuns depth spots runs = (f : ℕ → List Step → Row → Bool) →
    list_any (λ run. list_any (f run.parent run.above.now) (map (λ row. row.now) run.rows)) runs
    ≡ list_any (λ spot. f spot.number (take depth spot.row.now.path.steps) spot.row.now) spots

-- an instance has a key
abbrev pub has_key : Tables → List Row → Option ℕ → Run → List ℕ → Bool
has_key tables all upper run wanted = among (instance_keys tables all upper run.above.now) wanted

-- a run has the keys of its instance
abbrev pub IsKnown : Tables → List Row → Option ℕ → Run → Type 0
IsKnown tables all upper run = (wanted : List ℕ) → has_text run.keys wanted ≡ has_key tables all upper run wanted

-- each of some runs has the keys of its instance
abbrev pub AreKnown : Tables → List Row → Option ℕ → List Run → Type 0
AreKnown tables all upper runs = All (IsKnown tables all upper) runs

-- lists of numbers by keys
abbrev pub Slots : Type 0
Slots = BTreeMap (List ℕ) (List ℕ)

-- the numbers in the list at a key
abbrev pub in_slot : Slots → List ℕ → List ℕ
in_slot items wanted = option_map_or (λ numbers. numbers) (get (slice_cmp nat_cmp) items wanted) []

-- there is no list at a key, and at the others what there was
abbrev pub without_slot : List ℕ → Slots → Slots → Type 0
without_slot gone before now =
    (other : List ℕ) → get (slice_cmp nat_cmp) now other
    ≡ cond (is_eq (slice_cmp nat_cmp gone other)) None (get (slice_cmp nat_cmp) before other)

-- at each key for which a test says so, a number more
abbrev pub Puts : Slots → Slots → (List ℕ → Bool) → ℕ → Type 0
Puts before now here number = (other : List ℕ) (test : ℕ → Bool) →
    list_any test (in_slot now other) ≡ (list_any test (in_slot before other) || (here other && test number))

-- in the lists, at one key a number more
abbrev pub adds_key : Slots → Slots → List ℕ → ℕ → Type 0
adds_key before now wanted number = Puts before now (is_same_text wanted) number

-- in the lists, at each of some keys a number more
abbrev pub adds_keys : Slots → Slots → List (List ℕ) → ℕ → Type 0
adds_keys before now keys number = Puts before now (among keys) number

-- a test of the instance of a number in a list
abbrev pub at_number : List Run → (Run → Bool) → ℕ → Bool
at_number whole test number = option_map_or test (slice_get whole number) false

-- sets of numbers by keys
abbrev pub Keyed : Type 0
Keyed = BTreeMap (List ℕ) Members

-- a number is in the set at a key
abbrev pub has_at : Keyed → List ℕ → ℕ → Bool
has_at items wanted n = option_map_or (λ members. has members n) (get (slice_cmp nat_cmp) items wanted) false

-- there is no set at a key, and at the others what there was
abbrev pub without_members : List ℕ → Keyed → Keyed → Type 0
without_members gone before now =
    (other : List ℕ) → get (slice_cmp nat_cmp) now other
    ≡ cond (is_eq (slice_cmp nat_cmp gone other)) None (get (slice_cmp nat_cmp) before other)

-- at each key for which a test says so, a number more
abbrev pub Marks : Keyed → Keyed → (List ℕ → Bool) → ℕ → Type 0
Marks before now here number =
    (other : List ℕ) (n : ℕ) → has_at now other n ≡ (has_at before other n || (here other && (number == n)))

-- in the sets, at one key a number more
abbrev pub marks_key : Keyed → Keyed → List ℕ → ℕ → Type 0
marks_key before now wanted number = Marks before now (is_same_text wanted) number

-- in the sets, at each of some keys a number more
abbrev pub marks_keys : Keyed → Keyed → List (List ℕ) → ℕ → Type 0
marks_keys before now keys number = Marks before now (among keys) number

-- the table has the numbers of these instances in a list, by their keys
abbrev pub IsTable : Tables → List Row → Option ℕ → Keyed → List Run → Type 0
IsTable tables all upper items runs =
    (wanted : List ℕ) (n : ℕ) → has_at items wanted n ≡ at_number runs (λ run. has_key tables all upper run wanted) n

-- the table has their numbers by the keys that they have
abbrev pub IsKeyed : Keyed → List Run → Type 0
IsKeyed items runs =
    (wanted : List ℕ) (n : ℕ) → has_at items wanted n ≡ at_number runs (λ run. has_text run.keys wanted) n

-- a number has each of some keys
abbrev pub has_keys : Keyed → List (List ℕ) → ℕ → Bool
has_keys items keys n = has_all (λ wanted. has_at items wanted n) keys

-- an instance has each of some keys
abbrev pub holds_in : List (List ℕ) → Run → Bool
holds_in keys run = has_all (λ wanted. has_text run.keys wanted) keys

-- bits are the numbers of those instances that pass a test
abbrev pub IsFrom : List Run → (Run → Bool) → List ℕ → Type 0
IsFrom whole here from = (n : ℕ) → bit_of from n ≡ at_number whole here n

-- a list has the numbers of those instances that pass a test
abbrev pub AreNumbered : List Run → (Run → Bool) → List ℕ → Type 0
AreNumbered whole here numbers = (n : ℕ) → list_any (λ one. one == n) numbers ≡ at_number whole here n

-- those numbers in one of the two forms: as a list, or as bits
abbrev pub AreReached : List Run → (Run → Bool) → Reached → Type 0
AreReached whole here (Few numbers) = AreNumbered whole here numbers
AreReached whole here (Bits words) = IsFrom whole here words

-- a number is among bits, and its instance has each of some keys
abbrev pub is_held : List (List ℕ) → List Run → List ℕ → ℕ → Bool
is_held keys whole from n = bit_of from n && at_number whole (holds_in keys) n

-- of some numbers, those that pass a test
abbrev pub AreOf : (ℕ → Bool) → List ℕ → List ℕ → Type 0
AreOf passes some numbers =
    (test : ℕ → Bool) → list_any test numbers ≡ list_any (λ n. passes n && test n) some

-- of the instances that pass a test, those that have each of some keys: by a set of their numbers, and by a list
abbrev pub AreHeld : List (List ℕ) → List Run → (Run → Bool) → Members → Type 0
AreHeld keys whole here members = (n : ℕ) → has members n ≡ at_number whole (λ run. here run && holds_in keys run) n

-- the same, by a list of their numbers
abbrev pub AreListed : List (List ℕ) → List Run → (Run → Bool) → List ℕ → Type 0
AreListed keys whole here numbers = AreNumbered whole (λ run. here run && holds_in keys run) numbers

-- what a class of elements says, each by a test, in an instance with these keys
abbrev pub class_says : (List ℕ → Bool) → (Elem → Bool) → Class → Bool
class_says has test class = has_all has class.keys && list_any test (map (λ elem. elem.now) class.elems)

-- what an element says, by a test, in an instance with these keys: nothing, unless all that it asks for is there
abbrev pub elem_says : Option ℕ → (List ℕ → Bool) → (Elem → Bool) → Elem → Bool
elem_says upper has test elem = has_all has (asked_in upper elem) && test elem

-- a class says what one element says
abbrev pub IsClass : Option ℕ → Class → Elem → Type 0
IsClass upper class elem =
    (has : List ℕ → Bool) (test : Elem → Bool) → class_says has test class ≡ elem_says upper has test elem

-- one of some classes says what one of some elements says
abbrev pub AreClasses : Option ℕ → List Elem → List Class → Type 0
AreClasses upper elems classes = (has : List ℕ → Bool) (test : Elem → Bool) →
    list_any (class_says has test) classes ≡ list_any (elem_says upper has test) elems

-- what a class says is added, in a class more or in another class
abbrev pub AddsClass : List Class → List Class → Class → Type 0
AddsClass before now class = (has : List ℕ → Bool) (test : Elem → Bool) →
    list_any (class_says has test) now ≡ (list_any (class_says has test) before || class_says has test class)

-- what a class says of those instances that pass a test and in which its keys are
abbrev pub class_tells : List Run → (Run → Bool) → (Run → Elem → Bool) → Class → Bool
class_tells whole here test class =
    list_any (λ run. here run && class_says (λ wanted. has_text run.keys wanted) (test run) class) whole

-- what a group of elements says of its instances
abbrev pub group_tells : List Run → (Run → Elem → Bool) → Group → Bool
group_tells whole test group =
    any_numbered (λ n run. has group.members n && list_any (test run) (map (λ elem. elem.now) group.elems)) whole

-- what the elements of a want say of the instances below its own
abbrev pub want_tells : List Run → Option ℕ → (Run → Elem → Bool) → Want → Bool
want_tells whole upper test want =
    list_any (λ run. has want.members run.parent &&
    list_any (elem_says upper (λ wanted. has_text run.keys wanted) (test run)) (map (λ elem. elem.now) want.elems))
    whole

-- what a want says is added to what the groups say
abbrev pub AddsWant : List Run → Option ℕ → Want → List Group → List Group → Type 0
AddsWant whole upper want before now = (test : Run → Elem → Bool) →
    list_any (group_tells whole test) now
    ≡ (list_any (group_tells whole test) before || want_tells whole upper test want)

-- the groups say what the wants say
abbrev pub AreGroups : List Run → Option ℕ → List Want → List Group → Type 0
AreGroups whole upper wants groups = (test : Run → Elem → Bool) →
    list_any (group_tells whole test) groups ≡ list_any (want_tells whole upper test) wants

-- what a group says is added, in a group more or in another group
abbrev pub AddsGroup : List Run → List Group → List Group → Group → Type 0
AddsGroup whole before now group = (test : Run → Elem → Bool) →
    list_any (group_tells whole test) now ≡ (list_any (group_tells whole test) before || group_tells whole test group)

-- what classes say is added
abbrev pub AddsGroups : List Run → (Run → Bool) → List Class → List Group → List Group → Type 0
AddsGroups whole here classes before now = (test : Run → Elem → Bool) →
    list_any (group_tells whole test) now
    ≡ (list_any (group_tells whole test) before || list_any (class_tells whole here test) classes)

-- groups say what others said
abbrev pub AreSameGroups : List Group → List Group → Type 0
AreSameGroups before now = (whole : List Run) (test : Run → Elem → Bool) →
    list_any (group_tells whole test) now ≡ list_any (group_tells whole test) before

-- a number is added, or not
abbrev pub AddsIf : Bool → ℕ → List ℕ → List ℕ → Type 0
AddsIf passes number before now = (test : ℕ → Bool) →
    list_any test now ≡ (list_any test before || (passes && test number))

-- a group says what a class says of those instances that pass a test
abbrev pub IsGroup : List Run → (Run → Bool) → Group → Class → Type 0
IsGroup whole here group class =
    (test : Run → Elem → Bool) → group_tells whole test group ≡ class_tells whole here test class

-- what a group selects in its instances, by what its elements say of rows there and by a test of rows
abbrev pub told_in : (Row → Elem → Bool) → List Run → (Row → Bool) → Group → Bool
told_in says whole test group = any_numbered
    (λ n run. has group.members n && list_any
    (λ row. list_any (says row) (map (λ elem. elem.now) group.elems) && test row)
    (map (λ row. row.now) run.rows)) whole
