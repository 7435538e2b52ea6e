-- Rows and groups by their labels.
use Rattle.std.proofs.Common.{◌≡◌, ◌&&◌, ◌||◌, ◌+◌, ◌<◌, ◌≤◌, ℕ, Bool, true, false, List, [], ◌∷◌, ◌++◌, Some, length, take, get_or, refl, sym, ap, ◌∙◌, if◌then◌else◌, Bor}
use Rattle.std.specs.Prelude.{Option, map, slice_get}
use Rattle.std.specs.List.{list_any}
use Rattle.std.specs.Option.{option_map_or}
use Rattle.std.proofs.lemmas.List.{take_more}
use Rattle.std.proofs.lemmas.List.Folds.{list_any-append, list_any_more}
use Rattle.nc_names.specs.declared.path.Row.{Row}
use Rattle.nc_message.specs.declared.tree.Elem.{Elem}
use Rattle.nc_filter.specs.declared.groups.Group.{Group}
use Rattle.nc_filter.specs.declared.members.Members.{Members}
use Rattle.nc_filter.specs.declared.runs.Run.{Run}
use Rattle.nc_filter.specs.declared.rows.Spot.{Spot}
use Rattle.nc_filter.specs.declared.wants.Want.{Want}
use Rattle.nc_filter.specs.inner.Labels.{AreFirst, AreHeldIn, AreSlots, AreSpots, AreSpotsIn, IsUnion, IsWant, at, below_of, group_labels, group_wants, label_picks, spot_has, want_has, want_wants}
use Rattle.nc_filter.specs.inner.Lists.{any_numbered}
use Rattle.nc_filter.specs.inner.Runs.{Puts, Slots, in_slot}
use Rattle.nc_filter.specs.inner.Sets.{bit_of, has}
use Rattle.nc_schema.specs.Tables.{Tables}
use Rattle.nc_filter.proofs.NumberLemmas.{numbered_more, numbered_turned}
use Rattle.nc_filter.proofs.TableLemmas.{get_at, map_taken, none_at, taken_all}
use Rattle.nc_filter.proofs.Unions.{and_false, any_and, any_nothing, any_same, any_turned, no_more, or_assoc, or_false}

-- ---- tables of numbers
pub slots_put : {X : Type 0} (has : X → List ℕ → Bool) (before now : Slots) (whole : List X) (number : ℕ) (x : X) → number < length whole → x ≡ get_or whole number x →
    AreSlots has before whole (take number whole) → Puts before now (has x) number → AreSlots has now whole (take (number + 1) whole)
slots_put {X} has before now whole number x within is table puts wanted test =
    puts wanted (at whole test)
    ∙ (λ i. table wanted test i || (has x wanted && option_map_or test (there i) false))
    ∙ ap (λ b. list_any f (take number whole) || b) (sym (or_false (f x)))
    ∙ sym (list_any-append f (take number whole) (x ∷ []))
    ∙ ap (list_any f) (sym (take_more whole number x within ∙ ap (λ (one : X). take number whole ++ one ∷ []) (sym is)))
  where
    f : X → Bool
    f x = has x wanted && test x

    there : slice_get whole number ≡ Some x
    there = get_at whole number x within ∙ ap Some (sym is)

pub slots_done : {X : Type 0} (has : X → List ℕ → Bool) (items : Slots) (whole : List X) (i : ℕ) → length whole ≤ i → AreSlots has items whole (take i whole) → AreSlots has items whole whole
slots_done has items whole i past are wanted test = are wanted test ∙ ap (list_any (λ x. has x wanted && test x)) (taken_all whole i past)

-- ---- rows with the numbers of their instances
pub rows_spotted : (before now : List Spot) (rows : List (Bor Row)) (number i : ℕ) (row : Bor Row) (spot : Spot) (first : (ℕ → Row → Bool) → Bool) → i < length rows → row ≡ get_or rows i row →
    spot.number ≡ number → spot.row ≡ row → now ≡ before ++ spot ∷ [] →
    ((f : ℕ → Row → Bool) → list_any (λ spot. f spot.number spot.row.now) before ≡ (first f || list_any (f number) (map (λ row. row.now) (take i rows)))) →
    (f : ℕ → Row → Bool) → list_any (λ spot. f spot.number spot.row.now) now ≡ (first f || list_any (f number) (map (λ row. row.now) (take (i + 1) rows)))
rows_spotted before now rows number i row spot first within is numbered placed put so_far f =
    ap (list_any (λ spot. f spot.number spot.row.now)) put
    ∙ list_any-append (λ spot. f spot.number spot.row.now) before (spot ∷ [])
    ∙ (λ k. so_far f k || (f (numbered k) (placed k).now || false))
    ∙ or_assoc (first f) (list_any (f number) (map (λ row. row.now) (take i rows))) (f number row.now || false)
    ∙ ap (λ b. first f || b) (sym (list_any-append (f number) (map (λ row. row.now) (take i rows)) (row.now ∷ []))
    ∙ ap (list_any (f number)) (sym (map_taken (λ (row : Bor Row). row.now) rows i row within is)))

pub held_more : (groups : List Group) (before now : List ℕ) (i : ℕ) (group : Group) → i < length groups → group ≡ get_or groups i group →
    ((n : ℕ) → bit_of now n ≡ (bit_of before n || has group.members n)) → AreHeldIn (take i groups) before → AreHeldIn (take (i + 1) groups) now
held_more groups before now i group within is adds so_far n =
    adds n
    ∙ (λ k. so_far n k || has ((is k).members) n)
    ∙ sym (list_any_more (λ (group : Group). has group.members n) groups i group within)

pub held_put : (held : List ℕ) (number : ℕ) (spots now : List Spot) (rows : List Row) (here : Bool) → here ≡ bit_of held number → here ≡ true →
    ((f : ℕ → Row → Bool) → list_any (λ spot. f spot.number spot.row.now) now ≡ (list_any (λ spot. f spot.number spot.row.now) spots || list_any (f number) rows)) →
    (f : ℕ → Row → Bool) → list_any (λ spot. f spot.number spot.row.now) now ≡ (list_any (λ spot. f spot.number spot.row.now) spots || (bit_of held number && list_any (f number) rows))
held_put held number spots now rows here is e adds f =
    adds f ∙ ap (λ b. list_any (λ spot. f spot.number spot.row.now) spots || (b && list_any (f number) rows)) (sym e ∙ is)

pub held_past : (held : List ℕ) (number : ℕ) (spots : List Spot) (rows : List Row) (here : Bool) → here ≡ bit_of held number → here ≡ false →
    (f : ℕ → Row → Bool) → list_any (λ spot. f spot.number spot.row.now) spots ≡ (list_any (λ spot. f spot.number spot.row.now) spots || (bit_of held number && list_any (f number) rows))
held_past held number spots rows here is e f =
    sym (or_false (list_any (λ spot. f spot.number spot.row.now) spots))
    ∙ ap (λ b. list_any (λ spot. f spot.number spot.row.now) spots || (b && list_any (f number) rows)) (sym e ∙ is)

pub spots_more : (held : List ℕ) (whole : List Run) (before now : List Spot) (i number : ℕ) (run : Run) → i < length whole → run ≡ get_or whole i run → number ≡ i →
    ((f : ℕ → Row → Bool) → list_any (λ spot. f spot.number spot.row.now) now
    ≡ (list_any (λ spot. f spot.number spot.row.now) before || (bit_of held number && list_any (f number) (map (λ row. row.now) run.rows)))) →
    AreSpotsIn held (take i whole) before → AreSpotsIn held (take (i + 1) whole) now
spots_more held whole before now i number run within is same adds so_far f =
    numbered_more (λ n run. bit_of held n && list_any (f n) (map (λ row. row.now) run.rows)) whole i run within is
    ∙ ap (λ b. b || (bit_of held i && list_any (f i) (map (λ row. row.now) run.rows))) (so_far f)
    ∙ ap (λ (n : ℕ). list_any (λ spot. f spot.number spot.row.now) before || (bit_of held n && list_any (f n) (map (λ row. row.now) run.rows))) (sym same)
    ∙ sym (adds f)

pub spots_done : (held : List ℕ) (whole : List Run) (spots : List Spot) (i : ℕ) → length whole ≤ i → AreSpotsIn held (take i whole) spots → AreSpotsIn held whole spots
spots_done held whole spots i past are f =
    ap (λ (runs : List Run). any_numbered (λ n run. bit_of held n && list_any (f n) (map (λ row. row.now) run.rows)) runs) (sym (taken_all whole i past)) ∙ are f

-- rows in no instance of a group are selected by none
pub spots_known : (groups : List Group) (whole : List Run) (held : List ℕ) (spots : List Spot) → AreHeldIn groups held → AreSpotsIn held whole spots → AreSpots groups whole spots
spots_known groups whole held spots held_is are f =
    sym (any_turned (λ group spot. has group.members spot.number && f group spot.row.now) groups spots
    ∙ sym (are some)
    ∙ (λ i. any_numbered (λ n run. held_only n run i) whole)
    ∙ (λ i. any_numbered (λ n run. by_groups n run i) whole)
    ∙ numbered_turned (λ n run group. has group.members n && list_any (f group) (map (λ row. row.now) run.rows)) whole groups)
  where
    some : ℕ → Row → Bool
    some n row = list_any (λ group. has group.members n && f group row) groups

    held_only : (n : ℕ) (run : Run) → (bit_of held n && list_any (some n) (map (λ row. row.now) run.rows)) ≡ list_any (some n) (map (λ row. row.now) run.rows)
    held_only n run = by (bit_of held n) refl
      where
        by : (b : Bool) → bit_of held n ≡ b → (b && list_any (some n) (map (λ row. row.now) run.rows)) ≡ list_any (some n) (map (λ row. row.now) run.rows)
        by true e = refl
        by false e = sym (any_same (some n) (λ row. false) (map (λ row. row.now) run.rows)
            (λ row. no_more (λ group. has group.members n) (λ group. has group.members n && f group row) groups (λ group none. ap (λ b. b && f group row) none) (sym (held_is n) ∙ e))
            ∙ any_nothing (map (λ row. row.now) run.rows))

    by_groups : (n : ℕ) (run : Run) → list_any (some n) (map (λ row. row.now) run.rows) ≡ list_any (λ group. has group.members n && list_any (f group) (map (λ row. row.now) run.rows)) groups
    by_groups n run =
        any_turned (λ row group. has group.members n && f group row) (map (λ row. row.now) run.rows) groups
        ∙ any_same (λ group. list_any (λ row. has group.members n && f group row) (map (λ row. row.now) run.rows)) (λ group. has group.members n && list_any (f group) (map (λ row. row.now) run.rows)) groups
        (λ group. any_and (has group.members n) (f group) (map (λ row. row.now) run.rows))

-- ---- the numbers of wants
pub union_more : (wants : List Want) (before now some : List ℕ) (i number d : ℕ) → i < length some → number ≡ get_or some i d →
    ((n : ℕ) → bit_of now n ≡ (bit_of before n || at wants (λ want. has want.members n) number)) →
    IsUnion before wants (take i some) → IsUnion now wants (take (i + 1) some)
union_more wants before now some i number d within is adds so_far n =
    adds n
    ∙ (λ k. so_far n k || at wants (λ want. has want.members n) (is k))
    ∙ sym (list_any_more (at wants (λ want. has want.members n)) some i d within)

pub want_there : (wants : List Want) (words now : List ℕ) (number : ℕ) (want : Want) → number < length wants → want ≡ get_or wants number want →
    ((n : ℕ) → bit_of now n ≡ (bit_of words n || has want.members n)) → (n : ℕ) → bit_of now n ≡ (bit_of words n || at wants (λ want. has want.members n) number)
want_there wants words now number want within is adds n =
    adds n ∙ ap (λ (o : Option Want). bit_of words n || option_map_or (λ want. has want.members n) o false) (sym (get_at wants number want within ∙ ap Some (sym is)))

pub want_past : (wants : List Want) (words : List ℕ) (number : ℕ) → length wants ≤ number → (n : ℕ) → bit_of words n ≡ (bit_of words n || at wants (λ want. has want.members n) number)
want_past wants words number past n =
    sym (or_false (bit_of words n)) ∙ ap (λ (o : Option Want). bit_of words n || option_map_or (λ want. has want.members n) o false) (sym (none_at wants number past))

-- ---- what a label selects
pub label_done : (tables : Tables) (depth : ℕ) (spots : List Spot) (wants : List Want) (rows groups : Slots) (set : List ℕ) (label : List ℕ) (out now : List Row) →
    AreSlots (spot_has tables depth) rows spots spots → AreSlots want_has groups wants wants → IsUnion set wants (in_slot groups label) →
    ((test : Row → Bool) → list_any test now ≡ (list_any test out || list_any (at spots (λ spot. bit_of set spot.number && test spot.row.now)) (in_slot rows label))) →
    (test : Row → Bool) → list_any test now ≡ (list_any test out || label_picks tables depth spots wants test label)
label_done tables depth spots wants rows groups set label out now spotted wanted union adds test =
    adds test
    ∙ ap (λ b. list_any test out || b)
    (spotted label (λ spot. bit_of set spot.number && test spot.row.now)
    ∙ any_same (λ spot. spot_has tables depth spot label && (bit_of set spot.number && test spot.row.now))
    (λ spot. spot_has tables depth spot label && (list_any (λ want. want_has want label && has want.members spot.number) wants && test spot.row.now)) spots
    (λ spot. ap (λ b. spot_has tables depth spot label && (b && test spot.row.now)) (union spot.number ∙ wanted label (λ want. has want.members spot.number))))

-- none where no row has the label, or no group
pub label_no_rows : (tables : Tables) (depth : ℕ) (spots : List Spot) (wants : List Want) (rows : Slots) (label : List ℕ) (out : List Row) →
    AreSlots (spot_has tables depth) rows spots spots → in_slot rows label ≡ [] → (test : Row → Bool) → list_any test out ≡ (list_any test out || label_picks tables depth spots wants test label)
label_no_rows tables depth spots wants rows label out spotted none test =
    sym (ap (λ b. list_any test out || b)
    (sym (spotted label (λ spot. list_any (λ want. want_has want label && has want.members spot.number) wants && test spot.row.now))
    ∙ ap (list_any (at spots (λ spot. list_any (λ want. want_has want label && has want.members spot.number) wants && test spot.row.now))) none)
    ∙ or_false (list_any test out))

pub label_no_groups : (tables : Tables) (depth : ℕ) (spots : List Spot) (wants : List Want) (groups : Slots) (label : List ℕ) (out : List Row) →
    AreSlots want_has groups wants wants → in_slot groups label ≡ [] → (test : Row → Bool) → list_any test out ≡ (list_any test out || label_picks tables depth spots wants test label)
label_no_groups tables depth spots wants groups label out wanted none test =
    sym (ap (λ b. list_any test out || b)
    (any_same (λ spot. spot_has tables depth spot label && (list_any (λ want. want_has want label && has want.members spot.number) wants && test spot.row.now)) (λ spot. false) spots
    (λ spot. ap (λ b. spot_has tables depth spot label && (b && test spot.row.now)) (nobody spot) ∙ and_false (spot_has tables depth spot label))
    ∙ any_nothing spots)
    ∙ or_false (list_any test out))
  where
    nobody : (spot : Spot) → list_any (λ want. want_has want label && has want.members spot.number) wants ≡ false
    nobody spot = sym (wanted label (λ want. has want.members spot.number)) ∙ ap (list_any (at wants (λ want. has want.members spot.number))) none

-- ---- wants
pub want_more : (f : (ℕ → Bool) → List ℕ → Bool) (g : (ℕ → Bool) → List Elem → Bool) (group : Group) (before now : List Want) (want : Want) → IsWant group want → now ≡ before ++ want ∷ [] →
    list_any (want_wants f g) now ≡ (list_any (want_wants f g) before || group_wants f g group)
want_more f g group before now want (members, labels, elems) put =
    ap (list_any (want_wants f g)) put
    ∙ list_any-append (want_wants f g) before (want ∷ [])
    ∙ ap (λ b. list_any (want_wants f g) before || b)
    (or_false (want_wants f g want)
    ∙ (λ i. labels (f (has want.members)) i || g (has want.members) (elems i))
    ∙ ap (λ (some : Members). list_any (f (has some)) (group_labels group) || g (has some) (below_of (map (λ elem. elem.now) group.elems))) members)

pub first_want : (some : List Elem) (elems : List (Bor Elem)) (members : Members) (want : Want) (now : List Want) → want.members ≡ members → want.elems ≡ elems → map (λ elem. elem.now) elems ≡ some →
    has members 0 ≡ true → now ≡ want ∷ [] → AreFirst some now
first_want some elems members want now members_are elems_are is there put g =
    ap (list_any (λ want. has want.members 0 && list_any g (map (λ elem. elem.now) want.elems))) put
    ∙ or_false (has want.members 0 && list_any g (map (λ elem. elem.now) want.elems))
    ∙ (λ i. has (members_are i) 0 && list_any g (map (λ elem. elem.now) (elems_are i)))
    ∙ (λ i. there i && list_any g (is i))

-- ---- rows of a label
pub spot_there : (spots : List Spot) (set : List ℕ) (number : ℕ) (spot : Spot) (passes : Bool) (out now : List Row) → number < length spots → spot ≡ get_or spots number spot →
    passes ≡ bit_of set spot.number → now ≡ (if passes then out ++ spot.row.now ∷ [] else out) → (test : Row → Bool) →
    list_any test now ≡ (list_any test out || at spots (λ spot. bit_of set spot.number && test spot.row.now) number)
spot_there spots set number spot passes out now within is tested put test =
    ap (list_any test) put ∙ by passes
    ∙ ap (λ b. list_any test out || (b && test spot.row.now)) tested
    ∙ ap (λ (o : Option Spot). list_any test out || option_map_or (λ spot. bit_of set spot.number && test spot.row.now) o false) (sym (get_at spots number spot within ∙ ap Some (sym is)))
  where
    by : (b : Bool) → list_any test (if b then out ++ spot.row.now ∷ [] else out) ≡ (list_any test out || (b && test spot.row.now))
    by true = list_any-append test out (spot.row.now ∷ []) ∙ ap (λ b. list_any test out || b) (or_false (test spot.row.now))
    by false = sym (or_false (list_any test out))

pub spot_past : (spots : List Spot) (set : List ℕ) (number : ℕ) (out : List Row) → length spots ≤ number → (test : Row → Bool) →
    list_any test out ≡ (list_any test out || at spots (λ spot. bit_of set spot.number && test spot.row.now) number)
spot_past spots set number out past test =
    sym (or_false (list_any test out))
    ∙ ap (λ (o : Option Spot). list_any test out || option_map_or (λ spot. bit_of set spot.number && test spot.row.now) o false) (sym (none_at spots number past))

pub any_next : {X : Type 0} (f : X → Bool) (xs : List X) (i : ℕ) (x d : X) (out before now : Bool) → i < length xs → x ≡ get_or xs i d → now ≡ (before || f x) →
    before ≡ (out || list_any f (take i xs)) → now ≡ (out || list_any f (take (i + 1) xs))
any_next f xs i x d out before now within is adds so_far =
    adds ∙ (λ k. so_far k || f (is k)) ∙ or_assoc out (list_any f (take i xs)) (f (get_or xs i d)) ∙ ap (λ b. out || b) (sym (list_any_more f xs i d within))

pub any_done : {X : Type 0} (f : X → Bool) (xs : List X) (i : ℕ) (out now : Bool) → length xs ≤ i → now ≡ (out || list_any f (take i xs)) → now ≡ (out || list_any f xs)
any_done f xs i out now past so_far = so_far ∙ ap (λ list. out || list_any f list) (taken_all xs i past)
