-- Groups of elements that hold in the same instances.
use Rattle.std.proofs.Common.{◌≡◌, ◌&&◌, ◌||◌, ◌+◌, ◌<◌, ◌≤◌, ℕ, Bool, true, false, List, [], ◌∷◌, ◌++◌, length, take, get_or, refl, sym, ap, ◌∙◌, Bor}
use Rattle.std.specs.Prelude.{Option, map}
use Rattle.std.specs.List.{list_any}
use Rattle.std.proofs.lemmas.List.Folds.{list_any-append, list_any_more}
use Rattle.nc_names.specs.declared.path.Row.{Row}
use Rattle.nc_message.specs.declared.tree.Elem.{Elem}
use Rattle.nc_filter.specs.declared.runs.Run.{Run}
use Rattle.nc_filter.specs.declared.guards.Class.{Class}
use Rattle.nc_filter.specs.declared.groups.Group.{Group}
use Rattle.nc_filter.specs.declared.members.Members.{Members}
use Rattle.nc_filter.specs.declared.wants.Want.{Want}
use Rattle.nc_filter.specs.inner.Lists.{any_numbered}
use Rattle.nc_filter.specs.inner.Runs.{AddsGroup, AddsGroups, AddsWant, AreClasses, AreGroups, AreSameGroups, class_says, class_tells, elem_says, group_tells, told_in, want_tells}
use Rattle.nc_filter.specs.inner.Sets.{has}
use Rattle.nc_filter.specs.inner.Tables.{has_text}
use Rattle.nc_filter.proofs.ClassLemmas.{map_join}
use Rattle.nc_filter.proofs.NumberLemmas.{numbered_or}
use Rattle.nc_filter.proofs.TableLemmas.{taken_all}
use Rattle.nc_filter.proofs.Unions.{and_false, any_and, any_and_last, any_nothing, any_same, any_turned, or_assoc, or_false}

-- ---- groups are joined
pub group_apart : (whole : List Run) (before : List Group) (group : Group) → AddsGroup whole before (before ++ group ∷ []) group
group_apart whole before group test =
    list_any-append (group_tells whole test) before (group ∷ []) ∙ ap (λ b. list_any (group_tells whole test) before || b) (or_false (group_tells whole test group))

numbered_nothing : {X : Type 0} (xs : List X) → any_numbered (λ n x. false) xs ≡ false
numbered_nothing [] = refl
numbered_nothing (x ∷ xs) = numbered_nothing xs

pub group_of_none : (whole : List Run) (before : List Group) (group : Group) → ((n : ℕ) → has group.members n ≡ false) → AddsGroup whole before before group
group_of_none whole before group none test =
    sym (or_false (list_any (group_tells whole test) before))
    ∙ ap (λ b. list_any (group_tells whole test) before || b)
    (sym ((λ i. any_numbered (λ n run. none n i && list_any (test run) (map (λ elem. elem.now) group.elems)) whole) ∙ numbered_nothing whole))

and_or : (m a b : Bool) → (m && (a || b)) ≡ ((m && a) || (m && b))
and_or true a b = refl
and_or false a b = refl

pub group_joined : (whole : List Run) (before : List Group) (last group now : Group) → now.members ≡ last.members → now.elems ≡ last.elems ++ group.elems → last.members ≡ group.members →
    AddsGroup whole (before ++ last ∷ []) (before ++ now ∷ []) group
group_joined whole before last group now members elems same test =
    list_any-append tells before (now ∷ [])
    ∙ ap (λ b. list_any tells before || b) (or_false (tells now) ∙ here)
    ∙ sym (or_assoc (list_any tells before) (tells last) (tells group))
    ∙ ap (λ b. b || tells group) (ap (λ b. list_any tells before || b) (sym (or_false (tells last))) ∙ sym (list_any-append tells before (last ∷ [])))
  where
    tells : Group → Bool
    tells group = group_tells whole test group

    any : Group → Run → Bool
    any group run = list_any (test run) (map (λ elem. elem.now) group.elems)

    both : (n : ℕ) (run : Run) → (has last.members n && list_any (test run) (map (λ elem. elem.now) now.elems)) ≡ ((has last.members n && any last run) || (has last.members n && any group run))
    both n run =
        ap (λ (some : List (Bor Elem)). has last.members n && list_any (test run) (map (λ elem. elem.now) some)) elems
        ∙ ap (λ some. has last.members n && list_any (test run) some) (map_join last.elems group.elems)
        ∙ ap (λ b. has last.members n && b) (list_any-append (test run) (map (λ elem. elem.now) last.elems) (map (λ elem. elem.now) group.elems))
        ∙ and_or (has last.members n) (any last run) (any group run)

    here : tells now ≡ (tells last || tells group)
    here =
        (λ i. any_numbered (λ n run. has (members i) n && list_any (test run) (map (λ elem. elem.now) now.elems)) whole)
        ∙ (λ i. any_numbered (λ n run. both n run i) whole)
        ∙ numbered_or (λ n run. has last.members n && any last run) (λ n run. has last.members n && any group run) whole
        ∙ ap (λ (some : Members). tells last || any_numbered (λ n run. has some n && any group run) whole) same

-- ---- the elements of a want
pub want_added : (whole : List Run) (upper : Option ℕ) (want : Want) (some : List (Bor Elem)) (classes : List Class) (before now : List Group) → some ≡ want.elems →
    AreClasses upper (map (λ elem. elem.now) some) classes → AddsGroups whole (λ run. has want.members run.parent) classes before now → AddsWant whole upper want before now
want_added whole upper want some classes before now is are adds test = adds test ∙ ap (λ b. list_any (group_tells whole test) before || b) told
  where
    here : Run → Bool
    here run = has want.members run.parent

    told : list_any (class_tells whole here test) classes ≡ want_tells whole upper test want
    told =
        any_turned (λ class run. here run && class_says (λ wanted. has_text run.keys wanted) (test run) class) classes whole
        ∙ any_same (λ run. list_any (λ class. here run && class_says (λ wanted. has_text run.keys wanted) (test run) class) classes)
        (λ run. here run && list_any (elem_says upper (λ wanted. has_text run.keys wanted) (test run)) (map (λ elem. elem.now) want.elems)) whole
        (λ run. any_and (here run) (class_says (λ wanted. has_text run.keys wanted) (test run)) classes
        ∙ ap (λ b. here run && b) (are (λ wanted. has_text run.keys wanted) (test run)
        ∙ ap (λ (elems : List (Bor Elem)). list_any (elem_says upper (λ wanted. has_text run.keys wanted) (test run)) (map (λ elem. elem.now) elems)) is))

pub want_empty : (whole : List Run) (upper : Option ℕ) (want : Want) (before : List Group) → want.elems ≡ [] → AddsWant whole upper want before before
want_empty whole upper want before none test =
    sym (or_false (list_any (group_tells whole test) before))
    ∙ ap (λ b. list_any (group_tells whole test) before || b)
    (sym (ap (λ (elems : List (Bor Elem)). list_any (λ run. has want.members run.parent &&
    list_any (elem_says upper (λ wanted. has_text run.keys wanted) (test run)) (map (λ elem. elem.now) elems)) whole) none
    ∙ any_same (λ run. has want.members run.parent && false) (λ run. false) whole (λ run. and_false (has want.members run.parent)) ∙ any_nothing whole))

pub wants_more : (whole : List Run) (upper : Option ℕ) (wants : List Want) (i : ℕ) (want : Want) (before now : List Group) → i < length wants → want ≡ get_or wants i want →
    AddsWant whole upper want before now → ((test : Run → Elem → Bool) → list_any (group_tells whole test) before ≡ list_any (want_tells whole upper test) (take i wants)) →
    (test : Run → Elem → Bool) → list_any (group_tells whole test) now ≡ list_any (want_tells whole upper test) (take (i + 1) wants)
wants_more whole upper wants i want before now within is adds so_far test =
    adds test
    ∙ (λ k. so_far test k || want_tells whole upper test (is k))
    ∙ sym (list_any_more (want_tells whole upper test) wants i want within)

pub wants_done : (whole : List Run) (upper : Option ℕ) (wants : List Want) (i : ℕ) (each found : List Group) → length wants ≤ i →
    ((test : Run → Elem → Bool) → list_any (group_tells whole test) each ≡ list_any (want_tells whole upper test) (take i wants)) → AreSameGroups each found →
    AreGroups whole upper wants found
wants_done whole upper wants i each found past so_far same test =
    same whole test ∙ so_far test ∙ ap (λ (some : List Want). list_any (want_tells whole upper test) some) (taken_all wants i past)

-- ---- what groups select
pub tells_is : (says : Row → Elem → Bool) (whole : List Run) (test : Row → Bool) (group : Group) →
    told_in says whole test group ≡ group_tells whole (λ run elem. list_any (λ row. says row elem && test row) (map (λ row. row.now) run.rows)) group
tells_is says whole test group = λ i. any_numbered (λ n run. has group.members n && turned run i) whole
  where
    some : List Elem
    some = map (λ elem. elem.now) group.elems

    turned : (run : Run) → list_any (λ row. list_any (says row) some && test row) (map (λ row. row.now) run.rows)
        ≡ list_any (λ elem. list_any (λ row. says row elem && test row) (map (λ row. row.now) run.rows)) some
    turned run =
        any_same (λ row. list_any (says row) some && test row) (λ row. list_any (λ elem. says row elem && test row) some) (map (λ row. row.now) run.rows)
        (λ row. sym (any_and_last (says row) (test row) some))
        ∙ any_turned (λ row elem. says row elem && test row) (map (λ row. row.now) run.rows) some
