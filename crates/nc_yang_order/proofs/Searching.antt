-- A search, step by step.
use Rattle.std.proofs.Common.{inl, inr, ◌≡◌, ◌≢◌, ◌<◌, ◌≤◌, ◌+◌, ◌-◌, ℕ, zero, suc, List, [], ◌∷◌, ◌++◌, refl, sym, ap, ◌∙◌, subst, arith, take, length}
use Rattle.std.specs.Prelude.{Bool, true, false, ◌&&◌, IsTrue, nat_lt, unwrap_or, Result, Ok, Err, IfOk, Option, Some, None, slice_get, get_or, set, map, sum_by, Contains, ◌⊎◌, replicate}
use Rattle.std.proofs.lemmas.Bool.{cases_eq, ltb-true}
use Rattle.std.proofs.lemmas.List.{map-append, take_all, length-set}
use Rattle.std.proofs.lemmas.List.Elements.{Contains-append_left, Contains-push}
use Rattle.std.proofs.lemmas.List.Sums.{sum_by-append}
use Rattle.std.proofs.lemmas.Option.{slice_get_within}
use Rattle.std.specs.List.{list_all}
use Rattle.nc_yang_order.specs.declared.mark.Mark.{Mark}
use Rattle.nc_yang_order.specs.declared.mark.Mark.TheVariants.{Unseen, Open, Done}
use Rattle.nc_yang_order.specs.declared.mark.Turn.{Turn}
use Rattle.nc_yang_order.specs.declared.search.Search.{Search}
use Rattle.nc_names.specs.declared.memory.Memory.{Memory}
use Rattle.nc_yang_order.specs.declared.order.Ordered.{Ordered}
use Rattle.nc_yang_order.specs.Orders.{is_within, targets, Reaches, here, further, EachAfter, IsInPlace, IsOrder, IsCircle}
use Rattle.nc_yang_order.specs.inner.Searches.{HasMark, IsSeen, KeepsSeen, numbers, IsLedTo, IsLookedAt, IsSearch, unseen, unlooked, weight, entered, finished, with_turn, passed, Moves, Ends, Runs, Visits}
use Rattle.nc_yang_order.proofs.Lists.{contains_one, contains_none, contains_at, either, get_none, take_next, get_set_same, get_set_other, each_push, each_front, each_last}

left : (a b : Bool) → (a && b) ≡ true → a ≡ true
left true b e = refl
left false b e = e

right : (a b : Bool) → (a && b) ≡ true → b ≡ true
right true b e = e
right false b e = absurd (cc)

-- marks after one was set

mark_cases : (marks : List Mark) (n m : ℕ) (new mark old : Mark) → HasMark marks n old → HasMark (set marks n new) m mark
    → ((m ≡ n) × (new ≡ mark)) ⊎ ((m ≢ n) × HasMark marks m mark)
mark_cases marks n m new mark old at h = elim (cases_eq m n) [
  | inl eq ↦
      let there : slice_get (set marks n new) n ≡ Some mark = subst (λ z. slice_get (set marks n new) z ≡ Some mark) eq h in
      let is : slice_get (set marks n new) n ≡ Some new = get_set_same marks n old new at in
      inl (eq, cc)
  | inr ne ↦ inr (ne, sym (get_set_other marks n m new ne) ∙ h)
]

mark_kept : (marks : List Mark) (n m : ℕ) (new old mark : Mark) → HasMark marks n old → old ≢ mark → HasMark marks m mark → HasMark (set marks n new) m mark
mark_kept marks n m new old mark at differ h =
    let apart : m ≢ n = λ eq. (let there : slice_get marks n ≡ Some mark = subst (λ z. slice_get marks z ≡ Some mark) eq h in differ (cc)) in
    get_set_other marks n m new apart ∙ h

unseen_open : Unseen ≢ Open
unseen_open e = cc

unseen_done : Unseen ≢ Done
unseen_done e = cc

open_done : Open ≢ Done
open_done e = cc

numbers_push : (xs : List Turn) (turn : Turn) → numbers (xs ++ turn ∷ []) ≡ numbers xs ++ turn.number ∷ []
numbers_push xs turn = map-append (λ (t : Turn). t.number) xs (turn ∷ [])

on_numbers : (xs : List Turn) (turn : Turn) (m : ℕ) → Contains (numbers (xs ++ turn ∷ [])) m → Contains (numbers xs) m ⊎ (turn.number ≡ m)
on_numbers xs turn m h = either (numbers xs) turn.number m (subst (λ z. Contains z m) (numbers_push xs turn) h)

in_numbers : (xs : List Turn) (turn : Turn) (m : ℕ) → Contains (numbers xs) m → Contains (numbers (xs ++ turn ∷ [])) m
in_numbers xs turn m h = subst (λ z. Contains z m) (sym (numbers_push xs turn)) (Contains-append_left (numbers xs) (turn.number ∷ []) m h)

last_number : (xs : List Turn) (turn : Turn) → Contains (numbers (xs ++ turn ∷ [])) turn.number
last_number xs turn = subst (λ z. Contains z turn.number) (sym (numbers_push xs turn)) (Contains-push (numbers xs) turn.number)

-- a number is met

module _ (graph : List (List ℕ)) (s : Search) (n : ℕ) (h : IsSearch graph s) (at : HasMark s.marks n Unseen)
    (led : (other : ℕ) → Contains (numbers s.stack) other → Reaches graph other n) where
  abbrev turn : Turn
  turn = record { number = n; next = 0 }

  waiting_entered : (m : ℕ) → HasMark (set s.marks n Open) m Open → Contains (numbers (s.stack ++ turn ∷ [])) m
  waiting_entered m a = elim (mark_cases s.marks n m Open Open Unseen at a) [
    | inl b ↦ subst (λ z. Contains (numbers (s.stack ++ turn ∷ [])) z) (sym b.0) (last_number s.stack turn)
    | inr b ↦ in_numbers s.stack turn m (h.waiting m b.1)
  ]

  on_stack_entered : (m : ℕ) → Contains (numbers (s.stack ++ turn ∷ [])) m → HasMark (set s.marks n Open) m Open
  on_stack_entered m a = elim (on_numbers s.stack turn m a) [
    | inl b ↦ mark_kept s.marks n m Open Unseen Open at unseen_open (h.on_stack m b)
    | inr b ↦ subst (λ z. HasMark (set s.marks n Open) z Open) b (get_set_same s.marks n Unseen Open at)
  ]

  looked_entered : (t : Turn) → Contains (s.stack ++ turn ∷ []) t → IsLookedAt graph (set s.marks n Open) t
  looked_entered t a target has = elim (either s.stack turn t a) [
    | inl b ↦ mark_kept s.marks n target Open Unseen Done at unseen_done (h.looked t b target has)
    | inr b ↦ absurd (contains_none target (subst (λ (z : Turn). Contains (take z.next (targets graph z.number)) target) (sym b) has))
  ]

  done_entered : (m : ℕ) → HasMark (set s.marks n Open) m Done → Contains s.order m
  done_entered m a = elim (mark_cases s.marks n m Open Done Unseen at a) [ inl b ↦ absurd (open_done b.1) | inr b ↦ h.done m b.1 ]

  fresh_entered : Contains (numbers s.stack) n → ⊥
  fresh_entered a = let opened : slice_get s.marks n ≡ Some Open = h.on_stack n a in unseen_open (cc)

  pub search_entered : IsSearch graph (entered s n)
  search_entered = record {
    marked = length-set s.marks n Open ∙ h.marked;
    waiting = waiting_entered;
    on_stack = on_stack_entered;
    trail = subst (λ z. EachAfter (IsLedTo graph) [] z) (sym (numbers_push s.stack turn))
        (each_push (IsLedTo graph) (numbers s.stack) n h.trail (record { fresh = fresh_entered; led = led }));
    looked = looked_entered;
    done = done_entered;
    ordered = λ m a. mark_kept s.marks n m Open Unseen Done at unseen_done (h.ordered m a);
    placed = h.placed;
  }

  pub kept_entered : KeepsSeen s.marks (set s.marks n Open)
  kept_entered m a = elim (mark_cases s.marks n m Open Unseen Unseen at a) [ inl b ↦ absurd (unseen_open (sym b.1)) | inr b ↦ b.1 ]

-- a turn is on top

module _ (graph : List (List ℕ)) (s : Search) (turn : Turn) (h : IsSearch graph (with_turn s turn)) where
  abbrev top_led : IsLedTo graph (numbers s.stack) turn.number
  top_led = each_last (IsLedTo graph) [] (numbers s.stack) turn.number (subst (λ z. EachAfter (IsLedTo graph) [] z) (numbers_push s.stack turn) h.trail)

  top_open : HasMark s.marks turn.number Open
  top_open = h.on_stack turn.number (last_number s.stack turn)

  pub turn_known : turn.number < length graph
  turn_known = omega (arith, slice_get_within s.marks turn.number Open top_open, h.marked)

  pub all_lead : (other : ℕ) → Contains (numbers (s.stack ++ turn ∷ [])) other → Reaches graph other turn.number
  all_lead other a = elim (on_numbers s.stack turn other a) [
    | inl b ↦ top_led.led other b
    | inr b ↦ subst (λ z. Reaches graph z turn.number) b (here turn.number)
  ]

  pub circle_found : (target : ℕ) → slice_get (targets graph turn.number) turn.next ≡ Some target → HasMark s.marks target Open → IsCircle graph turn.number turn.next
  circle_found target edge is_open = record { target = target; edge = edge; back = all_lead target (h.waiting target is_open) }

  -- a target is passed over

  abbrev next : Turn
  next = record turn { next = turn.next + 1 }

  same_numbers : numbers (s.stack ++ next ∷ []) ≡ numbers (s.stack ++ turn ∷ [])
  same_numbers = numbers_push s.stack next ∙ sym (numbers_push s.stack turn)

  looked_passed : (target : ℕ) → slice_get (targets graph turn.number) turn.next ≡ Some target → HasMark s.marks target Done
      → (t : Turn) → Contains (s.stack ++ next ∷ []) t → IsLookedAt graph s.marks t
  looked_passed target edge done t a other has = elim (either s.stack next t a) [
    | inl b ↦ h.looked t (Contains-append_left s.stack (turn ∷ []) t b) other has
    | inr b ↦
        let inside : Contains (take (turn.next + 1) (targets graph turn.number)) other =
        subst (λ (z : Turn). Contains (take z.next (targets graph z.number)) other) (sym b) has in
        elim (either (take turn.next (targets graph turn.number)) target other
        (subst (λ z. Contains z other) (take_next (targets graph turn.number) turn.next target edge) inside)) [
          | inl d ↦ h.looked turn (Contains-push s.stack turn) other d
          | inr d ↦ subst (λ z. HasMark s.marks z Done) d done
        ]
  ]

  pub search_passed : (target : ℕ) → slice_get (targets graph turn.number) turn.next ≡ Some target → HasMark s.marks target Done → IsSearch graph (passed s turn)
  search_passed target edge done = record {
    marked = h.marked;
    waiting = λ m a. subst (λ z. Contains z m) (sym same_numbers) (h.waiting m a);
    on_stack = λ m a. h.on_stack m (subst (λ z. Contains z m) same_numbers a);
    trail = subst (λ z. EachAfter (IsLedTo graph) [] z) (sym same_numbers) h.trail;
    looked = looked_passed target edge done;
    done = h.done;
    ordered = h.ordered;
    placed = h.placed;
  }

  -- all targets were looked at

  waiting_finished : (m : ℕ) → HasMark (set s.marks turn.number Done) m Open → Contains (numbers s.stack) m
  waiting_finished m a = elim (mark_cases s.marks turn.number m Done Open Open top_open a) [
    | inl b ↦ absurd (open_done (sym b.1))
    | inr b ↦ elim (on_numbers s.stack turn m (h.waiting m b.1)) [ inl d ↦ d | inr d ↦ absurd (b.0 (sym d)) ]
  ]

  on_stack_finished : (m : ℕ) → Contains (numbers s.stack) m → HasMark (set s.marks turn.number Done) m Open
  on_stack_finished m a =
      let apart : m ≢ turn.number = λ e. top_led.fresh (subst (λ z. Contains (numbers s.stack) z) e a) in
      get_set_other s.marks turn.number m Done apart ∙ h.on_stack m (in_numbers s.stack turn m a)

  done_finished : (m : ℕ) → HasMark (set s.marks turn.number Done) m Done → Contains (s.order ++ turn.number ∷ []) m
  done_finished m a = elim (mark_cases s.marks turn.number m Done Done Open top_open a) [
    | inl b ↦ subst (λ z. Contains (s.order ++ turn.number ∷ []) z) (sym b.0) (Contains-push s.order turn.number)
    | inr b ↦ Contains-append_left s.order (turn.number ∷ []) m (h.done m b.1)
  ]

  ordered_finished : (m : ℕ) → Contains (s.order ++ turn.number ∷ []) m → HasMark (set s.marks turn.number Done) m Done
  ordered_finished m a = elim (either s.order turn.number m a) [
    | inl b ↦ mark_kept s.marks turn.number m Done Open Done top_open open_done (h.ordered m b)
    | inr b ↦ subst (λ z. HasMark (set s.marks turn.number Done) z Done) b (get_set_same s.marks turn.number Open Done top_open)
  ]

  fresh_finished : Contains s.order turn.number → ⊥
  fresh_finished a = let done : slice_get s.marks turn.number ≡ Some Done = h.ordered turn.number a in let opened : slice_get s.marks turn.number ≡ Some Open = top_open in open_done (cc)

  pub search_finished : slice_get (targets graph turn.number) turn.next ≡ None → IsSearch graph (finished s turn.number)
  search_finished none = record {
    marked = length-set s.marks turn.number Done ∙ h.marked;
    waiting = waiting_finished;
    on_stack = on_stack_finished;
    trail = each_front (IsLedTo graph) [] (numbers s.stack) (turn.number ∷ []) (subst (λ z. EachAfter (IsLedTo graph) [] z) (numbers_push s.stack turn) h.trail);
    looked = λ t a target has. mark_kept s.marks turn.number target Done Open Done top_open open_done
        (h.looked t (Contains-append_left s.stack (turn ∷ []) t a) target has);
    done = done_finished;
    ordered = ordered_finished;
    placed = each_push (IsInPlace graph) s.order turn.number h.placed (record {
      fresh = fresh_finished;
      after = λ target edge. h.done target (h.looked turn (Contains-push s.stack turn) target
          (subst (λ z. Contains z target) (sym (take_all turn.next (targets graph turn.number) (get_none (targets graph turn.number) turn.next none))) edge));
    });
  }

  pub kept_finished : KeepsSeen s.marks (set s.marks turn.number Done)
  kept_finished m a = elim (mark_cases s.marks turn.number m Done Unseen Open top_open a) [ inl b ↦ absurd (unseen_done (sym b.1)) | inr b ↦ b.1 ]

-- what is left grows less

unseen_entered : (graph : List (List ℕ)) (marks : List Mark) (n : ℕ) → length marks ≡ length graph → HasMark marks n Unseen
    → unseen graph marks ≡ unseen graph (set marks n Open) + (length (targets graph n) + 2)
unseen_entered [] [] n same at = absurd (cc)
unseen_entered [] (m ∷ marks) n same at = absurd (omega (arith, same))
unseen_entered (ts ∷ graph) [] n same at = absurd (cc)
unseen_entered (ts ∷ graph) (Unseen ∷ marks) zero same at = omega arith
unseen_entered (ts ∷ graph) (Open ∷ marks) zero same at = absurd (cc)
unseen_entered (ts ∷ graph) (Done ∷ marks) zero same at = absurd (cc)
unseen_entered (ts ∷ graph) (Unseen ∷ marks) (suc n) same at = let e = unseen_entered graph marks n (omega (arith, same)) at in omega (arith, e)
unseen_entered (ts ∷ graph) (Open ∷ marks) (suc n) same at = unseen_entered graph marks n (omega (arith, same)) at
unseen_entered (ts ∷ graph) (Done ∷ marks) (suc n) same at = unseen_entered graph marks n (omega (arith, same)) at

unseen_finished : (graph : List (List ℕ)) (marks : List Mark) (n : ℕ) → HasMark marks n Open → unseen graph (set marks n Done) ≡ unseen graph marks
unseen_finished [] [] n at = refl
unseen_finished [] (m ∷ marks) zero at = refl
unseen_finished [] (m ∷ marks) (suc n) at = refl
unseen_finished (ts ∷ graph) [] n at = refl
unseen_finished (ts ∷ graph) (Unseen ∷ marks) zero at = absurd (cc)
unseen_finished (ts ∷ graph) (Open ∷ marks) zero at = refl
unseen_finished (ts ∷ graph) (Done ∷ marks) zero at = refl
unseen_finished (ts ∷ graph) (Unseen ∷ marks) (suc n) at = ap (λ z. length ts + 2 + z) (unseen_finished graph marks n at)
unseen_finished (ts ∷ graph) (Open ∷ marks) (suc n) at = unseen_finished graph marks n at
unseen_finished (ts ∷ graph) (Done ∷ marks) (suc n) at = unseen_finished graph marks n at

unlooked_push : (graph : List (List ℕ)) (xs : List Turn) (turn : Turn) → unlooked graph (xs ++ turn ∷ []) ≡ unlooked graph xs + (length (targets graph turn.number) - turn.next + 1)
unlooked_push graph xs turn =
    let e = sum_by-append (λ (t : Turn). length (targets graph t.number) - t.next + 1) xs (turn ∷ []) in omega (arith, e)

pub moves_entered : (graph : List (List ℕ)) (s : Search) (turn : Turn) (target : ℕ) → IsSearch graph (with_turn s turn)
    → slice_get (targets graph turn.number) turn.next ≡ Some target → HasMark s.marks target Unseen → Moves graph (with_turn s turn) (entered (with_turn s turn) target)
moves_entered graph s turn target h edge at =
    let led : (other : ℕ) → Contains (numbers (s.stack ++ turn ∷ [])) other → Reaches graph other target =
    λ other a. reach_on graph other turn.number target (all_lead graph s turn h other a) (contains_at (targets graph turn.number) turn.next target edge) in
    let first = unseen_entered graph s.marks target h.marked at in
    let second = unlooked_push graph (s.stack ++ turn ∷ []) (record { number = target; next = 0 }) in record {
      search = search_entered graph (with_turn s turn) target h at led;
      less = omega (arith, first, second);
      kept = kept_entered graph (with_turn s turn) target h at led;
    }
  where
    reach_on : (graph : List (List ℕ)) (a b c : ℕ) → Reaches graph a b → Contains (targets graph b) c → Reaches graph a c
    reach_on graph a b c (here n) edge = further a c c edge (here c)
    reach_on graph a b c (further n t l first rest) edge = further a t c first (reach_on graph t b c rest edge)

pub moves_passed : (graph : List (List ℕ)) (s : Search) (turn : Turn) (target : ℕ) → IsSearch graph (with_turn s turn)
    → slice_get (targets graph turn.number) turn.next ≡ Some target → HasMark s.marks target Done → Moves graph (with_turn s turn) (passed s turn)
moves_passed graph s turn target h edge done =
    let first = unlooked_push graph s.stack turn in
    let second = unlooked_push graph s.stack (record turn { next = turn.next + 1 }) in
    let within = slice_get_within (targets graph turn.number) turn.next target edge in
    record { search = search_passed graph s turn h target edge done; less = omega (arith, first, second, within); kept = λ m a. a }

pub moves_finished : (graph : List (List ℕ)) (s : Search) (turn : Turn) → IsSearch graph (with_turn s turn)
    → slice_get (targets graph turn.number) turn.next ≡ None → Moves graph (with_turn s turn) (finished s turn.number)
moves_finished graph s turn h none =
    let first = unlooked_push graph s.stack turn in
    let second = unseen_finished graph s.marks turn.number (h.on_stack turn.number (last_number s.stack turn)) in
    record { search = search_finished graph s turn h none; less = omega (arith, first, second); kept = kept_finished graph s turn h }

-- the beginning and the end

no_mark : (count m : ℕ) (mark : Mark) → Unseen ≢ mark → HasMark (replicate count Unseen) m mark → ⊥
no_mark zero m mark differ e = absurd (cc)
no_mark (suc count) zero mark differ e = differ (cc)
no_mark (suc count) (suc m) mark differ e = no_mark count m mark differ e

-- where no number is open, what was seen is done
pub seen_is_done : (graph : List (List ℕ)) (s : Search) (m : ℕ) → IsSearch graph s → s.stack ≡ [] → m < length graph → IsSeen s.marks m → Contains s.order m
seen_is_done graph s m h empty within seen = by (slice_get s.marks m) refl
  where
    by : (o : Option Mark) → slice_get s.marks m ≡ o → Contains s.order m
    by None e = absurd (omega (arith, get_none s.marks m e, h.marked, within))
    by (Some Unseen) e = absurd (seen e)
    by (Some Open) e = absurd (contains_none m (subst (λ z. Contains (numbers z) m) empty (h.waiting m e)))
    by (Some Done) e = h.done m e

-- all numbers were visited
pub is_order : (graph : List (List ℕ)) (s : Search) (number : ℕ) → IsSearch graph s → s.stack ≡ [] → ((m : ℕ) → m < number → IsSeen s.marks m)
    → length graph ≤ number → IsOrder graph s.order
is_order graph s number h empty seen all = record {
  all = λ m within. seen_is_done graph s m h empty within (seen m (omega arith));
  only = λ m has. omega (arith, slice_get_within s.marks m Done (h.ordered m has), h.marked);
  placed = h.placed;
}

pub none_lead : (graph : List (List ℕ)) (s : Search) (number : ℕ) → s.stack ≡ [] → (other : ℕ) → Contains (numbers s.stack) other → Reaches graph other number
none_lead graph s number empty other has = absurd (contains_none other (subst (λ z. Contains (numbers z) other) empty has))

pub visited : (graph : List (List ℕ)) (s mid new : Search) (n : ℕ) (result : Result (Option Ordered) Memory) → mid ≡ entered s n → HasMark s.marks n Unseen
    → IsSearch graph s → s.stack ≡ [] → IfOk result (λ found. Runs graph mid new found) → IfOk result (λ found. Visits graph n s new found)
visited graph s mid new n (Ok None) is at h empty ends =
    let kept : KeepsSeen (set s.marks n Open) new.marks = subst (λ (z : Search). KeepsSeen z.marks new.marks) is ends.kept in (
      record { search = ends.search; empty = ends.empty; kept = λ m a. kept_entered graph s n h at (none_lead graph s n empty) m (kept m a) },
      λ a. (let unseen : slice_get (set s.marks n Open) n ≡ Some Unseen = kept n a in
          let opened : slice_get (set s.marks n Open) n ≡ Some Open = get_set_same s.marks n Unseen Open at in unseen_open (cc)),
    )
visited graph s mid new n (Ok (Some found)) is at h empty ends = ends
visited graph s mid new n (Err e) is at h empty ends = tt

-- where all edges lead to numbers of the graph

passes_at : {A : Type 0} (p : A → Bool) (xs : List A) (i : ℕ) (x : A) → list_all p xs ≡ true → slice_get xs i ≡ Some x → p x ≡ true
passes_at p [] i x all e = absurd (cc)
passes_at p (y ∷ xs) zero x all e = let same : y ≡ x = cc in subst (λ z. p z ≡ true) same (left (p y) (list_all p xs) all)
passes_at p (y ∷ xs) (suc i) x all e = passes_at p xs i x (right (p y) (list_all p xs) all) e

pub target_within : (graph : List (List ℕ)) (number place target : ℕ) → IsTrue (is_within graph) → slice_get (targets graph number) place ≡ Some target
    → target < length graph
target_within graph number place target within e = by (slice_get graph number) refl
  where
    by : (o : Option (List ℕ)) → slice_get graph number ≡ o → target < length graph
    by None none =
        let edge : slice_get {X = ℕ} [] place ≡ Some target = subst (λ (z : Option (List ℕ)). slice_get (unwrap_or z []) place ≡ Some target) none e in
        absurd (cc)
    by (Some ts) some =
        let edge : slice_get ts place ≡ Some target = subst (λ (z : Option (List ℕ)). slice_get (unwrap_or z []) place ≡ Some target) some e in
        let all : is_within graph ≡ true = within in
        ltb-true target (length graph)
        (passes_at (λ t. nat_lt t (length graph)) ts place target (passes_at (λ us. list_all (λ t. nat_lt t (length graph)) us) graph number ts all some) edge)
