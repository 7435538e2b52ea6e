-- Numbers that are asked for.
use Rattle.std.proofs.Common.{inl, inr, ◌≡◌, ◌≢◌, ◌<◌, ◌≤◌, ◌+◌, ◌==◌, ℕ, Bool, true, false, not, cond, List, [], ◌∷◌, ◌++◌, length, take, get_or, map, refl, sym, ap, ◌∙◌, subst, arith, append_assoc}
use Rattle.std.specs.Prelude.{Option, Some, None, slice_get, unwrap_or, option_and_then, Contains, ◌⊎◌}
use Rattle.std.proofs.lemmas.Bool.{cases_eq}
use Rattle.std.proofs.lemmas.List.{append-nil, length-append, map-append}
use Rattle.std.proofs.lemmas.List.Elements.{Contains-append_left, Contains-append_cases, Contains-push}
use Rattle.std.proofs.lemmas.Option.{slice_get_within, slice_get-get_or}
use Rattle.nc_yang_order.proofs.Lists.{contains_none, contains_one, get_none, get_set_other, get_set_same, take_next}
use Rattle.nc_yang_scopes.proofs.Lists.{get_left, get_right}
use Rattle.nc_yang_leafs.specs.declared.table.Slot.{Slot}
use Rattle.nc_yang_leafs.specs.declared.table.Table.{Table}
use Rattle.nc_yang_leafs.specs.Marks.{is_marked}
use Rattle.nc_yang_leafs.specs.inner.Firsts.{plan_for}
use Rattle.nc_yang_leafs.specs.inner.Tables.{Asked, Asks, AsksMember, Work, number_at, number_in, number_of, slot_at, with_plan}

pub and_then_kept : (f g : ℕ → Option ℕ) → ((plan number : ℕ) → f plan ≡ Some number → g plan ≡ Some number) → (o : Option ℕ) (number : ℕ) → option_and_then f o ≡ Some number → option_and_then g o ≡ Some number
and_then_kept f g kept None number e = absurd (cc)
and_then_kept f g kept (Some plan) number e = kept plan number e

abbrev pub Kept : Work → (old new : List (Option Slot)) → Type 0
Kept w old new = (plan number : ℕ) → number_of w.marks old w.node plan ≡ Some number → number_of w.marks new w.node plan ≡ Some number

pub map_kept : (w : Work) (old new : List (Option Slot)) → Kept w old new → (members numbers : List ℕ) → map (number_at w old) members ≡ map Some numbers → map (number_at w new) members ≡ map Some numbers
map_kept w old new kept [] [] e = refl
map_kept w old new kept [] (number ∷ numbers) e = absurd (cc)
map_kept w old new kept (member ∷ members) [] e = absurd (cc)
map_kept w old new kept (member ∷ members) (number ∷ numbers) e =
    let head : number_at w old member ≡ Some number = cc in
    let tail : map (number_at w old) members ≡ map Some numbers = cc in
    let one : number_at w new member ≡ Some number = and_then_kept (number_of w.marks old w.node) (number_of w.marks new w.node) kept (plan_for w.meanings.findings w.firsts member) number head in
    ap (λ z. z ∷ map (number_at w new) members) one ∙ ap (λ z. Some number ∷ z) (map_kept w old new kept members numbers tail)

pub asked_none : (w : Work) (table : Table) → Asked w [] table table []
asked_none w table = record {
  types = refl;
  more = [];
  plans = sym (append-nil table.plans);
  from = λ plan h. absurd (contains_none plan h);
  kept = λ plan number e. e;
  fresh = λ plan number e. inl e;
  given = λ plan number le e. absurd (let l = slice_get_within table.plans number plan e in omega (arith, l, le));
  stamped = λ plan slot e. inl e;
  answers = refl;
}

-- a number that is given anew
module _ (w : Work) (plan : ℕ) (mid : Table) (none : number_of w.marks mid.known w.node plan ≡ None) (within : plan < length mid.known) where
  given : Slot
  given = record { node = w.node; number = length mid.plans }

  after : Table
  after = with_plan mid w.node plan

  slot_same : slot_at (with_plan mid w.node plan).known plan ≡ Some (record { node = w.node; number = length mid.plans })
  slot_same = by (slice_get mid.known plan) refl
    where
      by : (o : Option (Option Slot)) → slice_get mid.known plan ≡ o → slot_at (with_plan mid w.node plan).known plan ≡ Some (record { node = w.node; number = length mid.plans })
      by None e = absurd (let past = get_none mid.known plan e in omega arith)
      by (Some before) e = ap (λ o. unwrap_or o None) (get_set_same mid.known plan before (Some (record { node = w.node; number = length mid.plans })) e)

  slot_other : (q : ℕ) → q ≢ plan → slot_at (with_plan mid w.node plan).known q ≡ slot_at mid.known q
  slot_other q apart = ap (λ o. unwrap_or o None) (get_set_other mid.known plan q (Some (record { node = w.node; number = length mid.plans })) apart)

  in_given : (marked : Bool) → number_in marked w.node (record { node = w.node; number = length mid.plans }) ≡ Some (length mid.plans)
  in_given true = let e : (w.node == w.node) ≡ true = grind arith in ap (λ b. cond (not b) None (Some (length mid.plans))) e
  in_given false = refl

  pub new_same : number_of w.marks (with_plan mid w.node plan).known w.node plan ≡ Some (length mid.plans)
  new_same = ap (option_and_then (number_in (is_marked w.marks plan) w.node)) slot_same ∙ in_given (is_marked w.marks plan)

  pub new_other : (q : ℕ) → q ≢ plan → number_of w.marks (with_plan mid w.node plan).known w.node q ≡ number_of w.marks mid.known w.node q
  new_other q apart = ap (option_and_then (number_in (is_marked w.marks q) w.node)) (slot_other q apart)

  pub new_kept : Kept w mid.known (with_plan mid w.node plan).known
  new_kept q number e = elim (cases_eq q plan) [
    | inl same ↦ absurd (let z : number_of w.marks mid.known w.node q ≡ None = subst (λ z. number_of w.marks mid.known w.node z ≡ None) (sym same) none in cc)
    | inr apart ↦ new_other q apart ∙ e
  ]

  pub new_fresh : (q number : ℕ) → number_of w.marks (with_plan mid w.node plan).known w.node q ≡ Some number →
      (number_of w.marks mid.known w.node q ≡ Some number) ⊎ ((number ≡ length mid.plans) × (q ≡ plan))
  new_fresh q number e = elim (cases_eq q plan) [
    | inl same ↦ inr ((let z : number_of w.marks (with_plan mid w.node plan).known w.node q ≡ Some (length mid.plans) = subst (λ z. number_of w.marks (with_plan mid w.node plan).known w.node z ≡ Some (length mid.plans)) (sym same) new_same in cc), same)
    | inr apart ↦ inl (sym (new_other q apart) ∙ e)
  ]

  pub new_stamped : (q : ℕ) (slot : Slot) → slot_at (with_plan mid w.node plan).known q ≡ Some slot → (slot_at mid.known q ≡ Some slot) ⊎ (slot.node ≡ w.node)
  new_stamped q slot e = elim (cases_eq q plan) [
    | inl same ↦ inr (let z : Some (record { node = w.node; number = length mid.plans }) ≡ Some slot = sym slot_same ∙ subst (λ z. slot_at (with_plan mid w.node plan).known z ≡ Some slot) same e in
        let y : record { node = w.node; number = length mid.plans } ≡ slot = cc in sym (ap (λ (s : Slot). s.node) y))
    | inr apart ↦ inl (sym (slot_other q apart) ∙ e)
  ]

module _ (w : Work) (members : List ℕ) (member : ℕ) (old mid : Table) (numbers : List ℕ) (before : Asked w members old mid numbers) (plan : ℕ) (is : plan_for w.meanings.findings w.firsts member ≡ Some plan) (number : ℕ) where
  answered : (known : List (Option Slot)) → map (number_at w known) members ≡ map Some numbers → number_of w.marks known w.node plan ≡ Some number →
      map (number_at w known) (members ++ member ∷ []) ≡ map Some (numbers ++ number ∷ [])
  answered known earlier now =
      let one : number_at w known member ≡ Some number = ap (option_and_then (number_of w.marks known w.node)) is ∙ now in
      map-append (number_at w known) members (member ∷ []) ∙ ap (λ z. z ++ number_at w known member ∷ []) earlier ∙ ap (λ z. map Some numbers ++ z ∷ []) one
      ∙ sym (map-append Some numbers (number ∷ []))

  asked_known : number_of w.marks mid.known w.node plan ≡ Some number → Asked w (members ++ member ∷ []) old mid (numbers ++ number ∷ [])
  asked_known e = record {
    types = before.types;
    more = before.more;
    plans = before.plans;
    from = λ q h. let f = before.from q h in (f.0, Contains-append_left members (member ∷ []) f.0 f.1, f.2);
    kept = before.kept;
    fresh = before.fresh;
    given = before.given;
    stamped = before.stamped;
    answers = answered mid.known before.answers e;
  }

  asked_new : number_of w.marks mid.known w.node plan ≡ None → plan < length mid.known → number ≡ length mid.plans → Asked w (members ++ member ∷ []) old (with_plan mid w.node plan) (numbers ++ number ∷ [])
  asked_new none within next = record {
    types = before.types;
    more = before.more ++ plan ∷ [];
    plans = ap (λ z. z ++ plan ∷ []) before.plans ∙ append_assoc old.plans before.more (plan ∷ []);
    from = from;
    kept = λ q n e. new_kept w plan mid none within q n (before.kept q n e);
    fresh = fresh;
    given = given;
    stamped = λ q slot e. elim (new_stamped w plan mid none within q slot e) [ inl earlier ↦ before.stamped q slot earlier | inr now ↦ inr now ];
    answers = answered (with_plan mid w.node plan).known (map_kept w mid.known (with_plan mid w.node plan).known (new_kept w plan mid none within) members numbers before.answers) (new_same w plan mid none within ∙ ap Some (sym next));
  }
    where
      from : (q : ℕ) → Contains (before.more ++ plan ∷ []) q → (m : ℕ) × Contains (members ++ member ∷ []) m × (plan_for w.meanings.findings w.firsts m ≡ Some q)
      from q h = elim (Contains-append_cases before.more (plan ∷ []) q h) [
        | inl earlier ↦ let f = before.from q earlier in (f.0, Contains-append_left members (member ∷ []) f.0 f.1, f.2)
        | inr now ↦ (member, Contains-push members member, is ∙ ap Some (contains_one plan q now))
      ]

      longer : length old.plans ≤ length mid.plans
      longer = let e : length mid.plans ≡ length old.plans + length before.more = ap length before.plans ∙ length-append old.plans before.more in omega arith

      fresh : (q n : ℕ) → number_of w.marks (with_plan mid w.node plan).known w.node q ≡ Some n →
          (number_of w.marks old.known w.node q ≡ Some n) ⊎ ((length old.plans ≤ n) × (slice_get (mid.plans ++ plan ∷ []) n ≡ Some q))
      fresh q n e = elim (new_fresh w plan mid none within q n e) [
        | inl there ↦ elim (before.fresh q n there) [
          | inl earlier ↦ inl earlier
          | inr (le, at) ↦ inr (le, get_left mid.plans (plan ∷ []) n (slice_get_within mid.plans n q at) ∙ at)
        ]
        | inr (at, same) ↦ inr (
          (let l = longer in omega arith),
          (let z : n ≡ length mid.plans + 0 = omega arith in ap (slice_get (mid.plans ++ plan ∷ [])) z ∙ get_right mid.plans (plan ∷ []) (length mid.plans) 0 refl ∙ ap Some (sym same)),
        )
      ]

      given : (q n : ℕ) → length old.plans ≤ n → slice_get (mid.plans ++ plan ∷ []) n ≡ Some q → number_of w.marks (with_plan mid w.node plan).known w.node q ≡ Some n
      given q n le e = elim (cases_eq n (length mid.plans)) [
        | inl now ↦
            let here : slice_get (mid.plans ++ plan ∷ []) n ≡ Some plan =
            (let z : n ≡ length mid.plans + 0 = omega (arith, now) in ap (slice_get (mid.plans ++ plan ∷ [])) z ∙ get_right mid.plans (plan ∷ []) (length mid.plans) 0 refl) in
            let same : plan ≡ q = cc in
            subst (λ z. number_of w.marks (with_plan mid w.node plan).known w.node z ≡ Some n) same (new_same w plan mid none within ∙ ap Some (sym now))
        | inr apart ↦
            let less : n < length mid.plans = (let l = slice_get_within (mid.plans ++ plan ∷ []) n q e in let c = length-append mid.plans (plan ∷ []) in omega (arith, l, c, apart)) in
            new_kept w plan mid none within q n (before.given q n le (sym (get_left mid.plans (plan ∷ []) n less) ∙ e))
      ]

pub asked_more : (w : Work) (members : List ℕ) (member : ℕ) (old mid new : Table) (numbers : List ℕ) (number : ℕ) → Asked w members old mid numbers → AsksMember w member mid new number →
    Asked w (members ++ member ∷ []) old new (numbers ++ number ∷ [])
asked_more w members member old mid new numbers number before one = by one.asks
  where
    by : Asks w.marks w.node one.plan mid new number → Asked w (members ++ member ∷ []) old new (numbers ++ number ∷ [])
    by (inl (e, same)) = subst (λ z. Asked w (members ++ member ∷ []) old z (numbers ++ number ∷ [])) (sym same) (asked_known w members member old mid numbers before one.plan one.is number e)
    by (inr (none, within, next, made)) = subst (λ z. Asked w (members ++ member ∷ []) old z (numbers ++ number ∷ [])) (sym made) (asked_new w members member old mid numbers before one.plan one.is number none within next)

-- the next of several
pub asked_turn : (w : Work) (members : List ℕ) (i member : ℕ) → i < length members → member ≡ get_or members i 0 → (old mid new : Table) (numbers next : List ℕ) (number : ℕ) →
    Asked w (take i members) old mid numbers → AsksMember w member mid new number → next ≡ numbers ++ number ∷ [] → Asked w (take (i + 1) members) old new next
asked_turn w members i member less is old mid new numbers next number before one next_is =
    subst (λ z. Asked w (take (i + 1) members) old new z) (sym next_is)
    (subst (λ z. Asked w z old new (numbers ++ number ∷ [])) (sym (take_next members i member (slice_get-get_or members i 0 less ∙ ap Some (sym is))))
    (asked_more w (take i members) member old mid new numbers number before one))
