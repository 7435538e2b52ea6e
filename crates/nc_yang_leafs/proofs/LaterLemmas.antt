-- What was given for one data node does for the next, where no leafref is in it.
use Rattle.std.proofs.Common.{◌≡◌, ◌≤◌, ◌+◌, ◌==◌, ◌&&◌, ℕ, zero, suc, Bool, true, false, not, cond, List, [], ◌∷◌, map, refl, sym, ap, ◌∙◌, arith}
use Rattle.std.specs.Prelude.{Option, Some, None, option_and_then, option_map, replicate}
use Rattle.std.specs.List.{list_all}
use Rattle.std.specs.Option.{option_map_or}
use Rattle.nc_names.specs.declared.name.QName.{QName}
use Rattle.nc_schema.specs.declared.value_type.ValueType.{ValueType}
use Rattle.nc_schema.specs.Tables.{Tables}
use Rattle.nc_yang_scopes.specs.Scopes.{Located, Scoping}
use Rattle.nc_yang_types.specs.declared.planned.Meanings.{Meanings}
use Rattle.nc_yang_types.specs.declared.planned.Planned.{Planned}
use Rattle.nc_yang_types.specs.declared.planned.Planned.TheVariants.{Bases, Finished, Leafref, Members}
use Rattle.nc_yang_leafs.specs.declared.table.Slot.{Slot}
use Rattle.nc_yang_leafs.specs.declared.table.Table.{Table}
use Rattle.nc_yang_leafs.specs.Marks.{AreMarks, is_marked, is_plain, is_unmarked_at, plan_at}
use Rattle.nc_yang_leafs.specs.inner.Firsts.{AreFirsts, first_in}
use Rattle.nc_yang_leafs.specs.inner.Nodes.{blank}
use Rattle.nc_yang_leafs.specs.inner.Tables.{Fits, IsReady, IsSettled, Work, number_at, number_in, number_of, slot_at}
use Rattle.nc_yang_leafs.proofs.FirstLemmas.{first_off}

module _ (scoping : Scoping) (given : Tables) (meanings : Meanings) (marks : List Bool) (firsts : List ℕ) where
  abbrev pub at_node : ℕ → Work
  at_node node = record { scoping = scoping; given = given; meanings = meanings; marks = marks; firsts = firsts; node = node }

  -- an unmarked plan has one number for all
  same_in : (k n : ℕ) (o : Option Slot) → option_and_then (number_in false k) o ≡ option_and_then (number_in false n) o
  same_in k n None = refl
  same_in k n (Some slot) = refl

  same_of : (known : List (Option Slot)) (k n plan : ℕ) → is_marked marks plan ≡ false → number_of marks known k plan ≡ number_of marks known n plan
  same_of known k n plan off = ap (λ b. option_and_then (number_in b k) (slot_at known plan)) off ∙ same_in k n (slot_at known plan) ∙ sym (ap (λ b. option_and_then (number_in b n) (slot_at known plan)) off)

  -- and so has the one that has its entry
  abbrev HaveOff : Type 0
  HaveOff = (own : ℕ) → is_marked marks own ≡ false → is_marked marks (first_in firsts own) ≡ false

  same_at : HaveOff → (known : List (Option Slot)) (k n member : ℕ) → is_unmarked_at meanings.findings marks member ≡ true → number_at (at_node k) known member ≡ number_at (at_node n) known member
  same_at have known k n member off = by (plan_at meanings.findings member) off
    where
      by : (o : Option ℕ) → option_map_or (λ plan. not (is_marked marks plan)) o false ≡ true → option_and_then (number_of marks known k) (option_map (first_in firsts) o) ≡ option_and_then (number_of marks known n) (option_map (first_in firsts) o)
      by None e = refl
      by (Some plan) e = same_of known k n (first_in firsts plan) (have plan (off_by (is_marked marks plan) e))
        where
          off_by : (b : Bool) → not b ≡ true → b ≡ false
          off_by true e = absurd (cc)
          off_by false e = refl

  same_all : HaveOff → (known : List (Option Slot)) (k n : ℕ) (members : List ℕ) → list_all (is_unmarked_at meanings.findings marks) members ≡ true → map (number_at (at_node k) known) members ≡ map (number_at (at_node n) known) members
  same_all have known k n [] off = refl
  same_all have known k n (member ∷ members) off = by (is_unmarked_at meanings.findings marks member) refl off (same_all have known k n members)
    where
      by : (b : Bool) → is_unmarked_at meanings.findings marks member ≡ b → (b && list_all (is_unmarked_at meanings.findings marks) members) ≡ true →
          (list_all (is_unmarked_at meanings.findings marks) members ≡ true → map (number_at (at_node k) known) members ≡ map (number_at (at_node n) known) members) →
          map (number_at (at_node k) known) (member ∷ members) ≡ map (number_at (at_node n) known) (member ∷ members)
      by false e f more = absurd (cc)
      by true e f more = ap (λ z. z ∷ map (number_at (at_node k) known) members) (same_at have known k n member e) ∙ ap (λ z. number_at (at_node n) known member ∷ z) (more f)

  -- a number for the next data node is of a plan that is not marked
  back : (known : List (Option Slot)) (k plan number : ℕ) → ((slot : Slot) → slot_at known plan ≡ Some slot → slot.node ≤ k) → number_of marks known (k + 1) plan ≡ Some number → is_marked marks plan ≡ false
  back known k plan number stamped e = by (slot_at known plan) refl (is_marked marks plan) e
    where
      by : (o : Option Slot) → slot_at known plan ≡ o → (b : Bool) → option_and_then (number_in b (k + 1)) o ≡ Some number → b ≡ false
      by None at b f = absurd (cc)
      by (Some slot) at false f = refl
      by (Some slot) at true f = absurd (
          let low = stamped slot at in
          let other : (slot.node == k + 1) ≡ false = grind arith in
          let g : cond (not (slot.node == k + 1)) None (Some slot.number) ≡ Some number = f in
          let h : None ≡ Some number = sym (ap (λ b. cond (not b) None (Some slot.number)) other) ∙ g in cc)

  module _ (derived : List Located → List QName → Type 0) (are : AreMarks meanings marks) where
    abbrev pub HaveFirsts : Type 0
    HaveFirsts = AreFirsts derived scoping.located meanings.plans marks firsts

    fits_later : HaveFirsts → (known : List (Option Slot)) (k n : ℕ) (planned : Planned) (entry : ValueType) → is_plain meanings.findings marks planned ≡ true → Fits derived (at_node k) known planned entry → Fits derived (at_node n) known planned entry
    fits_later shared known k n (Finished one patterns listed) entry plain h = h
    fits_later shared known k n (Bases bases) entry plain h = h
    fits_later shared known k n (Leafref path need) entry plain h = absurd (cc)
    fits_later shared known k n (Members members) entry plain h = (
      h.0,
      h.1,
      sym (same_all (first_off derived scoping.located meanings.plans marks firsts shared) known k n members plain) ∙ h.2,
    )

    pub ready_next : (k : ℕ) (table : Table) → IsSettled derived (at_node k) table → IsReady derived (at_node (k + 1)) table
    ready_next k table settled = record {
      settled = record {
        right = record {
          numbered = λ plan number e. settled.right.numbered plan number (earlier plan number e);
          fits = λ plan number entry planned e at there.
              fits_later settled.right.firsts table.known k (k + 1) planned entry (are plan planned there (off plan number e)) (settled.right.fits plan number entry planned (earlier plan number e) at there);
          stamped = λ plan slot e. (let low = settled.right.stamped plan slot e in omega (arith, low));
          firsts = settled.right.firsts;
        };
        made = settled.made;
      };
      before = λ plan slot e. (let low = settled.right.stamped plan slot e in omega (arith, low));
    }
      where
        off : (plan number : ℕ) → number_of marks table.known (k + 1) plan ≡ Some number → is_marked marks plan ≡ false
        off plan number e = back table.known k plan number (settled.right.stamped plan) e

        earlier : (plan number : ℕ) → number_of marks table.known (k + 1) plan ≡ Some number → number_of marks table.known k plan ≡ Some number
        earlier plan number e = same_of table.known k (k + 1) plan (off plan number e) ∙ e

    -- at first no plan has a number
    slots_none : (count plan : ℕ) → slot_at (replicate count None) plan ≡ None
    slots_none zero plan = refl
    slots_none (suc count) zero = refl
    slots_none (suc count) (suc plan) = slots_none count plan

    pub ready_first : HaveFirsts → (count k : ℕ) → IsReady derived (at_node k) (blank count)
    ready_first shared count k = record {
      settled = record {
        right = record {
          numbered = λ plan number e. absurd (no_number plan number e);
          fits = λ plan number entry planned e. absurd (no_number plan number e);
          stamped = λ plan slot e. absurd (no_slot plan slot e);
          firsts = shared;
        };
        made = omega arith;
      };
      before = λ plan slot e. absurd (no_slot plan slot e);
    }
      where
        no_slot : (plan : ℕ) (slot : Slot) → slot_at (replicate count None) plan ≡ Some slot → ⊥
        no_slot plan slot e = let z = slots_none count plan in cc

        no_number : (plan number : ℕ) → number_of marks (replicate count None) k plan ≡ Some number → ⊥
        no_number plan number e = let z : None ≡ Some number = sym (ap (option_and_then (number_in (is_marked marks plan) k)) (slots_none count plan)) ∙ e in cc
