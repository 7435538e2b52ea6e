-- From where names lead down to a value.
use Rattle.std.proofs.Common.{◌≡◌, ◌≢◌, ◌⊎◌, inl, inr, ℕ, zero, suc, ◌<◌, ◌≤◌, ◌+◌, Bool, true, false, eqb, ◌||◌, List, [], ◌∷◌, ◌++◌, Option, Some, None, IfSome, length, length-append, get_or, replicate, set, slice_get, option_and_then, refl, sym, ap, subst, ◌∙◌, append-nil, arith}
use Rattle.std.proofs.lemmas.Bool.Decides.{Decides-eqb, nat_tests}
use Rattle.std.proofs.lemmas.List.{get_or-set_same, get_or-set_other, length-replicate, length-set}
use Rattle.nc_names.proofs.SameLemmas.{first_true, second_true, both_true}
use Rattle.nc_names.specs.Signs.{slash}
use Rattle.nc_schema.specs.Children.{HasLowerParents, IsAbove, child_number, is_same_number}
use Rattle.nc_schema.specs.InstancePaths.{leafref_name, parent_of}
use Rattle.nc_schema.specs.declared.node.Node.{Node}
use Rattle.nc_path_places.specs.inner.Candidates.{stands}
use Rattle.nc_path_places.specs.inner.Going.{Reading}
use Rattle.nc_path_places.specs.inner.LeafrefNames.{HasMarks, IsMarking, goes_down, is_reached, is_value, is_writable, leads, named_there, place_of}
use Rattle.nc_path_places.specs.inner.Leafrefs.{Down}
use Rattle.nc_path_places.proofs.Below.{child_stands, get_less}
use Rattle.nc_path_places.proofs.DownLemmas.{IsPart, down_end, down_on, down_view, there_part}
use Rattle.nc_path_places.proofs.Names.{bind_some, map_or_true}
use Rattle.nc_path_places.proofs.WayLemmas.{Either, either, named_by, named_writable, or_right, writable_named}

-- ---- marks
nothing_there : (n i : ℕ) → get_or (replicate n false) i false ≡ false
nothing_there zero i = refl
nothing_there (suc n) zero = refl
nothing_there (suc n) (suc i) = nothing_there n i

place_same : (a b : Option ℕ) → place_of a ≡ place_of b → a ≡ b
place_same None None e = refl
place_same None (Some b) e = absurd (omega (arith, e))
place_same (Some a) None e = absurd (omega (arith, e))
place_same (Some a) (Some b) e = ap Some (omega (arith, e))

-- a mark is that which was set or was there
set_either : (marks : List Bool) (over above : Option ℕ) → goes_down (set marks (place_of over) true) above ≡ true → (above ≡ over) ⊎ (goes_down marks above ≡ true)
set_either marks over above e = by (eqb (place_of above) (place_of over)) refl
  where
    by : (t : Bool) → eqb (place_of above) (place_of over) ≡ t → (above ≡ over) ⊎ (goes_down marks above ≡ true)
    by true same = inl (place_same above over ((Decides-eqb (place_of above) (place_of over)).0 same))
    by false other =
        let apart : place_of above ≢ place_of over = (λ f. (let yes : eqb (place_of above) (place_of over) ≡ true = (Decides-eqb (place_of above) (place_of over)).1 f in let clash : true ≡ false = sym yes ∙ other in cc)) in
        inr (sym (get_or-set_other marks (place_of over) (place_of above) true false apart) ∙ e)

set_there : (marks : List Bool) (over : Option ℕ) → place_of over < length marks → goes_down (set marks (place_of over) true) over ≡ true
set_there marks over less = get_or-set_same marks (place_of over) true false less

set_keeps : (marks : List Bool) (over above : Option ℕ) → place_of over < length marks → goes_down marks above ≡ true → goes_down (set marks (place_of over) true) above ≡ true
set_keeps marks over above less e = by (eqb (place_of above) (place_of over)) refl
  where
    by : (t : Bool) → eqb (place_of above) (place_of over) ≡ t → goes_down (set marks (place_of over) true) above ≡ true
    by true same = subst (λ (x : Option ℕ). goes_down (set marks (place_of over) true) x ≡ true) (sym (place_same above over ((Decides-eqb (place_of above) (place_of over)).0 same))) (set_there marks over less)
    by false other =
        let apart : place_of above ≢ place_of over = (λ f. (let yes : eqb (place_of above) (place_of over) ≡ true = (Decides-eqb (place_of above) (place_of over)).1 f in let clash : true ≡ false = sym yes ∙ other in cc)) in
        get_or-set_other marks (place_of over) (place_of above) true false apart ∙ e

set_other : (marks : List Bool) (over above : Option ℕ) → place_of above ≢ place_of over → goes_down (set marks (place_of over) true) above ≡ goes_down marks above
set_other marks over above apart = get_or-set_other marks (place_of over) (place_of above) true false apart

-- the node above has a lower number
parent_place : (s : Reading) (number : ℕ) → HasLowerParents s.tables.nodes → place_of (parent_of s.tables number) < number + 1
parent_place s number lower = by (slice_get s.tables.nodes number) (lower number)
  where
    over : (number : ℕ) (o : Option ℕ) → IsAbove o number → place_of o < number + 1
    over number None less = omega arith
    over number (Some above) less = omega (arith, less)

    by : (o : Option Node) → IfSome o (λ node. IsAbove node.parent number) → place_of (option_and_then (λ (node : Node). node.parent) o) < number + 1
    by None above = omega arith
    by (Some node) above = over number node.parent above

module _ (s : Reading) (own : List ℕ) where
  -- a data node to which a name leads, and at or below which a path can end
  pub from_lead : (marks : List Bool) → ((above : Option ℕ) → goes_down marks above ≡ true → (text : List ℕ) × Down s own above text) → (above : Option ℕ) (part : List ℕ) (number : ℕ) → named_there s own above part ≡ Some number → leads s.tables marks number ≡ true → (more : List ℕ) × Down s own above (part ++ more)
  from_lead marks sound above part number named goes = by (either (is_value s.tables number) (goes_down marks (Some number)) goes)
    where
      whole : IsPart part
      whole = there_part s own above part number named

      by : Either (is_value s.tables number) (goes_down marks (Some number)) → (more : List ℕ) × Down s own above (part ++ more)
      by (inl value) = ([], subst (Down s own above) (sym (append-nil part)) (down_end s own above part number whole named ∙ value))
      by (inr down) =
          let (text, holds) = sound (Some number) down in
          (slash ∷ text, down_on s own above part text number whole named ∙ holds)

  pub marking_start : (count : ℕ) → count ≡ length s.tables.nodes + 1 → IsMarking s own (replicate count false) (length s.tables.nodes)
  marking_start count e = record {
    long = length-replicate count false ∙ e;
    sound = λ above goes. absurd (let clash : false ≡ true = sym (nothing_there count (place_of above)) ∙ goes in cc);
    closed = λ number past goes reached. absurd (none number past (first_true (stands s.tables (parent_of s.tables number) number) (is_writable s own number) reached));
  }
    where
      none : (number : ℕ) → length s.tables.nodes ≤ number → stands s.tables (parent_of s.tables number) number ≡ true → ⊥
      none number past there =
          let (node, node_is, same) = map_or_true (λ (node : Node). is_same_number (child_number s.tables (parent_of s.tables number) node.name) (Some number)) (slice_get s.tables.nodes number) there in
          let less = get_less s.tables.nodes number node node_is in
          omega (arith, less, past)

  marking_same : (marks : List Bool) (number : ℕ) → IsMarking s own marks (number + 1) → (leads s.tables marks number ≡ true → is_reached s own number ≡ true → ⊥) → IsMarking s own marks number
  marking_same marks number is none = record {
    long = is.long;
    sound = is.sound;
    closed = λ other least goes reached. by other least goes reached (eqb other number) refl;
  }
    where
      by : (other : ℕ) → number ≤ other → leads s.tables marks other ≡ true → is_reached s own other ≡ true → (t : Bool) → eqb other number ≡ t → goes_down marks (parent_of s.tables other) ≡ true
      by other least goes reached true same =
          let it : other ≡ number = (Decides-eqb other number).0 same in
          absurd (none (ap (leads s.tables marks) (sym it) ∙ goes) (ap (is_reached s own) (sym it) ∙ reached))
      by other least goes reached false apart =
          let more : number + 1 ≤ other = grind (arith, nat_tests) in
          is.closed other more goes reached

  pub marking_unreached : (marks : List Bool) (number : ℕ) → IsMarking s own marks (number + 1) → is_reached s own number ≡ false → IsMarking s own marks number
  marking_unreached marks number is e = marking_same marks number is (λ goes reached. (let clash : true ≡ false = sym reached ∙ e in cc))

  pub marking_idle : (marks : List Bool) (number : ℕ) → IsMarking s own marks (number + 1) → leads s.tables marks number ≡ false → IsMarking s own marks number
  marking_idle marks number is e = marking_same marks number is (λ goes reached. (let clash : true ≡ false = sym goes ∙ e in cc))

  pub marking_more : (marks : List Bool) (number : ℕ) → HasLowerParents s.tables.nodes → number < length s.tables.nodes → IsMarking s own marks (number + 1) → is_reached s own number ≡ true → leads s.tables marks number ≡ true → IsMarking s own (set marks (place_of (parent_of s.tables number)) true) number
  marking_more marks number lower within is reached goes = record {
    long = length-set marks (place_of over) true ∙ is.long;
    sound = λ above down. by_sound above (set_either marks over above down);
    closed = λ other least leading there. by_closed other least leading there (eqb other number) refl;
  }
    where
      over : Option ℕ
      over = parent_of s.tables number

      inside : place_of (parent_of s.tables number) < length marks
      inside = let low = parent_place s number lower in omega (arith, low, within, is.long)

      by_sound : (above : Option ℕ) → (above ≡ parent_of s.tables number) ⊎ (goes_down marks above ≡ true) → (text : List ℕ) × Down s own above text
      by_sound above (inr down) = is.sound above down
      by_sound above (inl same) =
          let (part, named) = writable_named s own (parent_of s.tables number) number (first_true (stands s.tables (parent_of s.tables number) number) (is_writable s own number) reached) (second_true (stands s.tables (parent_of s.tables number) number) (is_writable s own number) reached) in
          let (more, holds) = from_lead marks is.sound (parent_of s.tables number) part number named goes in
          (part ++ more, subst (λ (x : Option ℕ). Down s own x (part ++ more)) (sym same) holds)

      -- nothing is set at or below the number
      still : (other : ℕ) → number ≤ other → leads s.tables (set marks (place_of (parent_of s.tables number)) true) other ≡ leads s.tables marks other
      still other least =
          let low = parent_place s number lower in
          let apart : place_of (Some other) ≢ place_of (parent_of s.tables number) = (λ f. omega (arith, f, low, least)) in
          ap (λ t. is_value s.tables other || t) (set_other marks (parent_of s.tables number) (Some other) apart)

      by_closed : (other : ℕ) → number ≤ other → leads s.tables (set marks (place_of (parent_of s.tables number)) true) other ≡ true → is_reached s own other ≡ true → (t : Bool) → eqb other number ≡ t → goes_down (set marks (place_of (parent_of s.tables number)) true) (parent_of s.tables other) ≡ true
      by_closed other least leading there true same =
          let it : other ≡ number = (Decides-eqb other number).0 same in
          subst (λ (n : ℕ). goes_down (set marks (place_of (parent_of s.tables number)) true) (parent_of s.tables n) ≡ true) (sym it) (set_there marks (parent_of s.tables number) inside)
      by_closed other least leading there false apart =
          let more : number + 1 ≤ other = grind (arith, nat_tests) in
          set_keeps marks (parent_of s.tables number) (parent_of s.tables other) inside (is.closed other more (sym (still other least) ∙ leading) there)

  -- ---- all data nodes have been looked at
  same_above : (a b : Option ℕ) → is_same_number a b ≡ true → a ≡ b
  same_above None None e = refl
  same_above None (Some b) e = cc
  same_above (Some a) None e = cc
  same_above (Some a) (Some b) e = ap Some ((Decides-eqb a b).0 e)

  -- a name leads to a node from its parent
  from_parent : (above : Option ℕ) (part : List ℕ) (number : ℕ) → named_there s own above part ≡ Some number → (parent_of s.tables number ≡ above) × (is_reached s own number ≡ true)
  from_parent above part number named =
      let (q, q_is, child) = bind_some (leafref_name s.tables own s.bounds part) (child_number s.tables above) number named in
      let found = child_stands s above number q child in
      let parent : parent_of s.tables number ≡ above = ap (λ o. option_and_then (λ (node : Node). node.parent) o) found.is ∙ same_above found.node.parent above found.parent in
      let it = named_by s own above part number named in (
        parent,
        both_true (stands s.tables (parent_of s.tables number) number) (is_writable s own number)
            (ap (λ o. stands s.tables o number) parent ∙ it.there) (named_writable s own above part number it),
      )

  lead_up : (marks : List Bool) → IsMarking s own marks 0 → (above : Option ℕ) (part : List ℕ) (number : ℕ) → named_there s own above part ≡ Some number → leads s.tables marks number ≡ true → goes_down marks above ≡ true
  lead_up marks is above part number named goes =
      let (parent, reached) = from_parent above part number named in
      ap (goes_down marks) (sym parent) ∙ is.closed number (omega arith) goes reached

  abbrev Goes : Option ℕ → List ℕ → List ℕ → ℕ → Type 0
  Goes above text part number = ((text ≡ part) × (is_value s.tables number ≡ true)) ⊎ ((rest : List ℕ) × (text ≡ part ++ slash ∷ rest) × Down s own (Some number) rest)

  -- what names lead down from, by a bound on what follows
  one_more : (marks : List Bool) → IsMarking s own marks 0 → (above : Option ℕ) (text part : List ℕ) (number : ℕ) → named_there s own above part ≡ Some number → Goes above text part number → ((rest : List ℕ) → length rest < length text → Down s own (Some number) rest → goes_down marks (Some number) ≡ true) → goes_down marks above ≡ true
  one_more marks is above text part number named (inl end) further = lead_up marks is above part number named (ap (λ t. t || goes_down marks (Some number)) end.1)
  one_more marks is above text part number named (inr (rest, whole, down)) further =
      let long = ap length whole ∙ length-append part (slash ∷ rest) in
      lead_up marks is above part number named (or_right (is_value s.tables number) (goes_down marks (Some number)) (further rest (omega (arith, long)) down))

  complete : (marks : List Bool) → IsMarking s own marks 0 → (most : ℕ) (above : Option ℕ) (text : List ℕ) → length text < most → Down s own above text → goes_down marks above ≡ true
  complete marks is zero above text within down = absurd (omega (arith, within))
  complete marks is (suc most) above text within down =
      let view = down_view s own above text down in
      one_more marks is above text view.part view.number view.named view.goes
      (λ rest less further. complete marks is most (Some view.number) rest (omega (arith, less, within)) further)

  pub marked : (marks : List Bool) → IsMarking s own marks 0 → HasMarks s own marks
  marked marks is = record { sound = is.sound; complete = λ above text down. complete marks is (length text + 1) above text (omega arith) down }
