-- What readers of the path of a leafref that is refused have read, and where they stop.
use Rattle.std.proofs.Common.{◌≡◌, ◌⊎◌, inl, inr, ℕ, ◌<◌, ◌-◌, Bool, true, false, cond, eqb, ◌||◌, List, [], ◌∷◌, ◌++◌, Option, Some, None, length, length-append, is_some, slice_get, option_and_then, refl, sym, ap, subst, ◌∙◌, append_assoc, append-nil, arith}
use Rattle.std.proofs.lemmas.Bool.Decides.{Decides-eqb}
use Rattle.nc_names.specs.Signs.{begins_identifier, dot, slash}
use Rattle.nc_schema.specs.InstancePaths.{leafref_end, leafref_parts, parent_of}
use Rattle.nc_schema.specs.PathWords.{begins_with, sign, up_to}
use Rattle.nc_schema.specs.declared.node.Node.{Node}
use Rattle.nc_path_places.specs.declared.halt.Halt.{Halt}
use Rattle.nc_path_places.specs.declared.halt.Halt.TheVariants.{Here, Memory}
use Rattle.nc_path_places.specs.declared.leafref_ways.Ways.{Ways}
use Rattle.nc_path_places.specs.inner.Candidates.{common}
use Rattle.nc_path_places.specs.inner.Counted.{OnHere, reading_of}
use Rattle.nc_path_places.specs.inner.Going.{Reading}
use Rattle.nc_path_places.specs.inner.Halting.{Halts, Leads, first_sign}
use Rattle.nc_path_places.specs.inner.LeafrefNames.{HasMarks, far_way, goes_down, is_value, leads, named_there, way}
use Rattle.nc_path_places.specs.inner.LeafrefPlaces.{AreRises, AreWays, IsNoRise, IsRise, IsSpaceOf, IsTurn, after_up}
use Rattle.nc_path_places.specs.inner.Leafrefs.{Down, From, IsOpen, LeafrefPath, Rise, parts, up}
use Rattle.nc_paths.specs.Parts.{IsNext}
use Rattle.nc_path_places.proofs.Cuts.{halts_here, halts_on, leads_on, sign_is, sign_of}
use Rattle.nc_path_places.proofs.DownLemmas.{IsDown, IsPart, down_end, down_first, down_on, down_view, there_part}
use Rattle.nc_path_places.proofs.Farthest.{StopsWord, stops_word}
use Rattle.nc_path_places.proofs.MarkLemmas.{from_lead}
use Rattle.nc_path_places.proofs.Names.{bind_some}
use Rattle.nc_path_places.proofs.Stages.{up_to_cut, up_to_open}
use Rattle.nc_path_places.proofs.TurnLemmas.{down_from, from_view, path_view, rise_from, rise_path, slash_path}
use Rattle.nc_path_places.proofs.WayLemmas.{Either, WayName, either, far_least_all, far_there_all, or_right}

module _ (s : Reading) (own : List ℕ) (marks : List Bool) (has : HasMarks s own marks) where
  -- ---- names
  way_name : (above : Option ℕ) (part : List ℕ) (number : ℕ) → way s own marks above part ≡ Some number → (named_there s own above part ≡ Some number) × (leads s.tables marks number ≡ true)
  way_name above part number e =
      let (found, named, f) = bind_some (named_there s own above part) (λ n. cond {A = Option ℕ} (leads s.tables marks n) (Some n) None) number e in
      by found named (leads s.tables marks found) refl f
    where
      by : (found : ℕ) → named_there s own above part ≡ Some found → (t : Bool) → leads s.tables marks found ≡ t → cond {A = Option ℕ} t (Some found) None ≡ Some number → (named_there s own above part ≡ Some number) × (leads s.tables marks number ≡ true)
      by found named true goes f = let same : found ≡ number = cc in (named ∙ ap Some same, ap (leads s.tables marks) (sym same) ∙ goes)
      by found named false goes f = cc

  name_way : (above : Option ℕ) (part : List ℕ) (number : ℕ) → named_there s own above part ≡ Some number → leads s.tables marks number ≡ true → way s own marks above part ≡ Some number
  name_way above part number named goes = rw (named, goes) refl

  -- the number of a name leads on exactly if names do so from there
  down_leads : (number : ℕ) (rest : List ℕ) → Down s own (Some number) rest → leads s.tables marks number ≡ true
  down_leads number rest down = or_right (is_value s.tables number) (goes_down marks (Some number)) (has.complete (Some number) rest down)

  next_is : (text part : List ℕ) (more : Option (List ℕ)) (other x : List ℕ) → IsNext text part more → IsPart other → text ≡ other ++ slash ∷ x → part ≡ other
  next_is text part None other x (none, whole) is_part e =
      let reads : up_to slash text ≡ Some (other, x) = ap (up_to slash) e ∙ up_to_open slash other x is_part in
      let clash : ◌≡◌ {A = Option (List ℕ × List ℕ)} None (Some (other, x)) = sym none ∙ reads in
      absurd cc
  next_is text part (Some rest) other x next is_part e =
      let reads : up_to slash text ≡ Some (other, x) = ap (up_to slash) e ∙ up_to_open slash other x is_part in
      let both : ◌≡◌ {A = Option (List ℕ × List ℕ)} (Some (part, rest)) (Some (other, x)) = sym next ∙ reads in
      let pair : ◌≡◌ {A = List ℕ × List ℕ} (part, rest) (other, x) = cc in
      ap (λ (p : List ℕ × List ℕ). p.0) pair

  module _ (above : Option ℕ) (text part : List ℕ) (more : Option (List ℕ)) (next : IsNext text part more) where
    -- no name: the text stops to be one where it is farthest
    pub no_way_halts : goes_down marks above ≡ true → way s own marks above part ≡ None → Halts (Down s own above) text (length text - far_way s own marks above text (length s.tables.nodes))
    no_way_halts goes missing = record {
      front = stop.front;
      rest = stop.rest;
      is = stop.is;
      long = stop.long;
      more = (begins stop.begun).0;
      before = (begins stop.begun).1;
      there = λ c cs tail e down. clash c cs tail e (down_view s own above (stop.front ++ c ∷ tail) down);
    }
      where
        stop : StopsWord (WayName s own marks above) text (length text - far_way s own marks above text (length s.tables.nodes))
        stop = stops_word (WayName s own marks above) text (far_way s own marks above text (length s.tables.nodes)) (far_least_all s own marks above text) (far_there_all s own marks above text)

        begins : (stop.front ≡ []) ⊎ ((u : List ℕ) × (tail : List ℕ) × WayName s own marks above u × (stop.front ++ tail ≡ u)) → (tail : List ℕ) × Down s own above (stop.front ++ tail)
        begins (inl none) =
            let (tail, holds) = has.sound above goes in
            (tail, subst (Down s own above) (ap (λ x. x ++ tail) (sym none)) holds)
        begins (inr (u, tail, (number, named, on), e)) =
            let (after, holds) = from_lead s own marks has.sound above u number named on in
            (tail ++ after, subst (Down s own above) (ap (λ x. x ++ after) (sym e) ∙ append_assoc stop.front tail after) holds)

        none : (other x : List ℕ) (number : ℕ) → named_there s own above other ≡ Some number → leads s.tables marks number ≡ true → text ≡ other ++ slash ∷ x → ⊥
        none other x number named on e =
            let same : part ≡ other = next_is text part more other x next (there_part s own above other number named) e in
            let found : way s own marks above part ≡ Some number = ap (way s own marks above) same ∙ name_way above other number named on in
            let both : None ≡ Some number = sym missing ∙ found in
            cc

        not_empty : (less : List ℕ) (c : ℕ) (tail : List ℕ) → [] ≡ less ++ c ∷ tail → ⊥
        not_empty [] c tail e = cc
        not_empty (d ∷ less) c tail e = cc

        slashed : (less : List ℕ) (c : ℕ) (cs tail rest : List ℕ) → slash ∷ rest ≡ less ++ c ∷ tail → (x : List ℕ) × (less ++ c ∷ cs ≡ slash ∷ x)
        slashed [] c cs tail rest e = let head : c ≡ slash = cc in (cs, ap (λ x. x ∷ cs) head)
        slashed (d ∷ less) c cs tail rest e = let head : d ≡ slash = cc in (less ++ c ∷ cs, ap (λ x. x ∷ (less ++ c ∷ cs)) head)

        clash : (c : ℕ) (cs tail : List ℕ) → stop.rest ≡ c ∷ cs → IsDown s own above (stop.front ++ c ∷ tail) → ⊥
        clash c cs tail e view = by view.part view.number view.named view.goes
          where
            by : (other : List ℕ) (number : ℕ) → named_there s own above other ≡ Some number → ((stop.front ++ c ∷ tail ≡ other) × (is_value s.tables number ≡ true)) ⊎ ((rest : List ℕ) × (stop.front ++ c ∷ tail ≡ other ++ slash ∷ rest) × Down s own (Some number) rest) → ⊥
            by other number named (inl end) =
                let on : leads s.tables marks number ≡ true = ap (λ t. t || goes_down marks (Some number)) end.1 in
                let found = stop.there c cs tail other [] e (number, named, on) (end.0 ∙ sym (append-nil other)) in
                not_empty found.0 c tail found.1
            by other number named (inr (rest, is, down)) =
                let on = down_leads number rest down in
                let found = stop.there c cs tail other (slash ∷ rest) e (number, named, on) is in
                let (x, slash_first) = slashed found.0 c cs tail rest found.1 in
                none other x number named on (found.2 ∙ ap (λ y. other ++ y) slash_first)

    module _ (number : ℕ) (found : way s own marks above part ≡ Some number) where
      named : named_there s own above part ≡ Some number
      named = (way_name above part number found).0

      whole : IsPart part
      whole = there_part s own above part number named

      -- the text ends after the name
      pub short_halts : text ≡ part → Halts (Down s own above) text 0
      short_halts e =
          let (tail, holds) = from_lead s own marks has.sound above part number named (way_name above part number found).1 in
          record {
            front = part;
            rest = [];
            is = e ∙ sym (append-nil part);
            long = refl;
            more = tail;
            before = holds;
            there = λ c cs after f down. (let clash : [] ≡ c ∷ cs = f in cc);
          }

      on_is : (rest : List ℕ) → IsNext text part (Some rest) → text ≡ part ++ slash ∷ rest
      on_is rest e = (up_to_cut slash text part rest e).is

      joined : (tail : List ℕ) → (part ++ slash ∷ []) ++ tail ≡ part ++ slash ∷ tail
      joined tail = append_assoc part (slash ∷ []) tail

      -- a slash after the name, and names lead down from there
      pub step_leads : (rest : List ℕ) → IsNext text part (Some rest) → Leads (Down s own above) (Down s own (Some number)) text rest
      step_leads rest e = record {
        chunk = part ++ slash ∷ [];
        is = on_is rest e ∙ sym (joined rest);
        into = λ tail down. subst (Down s own above) (sym (joined tail)) (down_on s own above part tail number whole named ∙ down);
        back = λ tail f down. sym (down_on s own above part tail number whole named) ∙ subst (Down s own above) (joined tail) down;
      }

      pub step_less : (rest : List ℕ) → IsNext text part (Some rest) → length rest < length text
      step_less rest e = let long = ap length (on_is rest e) ∙ length-append part (slash ∷ rest) in omega (arith, long)

      -- or they do not
      pub slash_halts : (rest : List ℕ) → IsNext text part (Some rest) → goes_down marks (Some number) ≡ false → Halts (Down s own above) text (length text - length part)
      slash_halts rest e none = record {
        front = part;
        rest = slash ∷ rest;
        is = on_is rest e;
        long = (let long = ap length (on_is rest e) ∙ length-append part (slash ∷ rest) in omega (arith, long));
        more = [];
        before = subst (Down s own above) (sym (append-nil part)) (down_end s own above part number whole named ∙ value (either (is_value s.tables number) (goes_down marks (Some number)) (way_name above part number found).1));
        there = λ c cs tail f down. clash c cs tail f down;
      }
        where
          value : Either (is_value s.tables number) (goes_down marks (Some number)) → is_value s.tables number ≡ true
          value (inl yes_it) = yes_it
          value (inr goes) = absurd (let clash : true ≡ false = sym goes ∙ none in cc)

          clash : (c : ℕ) (cs tail : List ℕ) → slash ∷ rest ≡ c ∷ cs → Down s own above (part ++ c ∷ tail) → ⊥
          clash c cs tail f down =
              let head : slash ≡ c = cc in
              let at_slash : Down s own above (part ++ slash ∷ tail) = subst (λ (d : ℕ). Down s own above (part ++ d ∷ tail)) (sym head) down in
              let goes = has.complete (Some number) tail (sym (down_on s own above part tail number whole named) ∙ at_slash) in
              let both : true ≡ false = sym goes ∙ none in
              cc

  -- the text ends before a name
  pub empty_halts : (above : Option ℕ) → goes_down marks above ≡ true → Halts (Down s own above) [] 0
  empty_halts above goes =
      let (tail, holds) = has.sound above goes in
      halts_here (Down s own above) [] tail holds (λ c cs next e down. (let clash : [] ≡ c ∷ cs = e in cc))

  -- ---- `../`
  up_is : (text rest : List ℕ) → after_up text ≡ Some rest → text ≡ up ++ rest
  up_is text rest e =
      let (one, one_is, e1) = bind_some (sign dot text) (λ a. option_and_then (sign slash) (sign dot a)) rest e in
      let (two, two_is, e2) = bind_some (sign dot one) (sign slash) rest e1 in
      sign_is dot text one one_is ∙ ap (λ x. dot ∷ x) (sign_is dot one two two_is ∙ ap (λ x. dot ∷ x) (sign_is slash two rest e2))

  up_again : (rest : List ℕ) → after_up (up ++ rest) ≡ Some rest
  up_again rest = refl

  pub rise_less : (text rest : List ℕ) → after_up text ≡ Some rest → length rest < length text
  rise_less text rest e = let long = ap length (up_is text rest e) in omega (arith, long)

  pub rise_leads : (number : ℕ) (text rest : List ℕ) → after_up text ≡ Some rest → Leads (Rise s own (Some number)) (From s own (parent_of s.tables number)) text rest
  rise_leads number text rest e = record {
    chunk = up;
    is = up_is text rest e;
    into = λ next goes. record { number = number; is = refl; after = next; begins = refl; goes = goes };
    back = λ next f rise. same next rise.number rise.after rise.is rise.begins rise.goes;
  }
    where
      same : (next : List ℕ) (other : ℕ) (after : List ℕ) → Some number ≡ Some other → up ++ next ≡ up ++ after → From s own (parent_of s.tables other) after → From s own (parent_of s.tables number) next
      same next other after e f goes =
          let numbers : other ≡ number = cc in
          let tails : after ≡ next = cc in
          subst (From s own (parent_of s.tables number)) tails (subst (λ (n : ℕ). From s own (parent_of s.tables n) after) numbers goes)

  pub rise_halts : (number : ℕ) (text : List ℕ) → IsOpen s own (parent_of s.tables number) → after_up text ≡ None → Halts (Rise s own (Some number)) text (length text - common text up)
  rise_halts number text on missing = record {
    front = stop.front;
    rest = stop.rest;
    is = stop.is;
    long = stop.long;
    more = (begins stop.begun).0;
    before = (begins stop.begun).1;
    there = λ c cs tail e rise. clash c cs tail e rise.after rise.begins;
  }
    where
      stop : StopsWord (λ u. u ≡ up) text (length text - common text up)
      stop = stops_word (λ u. u ≡ up) text (common text up) (λ u e. (let same : common text u ≡ common text up = ap (common text) e in omega (arith, same))) (inr (up, refl, refl))

      made : (text : List ℕ) → text ≡ up ++ on.0 → Rise s own (Some number) text
      made text e = record { number = number; is = refl; after = on.0; begins = e; goes = on.1 }

      begins : (stop.front ≡ []) ⊎ ((u : List ℕ) × (tail : List ℕ) × (u ≡ up) × (stop.front ++ tail ≡ u)) → (tail : List ℕ) × Rise s own (Some number) (stop.front ++ tail)
      begins (inl none) = (up ++ on.0, made (stop.front ++ (up ++ on.0)) (ap (λ x. x ++ (up ++ on.0)) none))
      begins (inr (u, tail, is_up, e)) = (tail ++ on.0, made (stop.front ++ (tail ++ on.0)) (sym (append_assoc stop.front tail on.0) ∙ ap (λ x. x ++ on.0) (e ∙ is_up)))

      clash : (c : ℕ) (cs tail : List ℕ) → stop.rest ≡ c ∷ cs → (after : List ℕ) → stop.front ++ c ∷ tail ≡ up ++ after → ⊥
      clash c cs tail e after is =
          let found = stop.there c cs tail up after e refl is in
          let reads : after_up text ≡ Some (found.0 ++ c ∷ cs) = ap after_up found.2 in
          let both : None ≡ Some (found.0 ++ c ∷ cs) = sym missing ∙ reads in
          cc

  -- ---- where a path goes on after `../`
  pub open_down : (above : Option ℕ) → goes_down marks above ≡ true → IsOpen s own above
  open_down above goes = let (text, holds) = has.sound above goes in (text, down_from s own above text holds)

  pub open_up : (number : ℕ) → IsOpen s own (parent_of s.tables number) → IsOpen s own (Some number)
  open_up number on = (up ++ on.0, rise_from s own (Some number) (up ++ on.0) (record { number = number; is = refl; after = on.0; begins = refl; goes = on.1 }))

  not_down : (above : Option ℕ) (text : List ℕ) → goes_down marks above ≡ false → Down s own above text → ⊥
  not_down above text none down = let goes = has.complete above text down in let both : true ≡ false = sym goes ∙ none in cc

  pub open_back : (number : ℕ) → goes_down marks (Some number) ≡ false → IsOpen s own (Some number) → IsOpen s own (parent_of s.tables number)
  open_back number none on = by (from_view s own (Some number) on.0 on.1)
    where
      by : Down s own (Some number) on.0 ⊎ Rise s own (Some number) on.0 → IsOpen s own (parent_of s.tables number)
      by (inl down) = absurd (not_down (Some number) on.0 none down)
      by (inr rise) = let same : rise.number ≡ number = (let is : Some number ≡ Some rise.number = rise.is in cc) in (rise.after, subst (λ (n : ℕ). From s own (parent_of s.tables n) rise.after) same rise.goes)

  pub open_top : goes_down marks None ≡ false → IsOpen s own None → ⊥
  open_top none on = by (from_view s own None on.0 on.1)
    where
      by : Down s own None on.0 ⊎ Rise s own None on.0 → ⊥
      by (inl down) = not_down None on.0 none down
      by (inr rise) = let is : None ≡ Some rise.number = rise.is in cc

  -- ---- a dot, or none
  not_slash : dot ≡ slash → ⊥
  not_slash e = let clash : true ≡ false = ap (λ n. eqb n dot) e in cc

  some_same : (a b : ℕ) → Some a ≡ Some b → a ≡ b
  some_same a b e = cc

  first_dot : (text : List ℕ) → begins_with dot text ≡ true → first_sign text ≡ Some dot
  first_dot [] e = cc
  first_dot (c ∷ cs) e = ap Some ((Decides-eqb c dot).0 e)

  dot_first : (text : List ℕ) → first_sign text ≡ Some dot → begins_with dot text ≡ true
  dot_first [] e = cc
  dot_first (c ∷ cs) e = let same : c ≡ dot = cc in (Decides-eqb c dot).1 same

  rise_dot : (above : Option ℕ) (text : List ℕ) → Rise s own above text → first_sign text ≡ Some dot
  rise_dot above text rise = ap first_sign rise.begins

  no_dot : (above : Option ℕ) (text : List ℕ) → Down s own above text → first_sign text ≡ Some dot → ⊥
  no_dot above [] down e = cc
  no_dot above (c ∷ cs) down e =
      let same : c ≡ dot = cc in
      let begins : begins_identifier dot ≡ true = ap begins_identifier (sym same) ∙ down_first s own above c cs down in
      cc

  abbrev NoRise : Option ℕ → List ℕ → ℕ → Type 0
  NoRise above text left = ((left ≡ length text) × ((other : List ℕ) → Rise s own above other → ⊥)) ⊎ Halts (Rise s own above) text left

  dotted : (above : Option ℕ) (text : List ℕ) → begins_with dot text ≡ true → Leads (From s own above) (Rise s own above) text text
  dotted above text begins = record {
    chunk = [];
    is = refl;
    into = λ next rise. rise_from s own above next rise;
    back = λ next f from. by next (f ∙ first_dot text begins) (from_view s own above next from);
  }
    where
      by : (next : List ℕ) → first_sign next ≡ Some dot → Down s own above next ⊎ Rise s own above next → Rise s own above next
      by next f (inl down) = absurd (no_dot above next down f)
      by next f (inr rise) = rise

  pub from_rise_leads : (above : Option ℕ) (text : List ℕ) (after : Option ℕ) (rest : List ℕ) → begins_with dot text ≡ true → Leads (Rise s own above) (From s own after) text rest → Leads (From s own above) (From s own after) text rest
  from_rise_leads above text after rest begins led = leads_on (From s own above) (Rise s own above) (From s own after) text text rest (dotted above text begins) led

  pub from_no_rise : (above : Option ℕ) (text : List ℕ) (left : ℕ) → IsOpen s own above → begins_with dot text ≡ true → NoRise above text left → Halts (From s own above) text left
  from_no_rise above text left on begins (inl (e, none)) =
      subst (Halts (From s own above) text) (sym e)
      (halts_here (From s own above) text on.0 on.1 (λ c cs next f from. by c cs next f (from_view s own above (c ∷ next) from)))
    where
      by : (c : ℕ) (cs next : List ℕ) → text ≡ c ∷ cs → Down s own above (c ∷ next) ⊎ Rise s own above (c ∷ next) → ⊥
      by c cs next f (inl down) = no_dot above (c ∷ next) down (ap first_sign (sym f) ∙ first_dot text begins)
      by c cs next f (inr rise) = none (c ∷ next) rise
  from_no_rise above text left on begins (inr halts) = halts_on (From s own above) (Rise s own above) text text left (dotted above text begins) halts

  pub over_leads : (above : Option ℕ) (text : List ℕ) → begins_with dot text ≡ false → Leads (From s own above) (Down s own above) text text
  over_leads above text none = record {
    chunk = [];
    is = refl;
    into = λ next down. down_from s own above next down;
    back = λ next f from. by next f (from_view s own above next from);
  }
    where
      by : (next : List ℕ) → first_sign next ≡ first_sign text → Down s own above next ⊎ Rise s own above next → Down s own above next
      by next f (inl down) = down
      by next f (inr rise) = absurd (let begins = dot_first text (sym f ∙ rise_dot above next rise) in let both : true ≡ false = sym begins ∙ none in cc)

  pub over_halts : (above : Option ℕ) (text : List ℕ) → begins_with dot text ≡ false → IsOpen s own above → goes_down marks above ≡ false → Halts (From s own above) text (length text)
  over_halts above text none on shut = halts_here (From s own above) text on.0 on.1 (λ c cs next f from. by c cs next f (from_view s own above (c ∷ next) from))
    where
      by : (c : ℕ) (cs next : List ℕ) → text ≡ c ∷ cs → Down s own above (c ∷ next) ⊎ Rise s own above (c ∷ next) → ⊥
      by c cs next f (inl down) = not_down above (c ∷ next) shut down
      by c cs next f (inr rise) = let begins = dot_first text (ap first_sign f ∙ rise_dot above (c ∷ next) rise) in let both : true ≡ false = sym begins ∙ none in cc

  -- ---- the whole path
  module _ (leaf : ℕ) (space : IsSpaceOf s.tables leaf own) where
    path_dotted : (text : List ℕ) → begins_with dot text ≡ true → Leads (LeafrefPath s leaf) (Rise s own (Some leaf)) text text
    path_dotted text begins = record {
      chunk = [];
      is = refl;
      into = λ next rise. rise_path s own leaf space next rise;
      back = λ next f path. by next (f ∙ first_dot text begins) path;
    }
      where
        view : (c : ℕ) (cs : List ℕ) → c ≡ dot → ((c ≡ slash) × Down s own None cs) ⊎ Rise s own (Some leaf) (c ∷ cs) → Rise s own (Some leaf) (c ∷ cs)
        view c cs e (inl (head, down)) = absurd (not_slash (sym e ∙ head))
        view c cs e (inr rise) = rise

        by : (next : List ℕ) → first_sign next ≡ Some dot → LeafrefPath s leaf next → Rise s own (Some leaf) next
        by [] f path = cc
        by (c ∷ cs) f path = view c cs (some_same c dot f) (path_view s own leaf space c cs path)

    pub path_rise_leads : (text : List ℕ) (after : Option ℕ) (rest : List ℕ) → begins_with dot text ≡ true → Leads (Rise s own (Some leaf)) (From s own after) text rest → Leads (LeafrefPath s leaf) (From s own after) text rest
    path_rise_leads text after rest begins led = leads_on (LeafrefPath s leaf) (Rise s own (Some leaf)) (From s own after) text text rest (path_dotted text begins) led

    pub path_no_rise : (text : List ℕ) (left : ℕ) → begins_with dot text ≡ true → NoRise (Some leaf) text left → Halts (LeafrefPath s leaf) text left
    path_no_rise text left begins (inl (e, none)) =
        subst (Halts (LeafrefPath s leaf) text) (sym e)
        (halts_here (LeafrefPath s leaf) text [] (inl refl) (λ c cs next f path. by c cs next f (path_view s own leaf space c next path)))
      where
        by : (c : ℕ) (cs next : List ℕ) → text ≡ c ∷ cs → ((c ≡ slash) × Down s own None next) ⊎ Rise s own (Some leaf) (c ∷ next) → ⊥
        by c cs next f (inl (head, down)) =
            let first : Some c ≡ Some dot = ap first_sign (sym f) ∙ first_dot text begins in
            not_slash (sym (some_same c dot first) ∙ head)
        by c cs next f (inr rise) = none (c ∷ next) rise
    path_no_rise text left begins (inr halts) = halts_on (LeafrefPath s leaf) (Rise s own (Some leaf)) text text left (path_dotted text begins) halts

    pub path_over_leads : (text : List ℕ) (above : Option ℕ) (rest : List ℕ) → Leads (LeafrefPath s leaf) (From s own above) text rest → begins_with dot rest ≡ false → Leads (LeafrefPath s leaf) (Down s own above) text rest
    path_over_leads text above rest led none = leads_on (LeafrefPath s leaf) (From s own above) (Down s own above) text rest rest led (over_leads above rest none)

    pub path_over_halts : (text : List ℕ) (above : Option ℕ) (rest : List ℕ) → Leads (LeafrefPath s leaf) (From s own above) text rest → begins_with dot rest ≡ false → IsOpen s own above → goes_down marks above ≡ false → Halts (LeafrefPath s leaf) text (length rest)
    path_over_halts text above rest led none on shut = halts_on (LeafrefPath s leaf) (From s own above) text rest (length rest) led (over_halts above rest none on shut)

    -- `/`
    rise_no_slash : (next : List ℕ) → Rise s own (Some leaf) (slash ∷ next) → ⊥
    rise_no_slash next rise = not_slash (sym (some_same slash dot (rise_dot (Some leaf) (slash ∷ next) rise)))

    pub path_slash_leads : (text rest : List ℕ) → sign slash text ≡ Some rest → Leads (LeafrefPath s leaf) (Down s own None) text rest
    path_slash_leads text rest e = record {
      chunk = slash ∷ [];
      is = sign_is slash text rest e;
      into = λ next down. slash_path s own leaf space next down;
      back = λ next f path. by next (path_view s own leaf space slash next path);
    }
      where
        by : (next : List ℕ) → ((slash ≡ slash) × Down s own None next) ⊎ Rise s own (Some leaf) (slash ∷ next) → Down s own None next
        by next (inl both) = both.1
        by next (inr rise) = absurd (rise_no_slash next rise)

    pub path_slash_halts : (text rest : List ℕ) → sign slash text ≡ Some rest → goes_down marks None ≡ false → Halts (LeafrefPath s leaf) text (length text)
    path_slash_halts text rest e shut =
        halts_here (LeafrefPath s leaf) text [] (inl refl) (λ c cs next f path. by c next (head c cs f) (path_view s own leaf space c next path))
      where
        head : (c : ℕ) (cs : List ℕ) → text ≡ c ∷ cs → c ≡ slash
        head c cs f = let is : c ∷ cs ≡ slash ∷ rest = sym f ∙ sign_is slash text rest e in cc

        by : (c : ℕ) (next : List ℕ) → c ≡ slash → ((c ≡ slash) × Down s own None next) ⊎ Rise s own (Some leaf) (c ∷ next) → ⊥
        by c next f (inl both) = not_down None next shut both.1
        by c next f (inr rise) = rise_no_slash next (subst (λ (d : ℕ). Rise s own (Some leaf) (d ∷ next)) f rise)

    -- neither
    pub path_start_halts : (text : List ℕ) → begins_with dot text ≡ false → sign slash text ≡ None → Halts (LeafrefPath s leaf) text (length text)
    path_start_halts text none missing =
        halts_here (LeafrefPath s leaf) text [] (inl refl) (λ c cs next f path. by c cs next f (path_view s own leaf space c next path))
      where
        by : (c : ℕ) (cs next : List ℕ) → text ≡ c ∷ cs → ((c ≡ slash) × Down s own None next) ⊎ Rise s own (Some leaf) (c ∷ next) → ⊥
        by c cs next f (inl both) =
            let reads : sign slash text ≡ Some cs = ap (sign slash) (f ∙ ap (λ x. x ∷ cs) both.0) ∙ sign_of slash cs in
            let clash : ◌≡◌ {A = Option (List ℕ)} None (Some cs) = sym missing ∙ reads in
            cc
        by c cs next f (inr rise) = let begins = dot_first text (ap first_sign f ∙ rise_dot (Some leaf) (c ∷ next) rise) in let both : true ≡ false = sym begins ∙ none in cc

-- no leaf
end_none : (s : Reading) (leaf : ℕ) (text : List ℕ) → slice_get s.tables.nodes leaf ≡ None → leafref_end s.tables leaf text s.bounds ≡ None
unfolding leafref_end
end_none s leaf text none = ap (λ o. option_and_then (λ (n : Node). leafref_parts s.tables leaf n.name.space s.bounds (parts text)) o) none

pub no_leaf_halts : (s : Reading) (leaf : ℕ) (text : List ℕ) → slice_get s.tables.nodes leaf ≡ None → Halts (LeafrefPath s leaf) text (length text)
no_leaf_halts s leaf text none = halts_here (LeafrefPath s leaf) text [] (inl refl) (λ c cs next e path. by c next path)
  where
    by : (c : ℕ) (next : List ℕ) → LeafrefPath s leaf (c ∷ next) → ⊥
    by c next (inl e) = cc
    by c next (inr e) = let clash : false ≡ true = ap is_some (sym (end_none s leaf (c ∷ next) none)) ∙ e in cc

-- ---- as readers answer
module _ (ways : Ways) (are : AreWays ways) where
  abbrev s : Reading
  s = reading_of ways.names

  abbrev own : List ℕ
  own = ways.own.now

  pub rise_read : (above : Option ℕ) (number : ℕ) (next : Option ℕ) (text rest : List ℕ) → above ≡ Some number → next ≡ parent_of s.tables number → IsOpen s own next → after_up text ≡ Some rest → IsRise ways above text next rest
  rise_read above number next text rest e f goes reads = record {
    leads = subst (λ (a : Option ℕ). Leads (Rise s own a) (From s own next) text rest) (sym e)
        (subst (λ (n : Option ℕ). Leads (Rise s own (Some number)) (From s own n) text rest) (sym f) (rise_leads s own ways.marks are.marks number text rest reads));
    goes = goes;
    less = rise_less s own ways.marks are.marks text rest reads;
  }

  pub rise_missed : (above : Option ℕ) (number : ℕ) (next : Option ℕ) (text : List ℕ) (left : ℕ) → above ≡ Some number → next ≡ parent_of s.tables number → IsOpen s own next → after_up text ≡ None → left ≡ length text - common text up → IsNoRise ways above text left
  rise_missed above number next text left e f goes missing long =
      inr (subst (λ (a : Option ℕ). Halts (Rise s own a) text left) (sym e)
      (subst (Halts (Rise s own (Some number)) text) (sym long) (rise_halts s own ways.marks are.marks number text (subst (IsOpen s own) f goes) missing)))

  pub rise_shut : (above : Option ℕ) (number : ℕ) (next : Option ℕ) (text : List ℕ) → above ≡ Some number → next ≡ parent_of s.tables number → (IsOpen s own next → ⊥) → IsNoRise ways above text (length text)
  rise_shut above number next text e f shut = inl (refl, λ other rise. none other rise.number rise.after rise.is rise.goes)
    where
      none : (other : List ℕ) (n : ℕ) (after : List ℕ) → above ≡ Some n → From s own (parent_of s.tables n) after → ⊥
      none other n after g goes =
          let both : Some number ≡ Some n = sym e ∙ g in
          let same : n ≡ number = cc in
          shut (subst (IsOpen s own) (sym f) (after, subst (λ (k : ℕ). From s own (parent_of s.tables k) after) same goes))

  pub rise_top : (above : Option ℕ) (text : List ℕ) → above ≡ None → IsNoRise ways above text (length text)
  rise_top above text e = inl (refl, λ other rise. (let both : None ≡ Some rise.number = sym e ∙ rise.is in cc))

  module _ (leaf : ℕ) (space : IsSpaceOf s.tables leaf own) (text : List ℕ) where
    pub first_missed : (halt : Halt) → begins_with dot text ≡ true → OnHere halt (IsNoRise ways (Some leaf) text) → OnHere halt (Halts (LeafrefPath s leaf) text)
    first_missed (Here left) begins no_rise = path_no_rise s own ways.marks are.marks leaf space text left begins no_rise
    first_missed Memory begins no_rise = tt

    pub first_rises : (above : Option ℕ) (rest : List ℕ) → begins_with dot text ≡ true → IsRise ways (Some leaf) text above rest → AreRises ways leaf text above rest
    first_rises above rest begins rise = record { leads = path_rise_leads s own ways.marks are.marks leaf space text above rest begins rise.leads; goes = rise.goes }

    pub next_missed : (above : Option ℕ) (mid : List ℕ) (halt : Halt) → AreRises ways leaf text above mid → begins_with dot mid ≡ true → OnHere halt (IsNoRise ways above mid) → OnHere halt (Halts (LeafrefPath s leaf) text)
    next_missed above mid (Here left) so_far begins no_rise =
        halts_on (LeafrefPath s leaf) (From s own above) text mid left so_far.leads (from_no_rise s own ways.marks are.marks above mid left so_far.goes begins no_rise)
    next_missed above mid Memory so_far begins no_rise = tt

    pub next_rises : (above : Option ℕ) (mid : List ℕ) (next : Option ℕ) (rest : List ℕ) → AreRises ways leaf text above mid → begins_with dot mid ≡ true → IsRise ways above mid next rest → AreRises ways leaf text next rest
    next_rises above mid next rest so_far begins rise = record {
      leads = leads_on (LeafrefPath s leaf) (From s own above) (From s own next) text mid rest so_far.leads (from_rise_leads s own ways.marks are.marks above mid next rest begins rise.leads);
      goes = rise.goes;
    }

    pub turn_up : (above : Option ℕ) (rest : List ℕ) → AreRises ways leaf text above rest → begins_with dot rest ≡ false → goes_down ways.marks above ≡ true → IsTurn ways leaf text above rest
    turn_up above rest so_far over goes = record { leads = path_over_leads s own ways.marks are.marks leaf space text above rest so_far.leads over; goes = goes }

    pub turn_top : (rest : List ℕ) → sign slash text ≡ Some rest → goes_down ways.marks None ≡ true → IsTurn ways leaf text None rest
    turn_top rest e goes = record { leads = path_slash_leads s own ways.marks are.marks leaf space text rest e; goes = goes }
