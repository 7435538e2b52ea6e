-- Texts, instances and the table in which content matches are looked up.
use Rattle.std.proofs.Common.{◌≡◌, ◌&&◌, ◌||◌, ◌+◌, ◌<◌, ◌≤◌, ℕ, zero, suc, Bool, true, false, cond, List, [], ◌∷◌, ◌++◌, None, Some, length, take, get_or, refl, sym, ap, subst, ◌∙◌, if◌then◌else◌, Bor, arith}
use Rattle.std.specs.Prelude.{Option, map, slice_get}
use Rattle.std.specs.List.{list_any}
use Rattle.std.specs.Option.{option_map_or}
use Rattle.std.specs.BTreeMap.{get}
use Rattle.std.specs.BTreeSet.{BTreeSet, contains}
use Rattle.std.specs.Cmp.Lexicographic.{bytes_decides, slice_cmp}
use Rattle.std.specs.Ordering.{is_eq, nat_cmp}
use Rattle.std.proofs.lemmas.List.{take_more}
use Rattle.std.proofs.lemmas.List.Folds.{list_any-append, list_any_more}
use Rattle.std.proofs.lemmas.Map.Text.{is_eq-slice_cmp}
use Rattle.nc_names.specs.Ends.{trimmed}
use Rattle.nc_names.specs.Same.{is_same_text}
use Rattle.nc_names.specs.declared.path.Row.{Row}
use Rattle.nc_names.specs.declared.path.Step.{Step}
use Rattle.nc_message.specs.declared.tree.Elem.{Elem}
use Rattle.nc_schema.specs.Tables.{Tables}
use Rattle.nc_protocol.specs.Elements.{whole_text}
use Rattle.nc_protocol.specs.Filter.{is_content_match, is_of_text}
use Rattle.nc_filter.specs.declared.runs.Run.{Run}
use Rattle.nc_filter.specs.declared.rows.Spot.{Spot}
use Rattle.nc_filter.specs.inner.Instances.{instance_keys}
use Rattle.nc_filter.specs.inner.Keys.{among}
use Rattle.nc_filter.specs.inner.Picks.{Adds, ends, is_matched}
use Rattle.nc_filter.specs.inner.Runs.{AreKnown, AreRuns, IsKnown, Puts, Slots, has_key, in_slot, without_slot}
use Rattle.nc_filter.specs.inner.Tables.{HasTexts, adds_text, has_text}
use Rattle.nc_filter.proofs.KeyLemmas.{turned_text}
use Rattle.nc_filter.proofs.Unions.{and_false, any_nothing, any_same, or_and, or_assoc, or_false, or_swap}

pub eq_text : (a b : List ℕ) → is_eq (slice_cmp nat_cmp a b) ≡ is_same_text a b
eq_text a b = is_eq-slice_cmp a b

-- ---- texts
pub text_added : (before now : BTreeSet (List ℕ)) (text : List ℕ) →
    ((other : List ℕ) → contains (slice_cmp nat_cmp) now other ≡ cond (is_eq (slice_cmp nat_cmp text other)) true (contains (slice_cmp nat_cmp) before other)) → adds_text before now text
text_added before now text put other = put other ∙ ap (λ b. cond b true (has_text before other)) (eq_text text other) ∙ by (is_same_text text other) (has_text before other)
  where
    by : (b c : Bool) → cond b true c ≡ (b || c)
    by true c = refl
    by false c = refl

abbrev has_its_text : List ℕ → Elem → Bool
has_its_text text elem = is_content_match elem && is_same_text text (trimmed (whole_text elem.parts))

pub match_added : (before now : BTreeSet (List ℕ)) (elem : Elem) (elems : List Elem) → is_content_match elem ≡ true →
    adds_text before now (trimmed (whole_text elem.parts)) → HasTexts before elems → HasTexts now (elems ++ elem ∷ [])
match_added before now elem elems match added has text =
    added text ∙ (λ i. turned_text (trimmed (whole_text elem.parts)) text i || has text i)
    ∙ or_swap (is_same_text text (trimmed (whole_text elem.parts))) (list_any (has_its_text text) elems)
    ∙ ap (λ b. list_any (has_its_text text) elems || b) (sym (or_false (has_its_text text elem) ∙ ap (λ b. b && is_same_text text (trimmed (whole_text elem.parts))) match))
    ∙ sym (list_any-append (has_its_text text) elems (elem ∷ []))

pub other_added : (items : BTreeSet (List ℕ)) (elem : Elem) (elems : List Elem) → is_content_match elem ≡ false → HasTexts items elems → HasTexts items (elems ++ elem ∷ [])
other_added items elem elems other has text =
    has text ∙ sym (list_any-append (has_its_text text) elems (elem ∷ [])
    ∙ ap (λ b. list_any (has_its_text text) elems || b) (or_false (has_its_text text elem) ∙ ap (λ b. b && is_same_text text (trimmed (whole_text elem.parts))) other)
    ∙ or_false (list_any (has_its_text text) elems))

pub matched_value : (items : BTreeSet (List ℕ)) (elems : List Elem) (depth : ℕ) (row : Row) (b : Bool) → HasTexts items elems → true ≡ ends depth row →
    b ≡ option_map_or (λ value. has_text items (trimmed value)) row.value false → b ≡ is_matched elems depth row
matched_value items elems depth row b has at_end is = is ∙ by row.value ∙ ap (λ e. e && list_any (λ elem. is_content_match elem && is_of_text elem row) elems) at_end
  where
    by : (o : Option (List ℕ)) → option_map_or (λ value. has_text items (trimmed value)) o false
        ≡ list_any (λ elem. is_content_match elem && option_map_or (λ value. is_same_text (trimmed value) (trimmed (whole_text elem.parts))) o false) elems
    by None = sym (any_same (λ elem. is_content_match elem && false) (λ elem. false) elems (λ elem. and_false (is_content_match elem)) ∙ any_nothing elems)
    by (Some value) = has (trimmed value)

-- one row more, which passes a test or does not
pub adds_row : (out now next : List Row) (p : Row → Bool) (rows : List Row) (row : Row) (passes : Bool) → passes ≡ p row →
    next ≡ (if passes then now ++ row ∷ [] else now) → Adds out now p rows → Adds out next p (rows ++ row ∷ [])
adds_row out now next p rows row passes tested put adds test =
    ap (list_any test) put ∙ by passes
    ∙ (λ i. adds test i || (tested i && test row))
    ∙ or_assoc (list_any test out) (list_any (λ row. p row && test row) rows) (p row && test row)
    ∙ ap (λ b. list_any test out || b) (ap (λ b. list_any (λ row. p row && test row) rows || b) (sym (or_false (p row && test row))) ∙ sym (list_any-append (λ row. p row && test row) rows (row ∷ [])))
  where
    by : (b : Bool) → list_any test (if b then now ++ row ∷ [] else now) ≡ (list_any test now || (b && test row))
    by true = list_any-append test now (row ∷ []) ∙ ap (λ b. list_any test now || b) (or_false (test row))
    by false = sym (or_false (list_any test now))

pub taken_all : {X : Type 0} (xs : List X) (i : ℕ) → length xs ≤ i → take i xs ≡ xs
taken_all [] zero past = refl
taken_all [] (suc i) past = refl
taken_all (x ∷ xs) zero past = absurd (omega (arith, past))
taken_all (x ∷ xs) (suc i) past = ap (λ more. x ∷ more) (taken_all xs i (omega (arith, past)))

map_push : {X Y : Type 0} (f : X → Y) (xs : List X) (x : X) → map f (xs ++ x ∷ []) ≡ map f xs ++ f x ∷ []
map_push f [] x = refl
map_push f (y ∷ ys) x = ap (λ more. f y ∷ more) (map_push f ys x)

pub map_taken : {X Y : Type 0} (f : X → Y) (xs : List X) (i : ℕ) (x : X) → i < length xs → x ≡ get_or xs i x → map f (take (i + 1) xs) ≡ map f (take i xs) ++ f x ∷ []
map_taken f xs i x within is =
    ap (map f) (take_more xs i x within ∙ ap (λ one. take i xs ++ one ∷ []) (sym is)) ∙ map_push f (take i xs) x

pub adds_next : (out now next : List Row) (p : Row → Bool) (rows : List (Bor Row)) (i : ℕ) (row : Bor Row) (passes : Bool) → i < length rows → row ≡ get_or rows i row →
    passes ≡ p row.now → next ≡ (if passes then now ++ row.now ∷ [] else now) → Adds out now p (map (λ row. row.now) (take i rows)) →
    Adds out next p (map (λ row. row.now) (take (i + 1) rows))
adds_next out now next p rows i row passes within is tested put adds =
    subst (λ (list : List Row). Adds out next p list) (sym (map_taken (λ (row : Bor Row). row.now) rows i row within is))
    (adds_row out now next p (map (λ row. row.now) (take i rows)) row.now passes tested put adds)

-- ---- runs
module _ (depth : ℕ) (spots : List Spot) (spot : Spot) where
  pub run_new : (before : List Run) (run : Run) → run.parent ≡ spot.number → run.above.now ≡ take depth spot.row.now.path.steps → map (λ row. row.now) run.rows ≡ spot.row.now ∷ [] →
      AreRuns depth spots before → AreRuns depth (spots ++ spot ∷ []) (before ++ run ∷ [])
  run_new before run parent above one are f =
      list_any-append (λ run. list_any (f run.parent run.above.now) (map (λ row. row.now) run.rows)) before (run ∷ [])
      ∙ (λ i. are f i || (list_any (f (parent i) (above i)) (one i) || false))
      ∙ ap (λ b. list_any g spots || b) (or_false (g spot || false))
      ∙ sym (list_any-append g spots (spot ∷ []))
    where
      g : Spot → Bool
      g spot = f spot.number (take depth spot.row.now.path.steps) spot.row.now

  pub run_more : (before : List Run) (last now : Run) → now.parent ≡ last.parent → now.above.now ≡ last.above.now → last.parent ≡ spot.number → last.above.now ≡ take depth spot.row.now.path.steps →
      map (λ row. row.now) now.rows ≡ map (λ row. row.now) last.rows ++ spot.row.now ∷ [] →
      AreRuns depth spots (before ++ last ∷ []) → AreRuns depth (spots ++ spot ∷ []) (before ++ now ∷ [])
  run_more before last now same_parent same parent above more are f =
      list_any-append g before (now ∷ [])
      ∙ ap (λ b. list_any g before || b) (or_false (g now) ∙ (λ i. list_any (f (same_parent i) (same i)) (more i)) ∙ list_any-append (f last.parent last.above.now) (map (λ row. row.now) last.rows) (spot.row.now ∷ []))
      ∙ sym (or_assoc (list_any g before) (g last) (f last.parent last.above.now spot.row.now || false))
      ∙ ap (λ b. b || (f last.parent last.above.now spot.row.now || false)) (sym (list_any-append g before (last ∷ []) ∙ ap (λ b. list_any g before || b) (or_false (g last))) ∙ are f)
      ∙ (λ i. list_any h spots || (f (parent i) (above i) spot.row.now || false))
      ∙ sym (list_any-append h spots (spot ∷ []))
    where
      g : Run → Bool
      g run = list_any (f run.parent run.above.now) (map (λ row. row.now) run.rows)

      h : Spot → Bool
      h spot = f spot.number (take depth spot.row.now.path.steps) spot.row.now

-- ---- the table
pub none_at : {X : Type 0} (xs : List X) (i : ℕ) → length xs ≤ i → slice_get xs i ≡ None
none_at [] i past = refl
none_at (x ∷ xs) zero past = absurd (omega (arith, past))
none_at (x ∷ xs) (suc i) past = none_at xs i (omega (arith, past))

pub get_at : {X : Type 0} (xs : List X) (i : ℕ) (d : X) → i < length xs → slice_get xs i ≡ Some (get_or xs i d)
get_at [] i d within = absurd (omega (arith, within))
get_at (x ∷ xs) zero d within = refl
get_at (x ∷ xs) (suc i) d within = get_at xs i d (omega (arith, within))

pub key_put : (before gone now : Slots) (wanted : List ℕ) (number : ℕ) → without_slot wanted before gone →
    ((other : List ℕ) → get (slice_cmp nat_cmp) now other ≡ cond (is_eq (slice_cmp nat_cmp wanted other)) (Some (in_slot before wanted ++ number ∷ [])) (get (slice_cmp nat_cmp) gone other)) →
    Puts before now (is_same_text wanted) number
key_put before gone now wanted number taken put other test = by (is_same_text wanted other) refl
  where
    looked : (b : Bool) → is_same_text wanted other ≡ b →
        get (slice_cmp nat_cmp) now other ≡ cond b (Some (in_slot before wanted ++ number ∷ [])) (cond b None (get (slice_cmp nat_cmp) before other))
    looked b e =
        let is : is_eq (slice_cmp nat_cmp wanted other) ≡ b = eq_text wanted other ∙ e in
        put other ∙ (λ i. cond (is i) (Some (in_slot before wanted ++ number ∷ [])) (get (slice_cmp nat_cmp) gone other))
        ∙ ap (λ o. cond b (Some (in_slot before wanted ++ number ∷ [])) o) (taken other ∙ (λ i. cond (is i) None (get (slice_cmp nat_cmp) before other)))

    by : (b : Bool) → is_same_text wanted other ≡ b →
        list_any test (in_slot now other) ≡ (list_any test (in_slot before other) || (is_same_text wanted other && test number))
    by true e =
        ap (λ o. list_any test (option_map_or (λ numbers. numbers) o [])) (looked true e)
        ∙ list_any-append test (in_slot before wanted) (number ∷ [])
        ∙ ap (λ b. list_any test (in_slot before wanted) || b) (or_false (test number))
        ∙ (λ i. list_any test (in_slot before ((bytes_decides wanted other).0 e i)) || (sym e i && test number))
    by false e =
        ap (λ o. list_any test (option_map_or (λ numbers. numbers) o [])) (looked false e)
        ∙ sym (ap (λ b. list_any test (in_slot before other) || (b && test number)) e ∙ or_false (list_any test (in_slot before other)))

pub puts_then : (before mid now : Slots) (p q : List ℕ → Bool) (number : ℕ) → Puts before mid p number → Puts mid now q number → Puts before now (λ other. p other || q other) number
puts_then before mid now p q number first second other test =
    second other test ∙ ap (λ b. b || (q other && test number)) (first other test)
    ∙ or_assoc (list_any test (in_slot before other)) (p other && test number) (q other && test number)
    ∙ ap (λ b. list_any test (in_slot before other) || b) (sym (or_and (p other) (q other) (test number)))

pub puts_same : (before now : Slots) (p q : List ℕ → Bool) (number : ℕ) → ((other : List ℕ) → p other ≡ q other) → Puts before now p number → Puts before now q number
puts_same before now p q number same puts other test =
    puts other test ∙ ap (λ b. list_any test (in_slot before other) || (b && test number)) (same other)

-- ---- the keys of an instance

pub keys_put : (keys : List (List ℕ)) (i : ℕ) (key : List ℕ) (before mid now : Slots) (number : ℕ) → i < length keys → key ≡ get_or keys i key →
    Puts before mid (among (take i keys)) number → Puts mid now (is_same_text key) number → Puts before now (among (take (i + 1) keys)) number
keys_put keys i key before mid now number within is first second =
    puts_same before now (λ other. among (take i keys) other || is_same_text key other) (among (take (i + 1) keys)) number
    (λ other. ap (λ (one : List ℕ). among (take i keys) other || is_same_text one other) is ∙ sym (list_any_more (λ one. is_same_text one other) keys i key within))
    (puts_then before mid now (among (take i keys)) (is_same_text key) number first second)

-- ---- the runs have the keys of their instances
pub known_more : (tables : Tables) (all : List Row) (upper : Option ℕ) (last run : Run) → run.above ≡ last.above → run.keys ≡ last.keys → IsKnown tables all upper last → IsKnown tables all upper run
known_more tables all upper last run above keys known wanted =
    ap (λ (set : BTreeSet (List ℕ)). has_text set wanted) keys ∙ known wanted ∙ ap (λ (steps : Bor (List Step)). among (instance_keys tables all upper steps.now) wanted) (sym above)

pub known_same : (tables : Tables) (all : List Row) (upper : Option ℕ) (runs : List Run) → AreKnown tables all upper runs → (test : (List ℕ → Bool) → Run → Bool) →
    list_any (λ run. test (λ wanted. has_text run.keys wanted) run) runs ≡ list_any (λ run. test (has_key tables all upper run) run) runs
known_same tables all upper [] known test = refl
known_same tables all upper (run ∷ runs) known test =
    (λ i. test (λ wanted. known 0 run (omega arith) wanted i) run || known_same tables all upper runs (λ k d within. known (suc k) d (omega (arith, within))) test i)
