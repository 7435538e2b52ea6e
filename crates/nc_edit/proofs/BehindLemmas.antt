-- Rows that come behind all others are put after them.
use Rattle.std.proofs.Common.{◌≡◌, ◌≢◌, ◌==◌, ◌&&◌, ◌||◌, ◌++◌, ◌+◌, ◌<◌, ◌≤◌, inl, inr, ℕ, zero, suc, Bool, true, false, cond, not, List, [], ◌∷◌, Option, Some, None, refl, sym, ap, subst, ◌∙◌, take, drop, get_or, length, arith}
use Rattle.std.proofs.lemmas.Bool.{eq-eqb, lt-ltb, ne_eqb}
use Rattle.std.proofs.lemmas.List.{append_assoc, append-nil, drop_all, take-append-drop, take_all}
use Rattle.std.proofs.lemmas.List.Elements.{All-cons, All-head, All-nil, All-tail}
use Rattle.std.proofs.lemmas.List.Sums.{fold-append}
use Rattle.std.specs.List.{All, filter, last_or}
use Rattle.std.specs.Option.{option_map_or}
use Rattle.std.specs.Prelude.{fold, option_and_then, option_map, slice_get}
use Rattle.nc_names.proofs.SameLemmas.{step_itself}
use Rattle.nc_names.specs.Same.{is_same_keys, is_same_step}
use Rattle.nc_names.specs.declared.path.Path.{Path}
use Rattle.nc_names.specs.declared.path.Place.{Place}
use Rattle.nc_names.specs.declared.path.Place.TheVariants.{Kept}
use Rattle.nc_names.specs.declared.path.Row.{Row}
use Rattle.nc_names.specs.declared.path.Step.{Step}
use Rattle.nc_schema.specs.Blocks.{own_rows, rows_of_node, with_block}
use Rattle.nc_schema.specs.Configuration.{key_rows}
use Rattle.nc_schema.specs.Order.{keys_above, sibling_place}
use Rattle.nc_schema.specs.Standing.{block_at, entries, entry_before, exists, node_of, placed, sibling_before, steps_before}
use Rattle.nc_schema.specs.Tables.{Tables}
use Rattle.nc_schema.specs.declared.node.Kind.{Kind}
use Rattle.nc_schema.specs.declared.node.Kind.TheVariants.{Container, Leaf, LeafList, List as ListKind}
use Rattle.nc_schema.specs.declared.node.Node.{Node}
use Rattle.nc_protocol.proofs.ListLemmas.{heads_same, tails_same}
use Rattle.nc_protocol.specs.Applied.{Applied, is_empty, with_result}
use Rattle.nc_protocol.specs.Edited.{left_by, unless_refused}
use Rattle.nc_protocol.specs.declared.edit.Action.{Action}
use Rattle.nc_protocol.specs.declared.edit.Action.TheVariants.{Nothing, Merge, Create, Replace, Delete, Remove}
use Rattle.nc_protocol.specs.declared.edit.Edit.{Edit}
use Rattle.nc_protocol.specs.declared.request.Cause.{Cause}
use Rattle.nc_tree.specs.inner.Lacking.{lacks_from}
use Rattle.nc_edit.specs.inner.Alone.{AreBelow, AreFree, AreUnder, GoesBelow, IsFree, is_free, is_merge, lacks_at, refusal_at, turn_at}
use Rattle.nc_edit.specs.inner.Behind.{AreEarlier, IsAgain, IsEarlier, IsMerged, IsNext, MakeBehind, keys_of}
use Rattle.nc_made.specs.Own.{own_block}
use Rattle.nc_edit.proofs.AloneLemmas.{free_all, merge_under, merged_again, merged_rows, not_refused_at}
use Rattle.nc_edit.proofs.BelowPaths.{goes_further, goes_on, inner_before, own_before, starts_on}
use Rattle.nc_edit.proofs.BelowRows.{beside, is_ahead, is_under, own_longer, three_parts}
use Rattle.nc_edit.proofs.Between.{Answer, filter_all, filter_gone, filter_rest}
use Rattle.nc_edit.proofs.FirstDenied.{fold_more}

-- ---- the places of siblings
-- a number above those of all keys
place_low : (keys : List ℕ) (number : ℕ) → All (λ key. key < number) keys → sibling_place keys number ≡ number + length keys
place_low [] number lower = omega arith
place_low (key ∷ keys) number lower =
    let above : key < number = All-head (λ (k : ℕ). k < number) key keys lower in
    let rest : sibling_place keys number ≡ number + length keys = place_low keys number (All-tail (λ (k : ℕ). k < number) key keys lower) in
    let more : sibling_place keys number + 1 ≡ number + length (key ∷ keys) = omega (arith, rest) in
    ap (λ b. cond b 0 (sibling_place keys number + 1)) (ne_eqb number key (λ same. omega (arith, above, same))) ∙ more

-- that of a key
place_within : (front rest : List ℕ) (key : ℕ) → sibling_place (front ++ key ∷ rest) key < length (front ++ key ∷ rest)
place_within [] rest key =
    let least : 0 < suc (length rest) = omega arith in
    subst (λ b. cond b 0 (sibling_place rest key + 1) < suc (length rest)) (sym (eq-eqb key key refl)) least
place_within (first ∷ front) rest key = by (key == first) (place_within front rest key)
  where
    by : (b : Bool) → sibling_place (front ++ key ∷ rest) key < length (front ++ key ∷ rest) →
        cond b 0 (sibling_place (front ++ key ∷ rest) key + 1) < suc (length (front ++ key ∷ rest))
    by true less = let least : 0 < suc (length (front ++ key ∷ rest)) = omega arith in least
    by false less =
        let more : sibling_place (front ++ key ∷ rest) key + 1 < suc (length (front ++ key ∷ rest)) = omega (arith, less) in more

nodes_differ : (step other : Step) → step.node ≢ other.node → is_same_step step other ≡ false
nodes_differ step other differ = ap (λ b. b && is_same_keys step.keys other.keys) (ne_eqb step.node other.node differ)

keys_same : (tables : Tables) (last : Option Step) →
    keys_above tables (option_map (λ (over : Step). over.node) last)
    ≡ option_map_or (λ (node : Node). node.keys) (option_and_then (λ (step : Step). slice_get tables.nodes step.node) last) []
keys_same tables None = refl
keys_same tables (Some step) = refl

-- ---- the rows of a new node
keys_earlier : (all front keys : List ℕ) (values : List (List ℕ)) (steps : List Step) → all ≡ front ++ keys →
    AreEarlier all 0 steps (key_rows steps keys values)
keys_earlier all front [] values steps is = tt
keys_earlier all front (key ∷ keys) [] steps is = tt
keys_earlier all front (key ∷ keys) (value ∷ values) steps is =
    let within = place_within front keys key in
    let there : sibling_place (front ++ key ∷ keys) key < length (front ++ key ∷ keys) + 0 = omega (arith, within) in
    let less : sibling_place all key < length all + 0 =
    subst (λ (some : List ℕ). sibling_place some key < length some + 0) (sym is) there in (
      inr (record { node = key; keys = [] }, [], refl, less),
      keys_earlier all (front ++ key ∷ []) keys values steps (is ∙ sym (append_assoc front (key ∷ []) keys)),
    )

own_earlier : (kind : Kind) (keys : List ℕ) (path : Path) (values : List (List ℕ)) (value : Option (List ℕ)) →
    AreEarlier keys 0 path.steps (own_rows kind keys path values value)
own_earlier (Container true) keys path values value = (inl refl, tt)
own_earlier (Container false) keys path values value = tt
own_earlier Leaf keys path values value = (inl refl, tt)
own_earlier LeafList keys path values value = (inl refl, tt)
own_earlier ListKind keys path values value = (inl refl, keys_earlier keys [] keys values path.steps refl)

node_earlier : (tables : Tables) (path : Path) (value : Option (List ℕ)) →
    AreEarlier (keys_of tables path.steps) 0 path.steps (rows_of_node tables path value)
node_earlier tables path value = by (node_of tables path.steps)
  where
    by : (o : Option Node) → AreEarlier (option_map_or (λ node. node.keys) o []) 0 path.steps
        (option_map_or (λ node. own_rows node.kind node.keys path (option_map_or (λ step. step.keys) (last_or None path.steps) []) value) o [])
    by None = tt
    by (Some node) = own_earlier node.kind node.keys path (option_map_or (λ step. step.keys) (last_or None path.steps) []) value

pub merge_earlier : (tables : Tables) (path : Path) (action : Action) → is_merge action ≡ true →
    AreEarlier (keys_of tables path.steps) 0 path.steps (own_block tables path action)
merge_earlier tables path Nothing e = cc
merge_earlier tables path (Merge value) e = node_earlier tables path value
merge_earlier tables path (Create new) e = cc
merge_earlier tables path (Replace new) e = cc
merge_earlier tables path Delete e = cc
merge_earlier tables path Remove e = cc

-- with more rows
earlier_higher : (keys : List ℕ) (least most : ℕ) (steps : List Step) (rows : List Row) → least ≤ most →
    AreEarlier keys least steps rows → AreEarlier keys most steps rows
earlier_higher keys least most steps [] up earlier = tt
earlier_higher keys least most steps (row ∷ rows) up earlier =
    (by earlier.0, earlier_higher keys least most steps rows up earlier.1)
  where
    by : IsEarlier keys least steps row → IsEarlier keys most steps row
    by (inl at) = inl at
    by (inr (step, more, at, less)) = inr (step, more, at, omega (arith, less, up))

earlier_append : (keys : List ℕ) (least : ℕ) (steps : List Step) (rows others : List Row) → AreEarlier keys least steps rows →
    AreEarlier keys least steps others → AreEarlier keys least steps (rows ++ others)
earlier_append keys least steps [] others one two = two
earlier_append keys least steps (row ∷ rows) others one two = (one.0, earlier_append keys least steps rows others one.1 two)

earlier_under : (keys : List ℕ) (steps : List Step) (step : Step) (rows : List Row) → sibling_place keys step.node < length keys + (step.node + 1) →
    AreUnder (steps ++ step ∷ []) rows → AreEarlier keys (step.node + 1) steps rows
earlier_under keys steps step [] less under = tt
earlier_under keys steps step (row ∷ rows) less under = (
  inr (step, (under.0).0, (under.0).1 ∙ append_assoc steps (step ∷ []) (under.0).0, less),
  earlier_under keys steps step rows less under.1,
)

-- ---- before a node that is right below another
beside_next : (steps more : List Step) (step other : Step) → is_same_step step other ≡ false → goes_on (steps ++ step ∷ []) (steps ++ other ∷ more) ≡ false
beside_next [] more step other e = ap (λ b. b && true) e
beside_next (first ∷ steps) more step other e = rw (step_itself first) (beside_next steps more step other e)

module _ (tables : Tables) (steps : List Step) (step : Step) (least : ℕ) (lower : All (λ key. key < step.node) (keys_of tables steps)) (later : least ≤ step.node) where
  abbrev own_keys : List ℕ
  own_keys = keys_of tables steps

  above_it : (other : Step) → sibling_place own_keys other.node < length own_keys + least → sibling_place own_keys other.node < sibling_place own_keys step.node
  above_it other less = let at = place_low own_keys step.node lower in omega (arith, at, less, later)

  ahead_next : (all : List Row) (place : Place) (other : Step) (more : List Step) → sibling_place own_keys other.node < length own_keys + least →
      steps_before tables all place [] (steps ++ other ∷ more) (steps ++ step ∷ []) ≡ true
  ahead_next all place other more less =
      let way : List ℕ = keys_above tables (option_map (λ (over : Step). over.node) (last_or None steps)) in
      let up : sibling_place way other.node < sibling_place way step.node =
      subst (λ (some : List ℕ). sibling_place some other.node < sibling_place some step.node) (sym (keys_same tables (last_or None steps))) (above_it other less) in
      let differ : is_same_step other step ≡ false = nodes_differ other step (λ same. omega (arith, up, ap (sibling_place way) same)) in
      let order : List (List (List ℕ)) = placed place step.keys (entries all steps step.node) in
      inner_before tables all place [] steps (other ∷ more) (step ∷ [])
      ∙ ap (λ b. cond b (steps_before tables all place (steps ++ step ∷ []) more []) (sibling_before tables way order other step)) differ
      ∙ ap (λ b. b || (other.node == step.node && entry_before tables order other step)) (lt-ltb (sibling_place way other.node) (sibling_place way step.node) up)

  beside_it : (row : Row) → IsEarlier own_keys least steps row → is_under (steps ++ step ∷ []) row ≡ false
  beside_it row (inl at) = ap (goes_on (steps ++ step ∷ [])) at ∙ own_longer steps step []
  beside_it row (inr (other, more, at, less)) =
      let up = above_it other less in
      ap (goes_on (steps ++ step ∷ [])) at
      ∙ beside_next steps more step other (nodes_differ step other (λ same. omega (arith, up, ap (sibling_place own_keys) same)))

  ahead_it : (all : List Row) (place : Place) (row : Row) → IsEarlier own_keys least steps row → is_ahead tables all place (steps ++ step ∷ []) row ≡ true
  ahead_it all place row (inl at) =
      ap (λ (own : List Step). steps_before tables all place [] own (steps ++ step ∷ [])) at ∙ own_before tables all place [] steps step []
  ahead_it all place row (inr (other, more, at, less)) =
      ap (λ (own : List Step). steps_before tables all place [] own (steps ++ step ∷ [])) at ∙ ahead_next all place other more less

  all_beside : (rows : List Row) → AreEarlier own_keys least steps rows → Answer (is_under (steps ++ step ∷ [])) false rows
  all_beside [] earlier = tt
  all_beside (row ∷ rows) earlier = (beside_it row earlier.0, all_beside rows earlier.1)

  all_ahead : (all : List Row) (place : Place) (rows : List Row) → AreEarlier own_keys least steps rows → Answer (is_ahead tables all place (steps ++ step ∷ [])) true rows
  all_ahead all place [] earlier = tt
  all_ahead all place (row ∷ rows) earlier = (ahead_it all place row earlier.0, all_ahead all place rows earlier.1)

-- ---- the block is put after all rows
put_behind : (tables : Tables) (rows : List Row) (path : Path) (place : Place) (block : List Row) → AreFree tables path.steps → AreUnder path.steps block →
    Answer (is_under path.steps) false rows → Answer (is_ahead tables rows place path.steps) true rows → with_block tables rows path place block ≡ rows ++ block
put_behind tables rows path place block free under aside before =
    three_parts tables rows path place block free under
    ∙ (λ i. filter test (rest i) ++ block ++ filter (λ row. not (test row)) (rest i))
    ∙ (λ i. filter_all test rows before i ++ block ++ filter_gone test rows before i)
    ∙ append-nil (rows ++ block)
  where
    test : Row → Bool
    test = is_ahead tables rows place path.steps

    rest : beside path.steps rows ≡ rows
    rest = filter_rest (is_under path.steps) rows aside

none_exists : (rows : List Row) (steps : List Step) → Answer (is_under steps) false rows → exists rows steps ≡ false
none_exists [] steps aside = refl
none_exists (row ∷ rows) steps aside =
    ap (λ b. b || exists rows steps) (starts_on row.path.steps steps ∙ aside.0) ∙ none_exists rows steps aside.1

free_more : (tables : Tables) (steps : List Step) (step : Step) → AreFree tables steps → IsFree tables step → AreFree tables (steps ++ step ∷ [])
free_more tables [] step free one = (one, tt)
free_more tables (first ∷ steps) step free one = (free.0, free_more tables steps step free.1 one)

-- ---- the path of an edit
cut_same : (above steps : List Step) (step next : Step) (more : List Step) → length above ≡ length steps → above ++ step ∷ [] ≡ steps ++ next ∷ more → above ≡ steps
cut_same [] [] step next more long is = refl
cut_same [] (s ∷ steps) step next more long is = absurd (omega (arith, long))
cut_same (a ∷ above) [] step next more long is = absurd (omega (arith, long))
cut_same (a ∷ above) (s ∷ steps) step next more long is =
    λ i. heads_same a s (above ++ step ∷ []) (steps ++ next ∷ more) is i
    ∷ cut_same above steps step next more (omega (arith, long)) (tails_same a s (above ++ step ∷ []) (steps ++ next ∷ more) is) i

below_at : (steps : List Step) (edits : List Edit) (i : ℕ) (edit : Edit) → AreBelow steps edits → i < length edits → edit ≡ get_or edits i edit → GoesBelow steps edit.path.steps
below_at steps [] i edit below within is = absurd (omega (arith, within))
below_at steps (first ∷ edits) zero edit below within is = subst (λ (one : Edit). GoesBelow steps one.path.steps) (sym is) below.0
below_at steps (first ∷ edits) (suc i) edit below within is = below_at steps edits i edit below.2 (omega (arith, within)) is

length_more : (steps : List Step) (step : Step) → length (steps ++ step ∷ []) ≡ length steps + 1
length_more [] step = refl
length_more (first ∷ steps) step = let rest = length_more steps step in omega (arith, rest)

-- ---- one edit
module _ (tables : Tables) (steps : List Step) (edit : Edit) (rows : List Row) (step : Step) (merged : IsMerged tables (length steps) edit step)
    (goes : GoesBelow steps edit.path.steps) (free : AreFree tables steps) where
  path_is : edit.path.steps ≡ steps ++ step ∷ []
  path_is = merged.cut ∙ ap (λ (above : List Step). above ++ step ∷ []) (cut_same merged.above steps step (goes).0 (goes).1 merged.depth_is (sym merged.cut ∙ (goes).2))

  free_path : AreFree tables edit.path.steps
  free_path =
      let one : AreFree tables (step ∷ []) =
      free_all tables (step ∷ []) (All-cons (λ (s : Step). is_free tables s ≡ true) step [] merged.free (All-nil (λ (s : Step). is_free tables s ≡ true))) in
      subst (AreFree tables) (sym path_is) (free_more tables steps step free one.0)

  abbrev own_new : List Row
  own_new = own_block tables edit.path edit.action

  new_under : AreUnder edit.path.steps own_new
  new_under = merge_under tables edit.path edit.action merged.merges

  -- what stands above is not looked for
  none_lacks : lacks_at tables rows (length steps + 1) edit.path.steps ≡ false
  none_lacks =
      let long : length edit.path.steps ≤ length steps + 1 = omega (arith, ap length path_is, length_more steps step) in
      ap (lacks_from tables rows (take (length steps + 1) edit.path.steps)) (drop_all (length steps + 1) edit.path.steps long)

  -- so the edit is made
  turn_made : (new : List Row) → left_by tables rows edit ≡ new → (goes_on : Bool) (causes : List Cause) → (goes_on || is_empty causes) ≡ true →
      record { rows = new; causes = causes } ≡ turn_at tables (length steps + 1) goes_on (record { rows = rows; causes = causes }) edit
  turn_made new left_is goes_on causes on =
      let start : Applied = record { rows = rows; causes = causes } in
      let refused : refusal_at tables (length steps + 1) rows edit ≡ None = not_refused_at tables (length steps + 1) rows edit merged.merges merged.kept none_lacks in
      sym (λ i. cond (on i) (with_result start (unless_refused (refused i) (left_is i))) start)

  -- ---- behind all others
  module _ (least : ℕ) (next : IsNext (keys_of tables steps) least step.node) (earlier : AreEarlier (keys_of tables steps) least steps rows) where
    aside : Answer (is_under edit.path.steps) false rows
    aside = subst (λ (path : List Step). Answer (is_under path) false rows) (sym path_is) (all_beside tables steps step least next.lower next.later rows earlier)

    before : Answer (is_ahead tables rows Kept edit.path.steps) true rows
    before =
        subst (λ (path : List Step). Answer (is_ahead tables rows Kept path) true rows) (sym path_is) (all_ahead tables steps step least next.lower next.later rows Kept rows earlier)

    left_behind : left_by tables rows edit ≡ rows ++ own_new
    left_behind =
        merged_rows tables rows edit merged.merges merged.kept (none_exists rows edit.path.steps aside)
        ∙ put_behind tables rows edit.path Kept own_new free_path new_under aside before

    more_earlier : AreEarlier (keys_of tables steps) (step.node + 1) steps (rows ++ own_new)
    more_earlier =
        let at = place_low (keys_of tables steps) step.node next.lower in
        let later = next.later in
        let up : least ≤ step.node + 1 = omega (arith, later) in
        let within : sibling_place (keys_of tables steps) step.node < length (keys_of tables steps) + (step.node + 1) = omega (arith, at) in
        let under : AreUnder (steps ++ step ∷ []) own_new = subst (λ (path : List Step). AreUnder path own_new) path_is new_under in
        earlier_append (keys_of tables steps) (step.node + 1) steps rows own_new
        (earlier_higher (keys_of tables steps) least (step.node + 1) steps rows up earlier)
        (earlier_under (keys_of tables steps) steps step own_new within under)

  -- ---- what stands is merged once more
  module _ (again : IsAgain steps rows own_new) where
    own_aside : goes_on edit.path.steps again.own.path.steps ≡ false
    own_aside = (λ i. goes_on (path_is i) (again.own_is i)) ∙ own_longer steps step []

    other_in : goes_on edit.path.steps again.other.path.steps ≡ true
    other_in =
        let under : AreUnder edit.path.steps (again.other ∷ []) = subst (AreUnder edit.path.steps) again.more_is new_under in
        ap (goes_on edit.path.steps) (under.0).1 ∙ goes_further edit.path.steps (under.0).0

    own_first : steps_before tables rows Kept [] again.own.path.steps edit.path.steps ≡ true
    own_first = (λ i. steps_before tables rows Kept [] (again.own_is i) (path_is i)) ∙ own_before tables rows Kept [] steps step []

    beside_is : beside edit.path.steps rows ≡ again.own ∷ []
    beside_is =
        ap (beside edit.path.steps) again.rows_are
        ∙ (λ i. cond (not (own_aside i)) (again.own ∷ cond (not (other_in i)) (again.other ∷ []) []) (cond (not (other_in i)) (again.other ∷ []) []))

    block_is : block_at rows edit.path.steps ≡ own_new
    block_is =
        ap (λ (some : List Row). block_at some edit.path.steps) again.rows_are
        ∙ (λ i. cond ((starts_on again.own.path.steps edit.path.steps ∙ own_aside) i)
        (again.own ∷ cond ((starts_on again.other.path.steps edit.path.steps ∙ other_in) i) (again.other ∷ []) [])
        (cond ((starts_on again.other.path.steps edit.path.steps ∙ other_in) i) (again.other ∷ []) []))
        ∙ sym again.more_is

    left_again : left_by tables rows edit ≡ rows
    left_again =
        merged_again tables rows edit merged.merges merged.kept block_is
        ∙ three_parts tables rows edit.path Kept own_new free_path new_under
        ∙ (λ i. filter (is_ahead tables rows Kept edit.path.steps) (beside_is i) ++ again.more_is i ++ filter (λ row. not (is_ahead tables rows Kept edit.path.steps row)) (beside_is i))
        ∙ (λ i. cond (own_first i) (again.own ∷ []) [] ++ (again.other ∷ []) ++ cond (not (own_first i)) (again.own ∷ []) [])
        ∙ sym again.rows_are

-- ---- one of several
module _ (tables : Tables) (path : Path) (old rows more : List Row) (depth : ℕ) (edits : List Edit) (i : ℕ) (edit : Edit) (step : Step) where
  merged_at : depth ≡ length path.steps → IsMerged tables depth edit step → IsMerged tables (length path.steps) edit step
  merged_at = subst (λ (n : ℕ). IsMerged tables n edit step)

  pub one_again : depth ≡ length path.steps → AreFree tables path.steps → AreBelow path.steps edits → i < length edits → edit ≡ get_or edits i edit →
      IsMerged tables depth edit step → more ≡ own_block tables edit.path edit.action → IsAgain path.steps rows more →
      MakeBehind tables path.steps old rows edits i → MakeBehind tables path.steps old rows edits (i + 1)
  one_again depth_is free below within is merged_is more_is again_is made =
      let merged = merged_at depth_is merged_is in
      let goes : GoesBelow path.steps edit.path.steps = below_at path.steps edits i edit below within is in
      let again : IsAgain path.steps rows (own_block tables edit.path edit.action) = subst (IsAgain path.steps rows) more_is again_is in
      λ goes_on causes on.
      fold_more (turn_at tables (length path.steps + 1) goes_on) (record { rows = old; causes = causes }) (record { rows = rows; causes = causes }) (record { rows = rows; causes = causes })
      edits i edit within is (made goes_on causes on)
      (turn_made tables path.steps edit rows step merged goes free rows (left_again tables path.steps edit rows step merged goes free again) goes_on causes on)

pub one_behind : (tables : Tables) (path : Path) (old rows now more : List Row) (least depth : ℕ) (keys : List ℕ) (edits : List Edit) (i : ℕ) (edit : Edit) (step : Step) →
    keys ≡ keys_of tables path.steps → depth ≡ length path.steps → AreFree tables path.steps → AreBelow path.steps edits → i < length edits → edit ≡ get_or edits i edit →
    IsMerged tables depth edit step → IsNext keys least step.node → more ≡ own_block tables edit.path edit.action → now ≡ rows ++ more →
    AreEarlier (keys_of tables path.steps) least path.steps rows → MakeBehind tables path.steps old rows edits i →
    AreEarlier (keys_of tables path.steps) (step.node + 1) path.steps now × MakeBehind tables path.steps old now edits (i + 1)
one_behind tables path old rows now more least depth keys edits i edit step keys_are depth_is free below within is merged_is next_is more_is now_is earlier made =
    let steps = path.steps in
    let merged : IsMerged tables (length steps) edit step = subst (λ (n : ℕ). IsMerged tables n edit step) depth_is merged_is in
    let next : IsNext (keys_of tables steps) least step.node = subst (λ (some : List ℕ). IsNext some least step.node) keys_are next_is in
    let goes : GoesBelow steps edit.path.steps = below_at steps edits i edit below within is in
    let all : now ≡ rows ++ own_block tables edit.path edit.action = now_is ∙ ap (λ (some : List Row). rows ++ some) more_is in (
      subst (AreEarlier (keys_of tables steps) (step.node + 1) steps) (sym all) (more_earlier tables steps edit rows step merged goes free least next earlier),
      λ goes_on causes on.
          fold_more (turn_at tables (length steps + 1) goes_on) (record { rows = old; causes = causes }) (record { rows = rows; causes = causes }) (record { rows = now; causes = causes })
          edits i edit within is (made goes_on causes on)
          (turn_made tables steps edit rows step merged goes free now (left_behind tables steps edit rows step merged goes free least next earlier ∙ sym all) goes_on causes on),
    )

-- as many edits as there are, are all
pub take_whole : (n : ℕ) (edits : List Edit) → n ≡ length edits → take n edits ≡ edits
take_whole n edits all = take_all n edits (omega (arith, all))

-- the first edits, and then the others
pub run_rest : (f : Applied → Edit → Applied) (start middle end : Applied) (edits : List Edit) (n : ℕ) → middle ≡ fold f start (take n edits) → end ≡ fold f middle (drop n edits) →
    end ≡ fold f start edits
run_rest f start middle end edits n before after =
    after ∙ ap (λ (s : Applied). fold f s (drop n edits)) before ∙ sym (fold-append f start (take n edits) (drop n edits)) ∙ ap (fold f start) (take-append-drop n edits)
