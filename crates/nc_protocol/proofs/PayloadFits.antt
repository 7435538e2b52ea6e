-- The edits of a payload fit the schema and bring values that were read, and the rows of an inline configuration are
-- a data tree.
use Rattle.std.proofs.Common.{◌≡◌, ℕ, Bool, true, false, cond, List, [], ◌∷◌, Some, None, refl, sym, ap, subst, ◌∙◌}
use Rattle.std.specs.List.{All}
use Rattle.std.specs.Prelude.{Result, Ok, Err, option_and_then}
use Rattle.std.proofs.lemmas.List.Elements.{All-nil}
use Rattle.nc_names.specs.declared.cause.CauseKind.TheVariants.{BadElement}
use Rattle.nc_names.specs.declared.path.Place.{Place}
use Rattle.nc_names.specs.declared.path.Row.{Row}
use Rattle.nc_names.specs.declared.path.Step.{Step}
use Rattle.nc_message.specs.declared.tree.Elem.{Elem}
use Rattle.nc_message.specs.declared.tree.Part.{Part, Child', Chars, Row_of-Part, end_of-Part, more_of-Part}
use Rattle.nc_message.specs.declared.tree.Part.TheBlock.{Row_of-Elem, end_of-Elem, more_of-Elem, items-the_row-Part}
use Rattle.nc_schema.specs.Configuration.{IsDataTree}
use Rattle.nc_schema.specs.Kinds.{has_value}
use Rattle.nc_schema.proofs.ProperLemmas.{HasProperNodes}
use Rattle.nc_schema.specs.declared.node.Kind.TheVariants.{Leaf}
use Rattle.nc_schema.proofs.TreeLemmas.{empty_is_data_tree}
use Rattle.nc_protocol.specs.Attributes.{cause_in, operation_of, place_of}
use Rattle.nc_protocol.specs.Elements.{Reading, Named, has_text, named, value_in, is_dropped, is_key, step_of, steps_to, with_step}
use Rattle.nc_protocol.specs.Faults.{is_read, needs_value, under_element, under_edited, inside}
use Rattle.nc_protocol.specs.Payload.{merge_of, rows_merged, made, with_more, element_edits, part_edits, child_edits, parts_edits, list_edits, config_edits, by_default, edits_read, rows_read}
use Rattle.nc_protocol.specs.ProperEdit.{IsNoKey, IsProperEdit, IsNewSubtree, BringsThat}
use Rattle.nc_protocol.specs.declared.asked.Default3.{Default3}
use Rattle.nc_protocol.specs.declared.edit.Action.TheVariants.{Nothing as Look, Create as Add, Replace as Put, Delete as Drop, Remove as Clear}
use Rattle.nc_protocol.specs.declared.edit.Edit.{Edit}
use Rattle.nc_protocol.specs.declared.position.EditOperation.{EditOperation}
use Rattle.nc_protocol.specs.declared.position.EditOperation.TheVariants.{Merge, Replace, Create, Delete, Remove, Nothing}
use Rattle.nc_protocol.specs.declared.position.Position.{Position}
use Rattle.nc_protocol.specs.declared.position.Under.{Under}
use Rattle.nc_protocol.specs.declared.position.Under.TheVariants.{Edited, Inline}
use Rattle.nc_protocol.specs.declared.request.Cause.{Cause}
use Rattle.nc_protocol.proofs.ElementLemmas.{some_is_not_none}
use Rattle.nc_protocol.proofs.ElementPlaces.{IsPlace, top_position, top_place, IsElement, path_is, place_below, merge_is_proper, no_key}
use Rattle.nc_protocol.proofs.ListLemmas.{all_append, all_cons, all_one, no_element}
use Rattle.nc_protocol.proofs.NewSubtree.{new_subtree}
use Rattle.nc_protocol.proofs.PayloadRows.{is_calm, not_key, AreRows, Builds, merge_builds, AreBehind, first_behind, more_behind, ChildIsFirst, nothing_builds, joined_builds, part_builds, parts_build}
use Rattle.nc_protocol.proofs.ProperPayload.{ok_same, err_is_not_ok, with_more_ok, if_read_ok, IsMade, element_made, IsAt, IsFirst, is_element, IsReadValue, Has, merge_brings, merged_have}

-- an edit that fits, and brings values that were read
pub record IsGoodEdit (reading : Reading) (edit : Edit) : Type 0 where
  pub fits : IsProperEdit reading.tables edit
  pub brings : BringsThat (IsReadValue reading) reading.tables edit

-- a place where each element gives an edit
record GivesEdits (at : Position) : Type 0 where
  above : EditOperation
  under : at.under ≡ Edited above
  calm : (parent : ℕ) → at.parent ≡ Some parent → is_calm above ≡ true

leaf_read : (above operation : EditOperation) (key : Bool) → needs_value operation ≡ true → is_read (Edited above) operation key Leaf ≡ true
leaf_read above operation true needs = refl
leaf_read above operation false needs = needs

-- ---- an element with its operation
module _ (reading : Reading) (at : Position) (earlier : List Step) (whole : List Part) (elem : Elem) (it : Named) (below : List Edit) (gives : GivesEdits at) (is : IsElement reading at earlier whole elem it) where
  abbrev merge : Edit
  merge = merge_of reading at it

  operation_is : operation_of at.under it.elem.attrs ≡ operation_of (Edited gives.above) it.elem.attrs
  operation_is = ap (λ under. operation_of under it.elem.attrs) gives.under

  leaf : (operation : EditOperation) → operation_of (Edited gives.above) it.elem.attrs ≡ operation → needs_value operation ≡ true → it.node.kind ≡ Leaf → (v : List ℕ) × (value_in reading it ≡ Some v)
  leaf operation own needs kind =
      is.sound.value (ap (is_read at.under (operation_of at.under it.elem.attrs) (is_key reading at it)) kind
      ∙ (λ i. is_read (gives.under i) (operation_is i) (is_key reading at it) Leaf)
      ∙ ap (λ o. is_read (Edited gives.above) o (is_key reading at it) Leaf) own ∙ leaf_read gives.above operation (is_key reading at it) needs)

  no_key_here : (operation : EditOperation) → operation_of (Edited gives.above) it.elem.attrs ≡ operation → is_calm operation ≡ false → IsNoKey reading.tables (merge_of reading at it).path
  no_key_here operation own other =
      no_key reading at earlier whole elem it is (not_key reading at it gives.above gives.under is.sound.attributes gives.calm (ap is_calm own ∙ other))

  -- new rows
  rows_fit : (operation : EditOperation) → operation_of (Edited gives.above) it.elem.attrs ≡ operation → needs_value operation ≡ true → is_calm operation ≡ false →
      Builds reading (steps_to reading at it) below →
      IsNewSubtree reading.tables (merge_of reading at it).path (rows_merged reading.tables (merge_of reading at it ∷ below)) × All (Has reading) (rows_merged reading.tables (merge_of reading at it ∷ below))
  rows_fit operation own needs other builds =
      let value_is = leaf operation own needs in
      let all = merge_builds reading at earlier whole elem it below is value_is builds in (
        new_subtree reading.tables at.above (step_of reading at.under it) merge (cond (has_value it.node.kind) (value_in reading it) None) below is.proper
            (merge_is_proper reading at earlier whole elem it is value_is) refl refl (no_key_here operation own other) all.built builds.built.each,
        merged_have (Has reading) reading.tables [] (merge ∷ below) (All-nil (Has reading)) all.brings,
      )

  abbrev BelowIs : EditOperation → Type 0
  BelowIs Merge = All (IsGoodEdit reading) below
  BelowIs Nothing = All (IsGoodEdit reading) below
  BelowIs Create = Builds reading (steps_to reading at it) below
  BelowIs Replace = Builds reading (steps_to reading at it) below
  BelowIs Delete = Unit {0}
  BelowIs Remove = Unit {0}

  element_fits : (operation : EditOperation) → operation_of (Edited gives.above) it.elem.attrs ≡ operation → BelowIs operation → (place : Place) →
      All (IsGoodEdit reading) (made reading.tables (Edited gives.above) operation (merge_of reading at it) place below)
  element_fits Merge own good place =
      let proper = merge_is_proper reading at earlier whole elem it is (leaf Merge own refl) in
      all_cons (IsGoodEdit reading) (record { path = merge.path; action = merge.action; place = place }) below
      (record { fits = record { path = proper.path; action = proper.action }; brings = merge_brings reading at earlier whole elem it is }) good
  element_fits Nothing own good place =
      all_cons (IsGoodEdit reading) (record { path = merge.path; action = Look; place = place }) below
      (record { fits = record { path = path_is reading at earlier whole elem it is; action = tt }; brings = All-nil (Has reading) }) good
  element_fits Create own builds place =
      let rows = rows_fit Create own refl refl builds in
      all_one (IsGoodEdit reading) (record { path = merge.path; action = Add (rows_merged reading.tables (merge ∷ below)); place = place })
      (record { fits = record { path = path_is reading at earlier whole elem it is; action = rows.0 }; brings = rows.1 })
  element_fits Replace own builds place =
      let rows = rows_fit Replace own refl refl builds in
      all_one (IsGoodEdit reading) (record { path = merge.path; action = Put (rows_merged reading.tables (merge ∷ below)); place = place })
      (record { fits = record { path = path_is reading at earlier whole elem it is; action = rows.0 }; brings = rows.1 })
  element_fits Delete own good place =
      all_one (IsGoodEdit reading) (record { path = merge.path; action = Drop; place = place })
      (record { fits = record { path = path_is reading at earlier whole elem it is; action = no_key_here Delete own refl }; brings = All-nil (Has reading) })
  element_fits Remove own good place =
      all_one (IsGoodEdit reading) (record { path = merge.path; action = Clear; place = place })
      (record { fits = record { path = path_is reading at earlier whole elem it is; action = no_key_here Remove own refl }; brings = All-nil (Has reading) })

-- ---- elements and their parts
-- what is known of the edits of an element's parts, by where they stand
record BelowFits (reading : Reading) (parts : List Part) (children : Position → Result (List Edit) Cause) : Type 0 where
  edits : (within : Position) (rest : List Edit) → IsAt reading within parts → GivesEdits within → children within ≡ Ok rest → All (IsGoodEdit reading) rest
  rows : (within : Position) (rest : List Edit) → IsAt reading within parts → AreRows within.under → children within ≡ Ok rest → Builds reading within.above rest

element_is_good : (reading : Reading) (at : Position) (earlier : List Step) (whole : List Part) (elem : Elem) (children : Position → Result (List Edit) Cause) (edits : List Edit) →
    IsAt reading at whole → GivesEdits at → ((it : Named) → named reading at.parent elem ≡ Some it → IsFirst reading at.parent whole earlier it) →
    BelowFits reading elem.parts children → element_edits reading at earlier elem children ≡ Ok edits → All (IsGoodEdit reading) edits
element_is_good reading at earlier whole elem children edits stands gives first below e = subst (All (IsGoodEdit reading)) same (by operation refl)
  where
    made_one : IsMade reading at earlier elem children edits
    made_one = element_made reading at earlier elem children edits e

    it : Named
    it = made_one.it

    is : IsElement reading at earlier whole elem it
    is = is_element reading at earlier whole elem it stands made_one.it_is made_one.none (first it made_one.it_is)

    operation : EditOperation
    operation = operation_of (Edited gives.above) it.elem.attrs

    same : made reading.tables (Edited gives.above) operation (merge_of reading at it) (place_of reading it) made_one.below ≡ edits
    same = (λ i. made reading.tables (sym gives.under i) (operation_of (sym gives.under i) it.elem.attrs) (merge_of reading at it) (place_of reading it) made_one.below) ∙ made_one.edits_are

    under_is : (o : EditOperation) → operation ≡ o → under_element at.under it.elem.attrs ≡ under_edited o
    under_is o own = ap (λ under. under_element under it.elem.attrs) gives.under ∙ ap under_edited own

    place : (o : EditOperation) → operation ≡ o → is_dropped (under_edited o) ≡ false → IsAt reading (inside reading at it) elem.parts
    place o own taken = record {
      proper = stands.proper;
      place = subst (λ (e : Elem). IsPlace reading (inside reading at it) e.parts) is.named.elem_is
          (place_below reading at earlier whole elem it is (ap is_dropped (under_is o own) ∙ taken));
    }

    edited : (o : EditOperation) → operation ≡ o → is_dropped (under_edited o) ≡ false → under_edited o ≡ Edited o → is_calm o ≡ true → All (IsGoodEdit reading) made_one.below
    edited o own taken under calm =
        below.edits (inside reading at it) made_one.below (place o own taken) (record { above = o; under = under_is o own ∙ under; calm = λ parent parent_is. calm }) made_one.below_is

    rows : (o : EditOperation) → operation ≡ o → is_dropped (under_edited o) ≡ false → AreRows (under_edited o) → Builds reading (steps_to reading at it) made_one.below
    rows o own taken are = below.rows (inside reading at it) made_one.below (place o own taken) (subst AreRows (sym (under_is o own)) are) made_one.below_is

    fits : (o : EditOperation) → operation ≡ o → BelowIs reading at earlier whole elem it made_one.below gives is o →
        All (IsGoodEdit reading) (made reading.tables (Edited gives.above) operation (merge_of reading at it) (place_of reading it) made_one.below)
    fits o own good =
        subst (λ (p : EditOperation). All (IsGoodEdit reading) (made reading.tables (Edited gives.above) p (merge_of reading at it) (place_of reading it) made_one.below)) (sym own)
        (element_fits reading at earlier whole elem it made_one.below gives is o own good (place_of reading it))

    by : (o : EditOperation) → operation ≡ o → All (IsGoodEdit reading) (made reading.tables (Edited gives.above) operation (merge_of reading at it) (place_of reading it) made_one.below)
    by Merge own = fits Merge own (edited Merge own refl refl refl)
    by Nothing own = fits Nothing own (edited Nothing own refl refl refl)
    by Create own = fits Create own (rows Create own refl tt)
    by Replace own = fits Replace own (rows Replace own refl tt)
    by Delete own = fits Delete own tt
    by Remove own = fits Remove own tt

no_edits : (reading : Reading) (edits : List Edit) → ◌≡◌ {A = Result (List Edit) Cause} (Ok []) (Ok edits) → All (IsGoodEdit reading) edits
no_edits reading edits e = subst (All (IsGoodEdit reading)) (ok_same [] edits e) (All-nil (IsGoodEdit reading))

joined_edits : (reading : Reading) (one more : Result (List Edit) Cause) (edits : List Edit) →
    ((first : List Edit) → one ≡ Ok first → All (IsGoodEdit reading) first) → ((rest : List Edit) → more ≡ Ok rest → All (IsGoodEdit reading) rest) →
    with_more one more ≡ Ok edits → All (IsGoodEdit reading) edits
joined_edits reading one more edits first rest e =
    let parts = with_more_ok one more edits e in
    subst (All (IsGoodEdit reading)) parts.4 (all_append (IsGoodEdit reading) parts.0 parts.1 (first parts.0 parts.2) (rest parts.1 parts.3))

mutual
  part_is_good : (reading : Reading) (at : Position) (earlier : List Step) (whole : List Part) (part : Part) (more : List Part) (edits : List Edit) →
      IsAt reading at whole → GivesEdits at → AreBehind reading at.parent whole earlier (part ∷ more) → part_edits reading at earlier part ≡ Ok edits → All (IsGoodEdit reading) edits
  part_is_good reading at earlier whole (Chars text) more edits stands gives behind e = no_edits reading edits e
  part_is_good reading at earlier whole (Child' u child) more edits stands gives behind e =
      child_is_good reading at earlier whole child edits stands gives
      (λ elem it in_child is. first_behind reading at whole earlier (Child' u child) more behind elem it is (ap (option_and_then (named reading at.parent)) in_child ∙ is)) e

  child_is_good : (reading : Reading) (at : Position) (earlier : List Step) (whole : List Part) {n : _} (child : Row_of-Elem n) (edits : List Edit) →
      IsAt reading at whole → GivesEdits at → ChildIsFirst reading at.parent whole earlier child → child_edits reading at earlier child ≡ Ok edits → All (IsGoodEdit reading) edits
  child_is_good reading at earlier whole end_of-Elem edits stands gives first e = no_edits reading edits e
  child_is_good reading at earlier whole (more_of-Elem name bounds attrs shape parts none) edits stands gives first e =
      element_is_good reading at earlier whole (record { name = name; bounds = bounds; attrs = attrs; parts = items-the_row-Part _ parts }) (λ within. parts_edits reading within [] parts) edits stands gives
      (λ it is. first (record { name = name; bounds = bounds; attrs = attrs; parts = items-the_row-Part _ parts }) it refl is)
      (record {
        edits = λ within rest under gives made. parts_are_good reading within [] (items-the_row-Part _ parts) parts rest under gives (λ number node node_is leaf new. refl) made;
        rows = λ within rest under rows made. parts_build reading within [] (items-the_row-Part _ parts) parts rest under rows (λ number node node_is leaf new. refl) made;
      })
      e

  parts_are_good : (reading : Reading) (at : Position) (earlier : List Step) (whole : List Part) {n : _} (row : Row_of-Part n) (edits : List Edit) →
      IsAt reading at whole → GivesEdits at → AreBehind reading at.parent whole earlier (items-the_row-Part n row) → parts_edits reading at earlier row ≡ Ok edits → All (IsGoodEdit reading) edits
  parts_are_good reading at earlier whole end_of-Part edits stands gives behind e = no_edits reading edits e
  parts_are_good reading at earlier whole (more_of-Part part more) edits stands gives behind e =
      joined_edits reading (part_edits reading at earlier part) (parts_edits reading at (with_step reading at earlier part) more) edits
      (λ first made. part_is_good reading at earlier whole part (items-the_row-Part _ more) first stands gives behind made)
      (λ rest made. parts_are_good reading at (with_step reading at earlier part) whole more rest stands gives (more_behind reading at whole earlier part (items-the_row-Part _ more) behind) made)
      e

list_is_good : (reading : Reading) (at : Position) (earlier : List Step) (whole parts : List Part) (edits : List Edit) →
    IsAt reading at whole → GivesEdits at → AreBehind reading at.parent whole earlier parts → list_edits reading at earlier parts ≡ Ok edits → All (IsGoodEdit reading) edits
list_is_good reading at earlier whole [] edits stands gives behind e = no_edits reading edits e
list_is_good reading at earlier whole (part ∷ more) edits stands gives behind e =
    joined_edits reading (part_edits reading at earlier part) (list_edits reading at (with_step reading at earlier part) more) edits
    (λ first made. part_is_good reading at earlier whole part more first stands gives behind made)
    (λ rest made. list_is_good reading at (with_step reading at earlier part) whole more rest stands gives (more_behind reading at whole earlier part more behind) made)
    e

list_builds : (reading : Reading) (at : Position) (earlier : List Step) (whole parts : List Part) (edits : List Edit) →
    IsAt reading at whole → AreRows at.under → AreBehind reading at.parent whole earlier parts → list_edits reading at earlier parts ≡ Ok edits → Builds reading at.above edits
list_builds reading at earlier whole [] edits stands are behind e = nothing_builds reading at.above edits e
list_builds reading at earlier whole (part ∷ more) edits stands are behind e =
    joined_builds reading at.above (part_edits reading at earlier part) (list_edits reading at (with_step reading at earlier part) more) edits
    (λ first made. part_builds reading at earlier whole part more first stands are behind made)
    (λ rest made. list_builds reading at (with_step reading at earlier part) whole more rest stands are (more_behind reading at whole earlier part more behind) made)
    e

-- ---- whole payloads
config_ok : (reading : Reading) (under : Under) (config : Elem) (edits : List Edit) → config_edits reading under config ≡ Ok edits → list_edits reading (top_position under) [] config.parts ≡ Ok edits
config_ok reading under config edits e = by (has_text config.parts) e
  where
    by : (text : Bool) → cond text (Err (cause_in BadElement [] (config.name.name ∷ []))) (list_edits reading (top_position under) [] config.parts) ≡ Ok edits →
        list_edits reading (top_position under) [] config.parts ≡ Ok edits
    by true e = absurd (err_is_not_ok _ edits e)
    by false e = e

pub payload_is_good : (reading : Reading) (default_operation : Default3) (config : Elem) (edits : List Edit) → HasProperNodes reading.tables → edits_read reading default_operation config ≡ Ok edits → All (IsGoodEdit reading) edits
payload_is_good reading default_operation config edits proper e =
    let under : Under = Edited (by_default default_operation) in
    list_is_good reading (top_position under) [] config.parts config.parts edits (record { proper = proper; place = top_place reading under config.parts refl })
    (record { above = by_default default_operation; under = refl; calm = λ parent e. absurd (some_is_not_none parent (sym e)) }) (λ number node node_is leaf new. refl) (config_ok reading under config edits e)

-- the rows of an inline configuration
pub rows_are_good : (reading : Reading) (config : Elem) (rows : List Row) → HasProperNodes reading.tables → rows_read reading config ≡ Ok rows → IsDataTree reading.tables rows × All (Has reading) rows
rows_are_good reading config rows proper e =
    let read = if_read_ok (rows_merged reading.tables) (config_edits reading Inline config) rows e in
    let builds = list_builds reading (top_position Inline) [] config.parts config.parts read.0 (record { proper = proper; place = top_place reading Inline config.parts refl }) tt
    (λ number node node_is leaf new. refl) (config_ok reading Inline config read.0 read.1) in
    let tree = builds.built.keeps [] (empty_is_data_tree reading.tables) (λ front step rest node is. absurd (no_element front rest step is)) in
    subst (λ (rs : List Row). IsDataTree reading.tables rs × All (Has reading) rs) read.2
    (tree.0, merged_have (Has reading) reading.tables [] read.0 (All-nil (Has reading)) builds.brings)
