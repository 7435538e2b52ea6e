-- What a filter keeps of the rows that stand where one of its content matches is met is what it keeps of all.
use Rattle.std.proofs.Common.{◌≡◌, ◌&&◌, ◌||◌, ◌<◌, ℕ, length, take, get_or, map, Bor, Bool, true, false, cond, List, [], ◌∷◌, refl, sym, ap, subst, ◌∙◌}
use Rattle.std.specs.Prelude.{Err, IfOk, IfSome, Ok, Option, Result, Some}
use Rattle.std.specs.List.{Contains, filter, list_any}
use Rattle.std.proofs.lemmas.List.{length-map}
use Rattle.nc_names.specs.Same.{is_at_or_below}
use Rattle.nc_names.specs.declared.path.Row.{Row}
use Rattle.nc_names.specs.declared.path.Step.{Step}
use Rattle.nc_message.specs.declared.tree.Elem.{Elem}
use Rattle.nc_schema.specs.Blocks.{above_last}
use Rattle.nc_schema.specs.Tables.{Tables}
use Rattle.nc_protocol.specs.Filter.{is_content_match, is_key_of_entry, level_of, meets, selected, selects}
use Rattle.nc_filter.proofs.KeptLemmas.{mapped_item, mapped_within}
use Rattle.nc_filter.proofs.NearLemmas.{any_fewer, below_above, led, met_at, or_right, selected_near}
use Rattle.nc_filter.specs.declared.front.Way.{Way}
use Rattle.nc_filter.specs.inner.Front.{AreLikes, IsWay, LeadBy, is_like, is_met, is_near}

module _ (tables : Tables) (rows : List Row) (elem : Elem) (depth : ℕ) where
  abbrev likes : List Row
  likes = filter (is_like tables elem) rows

  abbrev near : List Step → Bool
  near steps = is_near likes depth steps

  near_met : (steps : List Step) → list_any (meets tables elem (take depth steps)) rows ≡ true → near steps ≡ true
  near_met steps some =
      any_likes rows some
    where
      any_likes : (among : List Row) → list_any (meets tables elem (take depth steps)) among ≡ true →
          list_any (λ (other : Row). is_at_or_below (take depth steps) other.path) (filter (is_like tables elem) among) ≡ true
      any_likes [] some = some
      any_likes (row ∷ among) some = by (is_like tables elem row) (meets tables elem (take depth steps) row) refl refl some (any_likes among)
        where
          by : (l m : Bool) → is_like tables elem row ≡ l → meets tables elem (take depth steps) row ≡ m → (m || list_any (meets tables elem (take depth steps)) among) ≡ true →
              (list_any (meets tables elem (take depth steps)) among ≡ true →
              list_any (λ (other : Row). is_at_or_below (take depth steps) other.path) (filter (is_like tables elem) among) ≡ true) →
              list_any (λ (other : Row). is_at_or_below (take depth steps) other.path) (cond l (row ∷ filter (is_like tables elem) among) (filter (is_like tables elem) among)) ≡ true
          by true true e f some rest =
              ap (λ b. b || list_any (λ (other : Row). is_at_or_below (take depth steps) other.path) (filter (is_like tables elem) among)) (below_above row.path (take depth steps) (met_at tables row (take depth steps) elem f).0)
          by true false e f some rest = or_right (is_at_or_below (take depth steps) row.path) (list_any (λ (other : Row). is_at_or_below (take depth steps) other.path) (filter (is_like tables elem) among)) (rest some)
          by false true e f some rest =
              let like : is_like tables elem row ≡ true = (met_at tables row (take depth steps) elem f).1 in
              absurd (cc (e, like))
          by false false e f some rest = rest some

module _ (tables : Tables) (rows : List Row) (from to elem : Elem) (way : List Elem) (is_way : LeadBy from way to) (has : Contains (level_of to) elem)
    (is_match : is_content_match elem ≡ true) where
  abbrev here : Row → Bool
  here row = is_met tables (filter (is_like tables elem) rows) (length way) row

  abbrev close : List Step → Bool
  close steps = is_near (filter (is_like tables elem) rows) (length way) steps

  abbrev picked : List Row → Row → Bool
  picked among row = selects tables among row (level_of from) [] row.path.steps

  close_all : (row : Row) → picked rows row ≡ true → close row.path.steps ≡ true
  close_all row is = near_met tables rows elem (length way) row.path.steps (led tables rows row elem is_match way from to is_way has [] row.path.steps is)

  close_some : (row : Row) → picked (filter here rows) row ≡ true → close row.path.steps ≡ true
  close_some row is =
      near_met tables rows elem (length way) row.path.steps
      (any_fewer (meets tables elem (take (length way) row.path.steps)) here rows (led tables (filter here rows) row elem is_match way from to is_way has [] row.path.steps is))

  pub selected_met : selected tables from (filter here rows) ≡ selected tables from rows
  selected_met = selected_near tables rows (filter (is_like tables elem) rows) from to way is_way close_all close_some

-- rows like one of the elements of a level
pub likes_found : (tables : Tables) (level : List (Bor Elem)) (rows alike : List Row) (at : ℕ) (elem : Bor Elem) → at < length level → elem ≡ get_or level at elem →
    is_content_match elem.now ≡ true → alike ≡ filter (is_like tables elem.now) rows → AreLikes tables (map (λ one. one.now) level) rows alike
likes_found tables level rows alike at elem within is holds likes_are =
    (elem.now, (at, mapped_within (λ (one : Bor Elem). one.now) level at within, sym (mapped_item (λ (one : Bor Elem). one.now) level at elem within is)), holds, likes_are)

front_done : (tables : Tables) (rows found alike : List Row) (from to : Elem) (way level : List Elem) (depth : ℕ) → LeadBy from way to → level ≡ level_of to →
    depth ≡ length way → AreLikes tables level rows alike → found ≡ filter (is_met tables alike depth) rows → selected tables from found ≡ selected tables from rows
front_done tables rows found alike from to way level depth is_way level_is depth_is (elem, has, is_match, likes_are) found_are =
    ap (selected tables from) (found_are ∙ (λ i. filter (is_met tables (likes_are i) (depth_is i)) rows))
    ∙ selected_met tables rows from to elem way is_way (subst (λ (one : List Elem). Contains one elem) level_is has) is_match

-- so it is for the rows that are met where a way leads, as they are found
pub met_found : {E : Type 0} (result : Result (List (Bor Row)) E) (tables : Tables) (from : Elem) (way : Way) (rows : List Row) (listed alike asked : List (Bor Row)) (level : List (Bor Elem))
    (found : Option (List (Bor Row))) (depth : ℕ) → IsWay from way → level ≡ way.level → map (λ row. row.now) listed ≡ rows → found ≡ Some alike →
    IfSome found (λ some. AreLikes tables (map (λ elem. elem.now) level) (map (λ row. row.now) listed) (map (λ row. row.now) some)) → asked ≡ alike → depth ≡ length way.elems →
    IfOk result (λ it. map (λ row. row.now) it ≡ filter (is_met tables (map (λ row. row.now) asked) depth) rows) →
    IfOk result (λ it. selected tables from (map (λ row. row.now) it) ≡ selected tables from rows)
met_found (Err e) tables from way rows listed alike asked level found depth is_way level_is listed_is some are_likes asked_is depth_is are_found = tt
met_found (Ok it) tables from way rows listed alike asked level found depth is_way level_is listed_is some are_likes asked_is depth_is are_found =
    front_done tables rows (map (λ row. row.now) it) (map (λ row. row.now) asked) from way.end.now (map (λ elem. elem.now) way.elems) (map (λ elem. elem.now) way.level)
    depth is_way.0 is_way.1 (depth_is ∙ sym (length-map way.elems (λ (elem : Bor Elem). elem.now))) asked_likes are_found
  where
    like : AreLikes tables (map (λ elem. elem.now) level) (map (λ row. row.now) listed) (map (λ row. row.now) alike)
    like = subst (λ (one : Option (List (Bor Row))). IfSome one (λ those. AreLikes tables (map (λ elem. elem.now) level) (map (λ row. row.now) listed) (map (λ row. row.now) those))) some are_likes

    leveled : AreLikes tables (map (λ elem. elem.now) way.level) (map (λ row. row.now) listed) (map (λ row. row.now) alike)
    leveled = subst (λ (one : List (Bor Elem)). AreLikes tables (map (λ elem. elem.now) one) (map (λ row. row.now) listed) (map (λ row. row.now) alike)) level_is like

    asked_likes : AreLikes tables (map (λ elem. elem.now) way.level) rows (map (λ row. row.now) asked)
    asked_likes =
        subst (λ (one : List Row). AreLikes tables (map (λ elem. elem.now) way.level) one (map (λ row. row.now) asked)) listed_is
        (subst (λ (one : List (Bor Row)). AreLikes tables (map (λ elem. elem.now) way.level) (map (λ row. row.now) listed) (map (λ row. row.now) one)) (sym asked_is) leveled)

-- a row is met at its steps, or at those to the entry of which it is a key
pub met_is : (tables : Tables) (alike : List Row) (depth : ℕ) (row : Row) (steps first above second : List Step) (a k b : Bool) → steps ≡ row.path.steps → first ≡ take depth steps →
    above ≡ above_last steps → second ≡ take depth above → a ≡ list_any (λ (other : Row). is_at_or_below first other.path) alike → k ≡ is_key_of_entry tables steps →
    b ≡ list_any (λ (other : Row). is_at_or_below second other.path) alike → (a || (k && b)) ≡ is_met tables alike depth row
met_is tables alike depth row steps first above second a k b steps_is first_is above_is second_is a_is k_is b_is =
    (λ i. a_is i || (k_is i && b_is i))
    ∙ (λ i. is_near_at (first_is i) || (is_key_of_entry tables steps && is_near_at (second_is i)))
    ∙ ap (λ (over : List Step). is_near alike depth steps || (is_key_of_entry tables steps && is_near alike depth over)) above_is
    ∙ ap (λ (one : List Step). is_near alike depth one || (is_key_of_entry tables one && is_near alike depth (above_last one))) steps_is
  where
    is_near_at : List Step → Bool
    is_near_at at = list_any (λ (other : Row). is_at_or_below at other.path) alike
