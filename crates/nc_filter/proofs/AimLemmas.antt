-- What is found of a filter step by step.
use Rattle.std.proofs.Common.{◌≡◌, ◌<◌, ◌+◌, ◌∙◌, ℕ, Bool, Bor, true, false, List, [], ◌∷◌, ◌++◌, Option, Some, None, suc, length, take, drop, get_or, map, refl, sym, ap, subst, arith}
use Rattle.std.specs.Prelude.{Err, IfOk, IfSome, Ok, Result}
use Rattle.std.specs.Option.{option_map_or}
use Rattle.std.proofs.Math.Seq.{drop-cons, take-suc}
use Rattle.std.proofs.lemmas.List.{map-append}
use Rattle.nc_names.specs.Ends.{trimmed}
use Rattle.nc_names.specs.declared.path.Path.{Path}
use Rattle.nc_names.specs.declared.path.Row.{Row}
use Rattle.nc_names.specs.declared.path.Step.{Step}
use Rattle.nc_message.specs.declared.tree.Elem.{Elem}
use Rattle.nc_schema.specs.Configuration.{IsConfiguration}
use Rattle.nc_schema.specs.Proper.{IsProperSchema}
use Rattle.nc_schema.specs.Tables.{Tables}
use Rattle.nc_schema.specs.declared.node.Node.{Node}
use Rattle.nc_protocol.specs.Elements.{whole_text}
use Rattle.nc_protocol.specs.Filter.{is_containment, is_content_match, level_of}
use Rattle.nc_filter.specs.Within.{KeepsWithin}
use Rattle.nc_filter.specs.declared.entry.Aim.{Aim}
use Rattle.nc_filter.specs.inner.Entries.{AreClear, AskForAll, AsksFor, IsAim, IsClearAt, IsOnlyEntry, IsOrderedList, LeadIn, NamesChild, number_has_entries}
use Rattle.nc_filter.specs.inner.Front.{AreBare, LeadBy}
use Rattle.nc_filter.proofs.EntryLemmas.{keeps_within}
use Rattle.nc_filter.proofs.KeptLemmas.{mapped_item, mapped_within}
use Rattle.nc_filter.proofs.NearLemmas.{way_more}

some_in : {X : Type 0} (o : Option X) (x : X) (P : X → Type 0) → o ≡ Some x → IfSome o P → P x
some_in {X = X} o x P is some = subst (λ (one : Option X). IfSome one P) is some

one_more : (n : ℕ) → suc n ≡ n + 1
one_more n = omega arith

-- one node more to which elements lead
lead_in : (tables : Tables) (at parent : Option ℕ) (elems : List Elem) (steps : List Step) (elem : Elem) (step : Step) → LeadIn tables at elems steps parent → NamesChild tables parent elem step.node →
    number_has_entries tables step.node ≡ false → step.keys ≡ [] → LeadIn tables at (elems ++ elem ∷ []) (steps ++ step ∷ []) (Some step.node)
lead_in tables at parent [] [] elem step leads names none bare = (subst (λ (one : Option ℕ). NamesChild tables one elem step.node) (sym leads) names, none, bare, refl)
lead_in tables at parent [] (over ∷ steps) elem step leads names none bare = absurd leads
lead_in tables at parent (one ∷ elems) [] elem step leads names none bare = absurd leads
lead_in tables at parent (one ∷ elems) (over ∷ steps) elem step (named, no_entries, no_keys, leads) names none bare =
    (named, no_entries, no_keys, lead_in tables (Some over.node) parent elems steps elem step leads names none bare)

lead_in_more : (tables : Tables) (parent : Option ℕ) (elems : List (Bor Elem)) (steps : List Step) (elem : Bor Elem) (step : Step) (number : ℕ) → step ≡ record { node = number; keys = [] } →
    LeadIn tables None (map (λ one. one.now) elems) steps parent → NamesChild tables parent elem.now number → number_has_entries tables number ≡ false →
    LeadIn tables None (map (λ one. one.now) (elems ++ elem ∷ [])) (steps ++ step ∷ []) (Some number)
lead_in_more tables parent elems steps elem step number step_is leads names none =
    subst (λ (one : Step). LeadIn tables None (map (λ one. one.now) (elems ++ elem ∷ [])) (steps ++ one ∷ []) (Some number)) (sym step_is)
    (subst (λ (way : List Elem). LeadIn tables None way (steps ++ record { node = number; keys = [] } ∷ []) (Some number)) (sym (map-append (λ (one : Bor Elem). one.now) elems (elem ∷ [])))
    (lead_in tables None parent (map (λ one. one.now) elems) steps elem.now (record { node = number; keys = [] }) leads names none refl))

-- how far a filter was followed
abbrev IsFollowed : Tables → Elem → List (Bor Elem) → List (Bor Elem) → List Step → Option ℕ → Type 0
IsFollowed tables from elems level above parent =
    (end : Elem) × LeadBy from (map (λ elem. elem.now) elems) end × (map (λ elem. elem.now) level ≡ level_of end) × LeadIn tables None (map (λ elem. elem.now) elems) above parent

module _ (tables : Tables) (from : Elem) (elems level listed : List (Bor Elem)) (above : List Step) (parent : Option ℕ) (elem : Bor Elem) (number : ℕ) (below : List (Bor Elem))
    (so_far : IsFollowed tables from elems level above parent) (listed_is : listed ≡ level) (only : (map (λ elem. elem.now) listed ≡ elem.now ∷ []) × (is_containment elem.now ≡ true))
    (names : NamesChild tables parent elem.now number) (below_is : map (λ elem. elem.now) below ≡ level_of elem.now) where
  lead_further : LeadBy from (map (λ one. one.now) (elems ++ elem ∷ [])) elem.now
  lead_further = way_more from so_far.0 elems elem so_far.1 (sym so_far.2 ∙ ap (map (λ (one : Bor Elem). one.now)) (sym listed_is) ∙ only.0) only.1

  -- a node with entries is aimed at
  pub aim_found : IsAim tables from (record { elems = elems; last = elem; level = below; above = above; list = number })
  aim_found =
      (subst (λ (way : List Elem). LeadBy from way elem.now) (map-append (λ (one : Bor Elem). one.now) elems (elem ∷ [])) lead_further, below_is, parent, so_far.3, names)

  -- and another is gone through
  pub aim_next : number_has_entries tables number ≡ false → (further : List (Bor Elem)) (deeper : List Step) (step : Step) → further ≡ elems ++ elem ∷ [] →
      step ≡ record { node = number; keys = [] } → deeper ≡ above ++ step ∷ [] → IsFollowed tables from further below deeper (Some number)
  aim_next none further deeper step further_is step_is deeper_is = (
    elem.now,
    subst (λ (way : List (Bor Elem)). LeadBy from (map (λ one. one.now) way) elem.now) (sym further_is) lead_further,
    below_is,
    (subst (λ (way : List (Bor Elem)). LeadIn tables None (map (λ one. one.now) way) deeper (Some number)) (sym further_is)
        (subst (λ (steps : List Step). LeadIn tables None (map (λ one. one.now) (elems ++ elem ∷ [])) steps (Some number)) (sym deeper_is)
        (lead_in_more tables parent elems above elem step number step_is so_far.3 names none))),
  )

-- a content match of a level asks for a text
pub asks_found : (tables : Tables) (level : List (Bor Elem)) (list number at : ℕ) (elem : Bor Elem) (text : List ℕ) → at < length level → elem ≡ get_or level at elem →
    (is_content_match elem.now ≡ true) × NamesChild tables (Some list) elem.now number → text ≡ trimmed (whole_text elem.now.parts) → AsksFor tables (map (λ elem. elem.now) level) list number text
asks_found tables level list number at elem text within is asks text_is =
    (elem.now, (at, mapped_within (λ (one : Bor Elem). one.now) level at within, sym (mapped_item (λ (one : Bor Elem). one.now) level at elem within is)), asks.0, asks.1, text_is)

-- one key more whose text is asked for
asked_snoc : (tables : Tables) (level : List Elem) (list : ℕ) (keys : List ℕ) (texts : List (List ℕ)) (key : ℕ) (text : List ℕ) → AskForAll tables level list keys texts →
    AsksFor tables level list key text → AskForAll tables level list (keys ++ key ∷ []) (texts ++ text ∷ [])
asked_snoc tables level list [] [] key text asks ask = (ask, tt)
asked_snoc tables level list [] (one ∷ texts) key text asks ask = absurd asks
asked_snoc tables level list (one ∷ keys) [] key text asks ask = absurd asks
asked_snoc tables level list (one ∷ keys) (other ∷ texts) key text (first, asks) ask = (first, asked_snoc tables level list keys texts key text asks ask)

pub asked_next : (tables : Tables) (level : List Elem) (list : ℕ) (keys : List ℕ) (texts : List (List ℕ)) (at default : ℕ) (found : Option (List ℕ)) (text : List ℕ) (further : List (List ℕ)) →
    at < length keys → AskForAll tables level list (take at keys) texts → found ≡ Some text → IfSome found (AsksFor tables level list (get_or keys at default)) → further ≡ texts ++ text ∷ [] →
    AskForAll tables level list (take (at + 1) keys) further
asked_next tables level list keys texts at default found text further within asks found_is ask further_is =
    subst (λ (n : ℕ). AskForAll tables level list (take n keys) further) (one_more at)
    (subst (AskForAll tables level list (take (suc at) keys)) (sym further_is)
    (subst (λ (front : List ℕ). AskForAll tables level list front (texts ++ text ∷ [])) (sym (take-suc keys at default within))
    (asked_snoc tables level list (take at keys) texts (get_or keys at default) text asks (some_in found text (AsksFor tables level list (get_or keys at default)) found_is ask))))

-- one text more at which nothing stands in the ranges beside it
pub clear_next : (tables : Tables) (rows : List Row) (above : List Step) (list : ℕ) (texts : List (List ℕ)) (at place : ℕ) (text word : List ℕ) (first own : Bool) →
    (at ≡ place) × (AreClear tables rows above list (take place texts) (drop place texts) → AreClear tables rows above list [] texts) → place < length texts → text ≡ get_or texts place text →
    word ≡ text → first ≡ true → (first ≡ true → IsClearAt tables rows above list (take at texts) []) → own ≡ true → (own ≡ true → IsClearAt tables rows above list (take at texts) word) →
    (at + 1 ≡ place + 1) × (AreClear tables rows above list (take (place + 1) texts) (drop (place + 1) texts) → AreClear tables rows above list [] texts)
clear_next tables rows above list texts at place text word first own (at_is, whole) within is word_is is_first first_is is_own own_is =
    (ap (λ n. n + 1) at_is, (λ clear. whole (there (subst (λ (n : ℕ). AreClear tables rows above list (take n texts) (drop n texts)) (sym (one_more place)) clear))))
  where
    here : (words : List ℕ) → IsClearAt tables rows above list (take at texts) words → IsClearAt tables rows above list (take place texts) words
    here words clear = subst (λ (n : ℕ). IsClearAt tables rows above list (take n texts) words) at_is clear

    there : AreClear tables rows above list (take (suc place) texts) (drop (suc place) texts) → AreClear tables rows above list (take place texts) (drop place texts)
    there clear =
        subst (AreClear tables rows above list (take place texts)) (sym (drop-cons texts place text within ∙ ap (λ (one : List ℕ). one ∷ drop (suc place) texts) (sym is))) (
          here [] (first_is is_first),
          here text (subst (IsClearAt tables rows above list (take at texts)) word_is (own_is is_own)),
          subst (λ (front : List (List ℕ)). AreClear tables rows above list front (drop (suc place) texts))
              (take-suc texts place text within ∙ ap (λ (one : List ℕ). take place texts ++ one ∷ []) (sym is)) clear,
        )

-- ---- the whole

module _ (tables : Tables) (proper : IsProperSchema tables) (rows : List Row) (config : IsConfiguration tables rows) (from : Elem) (aim : Aim) (node : Node) (texts : List (List ℕ))
    (is_aim : IsAim tables from aim) (is_list : IsOrderedList tables aim.list node) (asked : AskForAll tables (map (λ elem. elem.now) aim.level) aim.list node.keys texts) where
  only_one : (path : Path) → IsOnlyEntry tables rows aim.above aim.list texts path → KeepsWithin tables from rows path
  only_one path (clear, path_is, bare) =
      subst (KeepsWithin tables from rows) (sym path_is)
      (keeps_within tables proper rows config from aim.last.now (map (λ elem. elem.now) aim.elems) aim.above is_aim.2 aim.list node texts is_aim.0 is_aim.3 is_aim.4 is_list.0 is_list.1
      (ap (λ (one : Option Node). option_map_or (λ (node : Node). node.by_user) one false) is_list.0 ∙ is_list.2)
      (subst (λ (level : List Elem). AskForAll tables level aim.list node.keys texts) is_aim.1 asked) clear
      (subst (λ (one : Path). AreBare tables rows one.steps) path_is bare))

-- what was found of a filter says where it keeps something
pub only_keeps : {E : Type 0} (result : Result (Option Path) E) (tables : Tables) → IsProperSchema tables → (rows : List Row) → IsConfiguration tables rows → (from : Elem) (aimed : Option Aim) (aim : Aim)
    (node : Node) (listed : List (Bor Elem)) (keys : List ℕ) (found : Option (List (List ℕ))) (texts : List (List ℕ)) (above : List Step) → aimed ≡ Some aim → IfSome aimed (IsAim tables from) →
    IsOrderedList tables aim.list node → listed ≡ aim.level → keys ≡ node.keys → found ≡ Some texts → IfSome found (AskForAll tables (map (λ elem. elem.now) listed) aim.list keys) →
    above ≡ aim.above → IfOk result (λ it. IfSome it (IsOnlyEntry tables rows above aim.list texts)) → IfOk result (λ it. IfSome it (KeepsWithin tables from rows))
only_keeps (Err e) tables proper rows config from aimed aim node listed keys found texts above aim_is is_aim is_list listed_is keys_is texts_is asked above_is only = tt
only_keeps (Ok None) tables proper rows config from aimed aim node listed keys found texts above aim_is is_aim is_list listed_is keys_is texts_is asked above_is only = tt
only_keeps (Ok (Some path)) tables proper rows config from aimed aim node listed keys found texts above aim_is is_aim is_list listed_is keys_is texts_is asked above_is only =
    only_one tables proper rows config from aim node texts (some_in aimed aim (IsAim tables from) aim_is is_aim) is_list
    (subst (λ (level : List (Bor Elem)). AskForAll tables (map (λ elem. elem.now) level) aim.list node.keys texts) listed_is
    (subst (λ (numbers : List ℕ). AskForAll tables (map (λ elem. elem.now) listed) aim.list numbers texts) keys_is
    (some_in found texts (AskForAll tables (map (λ elem. elem.now) listed) aim.list keys) texts_is asked)))
    path (subst (λ (steps : List Step). IsOnlyEntry tables rows steps aim.list texts path) above_is only)
