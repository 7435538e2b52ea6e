-- The element of a node as it is read: its edits, and its step.
use Rattle.std.proofs.Common.{◌≡◌, ◌++◌, ◌∙◌, ℕ, Bool, false, List, [], ◌∷◌, Option, Some, None, refl, ap}
use Rattle.std.specs.Prelude.{Ok, option_map, option_to_list, slice_get}
use Rattle.std.specs.Option.{option_map_or}
use Rattle.nc_names.specs.declared.path.Step.{Step}
use Rattle.nc_message.specs.declared.tree.Part.{Part}
use Rattle.nc_schema.specs.Proper.{IsProperSchema}
use Rattle.nc_schema.specs.declared.node.Kind.{Kind}
use Rattle.nc_schema.specs.declared.node.Kind.TheVariants.{Container, Leaf, LeafList, List as ListKind}
use Rattle.nc_schema.specs.declared.node.Node.{Node}
use Rattle.nc_protocol.specs.declared.edit.Edit.{Edit}
use Rattle.nc_protocol.specs.declared.position.Under.TheVariants.{Inline}
use Rattle.nc_protocol.specs.Elements.{Reading, Named, has_text, key_values, keys_read, step_of, with_step}
use Rattle.nc_protocol.specs.Payload.{if_read, list_edits, part_edits}
use Rattle.nc_protocol.specs.Printed.{node_part}
use Rattle.nc_print.proofs.EntryBack.{list_entry_is_read_back}
use Rattle.nc_print.proofs.ReadBack.{container_is_read_back, leaf_is_read_back, leaf_list_is_read_back, printed_is_named, printed_value_is_read}
use Rattle.nc_print.specs.Laws.{StandsFree, inline_at, merge_at, printed_elem}
use Rattle.nc_print.specs.Laws.{IsReadAsItself}

abbrev pub it_is : Reading → ℕ → Node → Option (List ℕ) → List Part → Named
it_is reading number node value below = record { number = number; node = node; elem = printed_elem reading.tables number value below node }

pub record IsElement (reading : Reading) (above earlier : List Step) (step : Step) (node : Node) (value : Option (List ℕ)) (below : List Part) (inner : List Edit) : Type 0 where
  pub edits : part_edits reading (inline_at above node.parent) earlier (node_part reading.tables step.node value below node) ≡ Ok (merge_at above step value ∷ inner)
  pub steps : with_step reading (inline_at above node.parent) earlier (node_part reading.tables step.node value below node) ≡ earlier ++ step ∷ []

module _ (reading : Reading) (proper : IsProperSchema reading.tables) (above earlier : List Step) (number : ℕ) (node : Node) (node_is : slice_get reading.tables.nodes number ≡ Some node) where
  with_it : (value : Option (List ℕ)) (below : List Part) (step : Step) → step_of reading Inline (it_is reading number node value below) ≡ step →
      with_step reading (inline_at above node.parent) earlier (node_part reading.tables number value below node) ≡ earlier ++ step ∷ []
  with_it value below step is =
      ap (λ found. earlier ++ option_to_list (option_map (step_of reading Inline) found)) (printed_is_named reading number node value below proper node_is)
      ∙ ap (λ s. earlier ++ s ∷ []) is

  by_kind : (it : Named) (kind : Kind) (keys : List (List ℕ)) → it.node.kind ≡ kind → keys_read reading kind it ≡ Some keys → step_of reading Inline it ≡ record { node = it.number; keys = keys }
  by_kind it kind keys kind_is is = λ i. record { node = it.number; keys = (ap (λ k. option_map_or (λ keys. keys) (keys_read reading k it) []) kind_is ∙ ap (λ o. option_map_or (λ keys. keys) o []) is) i }

  pub leaf_here : (text : List ℕ) → node.kind ≡ Leaf → IsReadAsItself reading number text → StandsFree reading.tables earlier node (record { node = number; keys = [] }) →
      IsElement reading above earlier (record { node = number; keys = [] }) node (Some text) [] []
  leaf_here text kind read free = record {
    edits = leaf_is_read_back reading above earlier number node text proper node_is kind read free;
    steps = with_it (Some text) [] (record { node = number; keys = [] }) (by_kind (it_is reading number node (Some text) []) Leaf [] kind refl);
  }

  pub entry_here : (text : List ℕ) → node.kind ≡ LeafList → IsReadAsItself reading number text → StandsFree reading.tables earlier node (record { node = number; keys = text ∷ [] }) →
      IsElement reading above earlier (record { node = number; keys = text ∷ [] }) node (Some text) [] []
  entry_here text kind read free = record {
    edits = leaf_list_is_read_back reading above earlier number node text proper node_is kind read free;
    steps = with_it (Some text) [] (record { node = number; keys = text ∷ [] })
        (by_kind (it_is reading number node (Some text) []) LeafList (text ∷ []) kind
        (ap (option_map (λ value. value ∷ [])) (printed_value_is_read reading number node text ∙ read)));
  }

  pub container_here : (presence : Bool) (below : List Part) (inner : List Edit) → node.kind ≡ Container presence → has_text below ≡ false →
      list_edits reading (inline_at (above ++ record { node = number; keys = [] } ∷ []) (Some number)) [] below ≡ Ok inner →
      StandsFree reading.tables earlier node (record { node = number; keys = [] }) →
      IsElement reading above earlier (record { node = number; keys = [] }) node None below inner
  container_here presence below inner kind textless is free = record {
    edits = container_is_read_back reading above earlier number node presence below proper node_is kind textless free
        ∙ ap (if_read (λ edits. merge_at above (record { node = number; keys = [] }) None ∷ edits)) is;
    steps = with_it None below (record { node = number; keys = [] }) (by_kind (it_is reading number node None below) (Container presence) [] kind refl);
  }

  pub list_here : (values : List (List ℕ)) (below : List Part) (inner : List Edit) → node.kind ≡ ListKind → has_text below ≡ false →
      key_values reading (it_is reading number node None below) node.keys ≡ Some values →
      list_edits reading (inline_at (above ++ record { node = number; keys = values } ∷ []) (Some number)) [] below ≡ Ok inner →
      StandsFree reading.tables earlier node (record { node = number; keys = values }) →
      IsElement reading above earlier (record { node = number; keys = values }) node None below inner
  list_here values below inner kind textless keyed is free = record {
    edits = list_entry_is_read_back reading above earlier number node values below inner proper node_is kind textless keyed is free;
    steps = with_it None below (record { node = number; keys = values }) (by_kind (it_is reading number node None below) ListKind values kind keyed);
  }
