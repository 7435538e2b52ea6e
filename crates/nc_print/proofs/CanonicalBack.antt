-- The canonical text of a value is the canonical text of itself (RFC 7950 9.1).
use Rattle.std.proofs.Common.{◌≡◌, ℕ, zero, suc, List, Some, None, refl, ◌∙◌}
use Rattle.nc_names.specs.declared.name.Bound.{Bound}
use Rattle.nc_schema.specs.Proper.{IsProperSchema}
use Rattle.nc_schema.specs.Tables.{Tables}
use Rattle.nc_schema.specs.Values.{Gives, IsCanonical, canonical, text_within}
use Rattle.nc_protocol.specs.ModuleNames.{value_bounds}
use Rattle.nc_print.proofs.InstancePathsBack.{instances_again, instances_same}
use Rattle.nc_print.proofs.NodePaths.{nodes_again, nodes_same}
use Rattle.nc_print.proofs.ValuesAgain.{KeysAgain, PathsAgain, node_keys, node_printed}

module _ (tables : Tables) (schema : IsProperSchema tables) where
  paths_are : (keys : List Bound → Gives) → KeysAgain tables keys → PathsAgain tables keys
  paths_are keys again = record {
    again = instances_again tables schema keys again;
    same = instances_same tables schema keys again;
    nodes_again = nodes_again tables schema keys again;
    nodes_same = nodes_same tables schema keys again;
  }

  -- with values in keys in values, however deep
  within_again : (depth : ℕ) → KeysAgain tables (text_within tables depth)
  within_again zero = record {
    again = λ number bounds given text e. absurd (let none : None ≡ Some text = e in cc);
    same = λ number bounds text knows. refl;
    fits = λ number bounds given text e. absurd (let none : None ≡ Some text = e in cc);
  }
  within_again (suc depth) = node_keys tables schema (text_within tables depth) (paths_are (text_within tables depth) (within_again depth))

  pub canonical_again : (number : ℕ) (text : List ℕ) → IsCanonical tables number text → canonical tables number text (value_bounds tables number text) ≡ Some text
  unfolding canonical
  canonical_again number text (given, bounds, is) =
      node_printed tables schema (text_within tables 2) (paths_are (text_within tables 2) (within_again 2)) number text
      ∙ (within_again 3).again number bounds given text is
