-- The server's hello (RFC 6241 8.1).
use Rattle.std.specs.Prelude.{ℕ, List, [], ◌∷◌, ◌++◌, map}
use Rattle.std.specs.Fmt.{decimal}
use Rattle.std.specs.List.{flat_map}
use Rattle.nc_names.specs.Mark.{with_mark}
use Rattle.nc_names.specs.declared.name.Module.{Module}
use Rattle.nc_message.specs.declared.tree.Elem.{Elem}
use Rattle.nc_message.specs.declared.tree.Part.{Part}
use Rattle.nc_message.specs.declared.tree.Part.TheVariants.{Child, Chars}
use Rattle.nc_message.specs.declared.tree.Tree.{Tree}
use Rattle.nc_message.specs.Written.{written}
use Rattle.nc_protocol.specs.Content.{base_name, made_element}
use Rattle.nc_protocol.specs.Words.{session_id_word}
use Rattle.nc_session.specs.Words.{hello_word, capabilities_word, capability_word, base_10, base_11, candidate_capability, confirmed_capability, rollback_capability, validate_capability, partial_lock_capability, module_query, revision_query, features_query}

-- an element of the base namespace, without attributes; one round a text, as a part
abbrev pub base_elem : List ℕ → List Part → Elem
base_elem name parts = made_element (base_name name) parts

-- an element of the base namespace with a text
abbrev pub text_elem : List ℕ → List ℕ → Part
text_elem name text = Child (base_elem name (Chars text ∷ []))

-- the capabilities that are built
abbrev pub built : List (List ℕ)
built =
    base_10 ∷ base_11 ∷ candidate_capability ∷ confirmed_capability ∷ rollback_capability ∷ validate_capability
    ∷ partial_lock_capability ∷ []

-- `&revision=..` where the module has a revision
abbrev pub revision_part : List ℕ → List ℕ
revision_part [] = []
revision_part (c ∷ cs) = revision_query ++ c ∷ cs

-- `&features=a,b` where features are on
abbrev pub features_part : List (List ℕ) → List ℕ
features_part [] = []
features_part (f ∷ fs) = features_query ++ f ++ flat_map (λ g. 44 ∷ g) fs

-- the capability that a module is (RFC 6020 5.6.4)
abbrev pub module_capability : Module → List ℕ
module_capability m = m.space ++ module_query ++ m.name ++ revision_part m.revision ++ features_part m.features

-- a capability (RFC 6241 8.1)
abbrev pub capability_part : List ℕ → Part
capability_part text = text_elem capability_word text

-- those that are built, and then one for each module
abbrev pub capability_parts : List Module → List Part
capability_parts modules = map capability_part built ++ map (λ m. capability_part (module_capability m)) modules

-- the capabilities, and the session's number
abbrev pub hello_tree : List Module → ℕ → Tree
hello_tree modules session = record {
  root = base_elem hello_word
      (Child (base_elem capabilities_word (capability_parts modules))
      ∷ text_elem session_id_word (decimal session) ∷ []);
}

-- as it is written, with its mark (RFC 6242 4.1, 4.3)
abbrev pub hello_text : List Module → ℕ → List ℕ
hello_text modules session = with_mark (written (hello_tree modules session))
