-- The reply to a request (RFC 6241 4.2 to 4.4; RFC 5717 2.4.1; RFC 8341 3.2.5 and 3.4.3).
use Rattle.std.specs.Prelude.{◌||◌, ℕ, Bool, false, if◌then◌else◌, List, [], ◌∷◌, ◌++◌, map, Option, Some, None, Result, Ok, Err}
use Rattle.std.specs.Fmt.{decimal}
use Rattle.std.specs.Option.{option_map_or}
use Rattle.nc_names.specs.declared.cause.CauseKind.{CauseKind}
use Rattle.nc_names.specs.declared.cause.CauseKind.TheVariants.{ExecDenied, DataDenied}
use Rattle.nc_names.specs.declared.name.QName.{QName}
use Rattle.nc_names.specs.declared.path.Path.{Path}
use Rattle.nc_message.specs.declared.tree.Part.{Part}
use Rattle.nc_message.specs.declared.tree.Part.TheVariants.{Child}
use Rattle.nc_message.specs.declared.tree.Tree.{Tree}
use Rattle.nc_schema.specs.PathTexts.{path_text_of}
use Rattle.nc_schema.specs.Tables.{Tables}
use Rattle.nc_protocol.specs.declared.asked.Asked.{Asked}
use Rattle.nc_protocol.specs.declared.asked.Operation.{Operation}
use Rattle.nc_protocol.specs.declared.request.Cause.{Cause}
use Rattle.nc_protocol.specs.declared.reply.Shown.{Shown}
use Rattle.nc_protocol.specs.declared.request.Request.{Request}
use Rattle.nc_protocol.specs.declared.verdict.Verdict.{Verdict}
use Rattle.nc_protocol.specs.declared.verdict.Verdict.TheVariants.{Done, Selected, Locked, Refused}
use Rattle.nc_protocol.specs.Content.{base_name, made_element, partial_lock_name, text_part, text_parts}
use Rattle.nc_protocol.specs.ErrorRows.{ErrorRow, Info, error_of, own_info, standard_info}
use Rattle.nc_protocol.specs.ModuleNames.{path_bounds}
use Rattle.nc_protocol.specs.Payload.{names_path}
use Rattle.nc_protocol.specs.Printed.{printed}
use Rattle.nc_protocol.specs.Words as w

-- an element of the base namespace, as a part
abbrev pub base_part : List ℕ → List Part → Part
base_part name parts = Child (made_element (base_name name) parts)

-- an element round a path text, with the module names that are prefixes in it bound to their namespaces
abbrev pub path_part : Tables → QName → Path → Part
path_part tables name path =
    let text = path_text_of tables path in
    Child (record { name = name; bounds = path_bounds tables path; attrs = []; parts = text_parts text })

-- ---- errors

-- the container `nacm` (RFC 8341 3.5.2), a data node of the built-in access control module, by its number
abbrev pub nacm_node : ℕ
nacm_node = 0

-- the list `rule-list` in it
abbrev pub rule_list_node : ℕ
rule_list_node = 10

-- the list `rule` in each rule-list
abbrev pub rule_node : ℕ
rule_node = 13

-- the path of a rule
abbrev pub rule_path : List ℕ → List ℕ → Path
rule_path list rule =
    record {
      steps = record { node = nacm_node; keys = [] } ∷ record { node = rule_list_node; keys = list ∷ [] }
          ∷ record { node = rule_node; keys = rule ∷ [] } ∷ [];
    }

-- what denied an access, without the names of a rule that the session does not see
abbrev pub seen_names : (Path → Bool) → List (List ℕ) → List (List ℕ)
seen_names sees (word ∷ list ∷ rule ∷ []) = if sees (rule_path list rule) then word ∷ list ∷ rule ∷ [] else word ∷ []
seen_names sees names = names

-- the names of a cause, without those of a rule that the session does not see (RFC 8341 3.4.3)
abbrev pub names_shown : (Path → Bool) → Cause → List (List ℕ)
names_shown sees cause =
    elim cause.kind as (λ kind. List (List ℕ)) [
      | ExecDenied ↦ seen_names sees cause.names
      | DataDenied ↦ seen_names sees cause.names
      | _ ↦ cause.names
    ]

-- an element of error-info (RFC 6241 4.3)
abbrev pub info_part : Info → Part
info_part info = text_part (base_name info.0) info.1

-- a name of this server's own namespace
abbrev pub cause_name : List ℕ → QName
cause_name name = record { space = w.cause_namespace; name = name }

-- the `cause` of this server: a kind and names
abbrev pub cause_parts : List (List ℕ) → List Part
cause_parts [] = []
cause_parts (kind ∷ names) =
    Child (made_element (cause_name w.cause_word)
    (text_part (cause_name w.kind_word) kind ∷ map (text_part (cause_name w.name_word)) names)) ∷ []

-- an element round parts, if there are any
abbrev pub unless_empty : List ℕ → List Part → List Part
unless_empty name [] = []
unless_empty name (part ∷ parts) = base_part name (part ∷ parts) ∷ []

-- error-info (RFC 6241 4.3)
abbrev pub info_parts : CauseKind → List (List ℕ) → List Part
info_parts kind names =
    unless_empty w.error_info_word (map info_part (standard_info kind names) ++ cause_parts (own_info kind names))

-- error-path, where the path is shown
abbrev pub error_path : Tables → (shown : Path → Bool) → Option Path → List Part
error_path tables shown None = []
error_path tables shown (Some path) =
    if shown path then path_part tables (base_name w.error_path_word) path ∷ [] else []

-- error-app-tag, if the error has one (RFC 6241 4.3)
abbrev pub app_tag_parts : Option (List ℕ) → List Part
app_tag_parts app_tag = option_map_or (λ text. text_part (base_name w.error_app_tag_word) text ∷ []) app_tag []

-- an rpc-error (RFC 6241 4.3), with what is behind its tag
abbrev pub error_part : ErrorRow → List Part → Part
error_part row rest = base_part w.rpc_error_word (
    text_part (base_name w.error_type_word) row.layer ∷ text_part (base_name w.error_tag_word) row.tag
    ∷ text_part (base_name w.error_severity_word) w.error_word ∷ app_tag_parts row.app_tag ++ rest)

-- the error of a cause. `sees` is what the session may see; `named` says which paths its request names itself
abbrev pub cause_part : Tables → (sees named : Path → Bool) → Option Operation → Cause → Part
cause_part tables sees named operation cause =
    error_part (error_of operation cause.kind) (
    error_path tables (λ path. sees path || named path) cause.path ++ info_parts cause.kind (names_shown sees cause))

-- ---- replies

-- what a reply says (RFC 6241 4.3, 4.4, 7.1; RFC 5717 2.4.1)
abbrev pub answer_parts : Tables → (sees named : Path → Bool) → Option Operation → Verdict → List Part
answer_parts tables sees named operation Done = base_part w.ok_word [] ∷ []
answer_parts tables sees named operation (Selected rows) = base_part w.data_word (printed tables rows) ∷ []
answer_parts tables sees named operation (Locked lock nodes) =
    text_part (partial_lock_name w.lock_id_word) (decimal lock)
    ∷ map (path_part tables (partial_lock_name w.locked_node_word)) nodes
answer_parts tables sees named operation (Refused causes) = map (cause_part tables sees named operation) causes

-- the reply with the attributes of the `rpc`, as they are written there (RFC 6241 4.2)
abbrev pub reply_tree : List Part → Request → Tree
reply_tree parts request =
    record { root = record (made_element (base_name w.rpc_reply_word) parts) { attrs = request.attributes } }

-- a tree with `data` in it, and nothing else (RFC 6241 7.1, 7.7)
abbrev pub with_data : Tree → List Part → Tree
with_data tree parts = record { root = record tree.root { parts = base_part w.data_word parts ∷ [] } }

-- a tree in which rows are shown, if there are any to be shown
abbrev pub shown_in : Tree → Option Shown → Tree
shown_in tree None = tree
shown_in tree (Some shown) = with_data tree (printed shown.schema.value shown.rows)

-- the paths that the payload of what is asked for names
abbrev pub named_by : Tables → Result Asked Cause → Path → Bool
named_by tables (Ok asked) path = names_path tables asked path
named_by tables (Err cause) path = false

-- the reply to a request with its verdict, for a session that sees these paths, where its payload names those
abbrev pub reply_naming : Tables → (sees named : Path → Bool) → Request → Verdict → Tree
reply_naming tables sees named request verdict =
    reply_tree (answer_parts tables sees named request.operation verdict) request

-- the reply to a request with its verdict, for a session that sees these paths
abbrev pub reply_of : Tables → (sees : Path → Bool) → Request → Verdict → Tree
reply_of tables sees request verdict = reply_naming tables sees (named_by tables request.asked) request verdict
