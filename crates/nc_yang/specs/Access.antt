-- The module ietf-netconf-acm, which comes before all that are handed in: what it says of a configuration (RFC 8341
-- 3.5.2).
use Rattle.std.specs.Prelude.{◌≡◌, ℕ, suc, List, [], ◌∷◌, ◌++◌, codes}
use Rattle.std.specs.List.{flat_map}
use Rattle.std.specs.Str.{chars}
use Rattle.nc_yang_words.specs.Spelling.{TextSpells}
use Rattle.nc_yang_words.specs.declared.statement.Statement.{Statement}
use Rattle.nc_yang_statements.specs.declared.fault.Fault.{Fault}
use Rattle.nc_yang_scopes.specs.declared.naming.TextFault.{TextFault}
use Rattle.nc_yang.specs.Texts.{AreRead}
use Rattle.nc_yang.specs.declared.text.ModuleText.{ModuleText}

-- its lines. The type of `path` is the module's `node-instance-identifier`, and a pattern that of its
-- `group-name-type`
abbrev pub access_lines : List (List ℕ)
access_lines =
    codes "module ietf-netconf-acm {"
    ∷ codes "  namespace 'urn:ietf:params:xml:ns:yang:ietf-netconf-acm';"
    ∷ codes "  prefix nacm;"
    ∷ codes "  revision 2018-02-14;"
    ∷ codes "  revision 2012-02-22;"
    ∷ codes "  container nacm {"
    ∷ codes "    nacm:default-deny-all;"
    ∷ codes "    leaf enable-nacm { type boolean; default true; }"
    ∷ codes "    leaf read-default { type enumeration { enum permit; enum deny; } default permit; }"
    ∷ codes "    leaf write-default { type enumeration { enum permit; enum deny; } default deny; }"
    ∷ codes "    leaf exec-default { type enumeration { enum permit; enum deny; } default permit; }"
    ∷ codes "    leaf enable-external-groups { type boolean; default true; }"
    ∷ codes "    container groups {"
    ∷ codes "      list group {"
    ∷ codes "        key name;"
    ∷ codes "        leaf name { type string { length '1..max'; pattern '[^*].*'; } }"
    ∷ codes "        leaf-list user-name { type string { length '1..max'; } }"
    ∷ codes "      }"
    ∷ codes "    }"
    ∷ codes "    list rule-list {"
    ∷ codes "      key name;"
    ∷ codes "      ordered-by user;"
    ∷ codes "      leaf name { type string { length '1..max'; } }"
    ∷ codes "      leaf-list group {"
    ∷ codes "        type union {"
    ∷ codes "          type enumeration { enum '*'; }"
    ∷ codes "          type string { length '1..max'; pattern '[^*].*'; }"
    ∷ codes "        }"
    ∷ codes "      }"
    ∷ codes "      list rule {"
    ∷ codes "        key name;"
    ∷ codes "        ordered-by user;"
    ∷ codes "        leaf name { type string { length '1..max'; } }"
    ∷ codes "        leaf module-name { type string; default '*'; }"
    ∷ codes "        choice rule-type {"
    ∷ codes "          case protocol-operation { leaf rpc-name { type string; } }"
    ∷ codes "          case notification { leaf notification-name { type string; } }"
    ∷ codes "          case data-node { leaf path { type instance-identifier; } }"
    ∷ codes "        }"
    ∷ codes "        leaf access-operations {"
    ∷ codes "          type union {"
    ∷ codes "            type enumeration { enum '*'; }"
    ∷ codes "            type bits { bit create; bit read; bit update; bit delete; bit exec; }"
    ∷ codes "          }"
    ∷ codes "          default '*';"
    ∷ codes "        }"
    ∷ codes "        leaf action { type enumeration { enum permit; enum deny; } mandatory true; }"
    ∷ codes "        leaf comment { type string; }"
    ∷ codes "      }"
    ∷ codes "    }"
    ∷ codes "  }"
    ∷ codes "}"
    ∷ []

-- its text, in which each line ends by a line feed
unfoldable pub access_yang : List ℕ
access_yang = flat_map (λ line. line ++ 10 ∷ []) access_lines

-- the statements of its text, and after it those of the modules that are handed in
pub record HaveStatements (modules : List ModuleText) (texts : List Statement) : Type 0 where
  pub access : Statement
  pub spells : TextSpells (chars access_yang) access
  pub roots : List Statement
  pub read : AreRead modules roots
  pub are : texts ≡ access ∷ roots

-- a fault of a file that is handed in, as one of its text
abbrev pub in_file : (file : ℕ) → Fault → TextFault
in_file file fault = record { text = suc file; fault = fault }
