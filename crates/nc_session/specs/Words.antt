-- Fixed texts of hellos (RFC 6241 8.1).
use Rattle.std.specs.Prelude.{ℕ, List, codes}

-- names of elements
unfoldable pub hello_word : List ℕ
hello_word = codes "hello"

-- the list of a hello
unfoldable pub capabilities_word : List ℕ
capabilities_word = codes "capabilities"

-- one of it
unfoldable pub capability_word : List ℕ
capability_word = codes "capability"

-- the versions of the protocol (RFC 6241 8.1)
unfoldable pub base_10 : List ℕ
base_10 = codes "urn:ietf:params:netconf:base:1.0"

-- the one whose messages come in chunks once both sides offer it (RFC 6242 4.1)
unfoldable pub base_11 : List ℕ
base_11 = codes "urn:ietf:params:netconf:base:1.1"

-- the candidate configuration, rollback on error, and validation (RFC 6241 8.3, 8.5, 8.6)
unfoldable pub candidate_capability : List ℕ
candidate_capability = codes "urn:ietf:params:netconf:capability:candidate:1.0"

-- confirmed commit (RFC 6241 8.4)
unfoldable pub confirmed_capability : List ℕ
confirmed_capability = codes "urn:ietf:params:netconf:capability:confirmed-commit:1.1"

-- rollback on error (RFC 6241 8.5)
unfoldable pub rollback_capability : List ℕ
rollback_capability = codes "urn:ietf:params:netconf:capability:rollback-on-error:1.0"

-- validation (RFC 6241 8.6)
unfoldable pub validate_capability : List ℕ
validate_capability = codes "urn:ietf:params:netconf:capability:validate:1.1"

-- partial locks (RFC 5717)
unfoldable pub partial_lock_capability : List ℕ
partial_lock_capability = codes "urn:ietf:params:netconf:capability:partial-lock:1.0"

-- what a module's capability has after its namespace (RFC 6020 5.6.4)
unfoldable pub module_query : List ℕ
module_query = codes "?module="

-- before the revision of the module
unfoldable pub revision_query : List ℕ
revision_query = codes "&revision="

-- before its features that are on
unfoldable pub features_query : List ℕ
features_query = codes "&features="
