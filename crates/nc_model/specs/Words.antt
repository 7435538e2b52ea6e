-- The fixed texts of access control and of limits (RFC 8341 3.5.2, RFC 6241 appendix C, RFC 5717 appendix B). Those
-- that requests and replies have too stand in nc_protocol.
use Rattle.std.specs.Prelude.{ℕ, List, codes}

-- ---- access control

-- all groups, modules, operations, notifications or access operations (`matchall-string-type`, RFC 8341 3.5.2)
unfoldable pub star : List ℕ
star = codes "*"

-- a leaf of type `boolean` that is on (RFC 7950 9.5.1)
unfoldable pub true_word : List ℕ
true_word = codes "true"

-- one that is off
unfoldable pub false_word : List ℕ
false_word = codes "false"

-- access is permitted (`action-type`, RFC 8341 3.5.2)
unfoldable pub permit_word : List ℕ
permit_word = codes "permit"

-- the access operation `update` (`access-operations-type`, RFC 8341 3.5.2)
unfoldable pub update_word : List ℕ
update_word = codes "update"

-- ---- the modules of operations

-- the module of the protocol operations (RFC 6241 appendix C)
unfoldable pub netconf_module : List ℕ
netconf_module = codes "ietf-netconf"

-- the module of the partial locks (RFC 5717 appendix B)
unfoldable pub partial_lock_module : List ℕ
partial_lock_module = codes "ietf-netconf-partial-lock"

-- ---- limits that a cause names

-- as many partial locks as a session may have
unfoldable pub partial_locks_word : List ℕ
partial_locks_word = codes "partial-locks"

-- the last lock-id
unfoldable pub lock_ids_word : List ℕ
lock_ids_word = codes "lock-ids"

-- the size of the record of a configuration
unfoldable pub record_word : List ℕ
record_word = codes "record"
