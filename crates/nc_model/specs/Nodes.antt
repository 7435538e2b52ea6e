-- The data nodes of the module ietf-netconf-acm by their numbers: it is the first of every schema (RFC 8341 3.5.2).
use Rattle.std.specs.Prelude.{ℕ}

-- the container `nacm`
abbrev pub nacm : ℕ
nacm = 0

-- `enable-nacm`
abbrev pub enable_nacm : ℕ
enable_nacm = 1

-- `read-default`
abbrev pub read_default : ℕ
read_default = 2

-- `write-default`
abbrev pub write_default : ℕ
write_default = 3

-- `exec-default`
abbrev pub exec_default : ℕ
exec_default = 4

-- `enable-external-groups`
abbrev pub enable_external_groups : ℕ
enable_external_groups = 5

-- the container `groups`
abbrev pub groups : ℕ
groups = 6

-- the list `group` in it
abbrev pub group : ℕ
group = 7

-- the leaf-list `user-name` of a group
abbrev pub user_name : ℕ
user_name = 9

-- the list `rule-list`
abbrev pub rule_list : ℕ
rule_list = 10

-- the leaf-list `group` of a rule-list
abbrev pub list_group : ℕ
list_group = 12

-- the list `rule` of a rule-list
abbrev pub rule : ℕ
rule = 13

-- `module-name` of a rule
abbrev pub module_name : ℕ
module_name = 15

-- `rpc-name` of a rule
abbrev pub rpc_name : ℕ
rpc_name = 16

-- `notification-name` of a rule
abbrev pub notification_name : ℕ
notification_name = 17

-- `path` of a rule
abbrev pub path : ℕ
path = 18

-- `access-operations` of a rule
abbrev pub access_operations : ℕ
access_operations = 19

-- `action` of a rule
abbrev pub action : ℕ
action = 20
