-- The rules that a statement keeps or breaks with those that stand directly in it: of each the list of its faults
-- (RFC 7950 7, 14).
use Rattle.std.specs.Prelude.{ℕ, Bool, true, false, ◌&&◌, ◌||◌, not, if◌then◌else◌, List, [], ◌∷◌, ◌++◌, Option, Some, None, Contains, ◌⊎◌, ℤ, pos, int_le}
use Rattle.std.specs.List.{list_any, flat_map}
use Rattle.nc_names.specs.Same.{is_same_text}
use Rattle.nc_schema.specs.NumberTexts.{number_of}
use Rattle.nc_yang_words.specs.declared.statement.Statement.{Statement}
use Rattle.nc_yang_statements.specs.declared.fault.Fault.{Fault}
use Rattle.nc_yang_statements.specs.declared.fault.ModuleWhy.{ModuleWhy}
use Rattle.nc_yang_statements.specs.declared.fault.ModuleWhy.TheVariants.{UnknownStatement, Unsupported, Missing, Twice, UnknownName, BadArgument}
use Rattle.nc_yang_statements.specs.declared.keyword.Keyword.{Keyword}
use Rattle.nc_yang_statements.specs.declared.keyword.Keyword.TheVariants.{Module, Container, Leaf, LeafList, List as ListWord, Choice, Case, Mandatory, Default, MinElements, MaxElements, Prefixed}
use Rattle.nc_yang_statements.specs.Arguments.{is_true_text, why_misfit}
use Rattle.nc_yang_statements.specs.Keywords.{keywords, is_refused, is_closed}
use Rattle.nc_yang_statements.specs.Places.{count_of, is_single, is_never, is_once}
use Rattle.nc_yang_statements.specs.Statements.{line, below, argument, kind, name, has, part, Stands}

-- a fault of the statement, for this reason if there is one
abbrev pub at : Option ModuleWhy → Statement → List Fault
at None s = []
at (Some why) s = record { line = line s; why = why } ∷ []

-- a fault at a statement, where it is one
abbrev pub at_if : Bool → Statement → ModuleWhy → List Fault
at_if test s why = if test then record { line = line s; why = why } ∷ [] else []

-- a statement with a prefix
abbrev pub is_prefixed : Keyword → Bool
is_prefixed Prefixed = true
is_prefixed keyword = false

-- a statement of an extension may stand anywhere (RFC 7950 7.19)
abbrev pub is_misplaced : Keyword → Keyword → Bool
is_misplaced above keyword = not (is_prefixed keyword) && is_never (count_of above keyword)

-- why a statement may not stand directly below another
abbrev pub why_misplaced : Keyword → Keyword → Option ModuleWhy
why_misplaced above keyword =
    if is_refused keyword then Some Unsupported
    else (if is_misplaced above keyword then Some UnknownStatement else None)

-- statements that may not stand below it
abbrev pub misplaced : Statement → List Fault
misplaced s = flat_map (λ t. at (why_misplaced (kind s) (kind t)) t) (below s)

-- statements that have to stand below it and do not
abbrev pub missing : Statement → List Fault
missing s = flat_map (λ k. at_if (is_once (count_of (kind s) k) && not (has k (below s))) s Missing) keywords

-- of two statements of which one may stand below it, the later
abbrev pub repeated : Keyword → List Statement → List Statement → List Fault
repeated above before [] = []
repeated above before (t ∷ ts) =
    at_if (is_single (count_of above (kind t)) && has (kind t) before) t Twice ++ repeated above (before ++ t ∷ []) ts

-- the faults of what stands twice below a statement
abbrev pub twice : Statement → List Fault
twice s = repeated (kind s) [] (below s)

-- an argument that it may not have, or the want of one
abbrev pub misfit : Statement → List Fault
misfit s = at (why_misfit (kind s) (argument s)) s

-- a statement that says `true`
abbrev pub says_true : Option Statement → Bool
says_true None = false
says_true (Some t) = is_true_text (name t)

-- it has to be there, or an entry of it
abbrev pub is_above_zero : Option ℤ → Bool
is_above_zero None = false
is_above_zero (Some n) = not (int_le n (pos 0))

-- a `min-elements` above 0
abbrev pub asks_entries : Option Statement → Bool
asks_entries None = false
asks_entries (Some t) = is_above_zero (number_of (name t))

-- statements that say that a node has to be there
abbrev pub is_required : List Statement → Bool
is_required ss = says_true (part Mandatory ss) || asks_entries (part MinElements ss)

-- what has to be there has no default (RFC 7950 7.6.4, 7.7.4, 7.9.3)
abbrev pub defaulted_at : Bool → Option Statement → List Fault
defaulted_at required None = []
defaulted_at required (Some d) = at_if required d BadArgument

-- a default where the node has to be there (RFC 7950 7.6.4)
abbrev pub defaulted : Statement → List Fault
defaulted s = defaulted_at (is_required (below s)) (part Default (below s))

-- of two numbers the first is greater
abbrev pub is_above : Option ℤ → Option ℤ → Bool
is_above (Some a) (Some b) = not (int_le a b)
is_above a b = false

-- the same, of the numbers that two statements have
abbrev pub is_above_in : Statement → Statement → Bool
is_above_in least most = is_above (number_of (name least)) (number_of (name most))

-- no more entries have to be there than may be (RFC 7950 7.7.5, 7.7.6)
abbrev pub crossed_at : Option Statement → Option Statement → List Fault
crossed_at (Some least) (Some most) = at_if (is_above_in least most) least BadArgument
crossed_at least most = []

-- `min-elements` above `max-elements`
abbrev pub crossed : Statement → List Fault
crossed s = crossed_at (part MinElements (below s)) (part MaxElements (below s))

-- the keyword `choice`
abbrev pub is_choice : Keyword → Bool
is_choice Choice = true
is_choice keyword = false

-- a case, or a node that is a case by itself (RFC 7950 7.9.2)
abbrev pub is_case : Keyword → Bool
is_case Case = true
is_case Choice = true
is_case Container = true
is_case Leaf = true
is_case LeafList = true
is_case ListWord = true
is_case keyword = false

-- the `case` of that name
abbrev pub is_case_of : List ℕ → Statement → Bool
is_case_of wanted t = is_case (kind t) && is_same_text (name t) wanted

-- the default of a choice names one of its cases (RFC 7950 7.9.3)
abbrev pub caseless_at : List Statement → Option Statement → List Fault
caseless_at ss None = []
caseless_at ss (Some d) = at_if (not (list_any (is_case_of (name d)) ss)) d UnknownName

-- a default of a choice that is none of its cases (RFC 7950 7.9.3)
abbrev pub caseless : Statement → List Fault
caseless s = if is_choice (kind s) then caseless_at (below s) (part Default (below s)) else []

-- what may stand below it
abbrev pub ill_formed : Statement → List Fault
ill_formed s = misplaced s ++ (missing s ++ twice s)

-- what those below say together
abbrev pub contrary : Statement → List Fault
contrary s = defaulted s ++ (crossed s ++ caseless s)

-- the rules with those below, which are not asked of a statement that is passed over
abbrev pub faulty_below : Statement → List Fault
faulty_below s = if is_closed (kind s) then [] else (ill_formed s ++ contrary s)

-- all rules that a statement breaks by itself
abbrev pub broken : Statement → List Fault
broken s = misfit s ++ faulty_below s

-- one of the statements, or one below them, breaks a rule
pub record Faulty (ss : List Statement) (fault : Fault) : Type 0 where
  pub statement : Statement
  pub stands : Stands ss statement
  pub breaks : Contains (broken statement) fault

-- a text is of a module (RFC 7950 7.1)
abbrev pub why_root : Keyword → Option ModuleWhy
why_root Module = None
why_root keyword = if is_refused keyword then Some Unsupported else Some UnknownStatement

-- a statement of a text breaks a rule by itself
abbrev pub BreaksRule : Statement → Fault → Type 0
BreaksRule root fault = Contains (at (why_root (kind root)) root) fault ⊎ Faulty (root ∷ []) fault

-- no rule on single statements is broken
abbrev pub KeepsRules : Statement → Type 0
KeepsRules root = (fault : Fault) → BreaksRule root fault → ⊥

-- the first of a list
abbrev pub first : {A : Type 0} → List A → Option A
first [] = None
first (x ∷ xs) = Some x
