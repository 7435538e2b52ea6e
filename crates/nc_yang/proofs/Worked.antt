-- One module worked by hand for each reason for which modules break a rule: its text, and the fault at its line; and one
-- with a pattern that a maker refused.
use Rattle.std.proofs.Common.{inr, ◌≡◌, ℕ, true, false, List, [], ◌∷◌, ◌++◌, Bool, Result, Ok, Err, Some, None, ◌+◌, length, refl, sym, ap, subst, zero, suc, lit<, lit≤}
use Rattle.std.specs.Prelude.{codes, slice_get, option_map, unwrap_or, replicate}
use Rattle.std.specs.List.{flat_map, position}
use Rattle.std.specs.Str.{chars, is_utf8}
use Rattle.std.proofs.Math.Utf8.{encode}
use denote.Hole.Carrier.{hidden, out, roll, shown}
use Rattle.nc_patterns.specs.Reading.{allowed, front_at, may_end, next, reading as pattern_reading}
use Rattle.nc_patterns.specs.Tokens.{inside as inside_class, member as class_member, one_character, outside, range_from, with_range}
use Rattle.nc_patterns.specs.Translation.{anchored}
use Rattle.nc_schema.specs.declared.node.Deny.TheVariants.{Nothing}
use Rattle.nc_schema.specs.declared.node.Kind.TheVariants.{Leaf}
use Rattle.nc_schema.specs.declared.node.Node.{Node}
use Rattle.nc_schema.specs.declared.value_type.ValueType.TheVariants.{Chars as String}
use Rattle.nc_yang_order.proofs.Lists.{contains_at}
use Rattle.nc_yang_words.specs.Spelling.{TextSpells, statement}
use Rattle.nc_yang_words.specs.Tokens.{tokens_of}
use Rattle.nc_yang_words.specs.inner.Grammar.{reading}
use Rattle.nc_yang_words.specs.declared.fault.WordFault.TheVariants.{Bad}
use Rattle.nc_yang_words.specs.declared.statement.Statement.{Statement}
use Rattle.nc_yang_words.specs.declared.statement.Statement.TheBlock.{shown-the_row-Statement-0}
use Rattle.nc_yang_words.specs.declared.statement.Statement.TheViews.{out-Statement, roll-Statement}
use Rattle.nc_yang_words.proofs.Exact.{fault_of}
use Rattle.nc_yang_words.proofs.Read.{the_read_is_spelled}
use Rattle.nc_yang_statements.specs.Arguments.{is_true_text}
use Rattle.nc_yang_statements.specs.Keywords.{is_closed, keyword_of, keywords, word_of}
use Rattle.nc_yang_statements.specs.Rules.{broken}
use Rattle.nc_yang_statements.specs.Statements.{Stands, below, inside as within, itself as stands_itself, kind, later, line}
use Rattle.nc_yang_statements.specs.declared.fault.Fault.{Fault}
use Rattle.nc_yang_statements.specs.BuiltIns.{built_in_of, built_in_word, built_ins}
use Rattle.nc_yang_statements.specs.declared.built_in.BuiltIn.TheVariants.{Chars}
use Rattle.nc_yang_statements.specs.declared.fault.ModuleWhy.TheVariants.{BadArgument, BadWords, Loop, Missing, NotText, PatternRefused, TooMany, Twice, UnknownName, UnknownStatement, Unsupported}
use Rattle.nc_yang_scopes.specs.Names.{StandsIn, inside, itself, misnamed}
use Rattle.nc_yang_scopes.specs.Numbers.{Entry as Numbered, located as located_in, opened, roots}
use Rattle.nc_yang_scopes.specs.Scopes.{Located, Scoping, child, inside as place_inside}
use Rattle.nc_yang_scopes.specs.Loops.{IsDefinition, Names, itself as leads_itself}
use Rattle.nc_yang_scopes.specs.declared.kinds.Defined.TheVariants.{Groupings}
use Rattle.nc_yang_nodes.specs.Roles.{FeatureTest}
use Rattle.nc_yang_nodes.specs.declared.planned.Plan.{Plan}
use Rattle.nc_yang_data.specs.Drafts.{is_user_text}
use Rattle.nc_yang_types.specs.Entries.{lengths}
use Rattle.nc_yang_types.specs.Meanings.{Entry, Means, by_itself}
use Rattle.nc_yang_leafs.specs.Conditions.{holds}
use Rattle.nc_yang_leafs.specs.Patterns.{IsPatternInUse, IsRefused, refusing}
use Rattle.nc_yang_leafs.specs.Typings.{itself as its_own}
use Rattle.nc_yang.specs.Rules.{alone, looping, misnamed as misnames}
use Rattle.nc_yang.specs.Texts.{bad_words, empty, is_long, many, not_utf8}
use Rattle.nc_yang.specs.declared.text.ModuleText.{ModuleText}
use Rattle.nc_yang.specs.Access.{HaveStatements, access_yang}
use Rattle.nc_yang.specs.Schemas.{Breaks, basis, text as of_text, unread}

-- ---- texts
-- lines, each of which ends by a line feed
abbrev pub lines_of : List (List ℕ) → List ℕ
lines_of lines = flat_map (λ one. one ++ 10 ∷ []) lines

-- a module of these, with its namespace on the second line and its prefix on the third
abbrev pub module_of : List (List ℕ) → List ℕ
module_of lines = lines_of (codes "module m {" ∷ codes "  namespace 'urn:m';" ∷ codes "  prefix m;" ∷ lines ++ codes "}" ∷ [])

abbrev pub file : List ℕ → ModuleText
file bytes = record { file = codes "m.yang"; bytes = bytes }

abbrev pub has_statements : Result Statement ℕ → Bool
has_statements (Ok tree) = true
has_statements (Err at) = false

abbrev pub statements_in : Result Statement ℕ → Statement
statements_in (Ok tree) = tree
statements_in (Err at) = statement [] None 0 []

spells : (cs : List ℕ) → has_statements (reading cs) ≡ true → TextSpells cs (statements_in (reading cs))
spells cs has = by (reading cs) refl has
  where
    by : (r : Result Statement ℕ) → reading cs ≡ r → has_statements r ≡ true → TextSpells cs (statements_in r)
    by (Ok tree) e h = the_read_is_spelled (tokens_of cs) tree e
    by (Err at) e h = absurd (cc)

-- the statements of a text
abbrev pub root_of : List ℕ → Statement
root_of bytes = statements_in (reading (chars bytes))

access_reads : has_statements (reading (chars access_yang)) ≡ true
unfolding access_yang chars encode
access_reads = refl

-- a text that is read
pub record IsText (bytes : List ℕ) : Type 0 where
  pub utf8 : is_utf8 bytes ≡ true
  pub reads : has_statements (reading (chars bytes)) ≡ true
  pub short : position is_long (file bytes ∷ []) ≡ None

-- the statements of one module, after those of ietf-netconf-acm
abbrev pub texts_of : List ℕ → List Statement
texts_of bytes = root_of access_yang ∷ root_of bytes ∷ []

pub have : (bytes : List ℕ) → IsText bytes → HaveStatements (file bytes ∷ []) (texts_of bytes)
have bytes is = record {
  access = root_of access_yang;
  spells = spells (chars access_yang) access_reads;
  roots = root_of bytes ∷ [];
  read = record { few = lit≤ tt; short = is.short; each = (record { utf8 = is.utf8; spells = spells (chars bytes) is.reads }, tt) };
  are = refl;
}

-- ---- what a module breaks
abbrev BreaksOne : List ℕ → Fault → Type 0
BreaksOne bytes fault = Breaks (file bytes ∷ []) [] 0 fault

-- its statement `module`
by_module : (bytes : List ℕ) (fault : Fault) → IsText bytes → broken (root_of bytes) ≡ fault ∷ [] → BreaksOne bytes fault
by_module bytes fault is faults =
    of_text (texts_of bytes) 0 fault (have bytes is) (alone 1 (root_of bytes) fault refl (inr (record {
      statement = root_of bytes;
      stands = stands_itself (root_of bytes) [];
      breaks = contains_at (broken (root_of bytes)) 0 fault (ap (λ fs. slice_get fs 0) faults);
    })))

-- of the statements in it the one of a place
abbrev pub part_at : List ℕ → ℕ → Statement
part_at bytes place = unwrap_or (slice_get (below (root_of bytes)) place) (root_of bytes)

-- it is there, and is looked at
record HasPart (bytes : List ℕ) (place : ℕ) : Type 0 where
  there : slice_get (below (root_of bytes)) place ≡ Some (part_at bytes place)
  opened : is_closed (kind (root_of bytes)) ≡ false

stands_at : (ss : List Statement) (place : ℕ) (s : Statement) → slice_get ss place ≡ Some s → Stands ss s
stands_at [] place s e = absurd (cc)
stands_at (t ∷ ss) zero s e = let same : t ≡ s = cc in subst (Stands (t ∷ ss)) same (stands_itself t ss)
stands_at (t ∷ ss) (suc place) s e = later t s ss (stands_at ss place s e)

by_part : (bytes : List ℕ) (fault : Fault) (place : ℕ) → IsText bytes → HasPart bytes place → broken (part_at bytes place) ≡ fault ∷ [] → BreaksOne bytes fault
by_part bytes fault place is part faults =
    of_text (texts_of bytes) 0 fault (have bytes is) (alone 1 (root_of bytes) fault refl (inr (record {
      statement = part_at bytes place;
      stands = within (root_of bytes) (part_at bytes place) [] part.opened (stands_at (below (root_of bytes)) place (part_at bytes place) part.there);
      breaks = contains_at (broken (part_at bytes place)) 0 fault (ap (λ fs. slice_get fs 0) faults);
    })))

abbrev pub top_of : List ℕ → Located
top_of bytes = record { statement = root_of bytes; place = record { text = 1; blocks = [] } }

abbrev pub located : List ℕ → ℕ → Located
located bytes place = record { statement = part_at bytes place; place = place_inside (top_of bytes) }

is_child : (bytes : List ℕ) (place : ℕ) → HasPart bytes place → child place (top_of bytes) ≡ Some (located bytes place)
is_child bytes place part = ap (option_map (λ (s : Statement). let it : Located = record { statement = s; place = place_inside (top_of bytes) } in it)) part.there

stands_in : (bytes : List ℕ) (place : ℕ) → HasPart bytes place → StandsIn (top_of bytes) (located bytes place)
stands_in bytes place part = inside (top_of bytes) (located bytes place) (located bytes place) place part.opened (is_child bytes place part) (itself (located bytes place))

by_name : (bytes : List ℕ) (fault : Fault) (place : ℕ) → IsText bytes → HasPart bytes place → ((access : Statement) → misnamed (access ∷ root_of bytes ∷ []) (located bytes place) ≡ fault ∷ []) → BreaksOne bytes fault
by_name bytes fault place is part faults =
    of_text (texts_of bytes) 0 fault (have bytes is) (misnames 1 fault (record {
      top = top_of bytes;
      is = refl;
      misnames =
          record {
            statement = located bytes place;
            stands = stands_in bytes place part;
            breaks = contains_at (misnamed (texts_of bytes) (located bytes place)) 0 fault (ap (λ fs. slice_get fs 0) (faults (root_of access_yang)));
          };
    }))

-- ---- no text, and no statements
not_text : BreaksOne (0xFF ∷ []) (record { line = 1; why = NotText })
unfolding is_utf8 chars encode
not_text = unread 0 (record { line = 1; why = NotText }) (empty 0 (file (0xFF ∷ [])) (record { line = 1; why = NotText }) refl (not_utf8 refl))

abbrev unended : List ℕ
unended = lines_of (codes "module m {" ∷ codes "  prefix m" ∷ [])

unended_is_utf8 : is_utf8 unended ≡ true
unfolding is_utf8 chars encode
unended_is_utf8 = refl

unended_is_read : reading (chars unended) ≡ Err 3
unfolding chars encode
unended_is_read = refl

no_statements : BreaksOne unended (record { line = 3; why = BadWords })
no_statements =
    unread 0 (record { line = 3; why = BadWords })
    (empty 0 (file unended) (record { line = 3; why = BadWords }) refl (bad_words 3 unended_is_utf8 (fault_of (Err (Bad 3)) (chars unended) unended_is_read)))

-- ---- a limit: one module more than there may be
too_many : Breaks (replicate 1001 (file [])) [] 1000 (record { line = 1; why = TooMany })
too_many = unread 1000 (record { line = 1; why = TooMany }) (many (lit< tt))

-- ---- statements
abbrev strange : List ℕ
strange = module_of (codes "  frob x;" ∷ [])

strange_is_text : IsText strange
unfolding is_utf8 chars encode
strange_is_text = record { utf8 = refl; reads = refl; short = refl }

strange_faults : broken (root_of strange) ≡ record { line = 4; why = UnknownStatement } ∷ []
unfolding chars encode out-Statement out roll-Statement roll shown-the_row-Statement-0 shown hidden keyword_of keywords word_of
strange_faults = refl

unknown_statement : BreaksOne strange (record { line = 4; why = UnknownStatement })
unknown_statement = by_module strange (record { line = 4; why = UnknownStatement }) strange_is_text strange_faults

abbrev augmented : List ℕ
augmented = module_of (codes "  augment '/m:a' { }" ∷ [])

augmented_is_text : IsText augmented
unfolding is_utf8 chars encode
augmented_is_text = record { utf8 = refl; reads = refl; short = refl }

augmented_faults : broken (root_of augmented) ≡ record { line = 4; why = Unsupported } ∷ []
unfolding chars encode out-Statement out roll-Statement roll shown-the_row-Statement-0 shown hidden keyword_of keywords word_of
augmented_faults = refl

unsupported : BreaksOne augmented (record { line = 4; why = Unsupported })
unsupported = by_module augmented (record { line = 4; why = Unsupported }) augmented_is_text augmented_faults

abbrev unprefixed : List ℕ
unprefixed = lines_of (codes "module m {" ∷ codes "  namespace 'urn:m';" ∷ codes "}" ∷ [])

unprefixed_is_text : IsText unprefixed
unfolding is_utf8 chars encode
unprefixed_is_text = record { utf8 = refl; reads = refl; short = refl }

unprefixed_faults : broken (root_of unprefixed) ≡ record { line = 1; why = Missing } ∷ []
unfolding chars encode out-Statement out roll-Statement roll shown-the_row-Statement-0 shown hidden keyword_of keywords word_of
unprefixed_faults = refl

missing : BreaksOne unprefixed (record { line = 1; why = Missing })
missing = by_module unprefixed (record { line = 1; why = Missing }) unprefixed_is_text unprefixed_faults

abbrev doubled : List ℕ
doubled = module_of (codes "  prefix n;" ∷ [])

doubled_is_text : IsText doubled
unfolding is_utf8 chars encode
doubled_is_text = record { utf8 = refl; reads = refl; short = refl }

doubled_faults : broken (root_of doubled) ≡ record { line = 4; why = Twice } ∷ []
unfolding chars encode out-Statement out roll-Statement roll shown-the_row-Statement-0 shown hidden keyword_of keywords word_of
doubled_faults = refl

twice : BreaksOne doubled (record { line = 4; why = Twice })
twice = by_module doubled (record { line = 4; why = Twice }) doubled_is_text doubled_faults

abbrev misspelled : List ℕ
misspelled = module_of (codes "  leaf 4x { type string; }" ∷ [])

misspelled_is_text : IsText misspelled
unfolding is_utf8 chars encode
misspelled_is_text = record { utf8 = refl; reads = refl; short = refl }

misspelled_part : HasPart misspelled 2
unfolding chars encode out-Statement out roll-Statement roll shown-the_row-Statement-0 shown hidden keyword_of keywords word_of
misspelled_part = record { there = refl; opened = refl }

misspelled_faults : broken (part_at misspelled 2) ≡ record { line = 4; why = BadArgument } ∷ []
unfolding chars encode out-Statement out roll-Statement roll shown-the_row-Statement-0 shown hidden keyword_of keywords word_of
misspelled_faults = refl

bad_argument : BreaksOne misspelled (record { line = 4; why = BadArgument })
bad_argument = by_part misspelled (record { line = 4; why = BadArgument }) 2 misspelled_is_text misspelled_part misspelled_faults

-- ---- names
abbrev nameless : List ℕ
nameless = module_of (codes "  uses g;" ∷ [])

nameless_is_text : IsText nameless
unfolding is_utf8 chars encode
nameless_is_text = record { utf8 = refl; reads = refl; short = refl }

nameless_part : HasPart nameless 2
unfolding chars encode out-Statement out roll-Statement roll shown-the_row-Statement-0 shown hidden keyword_of keywords word_of
nameless_part = record { there = refl; opened = refl }

nameless_faults : (access : Statement) → misnamed (access ∷ root_of nameless ∷ []) (located nameless 2) ≡ record { line = 4; why = UnknownName } ∷ []
unfolding chars encode out-Statement out roll-Statement roll shown-the_row-Statement-0 shown hidden keyword_of keywords word_of
nameless_faults access = refl

unknown_name : BreaksOne nameless (record { line = 4; why = UnknownName })
unknown_name = by_name nameless (record { line = 4; why = UnknownName }) 2 nameless_is_text nameless_part nameless_faults

abbrev turning : List ℕ
turning = module_of (codes "  grouping g {" ∷ codes "    uses g;" ∷ codes "  }" ∷ [])

turning_is_text : IsText turning
unfolding is_utf8 chars encode
turning_is_text = record { utf8 = refl; reads = refl; short = refl }

turning_part : HasPart turning 2
unfolding chars encode out-Statement out roll-Statement roll shown-the_row-Statement-0 shown hidden keyword_of keywords word_of
turning_part = record { there = refl; opened = refl }

-- its `uses`
abbrev turn : Located
turn = record {
  statement = unwrap_or (slice_get (below (part_at turning 2)) 0) (root_of turning);
  place = place_inside (located turning 2);
}

turn_there : child 0 (located turning 2) ≡ Some turn
unfolding chars encode out-Statement out roll-Statement roll shown-the_row-Statement-0 shown hidden keyword_of keywords word_of
turn_there = refl

grouping_defines : (access : Statement) → IsDefinition (access ∷ root_of turning ∷ []) Groupings (located turning 2)
unfolding chars encode out-Statement out roll-Statement roll shown-the_row-Statement-0 shown hidden keyword_of keywords word_of
grouping_defines access = record { text = 1; top = top_of turning; is_top = refl; stands = stands_in turning 2 turning_part; keyword = refl }

turn_names : (access : Statement) → Names (access ∷ root_of turning ∷ []) Groupings (located turning 2) turn (located turning 2)
unfolding chars encode out-Statement out roll-Statement roll shown-the_row-Statement-0 shown hidden keyword_of keywords word_of
turn_names access = record {
  is_here = grouping_defines access;
  stands = inside (located turning 2) turn turn 0 refl turn_there (itself turn);
  keyword = refl;
  means = refl;
  is_there = grouping_defines access;
}

turn_line : line turn.statement ≡ 5
unfolding chars encode out-Statement out roll-Statement roll shown-the_row-Statement-0 shown hidden keyword_of keywords word_of
turn_line = refl

loop : BreaksOne turning (record { line = 5; why = Loop })
loop = of_text (texts_of turning) 0 (record { line = 5; why = Loop }) (have turning turning_is_text) (looping 1 (record { line = 5; why = Loop }) (record {
  sort = Groupings;
  breaks =
      record {
        statement = turn;
        circle =
            record {
              here = located turning 2;
              there = located turning 2;
              names = turn_names (root_of access_yang);
              back = leads_itself (located turning 2);
            };
        is_text = refl;
        is_fault = λ i. record { line = sym turn_line i; why = Loop };
      };
}))

-- ---- a pattern of a leaf's type that the maker refused, after another module
abbrev before : List ℕ
before = lines_of (codes "module n {" ∷ codes "  namespace 'urn:n';" ∷ codes "  prefix n;" ∷ codes "}" ∷ [])

abbrev patterned : List ℕ
patterned = module_of (codes "  leaf name {" ∷ codes "    type string {" ∷ codes "      pattern '[a-z]+';" ∷ codes "    }" ∷ codes "  }" ∷ [])

-- the statements, in layers, each of what stands directly in those of the one before
abbrev layers : (more : ℕ) → (number : ℕ) → List Numbered → List Numbered
layers zero number layer = layer
layers (suc more) number layer = layer ++ layers more (number + length layer) (opened number layer)

abbrev texts : List Statement
texts = root_of before ∷ root_of patterned ∷ []

abbrev scoping : Scoping
scoping = record { texts = texts; located = located_in (layers 3 0 (roots 0 texts)) }

-- the leaf is the statement of the number 6, its type that of 7, and the pattern that of 8
abbrev at : ℕ → Located
at number = unwrap_or (slice_get scoping.located number) (top_of patterned)

abbrev plan : Plan
plan = record {
  nodes = record { statement = 6; «module» = 1; parent = None; level = 0; cases = []; deny = Nothing } ∷ [];
  choices = [];
}

abbrev off : FeatureTest
off text word = false

abbrev leaf : Node
leaf = record {
  name = record { space = codes "urn:m"; name = codes "name" };
  «module» = 1;
  parent = None;
  kind = Leaf;
  kind_of_value = 0;
  keys = [];
  uniques = [];
  mandatory = false;
  defaults = [];
  least = 0;
  most = None;
  by_user = false;
  cases = [];
  deny = Nothing;
}

type_means : Means (holds texts off) texts (at 7) (Entry (String lengths false []) (at 8 ∷ []) [])
unfolding chars encode out-Statement out roll-Statement roll shown-the_row-Statement-0 shown hidden keyword_of keywords word_of built_in_of built_ins built_in_word pattern_reading next allowed front_at may_end outside inside_class with_range class_member range_from one_character
type_means = by_itself (at 7) Chars (Entry (String lengths false []) (at 8 ∷ []) []) refl refl refl

in_use : IsPatternInUse (basis scoping off plan) (at 8)
unfolding chars encode out-Statement out roll-Statement roll shown-the_row-Statement-0 shown hidden keyword_of keywords word_of is_true_text is_user_text
in_use = record {
  number = 0;
  node = leaf;
  there = refl;
  valued = refl;
  of_type = at 7;
  is = refl;
  one = at 7;
  among = its_own;
  entry = String lengths false [];
  patterns = at 8 ∷ [];
  names = [];
  means = type_means;
  holds = contains_at (at 8 ∷ []) 0 (at 8) refl;
}

pattern_refused : IsRefused (basis scoping off plan) (refusing 0 1 (Some (anchored (codes "[a-z]+")))) (record { text = 1; fault = record { line = 6; why = PatternRefused } })
unfolding chars encode out-Statement out roll-Statement roll shown-the_row-Statement-0 shown hidden keyword_of keywords word_of
pattern_refused = record { pattern = at 8; in_use = in_use; refuses = record { rose = lit≤ tt; last = refl }; at = refl }
