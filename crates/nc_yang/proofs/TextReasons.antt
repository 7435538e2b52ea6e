-- No rule of statements and texts is that a pattern was refused.
use Rattle.std.proofs.Common.{◌≡◌, ◌++◌, ◌+◌, ◌&&◌, ℕ, Bool, true, false, not, cond, List, [], ◌∷◌, Option, Some, None, inl, inr, refl, sym, subst}
use Rattle.std.specs.Prelude.{flat_map}
use Rattle.std.specs.Option.{option_map_or}
use Rattle.std.specs.List.{All}
use Rattle.std.proofs.lemmas.List.Elements.{All-append, All-cons, All-contains, All-nil}
use Rattle.nc_yang_words.specs.declared.statement.Statement.{Statement}
use Rattle.nc_yang_statements.specs.declared.fault.Fault.{Fault}
use Rattle.nc_yang_statements.specs.declared.fault.ModuleWhy.{ModuleWhy}
use Rattle.nc_yang_statements.specs.declared.fault.ModuleWhy.TheVariants.{BadArgument, Missing, PatternRefused, Twice, UnknownName, UnknownStatement, Unsupported}
use Rattle.nc_yang_statements.specs.declared.keyword.Keyword.{Keyword}
use Rattle.nc_yang_statements.specs.declared.keyword.Keyword.TheVariants.{Config, Default, IfFeature, Import, MaxElements, MinElements, Module, Path}
use Rattle.nc_yang_statements.specs.Arguments.{is_free, is_path, is_reference, is_true_text, suits, why_argument, why_misfit, why_path, why_unless}
use Rattle.nc_yang_statements.specs.Keywords.{is_closed, is_refused, is_same_keyword, keywords}
use Rattle.nc_yang_statements.specs.Places.{count_of, is_once, is_single}
use Rattle.nc_yang_statements.specs.Rules.{BreaksRule, at, at_if, broken, caseless, caseless_at, contrary, crossed, crossed_at, defaulted, defaulted_at, faulty_below, ill_formed, is_above_in, is_choice, is_misplaced, is_required, misfit, misplaced, missing, repeated, twice, why_misplaced, why_root}
use Rattle.nc_yang_statements.specs.Statements.{argument, below, has, kind, line, name, part}
use Rattle.nc_yang_scopes.specs.declared.naming.TextFault.{TextFault}
use Rattle.nc_yang_scopes.specs.declared.space.Space.{Space}
use Rattle.nc_yang_scopes.specs.declared.modules.Title.{Title}
use Rattle.nc_yang_scopes.specs.declared.modules.Title.TheVariants.{OfName, OfNamespace}
use Rattle.nc_yang_scopes.specs.Modules.{is_second, seconds, twins}
use Rattle.nc_yang_scopes.specs.Names.{BreaksNames, is_foreign, is_nameless, is_shadowing, misnamed}
use Rattle.nc_yang_scopes.specs.Scopes.{Located}
use Rattle.nc_yang_scopes.specs.Spaces.{faults_in, is_taken, renamed, spaces, taken}
use Rattle.nc_yang_scopes.specs.States.{BreaksState, configured, inside, is_state_in, itself}
use Rattle.nc_yang_scopes.specs.Loops.{BreaksLoops}
use Rattle.nc_yang_scopes.specs.Revisions.{is_unrevised, unrevised, unrevised_at, unrevised_date, unrevised_from, unrevised_import, unrevised_in}
use Rattle.nc_yang_scopes.specs.Scopes.{text_of}
use Rattle.nc_yang.specs.Rules.{BreaksText, alone, looping, twin}
use Rattle.nc_yang.specs.Rules.{configured as state_broken, misnamed as name_broken, renamed as name_taken, unrevised_import as import_broken}
use Rattle.nc_yang.specs.Texts.{HasNoStatements, IsUnread, bad_words, empty, long, many, not_utf8}
use Rattle.nc_yang.specs.declared.text.ModuleText.{ModuleText}

-- the reason of a rule
abbrev pub is_of_rule : ModuleWhy → Bool
is_of_rule PatternRefused = false
is_of_rule why = true

abbrev pub OfRule : Fault → Type 0
OfRule fault = is_of_rule fault.why ≡ true

abbrev pub OfTextRule : TextFault → Type 0
OfTextRule found = OfRule found.fault

abbrev pub WhyOfRule : Option ModuleWhy → Type 0
WhyOfRule None = Unit {0}
WhyOfRule (Some why) = is_of_rule why ≡ true

pub no_refusal : (fault : Fault) → OfRule fault → fault.why ≡ PatternRefused → ⊥
no_refusal fault h e = let f : is_of_rule PatternRefused ≡ true = subst (λ z. is_of_rule z ≡ true) e h in cc

-- lists of faults
pub either : {A : Type 0} (P : A → Type 0) (b : Bool) (x y : A) → P x → P y → P (cond b x y)
either P true x y h k = h
either P false x y h k = k

pub by_option : {A B : Type 0} (P : B → Type 0) (f : A → B) (o : Option A) (d : B) → ((x : A) → P (f x)) → P d → P (option_map_or f o d)
by_option P f None d h k = k
by_option P f (Some x) d h k = h x

pub all_flat : {A B : Type 0} (P : B → Type 0) (f : A → List B) → ((x : A) → All P (f x)) → (xs : List A) → All P (flat_map f xs)
all_flat P f h [] = All-nil P
all_flat P f h (x ∷ xs) = All-append P (f x) (flat_map f xs) (h x) (all_flat P f h xs)

pub all_one : {A : Type 0} (P : A → Type 0) (x : A) → P x → All P (x ∷ [])
all_one P x h = All-cons P x [] h (All-nil P)

pub of_at : (o : Option ModuleWhy) (s : Statement) → WhyOfRule o → All OfRule (at o s)
of_at None s h = All-nil OfRule
of_at (Some why) s h = all_one OfRule (record { line = line s; why = why }) h

pub of_at_if : (b : Bool) (s : Statement) (why : ModuleWhy) → is_of_rule why ≡ true → All OfRule (at_if b s why)
of_at_if true s why h = all_one OfRule (record { line = line s; why = why }) h
of_at_if false s why h = All-nil OfRule

-- a statement by itself, and with those below it
of_unless : (b : Bool) (why : ModuleWhy) → is_of_rule why ≡ true → WhyOfRule (why_unless b why)
of_unless true why h = tt
of_unless false why h = h

of_path : (text : List ℕ) → WhyOfRule (why_path text)
of_path text = by _ (is_path text)
  where
    by : (bracket path : Bool) → WhyOfRule (cond bracket (Some Unsupported) (cond path None (Some BadArgument)))
    by true path = refl
    by false true = tt
    by false false = refl

of_argument : (keyword : Keyword) (text : List ℕ) → WhyOfRule (why_argument keyword text)
of_argument IfFeature text = of_unless (is_reference text) Unsupported refl
of_argument Path text = of_path text
of_argument keyword text = of_unless (suits keyword text) BadArgument refl

of_misfit : (keyword : Keyword) (o : Option (List ℕ)) → WhyOfRule (why_misfit keyword o)
of_misfit keyword None = either WhyOfRule (is_free keyword) None (Some BadArgument) tt refl
of_misfit keyword (Some text) = either WhyOfRule (is_free keyword) None (why_argument keyword text) tt (of_argument keyword text)

of_misplaced : (above keyword : Keyword) → WhyOfRule (why_misplaced above keyword)
of_misplaced above keyword =
    either WhyOfRule (is_refused keyword) (Some Unsupported) (cond (is_misplaced above keyword) (Some UnknownStatement) None) refl
    (either WhyOfRule (is_misplaced above keyword) (Some UnknownStatement) None refl tt)

of_repeated : (above : Keyword) (before ss : List Statement) → All OfRule (repeated above before ss)
of_repeated above before [] = All-nil OfRule
of_repeated above before (t ∷ ts) =
    All-append OfRule (at_if (is_single (count_of above (kind t)) && has (kind t) before) t Twice) (repeated above (before ++ t ∷ []) ts)
    (of_at_if (is_single (count_of above (kind t)) && has (kind t) before) t Twice refl) (of_repeated above (before ++ t ∷ []) ts)

of_ill_formed : (s : Statement) → All OfRule (ill_formed s)
of_ill_formed s =
    All-append OfRule (misplaced s) (missing s ++ twice s)
    (all_flat OfRule (λ t. at (why_misplaced (kind s) (kind t)) t) (λ t. of_at (why_misplaced (kind s) (kind t)) t (of_misplaced (kind s) (kind t))) (below s))
    (All-append OfRule (missing s) (twice s)
    (all_flat OfRule (λ k. at_if (is_once (count_of (kind s) k) && not (has k (below s))) s Missing) (λ k. of_at_if (is_once (count_of (kind s) k) && not (has k (below s))) s Missing refl) keywords)
    (of_repeated (kind s) [] (below s)))

of_defaulted : (required : Bool) (o : Option Statement) → All OfRule (defaulted_at required o)
of_defaulted required None = All-nil OfRule
of_defaulted required (Some d) = of_at_if required d BadArgument refl

of_crossed : (least most : Option Statement) → All OfRule (crossed_at least most)
of_crossed (Some least) (Some most) = of_at_if (is_above_in least most) least BadArgument refl
of_crossed (Some least) None = All-nil OfRule
of_crossed None most = All-nil OfRule

of_caseless : (ss : List Statement) (o : Option Statement) → All OfRule (caseless_at ss o)
of_caseless ss None = All-nil OfRule
of_caseless ss (Some d) = of_at_if _ d UnknownName refl

of_contrary : (s : Statement) → All OfRule (contrary s)
of_contrary s =
    All-append OfRule (defaulted s) (crossed s ++ caseless s) (of_defaulted (is_required (below s)) (part Default (below s)))
    (All-append OfRule (crossed s) (caseless s) (of_crossed (part MinElements (below s)) (part MaxElements (below s)))
    (either (All OfRule) (is_choice (kind s)) (caseless_at (below s) (part Default (below s))) [] (of_caseless (below s) (part Default (below s))) (All-nil OfRule)))

of_broken : (s : Statement) → All OfRule (broken s)
of_broken s =
    All-append OfRule (misfit s) (faulty_below s) (of_at (why_misfit (kind s) (argument s)) s (of_misfit (kind s) (argument s)))
    (either (All OfRule) (is_closed (kind s)) [] (ill_formed s ++ contrary s) (All-nil OfRule) (All-append OfRule (ill_formed s) (contrary s) (of_ill_formed s) (of_contrary s)))

of_root : (keyword : Keyword) → WhyOfRule (why_root keyword)
of_root Module = tt
of_root keyword = either WhyOfRule (is_refused keyword) (Some Unsupported) (Some UnknownStatement) refl refl

of_rule : (root : Statement) (fault : Fault) → BreaksRule root fault → OfRule fault
of_rule root fault (inl here) = All-contains OfRule (at (why_root (kind root)) root) fault (of_at (why_root (kind root)) root (of_root (kind root))) here
of_rule root fault (inr faulty) = All-contains OfRule (broken faulty.statement) fault (of_broken faulty.statement) faulty.breaks

-- names
of_taken : (space : Space) (above : Keyword) (before ss : List Statement) → All OfRule (taken space above before ss)
of_taken space above before [] = All-nil OfRule
of_taken space above before (s ∷ ss) =
    All-append OfRule (at_if (is_taken space above before s) s Twice) (taken space above (before ++ s ∷ []) ss) (of_at_if (is_taken space above before s) s Twice refl)
    (of_taken space above (before ++ s ∷ []) ss)

of_spaces : (s : Statement) → All OfRule (faults_in s)
of_spaces s =
    either (All OfRule) (is_closed (kind s)) [] (renamed s) (All-nil OfRule)
    (all_flat OfRule (λ space. taken space (kind s) [] (below s)) (λ space. of_taken space (kind s) [] (below s)) spaces)

of_configured : (state : Bool) (s : Statement) → All OfRule (configured state s)
of_configured state s =
    by_option (All OfRule) (λ c. at_if (state && is_true_text (name c)) c BadArgument) (part Config (below s)) []
    (λ c. of_at_if (state && is_true_text (name c)) c BadArgument refl) (All-nil OfRule)

of_state : (state : Bool) (s : Statement) (fault : Fault) → BreaksState state s fault → OfRule fault
of_state _ _ _ (itself state s fault looked here) = All-contains OfRule (configured state s) fault (of_configured state s) here
of_state _ _ _ (inside state s t place fault looked there more) = of_state (is_state_in state s) t fault more

of_seconds : (by : Title) (number : ℕ) (before ss : List Statement) → All OfTextRule (seconds by number before ss)
of_seconds by number before [] = All-nil OfTextRule
of_seconds by number before (s ∷ ss) =
    All-append OfTextRule (cond (is_second by before s) (record { text = number; fault = record { line = line s; why = Twice } } ∷ []) []) (seconds by (number + 1) (before ++ s ∷ []) ss)
    (either (All OfTextRule) (is_second by before s) (record { text = number; fault = record { line = line s; why = Twice } } ∷ []) []
    (all_one OfTextRule (record { text = number; fault = record { line = line s; why = Twice } }) refl) (All-nil OfTextRule))
    (of_seconds by (number + 1) (before ++ s ∷ []) ss)

of_twins : (texts : List Statement) → All OfTextRule (twins texts)
of_twins texts = All-append OfTextRule (seconds OfName 0 [] texts) (seconds OfNamespace 0 [] texts) (of_seconds OfName 0 [] texts) (of_seconds OfNamespace 0 [] texts)

of_misnamed : (texts : List Statement) (l : Located) → All OfRule (misnamed texts l)
of_misnamed texts l =
    All-append OfRule (at_if (is_nameless texts l.place (kind l.statement) l.statement) l.statement UnknownName)
    (at_if (is_foreign texts l.place l.statement) l.statement UnknownName ++ at_if (is_shadowing l.place (kind l.statement) l.statement) l.statement Twice)
    (of_at_if (is_nameless texts l.place (kind l.statement) l.statement) l.statement UnknownName refl)
    (All-append OfRule (at_if (is_foreign texts l.place l.statement) l.statement UnknownName) (at_if (is_shadowing l.place (kind l.statement) l.statement) l.statement Twice)
    (of_at_if (is_foreign texts l.place l.statement) l.statement UnknownName refl) (of_at_if (is_shadowing l.place (kind l.statement) l.statement) l.statement Twice refl))

of_names : (texts : List Statement) (text : ℕ) (fault : Fault) → BreaksNames texts text fault → OfRule fault
of_names texts text fault h = All-contains OfRule (misnamed texts h.misnames.statement) fault (of_misnamed texts h.misnames.statement) h.misnames.breaks

of_loops : (texts : List Statement) (text : ℕ) (fault : Fault) → BreaksLoops texts text fault → OfRule fault
of_loops texts text fault h = subst OfRule (sym h.breaks.is_fault) refl

-- imports
of_unrevised_date : (texts : List Statement) (number : ℕ) (text : Option ℕ) (s : Statement) → All OfTextRule (unrevised_date texts number text s)
of_unrevised_date texts number text s =
    either (All OfTextRule) (is_unrevised texts text s) (record { text = number; fault = record { line = line s; why = UnknownName } } ∷ []) []
    (all_one OfTextRule (record { text = number; fault = record { line = line s; why = UnknownName } }) refl) (All-nil OfTextRule)

of_unrevised_at : (texts : List Statement) (number : ℕ) (s : Statement) → All OfTextRule (unrevised_at texts number s)
of_unrevised_at texts number s =
    either (All OfTextRule) (is_same_keyword Import (kind s)) (unrevised_import texts number s) []
    (all_flat OfTextRule (unrevised_date texts number (text_of texts (name s))) (of_unrevised_date texts number (text_of texts (name s))) (below s)) (All-nil OfTextRule)

of_unrevised_from : (texts : List Statement) (number : ℕ) (roots : List Statement) → All OfTextRule (unrevised_from texts number roots)
of_unrevised_from texts number [] = All-nil OfTextRule
of_unrevised_from texts number (root ∷ roots) =
    All-append OfTextRule (unrevised_in texts number root) (unrevised_from texts (number + 1) roots)
    (either (All OfTextRule) (is_closed (kind root)) [] (flat_map (unrevised_at texts number) (below root)) (All-nil OfTextRule)
    (all_flat OfTextRule (unrevised_at texts number) (of_unrevised_at texts number) (below root)))
    (of_unrevised_from texts (number + 1) roots)

-- all rules of texts
pub of_text : (texts : List Statement) (found : TextFault) → BreaksText texts found → OfTextRule found
of_text texts _ (alone text root fault there breaks) = of_rule root fault breaks
of_text texts _ (name_taken text root fault there breaks) = All-contains OfRule (faults_in breaks.statement) fault (of_spaces breaks.statement) breaks.breaks
of_text texts _ (state_broken text root fault there breaks) = of_state false root fault breaks
of_text texts _ (twin found here) = All-contains OfTextRule (twins texts) found (of_twins texts) here
of_text texts _ (name_broken text fault breaks) = of_names texts text fault breaks
of_text texts _ (looping text fault breaks) = of_loops texts text fault breaks
of_text texts _ (import_broken found here) = All-contains OfTextRule (unrevised texts) found (of_unrevised_from texts 0 texts) here

of_no_statements : (text : ModuleText) (fault : Fault) → HasNoStatements text fault → OfRule fault
of_no_statements text _ (not_utf8 bad) = refl
of_no_statements text _ (bad_words place yes_text bad) = refl

pub of_unread : (texts : List ModuleText) (file : ℕ) (fault : Fault) → IsUnread texts file fault → OfRule fault
of_unread texts _ _ (many more) = refl
of_unread texts _ _ (long file is) = refl
of_unread texts _ _ (empty file text fault there none) = of_no_statements text fault none
