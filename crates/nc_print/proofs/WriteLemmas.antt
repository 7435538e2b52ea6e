-- Texts that are appended piece by piece.
use Rattle.std.proofs.Common.{◌≡◌, ◌≢◌, ◌||◌, ◌+◌, ◌-◌, ◌++◌, ◌∙◌, ℕ, suc, Bool, false, if◌then◌else◌, List, [], ◌∷◌, map, take, drop, length, Some, None, Ok, Err, refl, sym, ap, subst, append-nil, append_assoc, arith}
use Rattle.std.specs.Prelude.{Option, Result, slice_get}
use Rattle.std.specs.List.{flat_map}
use Rattle.std.specs.Option.{option_map_or}
use Rattle.std.proofs.lemmas.Grind.{flat_map-append}
use Rattle.std.proofs.lemmas.List.{length-append}
use Rattle.nc_names.specs.Appending.{Appends, Extends}
use Rattle.nc_names.specs.Signs.{greater_than}
use Rattle.nc_names.specs.declared.name.QName.{QName}
use Rattle.nc_names.specs.declared.path.Row.{Row}
use Rattle.nc_names.specs.declared.path.Step.{Step}
use Rattle.nc_names.proofs.Extending.{extends_more}
use Rattle.nc_message.specs.Written.{end_of, start_tag, use_of, written, written_part}
use Rattle.nc_message.specs.declared.tree.Part.{Part}
use Rattle.nc_message.specs.declared.tree.Part.TheVariants.{Child}
use Rattle.nc_message.specs.declared.tree.Tree.{Tree}
use Rattle.nc_print.specs.inner.Runs.{IsRun}
use Rattle.nc_print.specs.inner.Texts.{Ends, chars_of, ending, opening, parts_text, run_text, some_text}
use Rattle.nc_print.proofs.LevelLemmas.{levels_are}
use Rattle.nc_print.proofs.TextLemmas.{AreChildren, are_children, child_is_no_text, no_node, no_step, plain_text, run_is}
use Rattle.nc_schema.specs.Tables.{Tables}
use Rattle.nc_schema.specs.declared.node.Node.{Node}
use Rattle.nc_protocol.specs.ModuleNames.{value_bounds}
use Rattle.nc_protocol.specs.Content.{base_name, made_element}
use Rattle.nc_protocol.specs.Printed.{cut, goes_on, longest, own_value, parts_at, printed, run_parts}
use Rattle.nc_protocol.specs.Reply.{base_part, with_data}
use Rattle.nc_protocol.specs.Words.{data_word}

-- a text, and more
pub appends_more : {T E : Type 0} (result : Result T E) (mid new old first more : List ℕ) → mid ≡ old ++ first →
    Appends result mid new more → Appends result old new (first ++ more)
appends_more (Ok it) mid new old first more e is = is ∙ ap (λ x. x ++ more) e ∙ append_assoc old first more
appends_more (Err fault) mid new old first more e grown = extends_more old first e grown

-- the same text by another name
pub appends_as : {T E : Type 0} (result : Result T E) (old new text other : List ℕ) → text ≡ other →
    Appends result old new text → Appends result old new other
appends_as (Ok it) old new text other e is = is ∙ ap (λ x. old ++ x) e
appends_as (Err fault) old new text other e grown = grown

-- more after what grew
pub extends_on : {start out new : List ℕ} (more : List ℕ) → Extends start out → new ≡ out ++ more → Extends start new
extends_on {start} {out} more grown e = record {
  more = grown.more ++ more;
  is = e ∙ ap (λ x. x ++ more) grown.is ∙ append_assoc start grown.more more;
}

-- the text of the next run
pub text_step : (space : List ℕ) (f : List Row → List Part) (goes : Row → Row → Bool) (rows first rest : List Row)
    (count : ℕ) (out new whole : List ℕ) → IsRun goes rows count → first ≡ take count rows → rest ≡ drop count rows →
    out ++ flat_map (written_part space) (flat_map f (cut goes rows)) ≡ whole →
    new ≡ out ++ flat_map (written_part space) (f first) →
    new ++ flat_map (written_part space) (flat_map f (cut goes rest)) ≡ whole
text_step space f goes rows first rest count out new whole run first_is rest_is before now =
    let later = flat_map (written_part space) (flat_map f (cut goes (drop count rows))) in
    let here = flat_map (written_part space) (f (take count rows)) in
    ap (λ r. new ++ flat_map (written_part space) (flat_map f (cut goes r))) rest_is
    ∙ ap (λ x. x ++ later) (now ∙ ap (λ r. out ++ flat_map (written_part space) (f r)) first_is)
    ∙ append_assoc out here later
    ∙ ap (λ x. out ++ x) (sym (flat_map-append (written_part space) (f (take count rows)) (flat_map f (cut goes (drop count rows))))
    ∙ ap (λ runs. flat_map (written_part space) (flat_map f runs)) (sym run.cut_is))
    ∙ before

-- the elements of a level, before the first run and where there is no level
pub level_text : (space : List ℕ) (tables : Tables) (levels depth : ℕ) (rows : List Row) (out : List ℕ) → levels ≢ 0 →
    out ++ flat_map (written_part space)
    (flat_map (run_parts tables (parts_at tables (levels - 1) (depth + 1)) depth) (cut (goes_on depth) rows))
    ≡ out ++ parts_text space tables levels depth rows
level_text space tables levels depth rows out some =
    ap (λ parts. out ++ flat_map (written_part space) parts) (sym (levels_are tables levels depth rows some))

pub no_level : (space : List ℕ) (tables : Tables) (levels depth : ℕ) (rows : List Row) (out : List ℕ) → levels ≡ 0 →
    out ≡ out ++ parts_text space tables levels depth rows
no_level space tables levels depth rows out none =
    sym (append-nil out) ∙ ap (λ n. out ++ parts_text space tables n depth rows) (sym none)

pub nothing_more : (out text : List ℕ) → text ≡ [] → out ≡ out ++ text
nothing_more out text e = sym (append-nil out) ∙ ap (λ x. out ++ x) (sym e)

-- after the last run
pub level_ends : (space : List ℕ) (f : List Row → List Part) (goes : Row → Row → Bool) (rest : List Row) (out whole : List ℕ) →
    rest ≡ [] → out ++ flat_map (written_part space) (flat_map f (cut goes rest)) ≡ whole → out ≡ whole
level_ends space f goes rest out whole none is =
    sym (append-nil out) ∙ ap (λ r. out ++ flat_map (written_part space) (flat_map f (cut goes r))) (sym none) ∙ is

moved : (a b : ℕ) → a + suc b ≡ a + 1 + b
moved a b = omega arith

-- ---- an element, piece by piece: the start tag up to its end, the end of that and the text, what is in it, and its end
pub piece_written : {T E : Type 0} (result : Result T E) (name : QName) (text : Option (List ℕ)) (tag below : List ℕ)
    (inside : ℕ) (start opened inner new : List ℕ) → opened ≡ start ++ (tag ++ greater_than ∷ chars_of text) →
    inside ≡ length opened → inner ≡ opened ++ below → Ends result inner new name text inside →
    Appends result start new (tag ++ ending name text below)
piece_written result name text tag below inside start opened inner new opened_is inside_is inner_is ends =
    let opened_at : opened ≡ (start ++ tag) ++ greater_than ∷ chars_of text =
    opened_is ∙ sym (append_assoc start tag (greater_than ∷ chars_of text)) in
    let inner_at : inner ≡ (start ++ tag) ++ greater_than ∷ (chars_of text ++ below) =
    inner_is ∙ ap (λ x. x ++ below) opened_at ∙ append_assoc (start ++ tag) (greater_than ∷ chars_of text) below in
    let inside_at : inside ≡ length (start ++ tag) + 1 + length (chars_of text) =
    inside_is ∙ ap length opened_at ∙ length-append (start ++ tag) (greater_than ∷ chars_of text)
    ∙ moved (length (start ++ tag)) (length (chars_of text)) in
    appends_more result (start ++ tag) new start tag (ending name text below) refl
    (ends (start ++ tag) below inner_at inside_at)

-- that of rows that stand together
run_at : {T E : Type 0} (result : Result T E) (above : List ℕ) (tables : Tables) (levels depth : ℕ) (rows : List Row)
    (row : Row) (step : Step) (node : Node) (text : Option (List ℕ)) (start new : List ℕ) →
    slice_get rows 0 ≡ Some row → slice_get row.path.steps depth ≡ Some step → slice_get tables.nodes step.node ≡ Some node →
    text ≡ some_text (own_value depth row) →
    Appends result start new (start_tag above node.name [] (option_map_or (value_bounds tables step.node) text [])
    ++ ending node.name text (parts_text node.name.space tables levels (depth + 1) rows)) →
    Appends result start new (run_text above tables levels depth rows)
run_at result above tables levels depth [] row step node text start new at step_at node_at text_is is = absurd (cc at)
run_at result above tables levels depth (first ∷ rows) row step node text start new at step_at node_at text_is is =
    let below = parts_text node.name.space tables levels (depth + 1) (first ∷ rows) in
    let head : first ≡ row = cc at in
    let shown : Option (List ℕ) → List ℕ =
    λ t. start_tag above node.name [] (option_map_or (value_bounds tables step.node) t []) ++ ending node.name t below in
    appends_as result start new (shown text) (run_text above tables levels depth (first ∷ rows))
    (ap shown (text_is ∙ ap (λ r. some_text (own_value depth r)) (sym head))
    ∙ sym (run_is above tables levels depth first rows step node
    (ap (λ r. slice_get r.path.steps depth) head ∙ step_at) node_at))
    is

pub run_written : {T E : Type 0} (result : Result T E) (above : List ℕ) (tables : Tables) (levels depth : ℕ) (rows : List Row)
    (row : Row) (step : Step) (node : Node) (text : Option (List ℕ)) (inside : ℕ) (start opened inner new : List ℕ) →
    slice_get rows 0 ≡ Some row → slice_get row.path.steps depth ≡ Some step → slice_get tables.nodes step.node ≡ Some node →
    text ≡ some_text (own_value depth row) → opened ≡ start ++ opening above tables step.node node text →
    inside ≡ length opened → inner ≡ opened ++ parts_text node.name.space tables levels (depth + 1) rows →
    Ends result inner new node.name text inside → Appends result start new (run_text above tables levels depth rows)
run_written result above tables levels depth rows row step node text inside start opened inner new at step_at node_at text_is
    opened_is inside_is inner_is ends =
    run_at result above tables levels depth rows row step node text start new at step_at node_at text_is
    (piece_written result node.name text
    (start_tag above node.name [] (option_map_or (value_bounds tables step.node) text []))
    (parts_text node.name.space tables levels (depth + 1) rows) inside start opened inner new
    opened_is inside_is inner_is ends)

-- that of an element of other elements
pub plain_written : {T E : Type 0} (result : Result T E) (above : List ℕ) (name : QName) (below : List Part) (inside : ℕ)
    (start opened inner new : List ℕ) → AreChildren below →
    opened ≡ start ++ (start_tag above name [] [] ++ greater_than ∷ []) → inside ≡ length opened →
    inner ≡ opened ++ flat_map (written_part name.space) below → Ends result inner new name None inside →
    Appends result start new (written_part above (Child (made_element name below)))
plain_written result above name below inside start opened inner new are opened_is inside_is inner_is ends =
    appends_as result start new (start_tag above name [] [] ++ ending name None (flat_map (written_part name.space) below))
    (written_part above (Child (made_element name below))) (sym (plain_text above name below are))
    (piece_written result name None (start_tag above name [] []) (flat_map (written_part name.space) below) inside
    start opened inner new opened_is inside_is inner_is ends)

-- `data` with rows in it
pub data_written : {T E : Type 0} (result : Result T E) (above : List ℕ) (tables : Tables) (rows : List Row) (name : QName)
    (inside levels : ℕ) (start opened inner new : List ℕ) → name ≡ base_name data_word → levels ≡ longest rows →
    opened ≡ start ++ (start_tag above name [] [] ++ greater_than ∷ []) → inside ≡ length opened →
    inner ≡ opened ++ parts_text name.space tables levels 0 rows → Ends result inner new name None inside →
    Appends result start new (written_part above (base_part data_word (printed tables rows)))
data_written result above tables rows name inside levels start opened inner new name_is levels_is opened_is inside_is
    inner_is ends =
    subst (λ n. Appends result start new (written_part above (Child (made_element n (printed tables rows))))) name_is
    (plain_written result above name (printed tables rows) inside start opened inner new
    (are_children tables (longest rows) 0 rows) opened_is inside_is
    (inner_is ∙ ap (λ n. opened ++ parts_text name.space tables n 0 rows) levels_is) ends)

-- a reply with rows in it
pub reply_written : (tree : Tree) (tables : Tables) (rows : List Row) →
    written (with_data tree (printed tables rows))
    ≡ start_tag [] tree.root.name tree.root.attrs (map use_of tree.root.attrs ++ [])
    ++ greater_than ∷ written_part tree.root.name.space (base_part data_word (printed tables rows))
    ++ end_of tree.root.name
reply_written tree tables rows =
    let name = tree.root.name in
    let attrs = tree.root.attrs in
    let it : List ℕ = written_part name.space (base_part data_word (printed tables rows)) in
    ap (λ b. start_tag [] name attrs (map use_of attrs ++ (if b || false then tree.root.bounds else []))
    ++ (greater_than ∷ (it ++ []) ++ end_of name))
    (child_is_no_text (made_element (base_name data_word) (printed tables rows)))
    ∙ ap (λ x. start_tag [] name attrs (map use_of attrs ++ []) ++ (greater_than ∷ x ++ end_of name)) (append-nil it)
    ∙ sym (append_assoc (start_tag [] name attrs (map use_of attrs ++ [])) (greater_than ∷ it) (end_of name))

pub nothing_first : (above : List ℕ) (tables : Tables) (levels depth : ℕ) (rows : List Row) → slice_get rows 0 ≡ None →
    run_text above tables levels depth rows ≡ []
nothing_first above tables levels depth [] at = refl
nothing_first above tables levels depth (row ∷ rows) at = absurd (cc at)

pub nothing_there : (above : List ℕ) (tables : Tables) (levels depth : ℕ) (rows : List Row) (row : Row) →
    slice_get rows 0 ≡ Some row → slice_get row.path.steps depth ≡ None → run_text above tables levels depth rows ≡ []
nothing_there above tables levels depth [] row at none = refl
nothing_there above tables levels depth (first ∷ rows) row at none =
    let head : first ≡ row = cc at in
    no_step above tables levels depth first rows (ap (λ r. slice_get r.path.steps depth) head ∙ none)

pub nothing_known : (above : List ℕ) (tables : Tables) (levels depth : ℕ) (rows : List Row) (row : Row) (step : Step) →
    slice_get rows 0 ≡ Some row → slice_get row.path.steps depth ≡ Some step → slice_get tables.nodes step.node ≡ None →
    run_text above tables levels depth rows ≡ []
nothing_known above tables levels depth [] row step at step_at none = refl
nothing_known above tables levels depth (first ∷ rows) row step at step_at none =
    let head : first ≡ row = cc at in
    no_node above tables levels depth first rows step (ap (λ r. slice_get r.path.steps depth) head ∙ step_at) none
