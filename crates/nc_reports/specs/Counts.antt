-- The lines that `check` and `load` write to standard output.
use Rattle.std.specs.Prelude.{ℕ, List, ◌++◌, codes}
use Rattle.std.specs.Fmt.{decimal}
use Rattle.nc_script.specs.declared.output.ScriptRun.{ScriptRun}
use Rattle.nc_words.specs.Notes.{line_end}
use Rattle.nc_reports.specs.declared.count.Found.{Found}

-- what stands before each number
unfoldable pub modules_word : List ℕ
modules_word = codes "modules "

-- .. the data nodes
unfoldable pub nodes_word : List ℕ
nodes_word = codes " nodes "

-- .. the rows of running
unfoldable pub rows_word : List ℕ
rows_word = codes " rows "

-- .. the records of the store
unfoldable pub records_word : List ℕ
records_word = codes " records "

-- .. the edits that were asked for
unfoldable pub load_word : List ℕ
load_word = codes "load "

-- .. the entries
unfoldable pub entries_word : List ℕ
entries_word = codes ": entries "

-- .. the replies without an error
unfoldable pub ok_word : List ℕ
ok_word = codes " ok "

-- .. the replies with one
unfoldable pub errors_word : List ℕ
errors_word = codes " errors "

-- a word and a number
abbrev pub count_part : List ℕ → ℕ → List ℕ
count_part word number = word ++ decimal number

-- of a look at a device: the modules of its folder, all data nodes of its schema, the rows of running, and the records
-- of its store
abbrev pub check_line : Found → List ℕ
check_line found =
    count_part modules_word found.modules
    ++ (count_part nodes_word found.nodes
    ++ (count_part rows_word found.rows ++ (count_part records_word found.records ++ line_end)))

-- of a load test with so many edits: how many entries it made, how many replies have no error and how many have one,
-- and how many rows running has
abbrev pub load_line : ℕ → ScriptRun → List ℕ
load_line edits run =
    count_part load_word edits
    ++ (count_part entries_word run.entries
    ++ (count_part ok_word run.ok
    ++ (count_part errors_word run.errors ++ (count_part rows_word run.rows ++ line_end))))
