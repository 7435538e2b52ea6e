-- What makes expressions, and counts those that it refuses.
use Rattle.std.specs.Prelude.{◌≡◌, ℕ, ◌<◌, ◌≤◌, ◌+◌, ◌-◌, ◌^◌, min, List, Option, Some, is_some, slice_index, Result, Err, IsErrOf}
use Rattle.regex.specs.Patterns.{find_str, default_config}
use Rattle.regex.specs.Strings.{regex_pattern, regex_source, regex_config, IsReadFromSource}
use Rattle.nc_patterns.specs.Admits.{finds}
use Rattle.nc_patterns.specs.declared.fault.MakeFault.{MakeFault}
use Rattle.regex.specs.declared.string.regex.Regex.{Regex}

-- the count rose, or stands at its last value
abbrev pub Rose : ℕ → ℕ → Type 0
Rose before now = min (before + 1) (2 ^ 64 - 1) ≤ now

-- the expression is what `regex` reads in the text, under its default options
pub record IsMadeFrom (text : List ℕ) (regex : Regex) : Type 0 where
  pub source : regex_source regex ≡ text
  pub config : regex_config regex ≡ default_config
  pub read : IsReadFromSource regex

-- where it is a refusal, the count rose, and this text is the last refused; else both are as before
pub record HasCause {T E : Type 0} (text : List ℕ) (refusal : E) (before now : ℕ)
    (last last_now : Option (List ℕ)) (result : Result T E) : Type 0 where
  pub refused : IsErrOf result refusal → Rose before now × (last_now ≡ Some text)
  pub same : (¬ IsErrOf result refusal) → (now ≡ before) × (last_now ≡ last)

-- a search by the regex finds something in a text exactly where the expression is found in it
abbrev pub IsSearchFor : List ℕ → Regex → Type 0
IsSearchFor expression regex =
    (text : List ℕ) → ((k : ℕ) → slice_index text k < 256) →
    is_some (find_str (regex_pattern regex) text 0) ≡ finds expression text

-- a call that made nothing, and answers so
abbrev pub failing : MakeFault → Result Regex MakeFault
failing fault = Err fault
