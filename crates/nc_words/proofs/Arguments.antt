-- Words that have no reading.
use Rattle.std.proofs.Common.{◌≡◌, ◌≢◌, ◌<◌, ◌≤◌, ℕ, Bool, true, false, List, [], ◌∷◌, length, get_or, refl, sym, ap, subst, arith}
use Rattle.std.specs.Prelude.{codes}
use Rattle.std.specs.List.{list_any}
use Rattle.nc_edge.specs.Addresses.{IsAddress, Names, OfTcp, OfUnix}
use Rattle.nc_edge.specs.declared.address.Address.{Address}
use Rattle.nc_edge.specs.declared.address.Address.TheVariants.{Tcp, Unix}
use Rattle.nc_protocol.specs.declared.peer.Peer.{Peer}
use Rattle.nc_words.specs.Words.{AreArguments, HasNoReading, IsCommand, arguments, begins_with_hyphen, count_recovery, is_unknown_flag, zero_or_one}
use Rattle.nc_words.specs.Words.{Stdio, Serve, Script, Check, Load}
use Rattle.nc_words.specs.Asking.{IsNoFolder, IsNoLoad, IsNoStdio}

at_most_one : (b : Bool) → zero_or_one b ≤ 1
at_most_one true = omega arith
at_most_one false = omega arith

pub twice : (words : List (List ℕ)) → 1 < count_recovery words → (folder : List ℕ) (peer : Peer) → ¬ AreArguments words folder peer
twice words many folder peer are = omega (arith, many, are.recovery, at_most_one peer.recovery)

pub no_folder : (words : List (List ℕ)) → arguments words ≡ [] → (folder : List ℕ) (peer : Peer) → ¬ AreArguments words folder peer
no_folder words none folder peer are = cc (none, are.arguments)

pub no_user : (words after : List (List ℕ)) (first : List ℕ) → arguments words ≡ first ∷ arguments after → arguments after ≡ []
    → (folder : List ℕ) (peer : Peer) → ¬ AreArguments words folder peer
no_user words after first some none folder peer are = cc (some, none, are.arguments)

pub no_words : IsNoStdio []
no_words folder peer is = cc is.command

pub other_command : (command : List ℕ) (behind : List (List ℕ)) → command ≢ codes "stdio" → IsNoStdio (command ∷ behind)
other_command command behind other folder peer is = other (cc is.command)

pub unknown_flag : (command : List ℕ) (behind : List (List ℕ)) → list_any is_unknown_flag behind ≡ true → IsNoStdio (command ∷ behind)
unknown_flag command behind some folder peer is = cc (some, is.known, is.command)

pub no_arguments : (command : List ℕ) (behind : List (List ℕ)) → ((folder : List ℕ) (peer : Peer) → ¬ AreArguments behind folder peer)
    → IsNoStdio (command ∷ behind)
no_arguments command behind none folder peer is = none folder peer (subst (λ words. AreArguments words folder peer) (cc is.command) is.are)

-- ---- commands with one argument, or two

pub other_one : (name command word : List ℕ) → command ≢ name → (first : List ℕ) → ¬ IsCommand name (command ∷ word ∷ []) (first ∷ [])
other_one name command word other first is = other (cc is.command)

pub other_two : (name command word more : List ℕ) → command ≢ name → (first second : List ℕ)
    → ¬ IsCommand name (command ∷ word ∷ more ∷ []) (first ∷ second ∷ [])
other_two name command word more other first second is = other (cc is.command)

-- a list of words with a flag in it
flag_first : (word : List ℕ) (rest : List (List ℕ)) → begins_with_hyphen word ≡ true → list_any begins_with_hyphen (word ∷ rest) ≡ true
flag_first word rest flag = rw flag refl

flag_second : (word more : List ℕ) (rest : List (List ℕ)) → begins_with_hyphen word ≡ false → begins_with_hyphen more ≡ true
    → list_any begins_with_hyphen (word ∷ more ∷ rest) ≡ true
flag_second word more rest plain flag = rw plain (rw flag refl)

no_flags : (word : List ℕ) → begins_with_hyphen word ≡ false → list_any begins_with_hyphen (word ∷ []) ≡ false
no_flags word plain = rw plain refl

pub flag_one : (name command word : List ℕ) → begins_with_hyphen word ≡ true → (first : List ℕ)
    → ¬ IsCommand name (command ∷ word ∷ []) (first ∷ [])
flag_one name command word flag first is =
    let same : word ≡ first = cc is.command in
    cc (flag_first word [] flag, is.plain, ap (λ w. list_any begins_with_hyphen (w ∷ [])) same)

pub flag_two : (name command word more : List ℕ) → begins_with_hyphen word ≡ true → (first second : List ℕ)
    → ¬ IsCommand name (command ∷ word ∷ more ∷ []) (first ∷ second ∷ [])
flag_two name command word more flag first second is =
    let same : word ∷ more ∷ [] ≡ first ∷ second ∷ [] = cc is.command in
    cc (flag_first word (more ∷ []) flag, is.plain, ap (list_any begins_with_hyphen) same)

pub flag_three : (name command word more : List ℕ) → begins_with_hyphen word ≡ false → begins_with_hyphen more ≡ true
    → (first second : List ℕ) → ¬ IsCommand name (command ∷ word ∷ more ∷ []) (first ∷ second ∷ [])
flag_three name command word more plain flag first second is =
    let same : word ∷ more ∷ [] ≡ first ∷ second ∷ [] = cc is.command in
    cc (flag_second word more [] plain flag, is.plain, ap (list_any begins_with_hyphen) same)

pub has_one : (name command word : List ℕ) (words : List (List ℕ)) → words ≡ command ∷ word ∷ [] → command ≡ name
    → begins_with_hyphen word ≡ false → IsCommand name words (word ∷ [])
has_one name command word words are same plain =
    record { command = cc (are, same); plain = no_flags word plain }

pub has_two : (name command word more : List ℕ) (words : List (List ℕ)) → words ≡ command ∷ word ∷ more ∷ [] → command ≡ name
    → begins_with_hyphen word ≡ false → begins_with_hyphen more ≡ false → IsCommand name words (word ∷ more ∷ [])
has_two name command word more words are same plain also =
    record { command = cc (are, same); plain = rw plain (rw also refl) }

pub two_words : {A : Type 0} (xs : List A) (a b : A) → 2 ≤ length xs → length xs < 3 → a ≡ get_or xs 0 a → b ≡ get_or xs 1 b
    → xs ≡ a ∷ b ∷ []
two_words [] a b many few first second = absurd (omega (arith, many))
two_words (x ∷ []) a b many few first second = absurd (omega (arith, many))
two_words (x ∷ y ∷ []) a b many few first second = λ i. sym first i ∷ sym second i ∷ []
two_words (x ∷ y ∷ z ∷ more) a b many few first second = absurd (omega (arith, few))

pub three_words : {A : Type 0} (xs : List A) (a b c : A) → 3 ≤ length xs → length xs < 4 → a ≡ get_or xs 0 a → b ≡ get_or xs 1 b
    → c ≡ get_or xs 2 c → xs ≡ a ∷ b ∷ c ∷ []
three_words [] a b c many few first second third = absurd (omega (arith, many))
three_words (x ∷ []) a b c many few first second third = absurd (omega (arith, many))
three_words (x ∷ y ∷ []) a b c many few first second third = absurd (omega (arith, many))
three_words (x ∷ y ∷ z ∷ []) a b c many few first second third =
    λ i. sym first i ∷ sym second i ∷ sym third i ∷ []
three_words (x ∷ y ∷ z ∷ w ∷ more) a b c many few first second third = absurd (omega (arith, few))

-- ---- an address
pub address_named : (word : List ℕ) (address : Address) → Names word address → IsAddress word
address_named word (Unix path) is = OfUnix path.now is
address_named word (Tcp port) is = OfTcp port is

pub same_second : (name : List ℕ) (words : List (List ℕ)) (a b c d : List ℕ) → IsCommand name words (a ∷ b ∷ [])
    → IsCommand name words (c ∷ d ∷ []) → b ≡ d
same_second name words a b c d one other = cc (one.command, other.command)

-- ---- nothing is asked for
pub nothing : (words : List (List ℕ)) → IsNoStdio words → IsNoFolder words → IsNoLoad words → HasNoReading words
nothing words no_stdio no_folder no_load (Stdio folder peer) is = no_stdio folder peer is
nothing words no_stdio no_folder no_load (Serve folder address) is = no_folder.serve folder address is
nothing words no_stdio no_folder no_load (Script folder file) is = no_folder.script folder file is
nothing words no_stdio no_folder no_load (Check folder) is = no_folder.check folder is
nothing words no_stdio no_folder no_load (Load edits) is = no_load edits is
