-- Texts that are read one after another.
use Rattle.std.proofs.Common.{◌≡◌, ◌<◌, ◌≤◌, ◌+◌, ℕ, suc, true, false, List, [], ◌∷◌, ◌++◌, position, length, take, slice_get, Some, None, refl, subst, sym, ◌∙◌, ap, get_or, take_all}
use Rattle.std.specs.Str.{is_utf8, chars}
use Rattle.std.proofs.lemmas.List.{take_more}
use Rattle.std.proofs.lemmas.Option.{slice_get_read}
use Rattle.nc_yang_words.specs.Faults.{HasFaultAt}
use Rattle.nc_yang_words.specs.declared.statement.Statement.{Statement}
use Rattle.nc_yang_statements.specs.declared.fault.ModuleWhy.TheVariants.{BadWords, TooMany}
use Rattle.nc_yang.specs.Texts.{AreEachRead, HasNoStatements, IsUnread, OnModule, Spells, bad_words, empty, is_long, long, many, module_limit}
use Rattle.nc_yang.specs.declared.fault.CompileFault.{CompileFault}
use Rattle.nc_yang.specs.declared.fault.CompileFault.TheVariants.{Module, Memory}
use Rattle.nc_yang.specs.declared.text.ModuleText.{ModuleText}

pub bad_in : (text : ModuleText) (bytes cs : List ℕ) (line : ℕ) → bytes ≡ text.bytes → cs ≡ bytes → is_utf8 bytes ≡ true →
    HasFaultAt (chars cs) line → HasNoStatements text (record { line = line; why = BadWords })
bad_in text bytes cs line e f utf8 fault =
    bad_words line (subst (λ bs. is_utf8 bs ≡ true) e utf8) (subst (λ bs. HasFaultAt (chars bs) line) (f ∙ e) fault)

-- a text more
pub each_more : (texts : List ModuleText) (roots : List Statement) (text : ModuleText) (root : Statement) →
    AreEachRead texts roots → Spells text root → AreEachRead (texts ++ text ∷ []) (roots ++ root ∷ [])
each_more [] [] text root each spells = (spells, tt)
each_more [] (r ∷ rs) text root each spells = elim each [ ]
each_more (t ∷ ts) [] text root each spells = elim each [ ]
each_more (t ∷ ts) (r ∷ rs) text root each spells = (each.0, each_more ts rs text root each.1 spells)

-- a file past a limit
pub too_many : (texts : List ModuleText) (fault : CompileFault) → fault ≡ Module module_limit 1 TooMany →
    module_limit < length texts → OnModule (IsUnread texts) fault
too_many texts fault e more = subst (OnModule (IsUnread texts)) (sym e) (many more)

pub too_long : (texts : List ModuleText) (file : ℕ) (fault : CompileFault) → fault ≡ Module file 1 TooMany →
    position is_long texts ≡ Some file → OnModule (IsUnread texts) fault
too_long texts file fault e first = subst (OnModule (IsUnread texts)) (sym e) (long file first)

-- one that has no statements
pub unread : (texts : List ModuleText) (file : ℕ) (text : ModuleText) (fault : CompileFault) → file < length texts →
    text ≡ get_or texts file text → OnModule (λ at f. (at ≡ file) × HasNoStatements text f) fault → OnModule (IsUnread texts) fault
unread texts file text (Module at line why) within is f =
    subst (λ n. IsUnread texts n (record { line = line; why = why })) (sym f.0)
    (empty file text (record { line = line; why = why }) (slice_get_read texts (length texts) file text refl within is) f.1)
unread texts file text Memory within is f = tt

-- the next text is read
pub each_more_at : (texts : List ModuleText) (roots : List Statement) (file : ℕ) (text : ModuleText) (root : Statement) →
    file < length texts → text ≡ get_or texts file text → AreEachRead (take file texts) roots → Spells text root →
    AreEachRead (take (file + 1) texts) (roots ++ root ∷ [])
each_more_at texts roots file text root within is each spells =
    subst (λ ts. AreEachRead ts (roots ++ root ∷ [])) (sym (take_more texts file text within ∙ ap (λ t. take file texts ++ t ∷ []) (sym is)))
    (each_more (take file texts) roots text root each spells)

-- all are read
pub each_whole : (texts : List ModuleText) (roots : List Statement) (file : ℕ) → length texts ≤ file →
    AreEachRead (take file texts) roots → AreEachRead texts roots
each_whole texts roots file end each = subst (λ ts. AreEachRead ts roots) (take_all file texts end) each
