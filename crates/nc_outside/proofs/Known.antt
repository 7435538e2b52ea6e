-- Known bytes that grow at their end, or are taken from their front, several times.
use Rattle.std.proofs.Common.{◌≡◌, ℕ, List, [], ◌++◌, Option, None, Some, refl, sym, ap, subst, ◌∙◌, append_assoc, append-nil}
use Rattle.std.specs.Io.KnownBytes.{append_known, prepend_known}
use Rattle.nc_outside.specs.Causes.{TookPart}

pub append_twice : (known : Option (List ℕ)) (xs ys : List ℕ) → append_known (append_known known xs) ys ≡ append_known known (xs ++ ys)
append_twice None xs ys = refl
append_twice (Some known) xs ys = ap Some (append_assoc known xs ys)

pub append_nothing : (known : Option (List ℕ)) → append_known known [] ≡ known
append_nothing None = refl
append_nothing (Some known) = ap Some (append-nil known)

pub prepend_twice : (known : Option (List ℕ)) (xs ys : List ℕ) → prepend_known xs (prepend_known ys known) ≡ prepend_known (xs ++ ys) known
prepend_twice None xs ys = refl
prepend_twice (Some known) xs ys = ap Some (sym (append_assoc xs ys known))

pub prepend_nothing : (known : Option (List ℕ)) → prepend_known [] known ≡ known
prepend_nothing None = refl
prepend_nothing (Some known) = refl

-- nothing was taken
pub took_nothing : (before : Option (List ℕ)) (bytes : List ℕ) → TookPart before before bytes
took_nothing before bytes = record { part = []; rest = bytes; whole = refl; taken = sym (append_nothing before) }

-- all was taken
pub took_whole : {before now : Option (List ℕ)} {bytes : List ℕ} → now ≡ append_known before bytes → TookPart before now bytes
took_whole {before} {now} {bytes} taken = record { part = bytes; rest = []; whole = sym (append-nil bytes); taken = taken }

-- a part of a beginning is a part of the whole
pub took_front : {before now : Option (List ℕ)} {xs : List ℕ} (ys : List ℕ) → TookPart before now xs → TookPart before now (xs ++ ys)
took_front ys took = record {
  part = took.part;
  rest = took.rest ++ ys;
  whole = ap (λ l. l ++ ys) took.whole ∙ append_assoc took.part took.rest ys;
  taken = took.taken;
}

-- after all of xs, a part of ys
pub took_more : {before middle now : Option (List ℕ)} (xs : List ℕ) {ys : List ℕ} → middle ≡ append_known before xs → TookPart middle now ys → TookPart before now (xs ++ ys)
took_more {before} {middle} {now} xs {ys} first took = record {
  part = xs ++ took.part;
  rest = took.rest;
  whole = ap (λ l. xs ++ l) took.whole ∙ sym (append_assoc xs took.part took.rest);
  taken = took.taken ∙ ap (λ k. append_known k took.part) first ∙ append_twice before xs took.part;
}

-- a part of a part
pub took_part_of : {before now : Option (List ℕ)} {bytes : List ℕ} (part rest : List ℕ) → bytes ≡ part ++ rest → TookPart before now part → TookPart before now bytes
took_part_of {before} {now} {bytes} part rest whole took =
    subst (λ l. TookPart before now l) (sym whole) (took_front rest took)
