-- Whether the file that a command writes is one that it reads, name by name.
use Rattle.std.proofs.Common.{◌≡◌, ◌≢◌, ◌∙◌, ◌<◌, ◌+◌, inl, inr, ℕ, Bool, true, false, List, [], ◌∷◌, ◌++◌, Option, Some, None, Global, length, drop, get_or, refl, ap, subst, sym}
use Rattle.std.specs.Prelude.{IsTrue, String, string_bytes}
use Rattle.std.proofs.lemmas.List.{drop_more}
use Rattle.std.proofs.lemmas.Bool.{false≢true}
use Rattle.std.specs.List.{AllByRecursion}
use Rattle.sloth_io.specs.Store.{Files, IsSaidSame, MayBeOneFile, said_same}
use Rattle.command_line.specs.Command.{Command, IsCommand, words_of}
use Rattle.command_line.proofs.Commands.{one-command}
use Rattle.core_commands.specs.CommandFiles.{inputs_of, output_of, HasOwnOutput, IsFileAmong, IsNameApart, IsOnlyAsked, IsOutputAmong, IsUsageCause, OverwritesInput}

-- ---- the cause of `usage`

no-among : (old new : Files) (name : List ℕ) (inputs : List (List ℕ)) → IsTrue old.tells → AllByRecursion (λ other. name ≢ other) inputs
    → IsFileAmong old new name inputs → ⊥
no-among old new name [] tells apart h = h
no-among old new name (input ∷ rest) tells apart (inl h) = apart.0 (h.0 tells)
no-among old new name (input ∷ rest) tells apart (inr h) = no-among old new name rest tells apart.1 h

apart-output : (old new : Files) (output : Option (List ℕ)) (inputs : List (List ℕ)) → IsTrue old.tells → IsNameApart output inputs
    → IsOutputAmong old new output inputs → ⊥
apart-output old new None inputs tells apart h = h
apart-output old new (Some name) inputs tells apart h = no-among old new name inputs tells apart h

-- a command whose output has a name of its own writes over no file that it reads
pub keeps-inputs : (old new : Files) (c : Command) → IsTrue old.tells → HasOwnOutput c → OverwritesInput old new c → ⊥
keeps-inputs old new c tells own h = apart-output old new (output_of c) (inputs_of c) tells own h

-- the words of such a command are not answered by `usage`
pub no-usage : (words : List (List ℕ)) (old new : Files) (c : Command) → IsCommand words c → (OverwritesInput old new c → ⊥) → IsUsageCause words old new → ⊥
no-usage words old new c is keeps (inl none) = none c is
no-usage words old new c is keeps (inr h) = keeps (subst (OverwritesInput old new) (one-command words h.0 c h.1 is) h.2)

-- words are those of one command, whose output has a name of its own or has not
pub own-by-words : (words : List (List ℕ)) (c other : Command) → IsCommand words c → IsCommand words other → HasOwnOutput c → (HasOwnOutput other → ⊥) → ⊥
own-by-words words c other is also own none = none (subst HasOwnOutput (one-command words c other is also) own)

-- ---- what the store said

-- it said yes, behind a call that changed nothing
pub said-so : (r : Bool) (old now new : Files) (one other : List ℕ) → now ≡ old → r ≡ true → MayBeOneFile now one other → new ≡ said_same r one other now
    → IsSaidSame old new one other
said-so true old now new one other same agreed may said = (
  subst (λ (files : Files). MayBeOneFile files one other) same may,
  ap (λ (files : Files). files.same) said ∙ ap (λ (files : Files). files.same ++ (one, other) ∷ []) same,
)
said-so false old now new one other same agreed may said = absurd (false≢true agreed)

-- or no
pub said-not : (r : Bool) (old now new : Files) (one other : List ℕ) → now ≡ old → r ≡ false → new ≡ said_same r one other now → new ≡ old
said-not false old now new one other same denied said = said ∙ same
said-not true old now new one other same denied said = absurd (false≢true (sym denied))

-- nothing has changed but that
pub none-asked : (old new : Files) → new ≡ old → IsOnlyAsked old new
none-asked old new same = same ∙ ap (λ (xs : List (List ℕ × List ℕ)). record old { same = xs }) (sym (ap (λ (files : Files). files.same) same))

pub only-asked : (r : Bool) (old now new : Files) (one other : List ℕ) → now ≡ old → new ≡ said_same r one other now → IsOnlyAsked old new
only-asked true old now new one other same said =
    let here : new ≡ record old { same = old.same ++ (one, other) ∷ [] } = said ∙ ap (λ (files : Files). said_same true one other files) same in
    here ∙ ap (λ (xs : List (List ℕ × List ℕ)). record old { same = xs }) (sym (ap (λ (files : Files). files.same) here))
only-asked false old now new one other same said = none-asked old new (said ∙ same)

-- ---- input by input

-- what holds of the inputs from one on holds of all, so far
pub record IsApartSoFar (old now : Files) (name : List ℕ) (names : List (String Global)) (i : ℕ) : Type 0 where
  pub kept : now ≡ old
  pub among : (new : Files) → IsFileAmong old new name (words_of (drop i names)) → IsFileAmong old new name (words_of names)
  pub apart : IsTrue old.tells → IsNameApart (Some name) (words_of (drop i names)) → IsNameApart (Some name) (words_of names)

pub apart-first : (files : Files) (name : List ℕ) (names : List (String Global)) → IsApartSoFar files files name names 0
apart-first files name names = record { kept = refl; among = λ new h. h; apart = λ tells h. h }

-- this input is the file
pub among-here : (old now new : Files) (name : List ℕ) (names : List (String Global)) (i : ℕ) (d : String Global) → i < length names
    → IsApartSoFar old now name names i → IsSaidSame old new name (string_bytes (get_or names i d)) → IsFileAmong old new name (words_of names)
among-here old now new name names i d lt so_far h =
    so_far.among new (subst (λ (xs : List (String Global)). IsFileAmong old new name (words_of xs)) (sym (drop_more names i d lt)) (inl h))

-- it is not, so it is the turn of the next one
pub apart-more : (old now next : Files) (name : List ℕ) (names : List (String Global)) (i : ℕ) (d : String Global) → i < length names
    → IsApartSoFar old now name names i → next ≡ old → (IsTrue old.tells → name ≢ string_bytes (get_or names i d)) → IsApartSoFar old next name names (i + 1)
apart-more old now next name names i d lt so_far same other = record {
  kept = same;
  among = λ new h.
      so_far.among new (subst (λ (xs : List (String Global)). IsFileAmong old new name (words_of xs)) (sym (drop_more names i d lt)) (inr h));
  apart = λ tells h.
      so_far.apart tells (subst (λ (xs : List (String Global)). IsNameApart (Some name) (words_of xs)) (sym (drop_more names i d lt)) (other tells, h));
}
