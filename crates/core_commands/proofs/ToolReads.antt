-- The files that a tool reads.
use Rattle.std.proofs.Common.{◌≡◌, ◌≤◌, ◌<◌, ◌+◌, ◌∙◌, inl, inr, ℕ, List, [], ◌∷◌, ◌++◌, refl, sym, ap, subst, arith, length, take, drop, get_or, Global, append_assoc}
use Rattle.std.specs.Prelude.{IsTrue, String, string_bytes}
use Rattle.std.proofs.lemmas.List.{take_more, map-append, take-append-drop}
use Rattle.std.specs.List.{AllByRecursion}
use Rattle.sloth_base.specs.Limits.{file_limit}
use Rattle.sloth_io.specs.Counts.{Rose}
use Rattle.sloth_io.specs.Store.{Files, Holds, KeepsFiles, AreDelivered, IsMissing, IsTooLong}
use Rattle.command_line.specs.Command.{words_of}
use Rattle.core_commands.specs.FileInputs.{IsInput}
use Rattle.core_commands.specs.ToolInputs.{AreToolInputs, input_deliveries}
use Rattle.core_commands.specs.CommandFiles.{AreFirstDelivered}
use Rattle.core_commands.proofs.InOrder.{front-delivered}
use Rattle.core_commands.specs.Top.{FirstUnread}
use Rattle.core_commands.specs.Failures.{IsFetchFailure, IsReadFailure}
use Rattle.core_commands.specs.declared.failure.Failure.{Failure}
use Rattle.core_commands.specs.declared.failure.Failure.TheVariants as failure

-- one file more
pub more-inputs : (files : Files) (names inputs : List (List ℕ)) (name bytes : List ℕ) → AreToolInputs files names inputs → IsInput files name bytes
    → AreToolInputs files (names ++ name ∷ []) (inputs ++ bytes ∷ [])
more-inputs files [] [] name bytes all one = (one, tt)
more-inputs files [] (b ∷ inputs) name bytes all one = absurd all
more-inputs files (n ∷ names) [] name bytes all one = absurd all
more-inputs files (n ∷ names) (b ∷ inputs) name bytes all one = (all.0, more-inputs files names inputs name bytes all.1 one)

-- a file behind those that are read is the first that is not
unread-behind : (files : Files) (P : List ℕ → Type 0) (names inputs : List (List ℕ)) (name : List ℕ) (rest : List (List ℕ)) → AreToolInputs files names inputs → P name
    → FirstUnread files P (names ++ name ∷ rest)
unread-behind files P [] [] name rest all p = inl p
unread-behind files P [] (b ∷ inputs) name rest all p = absurd all
unread-behind files P (n ∷ names) [] name rest all p = absurd all
unread-behind files P (n ∷ names) (b ∷ inputs) name rest all p = inr ((b, all.0.read, all.0.short), unread-behind files P names inputs name rest all.1 p)

rose-below : (a b c : ℕ) → a ≤ b → Rose b c → Rose a c
rose-below a b c le r = omega (arith, le, r)

-- a read that failed behind others
missing-kept : (old mid new : Files) (name : List ℕ) → KeepsFiles old mid → IsMissing mid new name → IsMissing old new name
missing-kept old mid new name kept (inl h) =
    let more = kept.failed_reads in
    let rose = h.0 in
    inl (rose-below old.failed_reads mid.failed_reads new.failed_reads more rose, sym kept.sure ∙ h.1)
missing-kept old mid new name kept (inr h) = inr (subst (λ t. IsTrue t) kept.tells h.0, sym (kept.holds name) ∙ h.1)

long-kept : (old mid new : Files) (name : List ℕ) → KeepsFiles old mid → IsTooLong mid new name file_limit → IsTooLong old new name file_limit
long-kept old mid new name kept h =
    let more = kept.overlong_reads in
    let rose = h.0 in (
      rose-below old.overlong_reads mid.overlong_reads new.overlong_reads more rose,
      λ tells. let long = h.1 (subst (λ t. IsTrue t) (sym kept.tells) tells) in (long.0, sym (kept.holds name) ∙ long.1, long.2),
    )

pub fetch-ends : (f : Failure) (old mid new : Files) (names inputs : List (List ℕ)) (name : List ℕ) (rest all : List (List ℕ)) → AreToolInputs old names inputs
    → KeepsFiles old mid → names ++ name ∷ rest ≡ all → IsFetchFailure f mid new name → IsReadFailure f old new all
fetch-ends failure.ReadFault old mid new names inputs name rest all are kept e h =
    subst (λ xs. FirstUnread old (IsMissing old new) xs) e (unread-behind old (IsMissing old new) names inputs name rest are (missing-kept old mid new name kept h))
fetch-ends failure.TooLong old mid new names inputs name rest all are kept e h =
    subst (λ xs. FirstUnread old (λ n. IsTooLong old new n file_limit) xs) e
    (unread-behind old (λ n. IsTooLong old new n file_limit) names inputs name rest are (long-kept old mid new name kept h))
fetch-ends failure.NoMemory old mid new names inputs name rest all are kept e h = tt
fetch-ends (failure.Refused r) old mid new names inputs name rest all are kept e h = absurd h
fetch-ends (failure.NotAnImage r) old mid new names inputs name rest all are kept e h = absurd h
fetch-ends failure.WriteFile old mid new names inputs name rest all are kept e h = absurd h
fetch-ends failure.Put old mid new names inputs name rest all are kept e h = absurd h

pub kept-both : (old mid new : Files) → KeepsFiles old mid → KeepsFiles mid new → KeepsFiles old new
kept-both old mid new a b =
    let r = a.failed_reads in
    let s = b.failed_reads in
    let t = a.overlong_reads in
    let u = b.overlong_reads in
    record {
      tells = b.tells ∙ a.tells;
      sure = b.sure ∙ a.sure;
      holds = λ name. b.holds name ∙ a.holds name;
      space = λ name. b.space name ∙ a.space name;
      failed_reads = omega (arith, r, s);
      overlong_reads = omega (arith, t, u);
      failed_writes = b.failed_writes ∙ a.failed_writes;
      writes = b.writes ∙ a.writes;
      same = b.same ∙ a.same;
    }

pub kept-none : (files : Files) → KeepsFiles files files
kept-none files = record {
  tells = refl;
  sure = refl;
  holds = λ name. refl;
  space = λ name. refl;
  failed_reads = omega arith;
  overlong_reads = omega arith;
  failed_writes = refl;
  writes = refl;
  same = refl;
}

pub input-kept : (old mid : Files) (name bytes : List ℕ) → KeepsFiles old mid → Holds mid name bytes → length bytes ≤ file_limit → IsInput old name bytes
input-kept old mid name bytes kept holds short = record {
  read = λ tells. sym (kept.holds name) ∙ holds (subst (λ t. IsTrue t) (sym kept.tells) tells);
  short = short;
}

-- each is short
pub all-short : (files : Files) (names inputs : List (List ℕ)) → AreToolInputs files names inputs → AllByRecursion (λ input. length input ≤ file_limit) inputs
all-short files [] [] h = tt
all-short files [] (b ∷ inputs) h = absurd h
all-short files (n ∷ names) [] h = absurd h
all-short files (n ∷ names) (b ∷ inputs) h = (h.0.short, all-short files names inputs h.1)

pub as-many : (files : Files) (names inputs : List (List ℕ)) → AreToolInputs files names inputs → length inputs ≡ length names
as-many files [] [] h = refl
as-many files [] (b ∷ inputs) h = absurd h
as-many files (n ∷ names) [] h = absurd h
as-many files (n ∷ names) (b ∷ inputs) h = let same = as-many files names inputs h.1 in omega (arith, same)

-- files that are told are one list
pub told-inputs : (files : Files) (names one other : List (List ℕ)) → IsTrue files.tells → AreToolInputs files names one → AreToolInputs files names other → one ≡ other
told-inputs files [] [] [] tells h i = refl
told-inputs files [] [] (b ∷ other) tells h i = absurd i
told-inputs files [] (b ∷ one) other tells h i = absurd h
told-inputs files (n ∷ names) [] other tells h i = absurd h
told-inputs files (n ∷ names) (b ∷ one) [] tells h i = absurd i
told-inputs files (n ∷ names) (b ∷ one) (c ∷ other) tells h i =
    let rest : one ≡ other = told-inputs files names one other tells h.1 i.1 in
    let p = h.0.read tells in
    let q = i.0.read tells in
    let first : b ≡ c = cc in
    ap (λ x. x ∷ one) first ∙ ap (λ xs. c ∷ xs) rest

-- of files that are there none is the first that is not read
pub none-unread : (P : List ℕ → Type 0) (old : Files) (names inputs : List (List ℕ)) → AreToolInputs old names inputs
    → ((name bytes : List ℕ) → Holds old name bytes → length bytes ≤ file_limit → P name → ⊥) → FirstUnread old P names → ⊥
none-unread P old [] inputs i f h = h
none-unread P old (n ∷ names) [] i f h = i
none-unread P old (n ∷ names) (b ∷ inputs) i f (inl h) = f n b i.0.read i.0.short h
none-unread P old (n ∷ names) (b ∷ inputs) i f (inr h) = none-unread P old names inputs i.1 f h.1

-- ---- word by word

-- one word more
words-more : (names : List (String Global)) (i : ℕ) (d : String Global) → i < length names
    → words_of (take (i + 1) names) ≡ words_of (take i names) ++ string_bytes (get_or names i d) ∷ []
words-more names i d lt = ap words_of (take_more names i d lt) ∙ map-append (λ w. string_bytes w) (take i names) (get_or names i d ∷ [])

-- the words before one, and those behind it
words-around : (names : List (String Global)) (i : ℕ) (d : String Global) → i < length names
    → words_of (take i names) ++ string_bytes (get_or names i d) ∷ words_of (drop (i + 1) names) ≡ words_of names
words-around names i d lt =
    sym (append_assoc (words_of (take i names)) (string_bytes (get_or names i d) ∷ []) (words_of (drop (i + 1) names)))
    ∙ ap (λ xs. xs ++ words_of (drop (i + 1) names)) (sym (words-more names i d lt))
    ∙ sym (map-append (λ w. string_bytes w) (take (i + 1) names) (drop (i + 1) names))
    ∙ ap words_of (take-append-drop (i + 1) names)

-- the files of the first words are read, and no file has changed
pub record AreFetched (old mid : Files) (names : List (String Global)) (i : ℕ) (inputs : List (List ℕ)) : Type 0 where
  pub read : AreToolInputs old (words_of (take i names)) inputs
  pub kept : KeepsFiles old mid
  pub delivered : AreDelivered old mid (input_deliveries (words_of (take i names)) inputs)

-- one delivery more
delivered-more : (files : Files) (names inputs : List (List ℕ)) (name bytes : List ℕ) → AreToolInputs files names inputs
    → input_deliveries (names ++ name ∷ []) (inputs ++ bytes ∷ []) ≡ input_deliveries names inputs ++ (name, bytes) ∷ []
delivered-more files [] [] name bytes h = refl
delivered-more files [] (b ∷ inputs) name bytes h = absurd h
delivered-more files (n ∷ names) [] name bytes h = absurd h
delivered-more files (n ∷ names) (b ∷ inputs) name bytes h =
    ap (λ (xs : List (List ℕ × List ℕ)). (n, b) ∷ xs) (delivered-more files names inputs name bytes h.1)

delivers-more : (old mid new : Files) (ds : List (List ℕ × List ℕ)) (name bytes : List ℕ) → AreDelivered old mid ds → AreDelivered mid new ((name, bytes) ∷ [])
    → AreDelivered old new (ds ++ (name, bytes) ∷ [])
delivers-more old mid new ds name bytes h k =
    k ∙ ap (λ (xs : List (List ℕ × List ℕ)). xs ++ (name, bytes) ∷ []) h ∙ append_assoc old.reads ds ((name, bytes) ∷ [])

pub fetched-more : (old mid new : Files) (names : List (String Global)) (i : ℕ) (d : String Global) (inputs after : List (List ℕ)) (name bytes : List ℕ) → i < length names
    → AreFetched old mid names i inputs → name ≡ string_bytes (get_or names i d) → Holds mid name bytes → length bytes ≤ file_limit → KeepsFiles mid new
    → AreDelivered mid new ((name, bytes) ∷ []) → after ≡ inputs ++ bytes ∷ [] → AreFetched old new names (i + 1) after
fetched-more old mid new names i d inputs after name bytes lt before is holds short kept delivered e =
    let one : IsInput old (string_bytes (get_or names i d)) bytes =
    subst (λ n. IsInput old n bytes) is (input-kept old mid name bytes before.kept holds short) in
    record {
      read = subst (λ xs. AreToolInputs old xs after) (sym (words-more names i d lt))
          (subst (λ xs. AreToolInputs old (words_of (take i names) ++ string_bytes (get_or names i d) ∷ []) xs) (sym e)
          (more-inputs old (words_of (take i names)) inputs (string_bytes (get_or names i d)) bytes before.read one));
      kept = kept-both old mid new before.kept kept;
      delivered =
          let word = string_bytes (get_or names i d) in
          let words = words_of (take i names) in
          delivers-more old mid new (input_deliveries words inputs) word bytes before.delivered (subst (λ n. AreDelivered mid new ((n, bytes) ∷ [])) is delivered)
          ∙ ap (λ (xs : List (List ℕ × List ℕ)). old.reads ++ xs) (sym (delivered-more old words inputs word bytes before.read))
          ∙ ap (λ (xs : List (List ℕ)). old.reads ++ input_deliveries (words ++ word ∷ []) xs) (sym e)
          ∙ ap (λ (xs : List (List ℕ)). old.reads ++ input_deliveries xs after) (sym (words-more names i d lt));
    }

pub fetch-failed : (f : Failure) (old mid new : Files) (names : List (String Global)) (i : ℕ) (d : String Global) (inputs : List (List ℕ)) (name : List ℕ) → i < length names
    → AreFetched old mid names i inputs → name ≡ string_bytes (get_or names i d) → IsFetchFailure f mid new name → IsReadFailure f old new (words_of names)
fetch-failed f old mid new names i d inputs name lt before is h =
    fetch-ends f old mid new (words_of (take i names)) inputs (string_bytes (get_or names i d)) (words_of (drop (i + 1) names)) (words_of names) before.read before.kept
    (words-around names i d lt) (subst (λ n. IsFetchFailure f mid new n) is h)

-- ---- what was delivered before a failure

-- the next file was not read
pub fetched-front : (old mid new : Files) (names : List (String Global)) (i : ℕ) (inputs : List (List ℕ)) → AreFetched old mid names i inputs
    → new.reads ≡ mid.reads → AreFirstDelivered old new (words_of names)
fetched-front old mid new names i inputs before same =
    front-delivered old new (words_of (take i names)) (words_of (drop i names)) (words_of names) inputs (words-parted names i) before.read
    (same ∙ before.delivered)
  where
    words-parted : (names : List (String Global)) (i : ℕ) → words_of (take i names) ++ words_of (drop i names) ≡ words_of names
    words-parted names i =
        sym (map-append (λ w. string_bytes w) (take i names) (drop i names)) ∙ ap words_of (take-append-drop i names)

-- it was read, and there was no memory to keep it
pub fetched-one-more : (old mid new : Files) (names : List (String Global)) (i : ℕ) (d : String Global) (inputs : List (List ℕ)) (name bytes : List ℕ) → i < length names
    → AreFetched old mid names i inputs → name ≡ string_bytes (get_or names i d) → Holds mid name bytes → length bytes ≤ file_limit → KeepsFiles mid new
    → AreDelivered mid new ((name, bytes) ∷ []) → AreFirstDelivered old new (words_of names)
fetched-one-more old mid new names i d inputs name bytes lt before is holds short kept delivered =
    let more = fetched-more old mid new names i d inputs (inputs ++ bytes ∷ []) name bytes lt before is holds short kept delivered refl in
    fetched-front old new new names (i + 1) (inputs ++ bytes ∷ []) more refl
