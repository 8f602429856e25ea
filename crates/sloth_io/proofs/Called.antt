-- Calls of the system, one behind the other.
use Rattle.std.proofs.Common.{◌≡◌, ◌≢◌, ◌∙◌, ◌+◌, ℕ, List, [], ◌∷◌, ◌++◌, length, Option, Some, None, Bool, true, false, refl, sym, ap, subst, append_assoc, append-nil, length-append, arith}
use Rattle.std.specs.Prelude.{◌&&◌, ◌||◌, not, codes, if◌then◌else◌}
use Rattle.std.specs.List.{list_all}
use Rattle.std.specs.Str.{bytes_eq}
use Rattle.std.proofs.lemmas.Bool.{true≢false}
use Rattle.std.proofs.lemmas.Slice.Eq.{bytes_eq-Decides}
use Rattle.sloth_io.specs.declared.replaced_files.Found.{Found}
use Rattle.sloth_io.specs.Replaced.{mode_calls, is_written_there, may_follow, owner_calls, tried_calls, calls_beside, calls_there, replacing_calls, IsReplaced, IsUnreplaced}
use Rattle.std.specs.Io.KnownBytes.{Appends}
use Rattle.sloth_io.specs.System.{Call, Looked, Followed, Opened, Tried, Made, Emptied, Moded, Synced, Closed, Renamed, Removed, FolderSynced, added, leaves_file, leaves_files, LeavesFile, LeavesFiles}

pub added-added : (calls : Option (List Call)) (one other : List Call) → added (added calls one) other ≡ added calls (one ++ other)
added-added None one other = refl
added-added (Some xs) one other = ap (λ x. Some x) (append_assoc xs one other)

pub added-nil : (calls : Option (List Call)) → added calls [] ≡ calls
added-nil None = refl
added-nil (Some xs) = ap (λ x. Some x) (append-nil xs)

-- calls, and then further ones
pub then-calls : (old mid new : Option (List Call)) (one other : List Call) → mid ≡ added old one → new ≡ added mid other → new ≡ added old (one ++ other)
then-calls old mid new one other h k = k ∙ ap (λ c. added c other) h ∙ added-added old one other

and-parts : (a b : Bool) → (a && b) ≡ true → (a ≡ true) × (b ≡ true)
and-parts true b h = (refl, h)
and-parts false b h = cc

and-both : (a b : Bool) → a ≡ true → b ≡ true → (a && b) ≡ true
and-both true b h k = k
and-both false b h k = cc

all-append : (p : Call → Bool) (xs ys : List Call) → list_all p xs ≡ true → list_all p ys ≡ true → list_all p (xs ++ ys) ≡ true
all-append p [] ys h k = k
all-append p (x ∷ xs) ys h k =
    let t = and-parts (p x) (list_all p xs) h in
    and-both (p x) (list_all p (xs ++ ys)) t.0 (all-append p xs ys t.1 k)

all-weaker : (p q : Call → Bool) → ((c : Call) → p c ≡ true → q c ≡ true) → (xs : List Call) → list_all p xs ≡ true → list_all q xs ≡ true
all-weaker p q f [] h = refl
all-weaker p q f (x ∷ xs) h =
    let t = and-parts (p x) (list_all p xs) h in
    and-both (q x) (list_all q xs) (f x t.0) (all-weaker p q f xs t.1)

-- a call that leaves each file leaves this one
one-left : (name : List ℕ) (c : Call) → leaves_files c ≡ true → leaves_file name c ≡ true
one-left name (Looked _ _) h = refl
one-left name (Followed _ _) h = refl
one-left name (Opened _ _) h = refl
one-left name (Tried _ _) h = refl
one-left name (Made _ _ _) h = refl
one-left name (Emptied _ _) h = cc
one-left name (Moded _ _) h = refl
one-left name (Synced _) h = refl
one-left name (Closed _) h = refl
one-left name (Renamed _ _ _) h = cc
one-left name (Removed _ _) h = cc
one-left name (FolderSynced _) h = refl

-- ---- what is left as it is

pub leaves-none : (old : Option (List Call)) → LeavesFiles old old
leaves-none old = ([], sym (added-nil old), refl)

pub leaves-one : (old new : Option (List Call)) (call : Call) → new ≡ added old (call ∷ []) → leaves_files call ≡ true → LeavesFiles old new
leaves-one old new call h e = (call ∷ [], h, ap (λ b. b && true) e)

pub leaves-closed : (old new : Option (List Call)) (bytes : Option (List ℕ)) → new ≡ added old (Closed bytes ∷ []) → LeavesFiles old new
leaves-closed old new bytes h = (Closed bytes ∷ [], h, refl)

pub leaves-made : (old new : Option (List Call)) (name : List ℕ) (mode : ℕ) (file : Option (Option (List ℕ))) → new ≡ added old (Made name mode file ∷ [])
    → LeavesFiles old new
leaves-made old new name mode file h = (Made name mode file ∷ [], h, refl)

pub leaves-then : (old mid new : Option (List Call)) → LeavesFiles old mid → LeavesFiles mid new → LeavesFiles old new
leaves-then old mid new h k =
    (h.0 ++ k.0, then-calls old mid new h.0 k.0 h.1 k.1, all-append leaves_files h.0 k.0 h.2 k.2)

pub leaves-mode : (old new : Option (List Call)) (found : Option Found) (done : Bool) → new ≡ added old (mode_calls found done) → LeavesFiles old new
leaves-mode old new None done h = ([], h, refl)
leaves-mode old new (Some found) done h = (mode_calls (Some found) done, h, refl)

pub leaves-this : (name : List ℕ) (old new : Option (List Call)) → LeavesFiles old new → LeavesFile name old new
leaves-this name old new h = (h.0, h.1, all-weaker leaves_files (leaves_file name) (one-left name) h.0 h.2)

pub leaves-this-then : (name : List ℕ) (old mid new : Option (List Call)) → LeavesFile name old mid → LeavesFile name mid new → LeavesFile name old new
leaves-this-then name old mid new h k =
    (h.0 ++ k.0, then-calls old mid new h.0 k.0 h.1 k.1, all-append (leaves_file name) h.0 k.0 h.2 k.2)

-- names that differ are not equal by the test
differ : (b : Bool) (x y : List ℕ) → bytes_eq x y ≡ b → x ≢ y → b ≡ false
differ true x y e n = absurd (n ((bytes_eq-Decides x y).0 e))
differ false x y e n = refl

-- another file was removed
pub leaves-removed : (name other : List ℕ) (old new : Option (List Call)) (done : Bool) → other ≢ name → new ≡ added old (Removed other done ∷ [])
    → LeavesFile name old new
leaves-removed name other old new done apart h =
    (Removed other done ∷ [], h, ap (λ b. not b && true) (differ (bytes_eq other name) other name refl apart))

-- a rename that was not done
pub leaves-unrenamed : (name from : List ℕ) (old new : Option (List Call)) (done : Bool) → done ≡ false → new ≡ added old (Renamed from name done ∷ [])
    → LeavesFile name old new
leaves-unrenamed name from old new done not_done h =
    (Renamed from name done ∷ [], h, ap (λ b. not (b && (bytes_eq from name || bytes_eq name name)) && true) not_done)

-- a longer name is another one
pub longer-name : (name : List ℕ) → name ++ codes ".new" ≢ name
longer-name name is =
    let size : length (name ++ codes ".new") ≡ length name + 4 = length-append name (codes ".new") in
    let same : length (name ++ codes ".new") ≡ length name = ap length is in
    omega (arith, size, same)

-- ---- replacements

pub replaced-there : (old mid new : Option (List Call)) (found own : Option Found) (name bytes : List ℕ) (from to : Option (List ℕ)) → is_written_there found ≡ true
    → mid ≡ added old (Looked name found ∷ []) → new ≡ added mid (owner_calls found own ++ calls_there name from to) → Appends from to bytes
    → may_follow found own ≡ true → IsReplaced old new name bytes
replaced-there old mid new found own name bytes from to is looked called given may =
    let there : List Call = owner_calls found own ++ calls_there name from to in
    let beside : List Call = tried_calls name found ++ calls_beside found name (name ++ codes ".new") from to in
    let all : replacing_calls found own name from to ≡ Looked name found ∷ there = ap (λ (b : Bool). Looked name found ∷ (if b then there else beside)) is in
    (found, own, from, to, given, then-calls old mid new (Looked name found ∷ []) there looked called ∙ ap (added old) (sym all), λ _. may)

pub replaced-beside : (old mid near new : Option (List Call)) (found : Option Found) (name other bytes : List ℕ) (from to : Option (List ℕ)) → is_written_there found ≡ false
    → mid ≡ added old (Looked name found ∷ []) → near ≡ added mid (tried_calls name found) → other ≡ name ++ codes ".new"
    → new ≡ added near (calls_beside found name other from to) → Appends from to bytes → IsReplaced old new name bytes
replaced-beside old mid near new found name other bytes from to is looked tried named called given =
    let there : List Call = owner_calls found None ++ calls_there name from to in
    let beside : List Call = tried_calls name found ++ calls_beside found name (name ++ codes ".new") from to in
    let all : replacing_calls found None name from to ≡ Looked name found ∷ beside = ap (λ (b : Bool). Looked name found ∷ (if b then there else beside)) is in
    let put : new ≡ added near (calls_beside found name (name ++ codes ".new") from to) =
    called ∙ ap (λ (text : List ℕ). added near (calls_beside found name text from to)) named in
    let behind : new ≡ added mid beside = then-calls mid near new (tried_calls name found) _ tried put in
    (found, None, from, to, given, then-calls old mid new (Looked name found ∷ []) beside looked behind ∙ ap (added old) (sym all), λ other. absurd (true≢false (sym other ∙ is)))

pub unreplaced-there : (old mid new : Option (List Call)) (found : Option Found) (name : List ℕ) → is_written_there found ≡ true
    → mid ≡ added old (Looked name found ∷ []) → ((further : List Call) × (new ≡ added mid further)) → IsUnreplaced old new name
unreplaced-there old mid new found name is looked h =
    (found, h.0, then-calls old mid new (Looked name found ∷ []) h.0 looked h.1, λ other. absurd (true≢false (sym is ∙ other)))

pub unreplaced : (old mid new : Option (List Call)) (found : Option Found) (name : List ℕ) → mid ≡ added old (Looked name found ∷ [])
    → LeavesFile name mid new → IsUnreplaced old new name
unreplaced old mid new found name looked h = (found, h.0, then-calls old mid new (Looked name found ∷ []) h.0 looked h.1, λ _. h.2)
