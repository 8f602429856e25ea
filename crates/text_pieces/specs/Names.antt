-- The numbers of names: names are numbered in the order of the text, and a name has the number of the first that is equal to it.
use Rattle.std.specs.Prelude.{◌≡◌, ℕ, if◌then◌else◌, List, position, Option, Some, is_some}
use Rattle.std.specs.Borrow.{Bor}
use Rattle.std.specs.Str.{bytes_eq}
use Rattle.indexmap.specs.IndexMap.{IndexMap, get_by}

-- what a reference points to
abbrev pub referent : Bor (List ℕ) → List ℕ
referent r = r.now

-- the number that a map has for a name
abbrev pub number_in : {S : Type 0} → IndexMap (Bor (List ℕ)) ℕ S → List ℕ → Option ℕ
number_in numbers word = get_by (λ name. bytes_eq word name.now) numbers

-- the same numbers, and one for a name that had none
abbrev pub with_first : (List ℕ → Option ℕ) → List ℕ → ℕ → List ℕ → Option ℕ
with_first numbers name number word = if is_some (numbers word) then numbers word else if bytes_eq word name then Some number else numbers word

-- each of these names has the number of its first place among them
abbrev pub AreNumbered : {S : Type 0} → IndexMap (Bor (List ℕ)) ℕ S → List (List ℕ) → Type 0
AreNumbered numbers names = (word : List ℕ) → number_in numbers word ≡ position (bytes_eq word) names
