-- Words of the members of a set.
use Rattle.std.proofs.Common.{◌≡◌, ℕ, ◌+◌, List, [], ◌++◌, cond, ap}
use Rattle.std.proofs.Math.Numerals.{add-one}
use Rattle.call_graph.specs.Bits.{is_member}
use Rattle.shares_text.specs.SharesText.{words_below}

-- one number more
pub words_more : (word : ℕ → List ℕ) (set n : ℕ) → words_below word set (n + 1) ≡ words_below word set n ++ cond (is_member set n) (word n) []
words_more word set n = ap (words_below word set) (add-one n)
