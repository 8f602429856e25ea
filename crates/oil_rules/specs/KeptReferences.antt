-- Which references of a task are kept: enough to tell whether an event shares a bit with another one of all of them.
use Rattle.std.specs.Prelude.{◌≡◌, ℕ, Bool, true, not, ◌&&◌, ◌==◌, bit_and, List}
use Rattle.std.specs.Int.{bit_at}
use Rattle.std.specs.List.{list_any}
use Rattle.std.specs.Str.{bytes_eq}
use Rattle.sloth_base.specs.declared.config.EventDecl.{EventDecl}
use Rattle.oil_parse.specs.declared.tree.OilAttr.{OilAttr}
use Rattle.oil_table.specs.Events.{mask_named}
use Rattle.oil_rules.specs.References.{refers_to_clash}
use Rattle.oil_rules.specs.declared.references.Reference.{Reference}

-- a reference names this word
abbrev pub is_to : List ℕ → Reference → Bool
is_to word reference = bytes_eq reference.word.now word

-- the mask of a reference has this bit
abbrev pub has_bit : ℕ → Reference → Bool
has_bit bit reference = bit_at reference.mask bit == 1

-- a reference to another event that shares a bit with the mask
abbrev pub is_clash : List ℕ → ℕ → Reference → Bool
is_clash word mask reference = not (bit_and reference.mask mask == 0) && not (is_to word reference)

-- what is kept of the references among these attributes
pub record AreKept (events : List EventDecl) (attrs : List OilAttr) (kept : List Reference) (once twice : ℕ) : Type 0 where
  -- one that is kept has the mask of its event
  pub marked : (word : List ℕ) → list_any (is_to word) kept ≡ true
      → list_any (λ reference. is_to word reference && (reference.mask == mask_named events word)) kept ≡ true
  -- those that are kept tell the same as all
  pub same : (word : List ℕ) → list_any (is_clash word (mask_named events word)) kept ≡ list_any (refers_to_clash events word) attrs
  -- these bits are those of one that is kept
  pub held : (bit : ℕ) → bit_at once bit ≡ 1 → list_any (has_bit bit) kept ≡ true
  -- these bits are those of two events that are kept, so that, whatever the word, one of them is another event
  pub doubled : (word : List ℕ) (bit : ℕ) → bit_at twice bit ≡ 1 → list_any (λ reference. not (is_to word reference) && has_bit bit reference) kept ≡ true
