-- Both files, one read behind the other.
use Rattle.std.proofs.Common.{◌≤◌, ◌∙◌, inl, inr, ℕ, List, [], ◌∷◌, ◌++◌, sym, ap, subst, arith, append_assoc}
use Rattle.std.specs.Prelude.{IsTrue}
use Rattle.sloth_base.specs.Limits.{file_limit}
use Rattle.sloth_io.specs.Counts.{Rose}
use Rattle.sloth_io.specs.Store.{AreDelivered, Files, IsMissing, IsTooLong, KeepsFiles}
use Rattle.debug_command.specs.Inputs.{AreRead, AreUnread, IsFile, IsUnreadFile}
use Rattle.debug_command.specs.Words.{Debugging}
use Rattle.debug_command.specs.declared.command.Cause.{Cause}
use Rattle.debug_command.specs.declared.command.Cause.TheVariants as cause

rose-behind : (a b c : ℕ) → a ≤ b → Rose b c → Rose a c
rose-behind a b c le rose = omega (arith, le, rose)

missing-behind : (old mid new : Files) (name : List ℕ) → KeepsFiles old mid → IsMissing mid new name → IsMissing old new name
missing-behind old mid new name kept (inl h) =
    inl (rose-behind old.failed_reads mid.failed_reads new.failed_reads kept.failed_reads h.0, sym kept.sure ∙ h.1)
missing-behind old mid new name kept (inr h) = inr (subst (λ t. IsTrue t) kept.tells h.0, sym (kept.holds name) ∙ h.1)

long-behind : (old mid new : Files) (name : List ℕ) → KeepsFiles old mid → IsTooLong mid new name file_limit → IsTooLong old new name file_limit
long-behind old mid new name kept h = (
  rose-behind old.overlong_reads mid.overlong_reads new.overlong_reads kept.overlong_reads h.0,
  λ tells. let long = h.1 (subst (λ t. IsTrue t) (sym kept.tells) tells) in (long.0, sym (kept.holds name) ∙ long.1, long.2),
)

-- the first one was not read
pub unread_first : (why : Cause) (old mid : Files) (d : Debugging) → IsUnreadFile why old mid d.img → AreUnread why old mid d
unread_first cause.ReadFault old mid d h = inl h
unread_first cause.TooLong old mid d h = inl h
unread_first (cause.NotAnImage fault) old mid d h = absurd h
unread_first (cause.Refused refusal) old mid d h = absurd h
unread_first cause.NoMemory old mid d h = tt

-- the second one was not
pub unread_second : (why : Cause) (old mid new : Files) (d : Debugging) (img : List ℕ) → IsFile old d.img img → KeepsFiles old mid → IsUnreadFile why mid new d.arr
    → AreUnread why old new d
unread_second cause.ReadFault old mid new d img is kept h = inr (img, is, missing-behind old mid new d.arr kept h)
unread_second cause.TooLong old mid new d img is kept h = inr (img, is, long-behind old mid new d.arr kept h)
unread_second (cause.NotAnImage fault) old mid new d img is kept h = absurd h
unread_second (cause.Refused refusal) old mid new d img is kept h = absurd h
unread_second cause.NoMemory old mid new d img is kept h = tt

-- both were
pub both_read : (old mid new : Files) (d : Debugging) (img arr : List ℕ) → IsFile old d.img img → KeepsFiles old mid → AreDelivered old mid ((d.img, img) ∷ [])
    → IsFile mid d.arr arr → AreDelivered mid new ((d.arr, arr) ∷ []) → AreRead old new d img arr
both_read old mid new d img arr first kept one second two = record {
  image_file = first;
  arrivals_file = record {
    holds = λ tells. sym (kept.holds d.arr) ∙ second.holds (subst (λ t. IsTrue t) (sym kept.tells) tells);
    short = second.short;
  };
  delivered = two ∙ ap (λ (xs : List (List ℕ × List ℕ)). xs ++ (d.arr, arr) ∷ []) one ∙ append_assoc old.reads ((d.img, img) ∷ []) ((d.arr, arr) ∷ []);
}
