-- Positions that a walk of a task leads to.
use Rattle.std.proofs.Common.{ℕ, List, [], ◌∷◌, ◌++◌, refl, sym, subst}
use Rattle.std.proofs.lemmas.List.{append_assoc}
use Rattle.sloth_base.specs.declared.app.App.{App}
use Rattle.osek_blocking.specs.Walks.{Position, first_position, IsPositionStep, AreConsecutive, IsWalk}

-- a walk of task t leads to this position
pub record IsReached (app : App) (t : ℕ) (at : Position) : Type 0 where
  pub before : List Position
  pub walk : IsWalk app t (before ++ at ∷ [])

module _ (app : App) where
  consecutive : (before further : List Position) (at : Position) → AreConsecutive app (before ++ at ∷ []) → AreConsecutive app (at ∷ further)
      → AreConsecutive app (before ++ at ∷ further)
  consecutive [] further at h k = k
  consecutive (x ∷ []) further at h k = (h.0, k)
  consecutive (x ∷ y ∷ before) further at h k = (h.0, consecutive (y ∷ before) further at h.1 k)

  -- the walk to a position, and on from it
  pub walk_on : (t : ℕ) (before further : List Position) (at : Position) → IsWalk app t (before ++ at ∷ []) → AreConsecutive app (at ∷ further)
      → IsWalk app t (before ++ at ∷ further)
  walk_on t [] further at h k = (h.0, k)
  walk_on t (x ∷ before) further at h k = (h.0, consecutive (x ∷ before) further at h.1 k)

  pub reached_next : (t : ℕ) (at next : Position) → IsReached app t at → IsPositionStep app at next → IsReached app t next
  reached_next t at next r step = record {
    before = r.before ++ at ∷ [];
    walk = subst (IsWalk app t) (sym (append_assoc r.before (at ∷ []) (next ∷ [])))
        (walk_on t r.before (next ∷ []) at r.walk (step, (tt, tt)));
  }

  pub reached_first : (t : ℕ) → IsReached app t (first_position app t)
  reached_first t = record { before = []; walk = (refl, (tt, tt)) }
