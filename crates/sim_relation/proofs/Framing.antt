-- What a task's position and its frames say stands as long as its bytes stay.
use Rattle.std.proofs.Common.{◌≡◌, ℕ, ◌+◌, ◌*◌, ◌≤◌, List, [], ◌∷◌, length, refl, sym, ◌∙◌, subst, arith, ⊎_elim, inl, inr, Bool}
use Rattle.std.specs.Prelude.{◌⊎◌}
use Rattle.sloth_base.specs.declared.app.Op.{Op}
use Rattle.sloth_base.specs.declared.app.Op.TheVariants as op
use Rattle.rv32_instr.specs.Ram.{word_at}
use Rattle.masked_code.proofs.Words.{word_at-agree}
use Rattle.rv32_expand.specs.Expansion.{item_address}
use Rattle.sloth_base.specs.Named.{operation, function}
use Rattle.osek_scheduler.specs.State.{Frame, Task}
use Rattle.sim_relation.specs.Build.{Build}
use Rattle.sim_relation.specs.Position.{Thread, AreWords, AreOuterFrames, AreFrames, HasIndexed, HasFarIndexed, HasAddress, HasTarget, HasScratch, InExpansion, AtBlock, IsStanding, IsOwing, IsCalling, IsReturning, IsPosition}
use Rattle.sim_relation.specs.Framing.{AreSameBytes}
use Rattle.sim_relation.proofs.Alike.{SamePlace}

-- a word is the same where the bytes around it are
pub word_kept : (old new : List ℕ) (from to place : ℕ) → AreSameBytes old new from to → from ≤ place → place + 4 ≤ to → word_at new place ≡ word_at old place
word_kept old new from to place a l h = word_at-agree new old place (λ i x y. a i (omega arith) (omega arith))

-- so are words one behind the other
pub words_kept : (old new : List ℕ) (from to : ℕ) → AreSameBytes old new from to → (words : List ℕ) (place : ℕ) → from ≤ place → place + 4 * length words ≤ to
    → AreWords old place words → AreWords new place words
words_kept old new from to a [] place l h w = tt
words_kept old new from to a (x ∷ words) place l h w = (
  word_kept old new from to place a l (omega arith) ∙ w.0,
  words_kept old new from to a words (place + 4) (omega arith) (omega arith) w.1,
)

-- the frames of callers lie below the top
pub outer_below : (b : Build) (ram : List ℕ) (outer : List Frame) (place top : ℕ) → AreOuterFrames b ram outer place top → place ≤ top
outer_below b ram [] place top h = omega arith
outer_below b ram (frame ∷ outer) place top h =
    let below = outer_below b ram outer (place + 4 + 4 * length frame.words) top h.3 in omega arith

-- they stand where their bytes are the same
pub outer_kept : (b : Build) (old new : List ℕ) (from top : ℕ) → AreSameBytes old new from top → (outer : List Frame) (place : ℕ) → from ≤ place
    → AreOuterFrames b old outer place top → AreOuterFrames b new outer place top
outer_kept b old new from top a [] place l h = h
outer_kept b old new from top a (frame ∷ outer) place l h =
    let below = outer_below b old outer (place + 4 + 4 * length frame.words) top h.3 in (
      word_kept old new from top place a l (omega arith) ∙ h.0,
      h.1,
      words_kept old new from top a frame.words (place + 4) (omega arith) (omega arith) h.2,
      outer_kept b old new from top a outer (place + 4 + 4 * length frame.words) (omega arith) h.3,
    )

-- so do all frames of a task
pub frames_kept : (b : Build) (old new : List ℕ) (from top : ℕ) → AreSameBytes old new from top → (frame : Frame) (outer : List Frame) (place : ℕ) → from ≤ place
    → AreFrames b old frame outer place top → AreFrames b new frame outer place top
frames_kept b old new from top a frame outer place l h =
    let below = outer_below b old outer (place + 4 * length frame.words) top h.2 in
    (h.0, words_kept old new from top a frame.words place l (omega arith) h.1, outer_kept b old new from top a outer (place + 4 * length frame.words) (omega arith) h.2)

-- all frames of a task lie below the top
pub frames_below : (b : Build) (ram : List ℕ) (frame : Frame) (outer : List Frame) (place top : ℕ) → AreFrames b ram frame outer place top → place ≤ top
frames_below b ram frame outer place top h = let below = outer_below b ram outer (place + 4 * length frame.words) top h.2 in omega arith

-- ---- what x30 and x31 hold

module _ (old new : Thread) (e : SamePlace old new) where
  indexed_same : (address masked done : ℕ) → HasIndexed address masked done old → HasIndexed address masked done new
  indexed_same address masked done h = record {
    index = λ x y. e.x31 ∙ h.index x y;
    upper = λ x. e.x30 ∙ h.upper x;
    sum = λ x. e.x31 ∙ h.sum x;
  }

  far_same : (mask address masked done : ℕ) → HasFarIndexed mask address masked done old → HasFarIndexed mask address masked done new
  far_same mask address masked done h = record {
    upper_mask = λ x. e.x30 ∙ h.upper_mask x;
    whole_mask = λ x y. e.x30 ∙ h.whole_mask x y;
    index = λ x y. e.x31 ∙ h.index x y;
    upper = λ x. e.x30 ∙ h.upper x;
    sum = λ x. e.x31 ∙ h.sum x;
  }

  address_same : (mask address masked done : ℕ) → HasAddress mask address masked done old → HasAddress mask address masked done new
  address_same mask address masked done h = (λ l. indexed_same address masked done (h.0 l), λ l. far_same mask address masked done (h.1 l))

  target_same : (holds : Bool) (next target done : ℕ) → HasTarget holds next target done old → HasTarget holds next target done new
  target_same holds next target done h = record {
    upper_next = λ x. e.x31 ∙ h.upper_next x;
    next_one = λ x y. e.x31 ∙ h.next_one x y;
    taken = h.taken;
    upper_target = λ x. e.x31 ∙ h.upper_target x;
    chosen = λ x. e.x31 ∙ h.chosen x;
  }

  scratch_same : (b : Build) (x : List ℕ) (frame : Frame) (i : Op) (done : ℕ) → HasScratch b x frame i done old → HasScratch b x frame i done new
  scratch_same b x frame (op.Li rd value) done h = λ l. e.x31 ∙ h l
  scratch_same b x frame (op.Load width rd symbol offset) done h = λ l. e.x31 ∙ h l
  scratch_same b x frame (op.Store width rs symbol offset) done h = λ l. e.x31 ∙ h l
  scratch_same b x frame (op.LoadAt width rd symbol index mask) done h = address_same mask _ _ done h
  scratch_same b x frame (op.StoreAt width rs symbol index mask) done h = address_same mask _ _ done h
  scratch_same b x frame (op.Branch kind rs1 rs2 label) done h = target_same _ _ _ done h
  scratch_same b x frame (op.Serve call) done h = record { upper = λ l. e.x30 ∙ h.upper l; whole = λ l. e.x30 ∙ h.whole l }
  scratch_same b x frame (op.Alu kind rd rs1 rs2) done h = h
  scratch_same b x frame (op.AluImm kind rd rs1 number) done h = h
  scratch_same b x frame (op.Lui rd number) done h = h
  scratch_same b x frame (op.FrameLoad rd word) done h = h
  scratch_same b x frame (op.FrameStore rs word) done h = h
  scratch_same b x frame (op.Jump label) done h = h
  scratch_same b x frame (op.Invoke callee) done h = h
  scratch_same b x frame op.Return done h = h

  expansion_same : (b : Build) (own : Task) (frame : Frame) → InExpansion b own frame old → InExpansion b own frame new
  expansion_same b own frame h = record {
    done = h.done;
    within = h.within;
    pc = e.pc ∙ h.pc;
    scratch = scratch_same b own.registers frame (operation b.app frame.func frame.item) h.done h.scratch;
  }

  block_same : (b : Build) (frame : Frame) → AtBlock b frame old → AtBlock b frame new
  block_same b frame h = record { call = h.call; is = h.is; pc = e.pc ∙ h.pc; returns = e.x31 ∙ h.returns; mask = λ l. e.x30 ∙ h.mask l }

-- ---- positions

-- how a position is by cases
pub position_elim : (b : Build) (ram : List ℕ) (t : ℕ) (own : Task) (frame : Frame) (outer : List Frame) (th : Thread) (place : ℕ) (P : Type 0)
    → (IsStanding b ram (b.top t) own frame outer th place → P) → (IsOwing b ram t own frame outer th place → P)
    → (IsCalling b ram (b.top t) own frame outer th place → P) → (IsReturning b ram (b.top t) own frame outer th place → P)
    → IsStanding b ram (b.top t) own frame outer th place
    ⊎ (IsOwing b ram t own frame outer th place
    ⊎ (IsCalling b ram (b.top t) own frame outer th place ⊎ IsReturning b ram (b.top t) own frame outer th place)) → P
position_elim b ram t own frame outer th place P f g h k (inl x) = f x
position_elim b ram t own frame outer th place P f g h k (inr (inl x)) = g x
position_elim b ram t own frame outer th place P f g h k (inr (inr (inl x))) = h x
position_elim b ram t own frame outer th place P f g h k (inr (inr (inr x))) = k x

module _ (b : Build) (ram new : List ℕ) (t : ℕ) (own : Task) (old now : Thread) (place : ℕ) (e : SamePlace old now) (g : AreSameBytes ram new place (b.top t)) where
  abbrev top : ℕ
  top = b.top t

  standing_kept : (frame : Frame) (outer : List Frame) → IsStanding b ram top own frame outer old place → IsStanding b new top own frame outer now place
  standing_kept frame outer p = record {
    free = p.free;
    frames = frames_kept b ram new place top g frame outer place (omega arith) p.frames;
    here = ⊎_elim (λ (h : InExpansion b own frame old). inl (expansion_same old now e b own frame h)) (λ (h : AtBlock b frame old). inr (block_same old now e b frame h)) p.here;
  }

  owing_kept : (frame : Frame) (outer : List Frame) → IsOwing b ram t own frame outer old place → IsOwing b new t own frame outer now place
  owing_kept frame outer p = record {
    owes = p.owes;
    frames = frames_kept b ram new place top g frame outer place (omega arith) p.frames;
    pc = e.pc ∙ p.pc;
    returns = e.x31 ∙ p.returns;
    level = e.x30 ∙ p.level;
  }

  calling_kept : (frame : Frame) (outer : List Frame) → IsCalling b ram top own frame outer old place → IsCalling b new top own frame outer now place
  calling_kept frame outer p =
      let w = (function b.app p.callee).frame_words in
      let l = frames_below b ram frame outer (place + 4 + 4 * w) top p.frames in
      record {
        free = p.free;
        callee = p.callee;
        is = p.is;
        done = p.done;
        some = p.some;
        within = p.within;
        pc = e.pc ∙ p.pc;
        frames = frames_kept b ram new place top g frame outer (place + 4 + 4 * w) (omega arith) p.frames;
        zeros = λ i x y. word_kept ram new place top (place + 4 * i) g (omega arith) (omega arith) ∙ p.zeros i x y;
        linked = λ h. e.x31 ∙ p.linked h;
        stored = λ h. word_kept ram new place top (place + 4 * w) g (omega arith) (omega arith) ∙ p.stored h;
      }

  returning_kept : (frame : Frame) (outer : List Frame) → IsReturning b ram top own frame outer old place → IsReturning b new top own frame outer now place
  returning_kept frame outer p = record {
    free = p.free;
    is = p.is;
    caller = p.caller;
    rest = p.rest;
    called_by = p.called_by;
    linked = e.x31 ∙ p.linked;
    here = ⊎_elim
        (λ (h : (old.pc ≡ item_address b.places frame.func frame.item + 4) × AreFrames b ram frame outer place top).
        inl (e.pc ∙ h.0, frames_kept b ram new place top g frame outer place (omega arith) h.1))
        (λ (h : (old.pc ≡ item_address b.places frame.func frame.item + 8) × AreFrames b ram p.caller p.rest place top).
        inr (e.pc ∙ h.0, frames_kept b ram new place top g p.caller p.rest place (omega arith) h.1))
        p.here;
  }

  -- a task's position stands where its bytes, its thread and what its record says of it are the same
  pub position_kept : IsPosition b ram t own old place → IsPosition b new t own now place
  position_kept p = record {
    frame = p.frame;
    outer = p.outer;
    frames = p.frames;
    inside = p.inside;
    here = position_elim b ram t own p.frame p.outer old place _
        (λ h. inl (standing_kept p.frame p.outer h))
        (λ h. inr (inl (owing_kept p.frame p.outer h)))
        (λ h. inr (inr (inl (calling_kept p.frame p.outer h))))
        (λ h. inr (inr (inr (returning_kept p.frame p.outer h))))
        p.here;
  }

-- x2 stands at most at the top
pub position_below : (b : Build) (ram : List ℕ) (t : ℕ) (own : Task) (th : Thread) (place : ℕ) → IsPosition b ram t own th place → place ≤ b.top t
position_below b ram t own th place p =
    position_elim b ram t own p.frame p.outer th place (place ≤ b.top t)
    (λ h. frames_below b ram p.frame p.outer place (b.top t) h.frames)
    (λ h. frames_below b ram p.frame p.outer place (b.top t) h.frames)
    (λ h. let l = frames_below b ram p.frame p.outer (place + 4 + 4 * (function b.app h.callee).frame_words) (b.top t) h.frames in omega arith)
    (λ h. ⊎_elim
    (λ (w : (th.pc ≡ item_address b.places p.frame.func p.frame.item + 4) × AreFrames b ram p.frame p.outer place (b.top t)).
    frames_below b ram p.frame p.outer place (b.top t) w.1)
    (λ (w : (th.pc ≡ item_address b.places p.frame.func p.frame.item + 8) × AreFrames b ram h.caller h.rest place (b.top t)).
    frames_below b ram h.caller h.rest place (b.top t) w.1)
    h.here)
    p.here

-- a position speaks of the task's registers, frames and debt alone
pub position_task : (b : Build) (ram : List ℕ) (t : ℕ) (own new : Task) (th : Thread) (place : ℕ)
    → new.registers ≡ own.registers → new.frames ≡ own.frames → new.owed ≡ own.owed → IsPosition b ram t own th place → IsPosition b ram t new th place
position_task b ram t own new th place r e w p = record {
  frame = p.frame;
  outer = p.outer;
  frames = e ∙ p.frames;
  inside = p.inside;
  here = position_elim b ram t own p.frame p.outer th place _
      (λ h. inl (record {
        free = w ∙ h.free;
        frames = h.frames;
        here = ⊎_elim
            (λ (x : InExpansion b own p.frame th). inl (record {
              done = x.done;
              within = x.within;
              pc = x.pc;
              scratch = subst (λ v. HasScratch b v p.frame (operation b.app p.frame.func p.frame.item) x.done th) (sym r) x.scratch;
            }))
            (λ (x : AtBlock b p.frame th). inr x)
            h.here;
      }))
      (λ h. inr (inl (record { owes = w ∙ h.owes; frames = h.frames; pc = h.pc; returns = h.returns; level = h.level })))
      (λ h. inr (inr (inl (record {
        free = w ∙ h.free;
        callee = h.callee;
        is = h.is;
        done = h.done;
        some = h.some;
        within = h.within;
        pc = h.pc;
        frames = h.frames;
        zeros = h.zeros;
        linked = h.linked;
        stored = h.stored;
      }))))
      (λ h. inr (inr (inr (record {
        free = w ∙ h.free;
        is = h.is;
        caller = h.caller;
        rest = h.rest;
        called_by = h.called_by;
        linked = h.linked;
        here = h.here;
      }))))
      p.here;
}

address_first : (mask address masked : ℕ) (th : Thread) → HasAddress mask address masked 0 th
address_first mask address masked th = (
  λ m. record { index = λ l h. absurd (omega arith); upper = λ l. absurd (omega arith); sum = λ l. absurd (omega arith) },
  λ m. record {
    upper_mask = λ l. absurd (omega arith);
    whole_mask = λ l h. absurd (omega arith);
    index = λ l h. absurd (omega arith);
    upper = λ l. absurd (omega arith);
    sum = λ l. absurd (omega arith);
  },
)

-- at the first instruction of an item nothing is said of x30 and x31
pub scratch_first : (b : Build) (x : List ℕ) (frame : Frame) (i : Op) (th : Thread) → HasScratch b x frame i 0 th
scratch_first b x frame (op.Li rd value) th = λ l. absurd (omega arith)
scratch_first b x frame (op.Load width rd symbol offset) th = λ l. absurd (omega arith)
scratch_first b x frame (op.Store width rs symbol offset) th = λ l. absurd (omega arith)
scratch_first b x frame (op.LoadAt width rd symbol index mask) th = address_first mask _ _ th
scratch_first b x frame (op.StoreAt width rs symbol index mask) th = address_first mask _ _ th
scratch_first b x frame (op.Branch kind rs1 rs2 label) th = record {
  upper_next = λ l. absurd (omega arith);
  next_one = λ l h. absurd (omega arith);
  taken = λ l h. absurd (omega arith);
  upper_target = λ l. absurd (omega arith);
  chosen = λ l. absurd (omega arith);
}
scratch_first b x frame (op.Serve call) th = record { upper = λ l. absurd (omega arith); whole = λ l. absurd (omega arith) }
scratch_first b x frame (op.Alu kind rd rs1 rs2) th = refl
scratch_first b x frame (op.AluImm kind rd rs1 number) th = refl
scratch_first b x frame (op.Lui rd number) th = refl
scratch_first b x frame (op.FrameLoad rd word) th = refl
scratch_first b x frame (op.FrameStore rs word) th = refl
scratch_first b x frame (op.Jump label) th = refl
scratch_first b x frame (op.Invoke callee) th = refl
scratch_first b x frame op.Return th = refl
