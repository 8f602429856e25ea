-- The state of the machine: an RV32I hart with machine CSRs, 2 MiB of RAM and an interrupt controller of 32 lines.
use Rattle.std.specs.Prelude.{ℕ, List, Bool}

-- all but pc
pub record Core : Type 0 where
  -- the 32 words x0 to x31; x0 is 0
  pub registers : List ℕ
  -- mstatus: bit 3 and bit 7
  pub mie : Bool
  pub mpie : Bool
  pub mscratch : ℕ
  pub mepc : ℕ
  -- the running level, and the one that MRET goes back to
  pub ilevel : ℕ
  pub plevel : ℕ
  -- the bytes from the base of memory on
  pub ram : List ℕ
  -- the controller's 32 bytes of each kind, and whether it is there
  pub pending : List ℕ
  pub enabled : List ℕ
  pub levels : List ℕ
  pub controller : Bool

-- the machine: where it is, and all else
pub record State : Type 0 where
  pub pc : ℕ
  pub core : Core
