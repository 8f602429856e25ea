-- The codes of CancelAlarm and GetAlarm have their effects.
use Rattle.std.proofs.Common.{◌≡◌, ℕ, ◌+◌, List, ◌∷◌, ◌++◌, refl, arith, inl, inr, ⊎_elim}
use Rattle.std.specs.Prelude.{◌≢◌}
use Rattle.std.proofs.lemmas.Bool.{cases_eq, eq-eqb, ne_eqb}
use Rattle.sloth_base.specs.Machine.{Core}
use Rattle.sloth_base.specs.Status.{E_OK, E_OS_NOFUNC}
use Rattle.sloth_region.specs.Layout.{alarm_left}
use Rattle.rv32_instr.specs.declared.InstrKind.{InstrKind}
use Rattle.rv32_instr.specs.Ram.{with_word}
use Rattle.masked_code.specs.Place.{offset_state}
use Rattle.masked_code.specs.Masked.{FromOpening}
use Rattle.masked_code.specs.Kernel.{masking}
use Rattle.masked_code.proofs.Owes.{◌▸◌, writes, loads, stores, Owes}
use Rattle.masked_code.proofs.Spread.{based}
use Rattle.masked_code.proofs.Routines.{masked}
use Rattle.masked_code.proofs.Leave.{behind}
use Rattle.block_parts.proofs.Landing.{lands}
use Rattle.block_parts.proofs.Returning.{goes_back, goes_back_with}
use Rattle.block_parts.proofs.Serving.{opens}
use Rattle.block_parts.specs.Pieces.{back_code}
use Rattle.service_gen.specs.ServicePieces.{used_alarm_test, cancelling_code, telling_code}
use Rattle.service_gen.specs.CancelAlarm.{MayUse, left_ticks, CancelAlarmEffect, IsCancelAlarmCode}
use Rattle.service_gen.specs.GetAlarm.{GetAlarmEffect, IsGetAlarmCode}

-- ---- CancelAlarm

-- the code behind the masking instruction
abbrev pub cancel_body : ℕ → List InstrKind
cancel_body alarm = used_alarm_test alarm ++ (cancelling_code alarm ++ back_code)

module _ (offset alarm : ℕ) (c : Core) (h : MayUse offset alarm (masking ∷ cancel_body alarm) c) where
  abbrev v : ℕ
  v = left_ticks alarm c

  cancels_owe : Owes offset (offset + 4 + 28) (offset + 4) (cancel_body alarm) 0 (CancelAlarmEffect alarm) (offset_state offset (based c)) (masked (based c))
  cancels_owe =
      let few = h.is_alarm in
      let low = h.goes_back.can_run.behind in
      let fits = h.goes_back.can_run.inside in
      loads (alarm_left alarm) (record { is = omega arith; aligned = omega arith; inside = omega arith }) v refl
      ▸ writes E_OS_NOFUNC refl
      ▸ record {
        passed = 2;
        lands = lands (behind 3 offset) 12 2 (omega arith) (omega arith) refl;
        when_taken = λ t. ⊎_elim
            (λ (z : v ≡ 0). goes_back offset (masking ∷ cancel_body alarm) c h.goes_back (CancelAlarmEffect alarm) v E_OS_NOFUNC c.pending c.pending c.ram
            (λ last is went. record { touches = refl; done = inl (record { unused = z; status = is; back = went }) }))
            (λ (n : v ≢ 0). let f = ne_eqb v 0 n in absurd (cc))
            (cases_eq v 0);
        when_not = λ y. ⊎_elim
            (λ (z : v ≡ 0). absurd (y (eq-eqb v 0 z)))
            (λ (n : v ≢ 0).
            stores (alarm_left alarm) (record { is = omega arith; aligned = omega arith; inside = omega arith }) (inl (omega arith))
            ▸ writes E_OK refl
            ▸ goes_back offset (masking ∷ cancel_body alarm) c h.goes_back (CancelAlarmEffect alarm) v E_OK c.pending c.pending
            (with_word c.ram (alarm_left alarm) 0)
            (λ last is went. record { touches = refl; done = inr (record { used = n; status = is; back = went }) }))
            (cases_eq v 0);
      }

  runs_cancel : FromOpening 7 (offset_state offset c) (CancelAlarmEffect alarm)
  runs_cancel = opens offset 7 (cancel_body alarm) c (CancelAlarmEffect alarm) h.goes_back.can_run h.goes_back.bases (omega arith) cancels_owe

-- for each alarm
pub cancels : (alarm : ℕ) → IsCancelAlarmCode alarm (masking ∷ cancel_body alarm)
cancels alarm = record { size = refl; masks = (cancel_body alarm, refl); runs = λ offset core h. runs_cancel offset alarm core h }

-- ---- GetAlarm

-- the code behind the masking instruction
abbrev pub tell_body : ℕ → List InstrKind
tell_body alarm = used_alarm_test alarm ++ (telling_code alarm ++ back_code)

module _ (offset alarm : ℕ) (c : Core) (h : MayUse offset alarm (masking ∷ tell_body alarm) c) where
  abbrev w : ℕ
  w = left_ticks alarm c

  tells_owe : Owes offset (offset + 4 + 28) (offset + 4) (tell_body alarm) 0 (GetAlarmEffect alarm) (offset_state offset (based c)) (masked (based c))
  tells_owe =
      let few = h.is_alarm in
      let fits = h.goes_back.can_run.inside in
      loads (alarm_left alarm) (record { is = omega arith; aligned = omega arith; inside = omega arith }) w refl
      ▸ writes E_OS_NOFUNC refl
      ▸ record {
        passed = 2;
        lands = lands (behind 3 offset) 12 2 (omega arith) (omega arith) refl;
        when_taken = λ t. ⊎_elim
            (λ (z : w ≡ 0). goes_back offset (masking ∷ tell_body alarm) c h.goes_back (GetAlarmEffect alarm) w E_OS_NOFUNC c.pending c.pending c.ram
            (λ last is went. record { touches = refl; done = inl (record { unused = z; status = is; back = went }) }))
            (λ (n : w ≢ 0). let f = ne_eqb w 0 n in absurd (cc))
            (cases_eq w 0);
        when_not = λ y. ⊎_elim
            (λ (z : w ≡ 0). absurd (y (eq-eqb w 0 z)))
            (λ (n : w ≢ 0).
            loads (alarm_left alarm) (record { is = omega arith; aligned = omega arith; inside = omega arith }) w refl
            ▸ writes E_OK refl
            ▸ goes_back_with offset (masking ∷ tell_body alarm) c h.goes_back (GetAlarmEffect alarm) w E_OK w c.pending c.pending c.ram
            (λ last is answer went. record { touches = refl; done = inr (record { used = n; status = is; answer = answer; back = went }) }))
            (cases_eq w 0);
      }

  runs_tell : FromOpening 7 (offset_state offset c) (GetAlarmEffect alarm)
  runs_tell = opens offset 7 (tell_body alarm) c (GetAlarmEffect alarm) h.goes_back.can_run h.goes_back.bases (omega arith) tells_owe

-- for each alarm
pub tells : (alarm : ℕ) → IsGetAlarmCode alarm (masking ∷ tell_body alarm)
tells alarm = record { size = refl; masks = (tell_body alarm, refl); runs = λ offset core h. runs_tell offset alarm core h }
