use Rattle.std.proofs.Common.{◌≡◌, ◌∙◌, ◌<◌, ℕ, zero, suc, false, cond, List, [], ◌∷◌, Some, drop, length, slice_index_or, add-one, sym, ap, arith}
use Rattle.std.specs.Prelude.{bytes_eq}
use Rattle.sloth_base.specs.ServiceCodes.{services, service_name, service_among}
use Rattle.sloth_base.specs.declared.service.Service.{Service}
use Rattle.sloth_base.specs.declared.service.Service.TheVariants as service
use Rattle.sloth_base.proofs.service.service_named.Goals as goal

-- a service of another name is passed over
next : (xs : List Service) (k : ℕ) (d : Service) (word : List ℕ) → k < length xs → bytes_eq word (service_name (slice_index_or xs k d)) ≡ false
    → service_among (drop (suc k) xs) word ≡ service_among (drop k xs) word
next [] k d word lt f = absurd (omega (arith, lt))
next (x ∷ xs) zero d word lt f = sym (ap (λ b. cond b (Some x) (service_among xs word)) f)
next (x ∷ xs) (suc k) d word lt f = next xs k d word (omega (arith, lt)) f

pub loop-service-preserved : goal.loop-service-preserved
loop-service-preserved c =
    let word = c.args.word.now in
    let other : bytes_eq word (service_name (slice_index_or services c.loop-service.service-index service.ActivateTask)) ≡ false =
    ap (bytes_eq word) (sym c.name.ensures.name) ∙ (sym c.eq.ensures ∙ c.if-eq.false) in
    rw add-one (next services c.loop-service.service-index service.ActivateTask word c.loop-service-test.true other ∙ c.loop-service.invariant)
