use Rattle.std.proofs.Common.{◌≡◌, ◌∙◌, List, [], ◌∷◌, ◌++◌, ℕ, take, sym, ap, subst, append-nil, arith}
use Rattle.std.specs.Prelude.{string_bytes}
use Rattle.std.proofs.lemmas.List.{take_all}
use Rattle.std.proofs.lemmas.Result.{err_from_is_err_and}
use Rattle.sloth_io.specs.Store.{AreDelivered}
use Rattle.command_line.specs.Command.{words_of}
use Rattle.core_commands.specs.CommandFiles.{AreFirstDelivered}
use Rattle.core_commands.specs.Failures.{IsReadFailure}
use Rattle.core_commands.specs.ToolInputs.{AreToolInputs, input_deliveries}
use Rattle.core_commands.proofs.InOrder.{err-anyway}
use Rattle.core_commands.proofs.ToolReads.{fetched-front, fetched-more, fetched-one-more, fetch-failed, kept-none}
use Rattle.sloth_commands.proofs.tool_command.fetch_inputs.Goals as goal

pub loop-name-init : goal.loop-name-init
loop-name-init g c = record {
  read = subst (λ (xs : List (List ℕ)). AreToolInputs (g.F.Store.seen c.args.files.now) [] xs) (sym c.new-inputs.ensures.items) tt;
  kept = kept-none (g.F.Store.seen c.args.files.now);
  delivered = sym (append-nil (g.F.Store.seen c.args.files.now).reads);
}

pub loop-name-preserved : goal.loop-name-preserved
loop-name-preserved g c =
    let of = c.in_ok-bytes.ensures in
    fetched-more (g.F.Store.seen c.args.files.now) (g.F.Store.seen c.loop-name.files) (g.F.Store.seen c.fetch.new.files) c.file_words-names.result.now c.loop-name.name-index
    c.name-item.result c.loop-name.inputs.items c.push.new.self.items c.as_str.result.now c.in_ok-bytes.bytes.items c.loop-name-test.true c.loop-name.invariant
    (c.as_str.ensures.value ∙ ap (λ w. string_bytes w) c.name-item.is) of.ok of.short c.fetch.ensures.keeps of.delivered
    (c.in_ok-push.ensures.items ∙ ap (λ (x : List ℕ). c.loop-name.inputs.items ++ x ∷ []) c.from_vec.ensures)

pub returns-in_err-bytes-clause-err : goal.returns-in_err-bytes-clause-err
returns-in_err-bytes-clause-err g c =
    let failed = err_from_is_err_and c.from_residual.result c.from_residual.ensures.1 in
    rw (failed.1, failed.2)
    (subst (λ ns. IsReadFailure c.in_err-bytes.field-0.0 (g.F.Store.seen c.args.files.now) (g.F.Store.seen c.fetch.new.files) ns) c.file_words-names.ensures
    (fetch-failed c.in_err-bytes.field-0.0 (g.F.Store.seen c.args.files.now) (g.F.Store.seen c.loop-name.files) (g.F.Store.seen c.fetch.new.files) c.file_words-names.result.now
    c.loop-name.name-index c.name-item.result c.loop-name.inputs.items c.as_str.result.now c.loop-name-test.true c.loop-name.invariant
    (c.as_str.ensures.value ∙ ap (λ w. string_bytes w) c.name-item.is) c.in_err-bytes.ensures.err))

pub returns-in_err-bytes-clause-front : goal.returns-in_err-bytes-clause-front
returns-in_err-bytes-clause-front g c =
    err-anyway _ _
    (subst (λ ns. AreFirstDelivered (g.F.Store.seen c.args.files.now) (g.F.Store.seen c.fetch.new.files) ns) c.file_words-names.ensures
    (fetched-front (g.F.Store.seen c.args.files.now) (g.F.Store.seen c.loop-name.files) (g.F.Store.seen c.fetch.new.files) c.file_words-names.result.now c.loop-name.name-index
    c.loop-name.inputs.items c.loop-name.invariant c.in_err-bytes.ensures.nothing))

pub returns-in_err-push-clause-front : goal.returns-in_err-push-clause-front
returns-in_err-push-clause-front g c =
    let of = c.in_ok-bytes.ensures in
    err-anyway _ _
    (subst (λ ns. AreFirstDelivered (g.F.Store.seen c.args.files.now) (g.F.Store.seen c.fetch.new.files) ns) c.file_words-names.ensures
    (fetched-one-more (g.F.Store.seen c.args.files.now) (g.F.Store.seen c.loop-name.files) (g.F.Store.seen c.fetch.new.files) c.file_words-names.result.now c.loop-name.name-index
    c.name-item.result c.loop-name.inputs.items c.as_str.result.now c.in_ok-bytes.bytes.items c.loop-name-test.true c.loop-name.invariant
    (c.as_str.ensures.value ∙ ap (λ w. string_bytes w) c.name-item.is) of.ok of.short c.fetch.ensures.keeps of.delivered))

pub returns-clause-ok : goal.returns-clause-ok
returns-clause-ok g c =
    let names = c.file_words-names.result.now in
    let past = c.loop-name-test.false in
    let all : take c.loop-name.name-index names ≡ names = take_all c.loop-name.name-index names (omega (arith, past)) in
    subst (λ ns. AreToolInputs (g.F.Store.seen c.args.files.now) ns c.loop-name.inputs.items) (ap words_of all ∙ c.file_words-names.ensures) c.loop-name.invariant.read

pub returns-clause-delivered : goal.returns-clause-delivered
returns-clause-delivered g c =
    let names = c.file_words-names.result.now in
    let past = c.loop-name-test.false in
    let all : take c.loop-name.name-index names ≡ names = take_all c.loop-name.name-index names (omega (arith, past)) in
    subst (λ ns. AreDelivered (g.F.Store.seen c.args.files.now) (g.F.Store.seen c.loop-name.files) (input_deliveries ns c.loop-name.inputs.items)) (ap words_of all ∙ c.file_words-names.ensures)
    c.loop-name.invariant.delivered
