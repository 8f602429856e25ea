use Rattle.std.proofs.Common.{◌≡◌, ◌∙◌, ◌<◌, ℕ, zero, suc, Bool, true, false, cond, List, [], ◌∷◌, Some, drop, length, slice_index_or, add-one, sym, ap, arith}
use Rattle.command_line.specs.Tools.{tools, is_called, tool_among, tool_called}
use Rattle.command_line.specs.declared.tool.Tool.{Tool}
use Rattle.command_line.specs.declared.tool.Tool.TheVariants as tool
use Rattle.command_line.proofs.tool.tool_called.Goals as goal

-- a tool that is called otherwise is passed over
next : (xs : List Tool) (k : ℕ) (d : Tool) (word : List ℕ) (count : ℕ) (asks : Bool) → k < length xs
    → is_called (slice_index_or xs k d) word count asks ≡ false → tool_among (drop (suc k) xs) word count asks ≡ tool_among (drop k xs) word count asks
next [] k d word count asks lt f = absurd (omega (arith, lt))
next (x ∷ xs) zero d word count asks lt f = sym (ap (λ b. cond b (Some x) (tool_among xs word count asks)) f)
next (x ∷ xs) (suc k) d word count asks lt f = next xs k d word count asks (omega (arith, lt)) f

-- a tool that is called so is the first from its place on
stop : (xs : List Tool) (k : ℕ) (d : Tool) (word : List ℕ) (count : ℕ) (asks : Bool) → k < length xs
    → is_called (slice_index_or xs k d) word count asks ≡ true → tool_among (drop k xs) word count asks ≡ Some (slice_index_or xs k d)
stop [] k d word count asks lt f = absurd (omega (arith, lt))
stop (x ∷ xs) zero d word count asks lt f = ap (λ b. cond b (Some x) (tool_among xs word count asks)) f
stop (x ∷ xs) (suc k) d word count asks lt f = stop xs k d word count asks (omega (arith, lt)) f

pub returns-then-is_called : goal.returns-then-is_called
unfolding tool_called
returns-then-is_called c =
    let word = c.args.word.now in
    let is : is_called (slice_index_or tools c.loop-tool.tool-index tool.Elf) word c.args.count c.args.asks ≡ true =
    sym c.is_called.ensures ∙ c.if-is_called.true in
    sym (stop tools c.loop-tool.tool-index tool.Elf word c.args.count c.args.asks c.loop-tool-test.true is) ∙ c.loop-tool.invariant

pub loop-tool-preserved : goal.loop-tool-preserved
loop-tool-preserved c =
    let word = c.args.word.now in
    let other : is_called (slice_index_or tools c.loop-tool.tool-index tool.Elf) word c.args.count c.args.asks ≡ false =
    sym c.is_called.ensures ∙ c.if-is_called.false in
    rw add-one (next tools c.loop-tool.tool-index tool.Elf word c.args.count c.args.asks c.loop-tool-test.true other ∙ c.loop-tool.invariant)
