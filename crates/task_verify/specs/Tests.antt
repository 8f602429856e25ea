-- The rules on one operation as tests.
use Rattle.std.specs.Prelude.{ℕ, ◌+◌, ◌%◌, ◌==◌, ◌||◌, ◌&&◌, not, nat_lt, nat_le, Bool, true, false, List, length, Option, Some, None, is_some, is_none, get_or}
use Rattle.std.specs.List.{list_any}
use Rattle.sloth_base.specs.declared.app.App.{App}
use Rattle.sloth_base.specs.declared.app.Func.{Func}
use Rattle.sloth_base.specs.declared.app.Op.{Op}
use Rattle.sloth_base.specs.declared.app.Op.TheVariants as op
use Rattle.sloth_base.specs.declared.service.Service.{Service}
use Rattle.sloth_base.specs.declared.service.Service.TheVariants as service
use Rattle.sloth_base.specs.Arithmetic.{size_of}
use Rattle.sloth_base.specs.Named.{item_of, label_of, symbol_size}
use Rattle.sloth_base.specs.Limits.{mask_limit}
use Rattle.code_rules.specs.Code.{is_followed, way, is_in, is_last}
use Rattle.call_graph.specs.declared.lists.Ranks.{Ranks}
use Rattle.call_graph.specs.Bits.{is_member}
use Rattle.call_graph.specs.Rows.{is_get, is_pausing}

-- V2
abbrev pub is_access_past : App → Func → Op → Bool
is_access_past app f (op.FrameLoad rd word) = nat_le f.frame_words word
is_access_past app f (op.FrameStore rs word) = nat_le f.frame_words word
is_access_past app f (op.Load w rd y offset) = nat_lt (symbol_size app y) (offset + size_of w)
is_access_past app f (op.Store w rs y offset) = nat_lt (symbol_size app y) (offset + size_of w)
is_access_past app f _ = false

-- V3
abbrev pub is_uneven : Op → Bool
is_uneven (op.Load w rd y offset) = not (offset % size_of w == 0)
is_uneven (op.Store w rs y offset) = not (offset % size_of w == 0)
is_uneven (op.LoadAt w rd y index mask) = not (mask % size_of w == 0)
is_uneven (op.StoreAt w rs y index mask) = not (mask % size_of w == 0)
is_uneven _ = false

-- V4
abbrev pub is_mask_past : App → Op → Bool
is_mask_past app (op.LoadAt w rd y index mask) = nat_lt mask_limit mask || nat_lt (symbol_size app y) (mask + size_of w)
is_mask_past app (op.StoreAt w rs y index mask) = nat_lt mask_limit mask || nat_lt (symbol_size app y) (mask + size_of w)
is_mask_past app _ = false

-- the label of this number stands behind the last item
abbrev pub is_label_past : Func → Option ℕ → Bool
is_label_past f None = false
is_label_past f (Some k) = nat_le (length f.items) (label_of f k).item

-- V5
abbrev pub is_run_out : Func → ℕ → Bool
is_run_out f i = (is_followed (item_of f i).op && nat_le (length f.items) (i + 1)) || is_label_past f (way (item_of f i).op)

-- a service that ends the caller
abbrev pub is_ending : Service → Bool
is_ending service.TerminateTask = true
is_ending service.ChainTask = true
is_ending _ = false

-- the service that gives a resource back
abbrev pub is_release : Service → Bool
is_release service.ReleaseResource = true
is_release _ = false

-- a resource is held
abbrev pub is_any_held : List ℕ → Bool
is_any_held held = not (length held == 0)

-- V8
abbrev pub is_wrong_release : List ℕ → Op → Bool
is_wrong_release held (op.Serve call) = is_release call.service && not (is_last call.object held)
is_wrong_release held _ = false

-- V9
abbrev pub is_second_take : Ranks → List ℕ → Op → Bool
is_second_take ranks held (op.Serve call) = is_get call.service && is_in call.object held
is_second_take ranks held (op.Invoke g) = list_any (λ r. is_member (get_or ranks.resources g 0) r) held
is_second_take ranks held _ = false

-- V10
abbrev pub is_leave_with_resource : Ranks → List ℕ → Op → Bool
is_leave_with_resource ranks held (op.Serve call) = (is_ending call.service || is_pausing call.service) && is_any_held held
is_leave_with_resource ranks held op.Return = is_any_held held
is_leave_with_resource ranks held (op.Invoke g) = get_or ranks.pauses g false && is_any_held held
is_leave_with_resource ranks held _ = false

-- V11
abbrev pub is_wrong_leave : Func → Op → Bool
is_wrong_leave f (op.Serve call) = is_ending call.service && is_none f.task
is_wrong_leave f op.Return = is_some f.task
is_wrong_leave f _ = false
