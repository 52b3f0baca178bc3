use Rattle.std.proofs.Common.{ap, sym, arith, subst, refl}
use Rattle.atomic_table.specs.Table.{Splits}
use Rattle.door_bell.specs.BellRule.{BellRule}
use Rattle.door_bell.specs.Change.{new_sleeper}
use Rattle.door_bell.specs.declared.view.BellView.{BellView}
use Rattle.door_bell.specs.Kinds.{Seated, sleeper_part, ringer_part}
use Rattle.door_bell.proofs.Beginning.{allows_begin, splits_ringer}
use Rattle.door_bell.proofs.bell.begin.Goals as goal

pub load-zero-requires : goal.load-zero-requires
load-zero-requires c = let t = c.in_ok-board.board.shared in let s = c.in_ok-board.seat in let e = c.in_ok-board.ensures in (
  e.2,
  (let a = c.as_slice.ensures.len in let b = c.in_ok-words.ensures.len in omega (arith, e, a, b)),
  allows_begin t.key t.table_id.slots s.id s.me (ap (λ (m : Seated). m.0) e.4),
)

pub split_seat-seat-requires : goal.split_seat-seat-requires
split_seat-seat-requires c = let t = c.in_ok-board.board.shared in let s = c.loop-number.seat in let e = c.in_ok-board.ensures in let i = c.loop-number.invariant in (
  i.seat,
  (let a = c.as_slice.ensures.len in let b = c.in_ok-words.ensures.len in omega (arith, e, a, b)),
  subst (λ (x : BellView). Splits (BellRule t.key) s.id x (sleeper_part x) (ringer_part x)) (sym i.view) (splits_ringer t.key s.id (new_sleeper c.loop-number.number) refl),
)
