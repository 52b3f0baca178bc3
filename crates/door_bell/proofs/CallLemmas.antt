-- What a call of a sleeper or a ringer finds, and what it leaves.
use Rattle.std.proofs.Common.{◌≡◌, ◌∙◌, ℕ, ◌+◌, ◌<◌, sym, ap, arith}
use Rattle.atomic_table.specs.Seated.{TableId}
use Rattle.door_bell.specs.declared.bell.Bell.TheInside as bell
use Rattle.door_bell.specs.declared.sleeper.Sleeper.TheInside as sleeper
use Rattle.door_bell.specs.declared.ringer.Ringer.TheInside as ringer
use Rattle.door_bell.specs.declared.view.SleeperView.{SleeperView}
use Rattle.door_bell.specs.declared.view.RingerView.{RingerView}
use Rattle.door_bell.specs.declared.view.BellView.{BellView}
use Rattle.door_bell.specs.declared.view.BellView.TheVariants.{Sleeping, Ringing}
use Rattle.door_bell.specs.Shown.{BellShown, SleeperShown, RingerShown, IsSleeperOf, IsRingerOf, with_view}
use Rattle.door_bell.specs.SeatHolds.{TableHolds, SleeperHolds, RingerHolds, sleeper_in, ringer_in}

abbrev pub shown_bell : bell.Inside → BellShown
shown_bell t = record { table = t.board.shared.table_id; ringers = t.ringers }

abbrev pub shown_sleeper : TableId → BellView → SleeperShown
shown_sleeper id view = record { table = id; view = sleeper_in view }

abbrev pub shown_ringer : TableId → ℕ → BellView → RingerShown
shown_ringer id n view = record { table = id; number = n; view = ringer_in view }

pub record MetSleeper (t : bell.Inside) (h : sleeper.Inside) (v : SleeperView) : Type 0 where
  pub live : h.seat.me.0 ≡ Sleeping v
  pub same : h.seat.table_id ≡ t.board.shared.table_id
  pub words : t.board.shared.table_id.words ≡ t.board.shared.key + 1
  pub ringers_are : t.board.shared.key ≡ t.ringers
  pub some_ringer : 0 < t.ringers
  pub ringers : v.ringers ≡ t.board.shared.key

pub meets_sleeper : (t : bell.Inside) (h : sleeper.Inside) (on : BellShown) (me : SleeperShown) → TableHolds t.board.shared.table_id t.board.shared.key t.ringers → shown_bell t ≡ on
    → SleeperHolds h.seat.table_id h.seat.me.0 → shown_sleeper h.seat.table_id h.seat.me.0 ≡ me → IsSleeperOf on me → MetSleeper t h me.view
meets_sleeper t h on me tab t_is seat h_is fit =
    let same : h.seat.table_id ≡ t.board.shared.table_id = ap (λ (x : SleeperShown). x.table) h_is ∙ (fit ∙ sym (ap (λ (x : BellShown). x.table) t_is)) in
    let view : sleeper_in h.seat.me.0 ≡ me.view = ap (λ (x : SleeperShown). x.view) h_is in
    let wide = ap (λ (x : TableId). x.words) same in let a = seat.ringers in let b = tab.words in let c = ap (λ (x : SleeperView). x.ringers) view in record {
      live = seat.sleeping ∙ ap Sleeping view;
      same = same;
      words = tab.words;
      ringers_are = tab.ringers_are;
      some_ringer = tab.some_ringer;
      ringers = omega (arith, wide, a, b, c);
    }

pub sleeper_held : (t : bell.Inside) (h : sleeper.Inside) (v w : SleeperView) (id : TableId) (view : BellView) → MetSleeper t h v → id ≡ h.seat.table_id → view ≡ Sleeping w → w.ringers ≡ v.ringers → SleeperHolds id view
sleeper_held t h v w id view m same live count = record {
  sleeping = live ∙ ap Sleeping (sym (ap sleeper_in live));
  ringers = (let a = ap (λ (x : TableId). x.words) (same ∙ m.same) in let b = m.words in let c = m.ringers in let d = ap (λ (x : BellView). (sleeper_in x).ringers) live in omega (arith, a, b, c, d, count));
}

pub sleeper_shown : (h : sleeper.Inside) (me : SleeperShown) (w : SleeperView) (id : TableId) (view : BellView) → shown_sleeper h.seat.table_id h.seat.me.0 ≡ me → id ≡ h.seat.table_id → view ≡ Sleeping w → shown_sleeper id view ≡ with_view w me
sleeper_shown h me w id view h_is same live = λ i. record { table = (same ∙ ap (λ (x : SleeperShown). x.table) h_is) i; view = sleeper_in (live i) }

pub record MetRinger (t : bell.Inside) (h : ringer.Inside) (v : RingerView) : Type 0 where
  pub live : h.seat.me.0 ≡ Ringing h.number v
  pub same : h.seat.table_id ≡ t.board.shared.table_id
  pub words : t.board.shared.table_id.words ≡ t.board.shared.key + 1
  pub in_range : h.number < t.board.shared.key

pub meets_ringer : (t : bell.Inside) (h : ringer.Inside) (on : BellShown) (me : RingerShown) → TableHolds t.board.shared.table_id t.board.shared.key t.ringers → shown_bell t ≡ on
    → RingerHolds h.seat.table_id h.seat.me.0 h.number → shown_ringer h.seat.table_id h.number h.seat.me.0 ≡ me → IsRingerOf on me → MetRinger t h me.view
meets_ringer t h on me tab t_is seat h_is fit = record {
  live = seat.ringing ∙ ap (λ (x : RingerShown). Ringing h.number x.view) h_is;
  same = ap (λ (x : RingerShown). x.table) h_is ∙ (fit ∙ sym (ap (λ (x : BellShown). x.table) t_is));
  words = tab.words;
  in_range = (let a = ap (λ (x : TableId). x.words) (ap (λ (x : RingerShown). x.table) h_is ∙ (fit ∙ sym (ap (λ (x : BellShown). x.table) t_is))) in let b = tab.words in let c = seat.in_range in omega (arith, a, b, c));
}
