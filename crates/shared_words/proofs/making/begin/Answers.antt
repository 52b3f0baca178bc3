use Rattle.std.proofs.Common.{◌≡◌, ◌∙◌, ap, sym, arith, subst, map, ℕ, List, get_or}
use Rattle.atomic_table.specs.Seated.{TableId}
use Rattle.atomic_table.specs.Table.{Splits}
use Rattle.shared_words.specs.declared.rule.Shape.{Shape}
use Rattle.shared_words.specs.declared.view.Role.{Role}
use Rattle.shared_words.specs.declared.view.Role.TheVariants.{Driver}
use Rattle.shared_words.specs.declared.view.HalfView.{HalfView}
use Rattle.shared_words.specs.declared.view.View.{View}
use Rattle.shared_words.specs.declared.view.View.TheVariants.{Opening, Live}
use Rattle.shared_words.specs.Shape.{IsShape}
use Rattle.shared_words.specs.RingRule.{RingRule, new_view}
use Rattle.shared_words.specs.Parting.{driver_part, device_part}
use Rattle.shared_words.specs.Slots.{vacant, numbers_from}
use Rattle.shared_words.specs.Kinds.{Seated}
use Rattle.shared_words.specs.HalfHolds.{HalfHolds, role_in, half_in}
use Rattle.shared_words.specs.Start.{shape}
use Rattle.shared_words.proofs.Beginning.{opens, allows_begin, splits_part, first_driver}
use Rattle.shared_words.proofs.making.begin.Goals as goal

pub vacant-requires : goal.vacant-requires
vacant-requires c = let q = c.args.queue in let z = c.args.size in
    let shaped : IsShape (shape q z c.args.length) = record { queue = c.requires.queue; size = c.requires.size; length = c.requires.length } in
    opens (shape q z c.args.length) c.as_slice.result.now shaped (λ i. ap (λ (w : List ℕ). get_or w i 0) c.as_slice.ensures.value ∙ c.in_ok-first.ensures.words i) (c.as_slice.ensures.len ∙ c.in_ok-first.ensures.len)

pub load-zero-requires : goal.load-zero-requires
load-zero-requires c = let t = c.in_ok-board.board.shared in let s = c.in_ok-board.seat in let e = c.in_ok-board.ensures in (
  e.2,
  (let a = c.as_slice.ensures.len in let b = c.in_ok-first.ensures.len in omega (arith, e, a, b)),
  allows_begin t.key t.table_id.slots s.id s.me (ap (λ (m : Seated). m.0) e.4 ∙ ap (λ (k : Shape). Opening k.length) (sym e.5)) (ap (λ (m : Seated). m.1) e.4) (e.1 ∙ ap (λ (k : Shape). k.size) (sym e.5)),
)

pub split_seat-other-requires : goal.split_seat-other-requires
split_seat-other-requires c = let t = c.in_ok-board.board.shared in let s = c.in_ok-board.seat in let e = c.in_ok-board.ensures in let v = new_view t.key.length in
    let told = c.load-zero.ensures.2 t.key.length (ap (λ (m : Seated). m.0) e.4 ∙ ap (λ (k : Shape). Opening k.length) (sym e.5)) in (
      c.load-zero.ensures.0 ∙ e.2,
      (let a = c.as_slice.ensures.len in let b = c.in_ok-first.ensures.len in omega (arith, e, a, b)),
      subst (λ (x : View). Splits (RingRule t.key) c.load-zero.new.seat.id x (driver_part x) (device_part x)) (sym told.0) (splits_part t.key c.load-zero.new.seat.id v v),
    )

pub invariant_of-driver : goal.invariant_of-driver
invariant_of-driver c = let t = c.in_ok-board.board.shared in let e = c.in_ok-board.ensures in let me = c.split_seat-other.new.seat.me in let sp = c.split_seat-other.ensures in let v = new_view t.key.length in
    let told = c.load-zero.ensures.2 t.key.length (ap (λ (m : Seated). m.0) e.4 ∙ ap (λ (k : Shape). Opening k.length) (sym e.5)) in
    let live : me.0 ≡ Live Driver v = ap (λ (m : Seated). m.0) sp.2 ∙ ap driver_part told.0 in
    let same : t.table_id.slots ≡ c.split_seat-other.new.seat.table_id.slots = ap (λ (x : TableId). x.slots) (sym (sp.0 ∙ (c.load-zero.ensures.0 ∙ e.2))) in
    let carried : me.1 ≡ map vacant (numbers_from 0 c.split_seat-other.new.seat.table_id.slots) = ap (λ (m : Seated). m.1) sp.2 ∙ (told.1 ∙ ap (λ (n : ℕ). map vacant (numbers_from 0 n)) same) in record {
      live = live ∙ (λ i. Live (role_in (sym live i)) (half_in (sym live i)));
      holds = subst (λ (x : Role × HalfView). HalfHolds c.split_seat-other.new.seat.table_id.slots x.0 x.1 me.1 0 0 0) (λ i. (role_in (sym live i), half_in (sym live i)))
          (first_driver c.split_seat-other.new.seat.table_id.slots t.key.length me.1 carried);
    }
