-- What a meeting of two ends of one ring, of any kind, leaves unchanged.
-- Source: docs/PROFILE.md, "Lanes": a meeting does not change what is free, shown or out.
use Rattle.std.proofs.Common.{ap, sym, ◌∙◌}
use Rattle.shared_words.specs.Way.{other}
use Rattle.lane_end.specs.RingSender.{RingSender, sender_size}
use Rattle.lane_end.specs.RingReceiver.{RingReceiver, receiver_size, out_at}
use Rattle.lane_end.specs.RingLane.{AreOfOneRing, HaveMet}
use Rattle.lane_end.specs.AnyLane.{AreEndsOfOneRing, EndsHaveMet}
use Rattle.lane_end.specs.Meeting.{SeenStays}
use Rattle.lane_end.specs.AnySender as sending
use Rattle.lane_end.specs.AnyReceiver as receiving
use Rattle.lane_end.specs.declared.any.AnySend.{AnySend}
use Rattle.lane_end.specs.declared.any.AnyRecv.{AnyRecv}
use Rattle.lane_end.specs.declared.any.AnySend.TheVariants as send
use Rattle.lane_end.specs.declared.any.AnyRecv.TheVariants as recv

-- what holds of every meeting over queue 1, and of every one over queue 0, holds of all ends that met
pub over-either : (P : AnySend → AnyRecv → AnySend → AnyRecv → Type 0) → ((s : RingSender) (r : RingReceiver) (s' : RingSender) (r' : RingReceiver) → HaveMet s r s' r' → P (send.Driver s) (recv.Device r) (send.Driver s') (recv.Device r'))
    → ((s : RingSender) (r : RingReceiver) (s' : RingSender) (r' : RingReceiver) → HaveMet s r s' r' → P (send.Device s) (recv.Driver r) (send.Device s') (recv.Driver r')) → (a : AnySend) (b : AnyRecv) (c : AnySend) (d : AnyRecv) → EndsHaveMet a b c d → P a b c d
over-either P one zero (send.Driver a) (recv.Device b) (send.Driver c) (recv.Device d) met = one a b c d met
over-either P one zero (send.Device a) (recv.Driver b) (send.Device c) (recv.Driver d) met = zero a b c d met
over-either P one zero (send.Plain a) b c d met = absurd met
over-either P one zero (send.Driver a) (recv.Plain b) c d met = absurd met
over-either P one zero (send.Driver a) (recv.Driver b) c d met = absurd met
over-either P one zero (send.Device a) (recv.Plain b) c d met = absurd met
over-either P one zero (send.Device a) (recv.Device b) c d met = absurd met
over-either P one zero (send.Driver a) (recv.Device b) (send.Plain c) d met = absurd met
over-either P one zero (send.Driver a) (recv.Device b) (send.Device c) d met = absurd met
over-either P one zero (send.Device a) (recv.Driver b) (send.Plain c) d met = absurd met
over-either P one zero (send.Device a) (recv.Driver b) (send.Driver c) d met = absurd met
over-either P one zero (send.Driver a) (recv.Device b) (send.Driver c) (recv.Plain d) met = absurd met
over-either P one zero (send.Driver a) (recv.Device b) (send.Driver c) (recv.Driver d) met = absurd met
over-either P one zero (send.Device a) (recv.Driver b) (send.Device c) (recv.Plain d) met = absurd met
over-either P one zero (send.Device a) (recv.Driver b) (send.Device c) (recv.Device d) met = absurd met

-- what a caller sees of each end stays
abbrev pub SameSeen : AnySend → AnyRecv → AnySend → AnyRecv → Type 0
SameSeen = SeenStays sending.size_of_any sending.free_of_any receiving.size_of_any receiving.shown_of_any receiving.out_of_any

pub met-seen : (a : AnySend) (b : AnyRecv) (c : AnySend) (d : AnyRecv) → EndsHaveMet a b c d → SameSeen a b c d
met-seen =
    over-either SameSeen
    (λ s r s' r' met. record { size_to = ap sender_size met.sends; free = ap (λ (x : RingSender). x.free) met.sends; size_from = ap receiver_size met.receives; shown = ap (λ (x : RingReceiver). x.shown) met.receives; out = ap out_at met.receives })
    (λ s r s' r' met. record { size_to = ap sender_size met.sends; free = ap (λ (x : RingSender). x.free) met.sends; size_from = ap receiver_size met.receives; shown = ap (λ (x : RingReceiver). x.shown) met.receives; out = ap out_at met.receives })

-- they are still ends of one ring
met-still : (s : RingSender) (r : RingReceiver) (s' : RingSender) (r' : RingReceiver) → HaveMet s r s' r' → AreOfOneRing s r → AreOfOneRing s' r'
met-still s r s' r' met one = record {
  ring = ap (λ (x : RingReceiver). x.half.ring) met.receives ∙ (one.ring ∙ sym (ap (λ (x : RingSender). x.half.ring) met.sends));
  role = ap (λ (x : RingReceiver). x.role) met.receives ∙ (one.role ∙ sym (ap (λ (x : RingSender). other x.role) met.sends));
}

pub met-of-one : (a : AnySend) (b : AnyRecv) (c : AnySend) (d : AnyRecv) → EndsHaveMet a b c d → AreEndsOfOneRing a b → AreEndsOfOneRing c d
met-of-one = over-either (λ a b c d. AreEndsOfOneRing a b → AreEndsOfOneRing c d) met-still met-still
