-- A receiving end of any kind: its size, what is shown and what is out are those of the end that it is, and moves keep its kind.
-- Source: docs/PROFILE.md, "Lanes".
use Rattle.std.specs.Prelude.{◌≡◌, ℕ, List, [], ◌++◌, refl}
use Rattle.lane_end.specs.MoveLaws.{Lead-append}
use Rattle.lane_end.specs.ReceiveMoves.{ReceiveMove}
use Rattle.lane_end.specs.PlainReceiver.{Receives, MayReceive, receiver_after}
use Rattle.lane_end.specs.PlainLaws.{Receives-size}
use Rattle.lane_end.specs.RingReceiver.{receiver_size, out_at, RingReceives}
use Rattle.lane_end.specs.RingReceiverLaws.{RingReceives-none, RingReceives-both, RingReceives-size}
use Rattle.lane_end.specs.declared.any.AnyRecv.{AnyRecv}
use Rattle.lane_end.specs.declared.any.AnyRecv.TheVariants.{Plain, Driver, Device}

abbrev pub size_of_any : AnyRecv → ℕ
size_of_any (Plain r) = r.size
size_of_any (Driver r) = receiver_size r
size_of_any (Device r) = receiver_size r

abbrev pub shown_of_any : AnyRecv → ℕ
shown_of_any (Plain r) = r.shown
shown_of_any (Driver r) = r.shown
shown_of_any (Device r) = r.shown

abbrev pub out_of_any : AnyRecv → List ℕ
out_of_any (Plain r) = r.out
out_of_any (Driver r) = out_at r
out_of_any (Device r) = out_at r

abbrev pub AnyReceives : AnyRecv → List ReceiveMove → AnyRecv → Type 0
AnyReceives (Plain a) moves (Plain b) = Receives a moves b
AnyReceives (Driver a) moves (Driver b) = RingReceives a moves b
AnyReceives (Device a) moves (Device b) = RingReceives a moves b
AnyReceives a moves b = ⊥

pub AnyReceives-none : (e : AnyRecv) → AnyReceives e [] e
AnyReceives-none (Plain r) = refl
AnyReceives-none (Driver r) = RingReceives-none r
AnyReceives-none (Device r) = RingReceives-none r

pub AnyReceives-both : (a b c : AnyRecv) (xs ys : List ReceiveMove) → AnyReceives a xs b → AnyReceives b ys c → AnyReceives a (xs ++ ys) c
AnyReceives-both (Plain a) (Plain b) (Plain c) xs ys first then = Lead-append MayReceive receiver_after a b c xs ys first then
AnyReceives-both (Driver a) (Driver b) (Driver c) xs ys first then = RingReceives-both a b c xs ys first then
AnyReceives-both (Device a) (Device b) (Device c) xs ys first then = RingReceives-both a b c xs ys first then
AnyReceives-both (Plain a) (Plain b) (Driver c) xs ys first then = absurd then
AnyReceives-both (Plain a) (Plain b) (Device c) xs ys first then = absurd then
AnyReceives-both (Driver a) (Driver b) (Plain c) xs ys first then = absurd then
AnyReceives-both (Driver a) (Driver b) (Device c) xs ys first then = absurd then
AnyReceives-both (Device a) (Device b) (Plain c) xs ys first then = absurd then
AnyReceives-both (Device a) (Device b) (Driver c) xs ys first then = absurd then
AnyReceives-both (Plain a) (Driver b) c xs ys first then = absurd first
AnyReceives-both (Plain a) (Device b) c xs ys first then = absurd first
AnyReceives-both (Driver a) (Plain b) c xs ys first then = absurd first
AnyReceives-both (Driver a) (Device b) c xs ys first then = absurd first
AnyReceives-both (Device a) (Plain b) c xs ys first then = absurd first
AnyReceives-both (Device a) (Driver b) c xs ys first then = absurd first

pub AnyReceives-size : (a b : AnyRecv) (xs : List ReceiveMove) → AnyReceives a xs b → size_of_any b ≡ size_of_any a
AnyReceives-size (Plain a) (Plain b) xs moved = Receives-size a b xs moved
AnyReceives-size (Driver a) (Driver b) xs moved = RingReceives-size a b xs moved
AnyReceives-size (Device a) (Device b) xs moved = RingReceives-size a b xs moved
AnyReceives-size (Plain a) (Driver b) xs moved = absurd moved
AnyReceives-size (Plain a) (Device b) xs moved = absurd moved
AnyReceives-size (Driver a) (Plain b) xs moved = absurd moved
AnyReceives-size (Driver a) (Device b) xs moved = absurd moved
AnyReceives-size (Device a) (Plain b) xs moved = absurd moved
AnyReceives-size (Device a) (Driver b) xs moved = absurd moved
