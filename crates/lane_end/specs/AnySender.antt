-- A sending end of any kind: its size and its free buffers are those of the end that it is, and moves keep its kind.
-- Source: docs/PROFILE.md, "Lanes".
use Rattle.std.specs.Prelude.{◌≡◌, ℕ, List, [], ◌++◌, refl}
use Rattle.lane_end.specs.MoveLaws.{Lead-append}
use Rattle.lane_end.specs.SendMoves.{SendMove}
use Rattle.lane_end.specs.PlainSender.{Sends, MaySend, sender_after}
use Rattle.lane_end.specs.PlainLaws.{Sends-size}
use Rattle.lane_end.specs.RingSender.{sender_size, RingSends}
use Rattle.lane_end.specs.RingSenderLaws.{RingSends-none, RingSends-both, RingSends-size}
use Rattle.lane_end.specs.declared.any.AnySend.{AnySend}
use Rattle.lane_end.specs.declared.any.AnySend.TheVariants.{Plain, Driver, Device}

abbrev pub size_of_any : AnySend → ℕ
size_of_any (Plain s) = s.size
size_of_any (Driver s) = sender_size s
size_of_any (Device s) = sender_size s

abbrev pub free_of_any : AnySend → List ℕ
free_of_any (Plain s) = s.free
free_of_any (Driver s) = s.free
free_of_any (Device s) = s.free

abbrev pub AnySends : AnySend → List SendMove → AnySend → Type 0
AnySends (Plain a) moves (Plain b) = Sends a moves b
AnySends (Driver a) moves (Driver b) = RingSends a moves b
AnySends (Device a) moves (Device b) = RingSends a moves b
AnySends a moves b = ⊥

pub AnySends-none : (e : AnySend) → AnySends e [] e
AnySends-none (Plain s) = refl
AnySends-none (Driver s) = RingSends-none s
AnySends-none (Device s) = RingSends-none s

pub AnySends-both : (a b c : AnySend) (xs ys : List SendMove) → AnySends a xs b → AnySends b ys c → AnySends a (xs ++ ys) c
AnySends-both (Plain a) (Plain b) (Plain c) xs ys first then = Lead-append MaySend sender_after a b c xs ys first then
AnySends-both (Driver a) (Driver b) (Driver c) xs ys first then = RingSends-both a b c xs ys first then
AnySends-both (Device a) (Device b) (Device c) xs ys first then = RingSends-both a b c xs ys first then
AnySends-both (Plain a) (Plain b) (Driver c) xs ys first then = absurd then
AnySends-both (Plain a) (Plain b) (Device c) xs ys first then = absurd then
AnySends-both (Driver a) (Driver b) (Plain c) xs ys first then = absurd then
AnySends-both (Driver a) (Driver b) (Device c) xs ys first then = absurd then
AnySends-both (Device a) (Device b) (Plain c) xs ys first then = absurd then
AnySends-both (Device a) (Device b) (Driver c) xs ys first then = absurd then
AnySends-both (Plain a) (Driver b) c xs ys first then = absurd first
AnySends-both (Plain a) (Device b) c xs ys first then = absurd first
AnySends-both (Driver a) (Plain b) c xs ys first then = absurd first
AnySends-both (Driver a) (Device b) c xs ys first then = absurd first
AnySends-both (Device a) (Plain b) c xs ys first then = absurd first
AnySends-both (Device a) (Driver b) c xs ys first then = absurd first

pub AnySends-size : (a b : AnySend) (xs : List SendMove) → AnySends a xs b → size_of_any b ≡ size_of_any a
AnySends-size (Plain a) (Plain b) xs moved = Sends-size a b xs moved
AnySends-size (Driver a) (Driver b) xs moved = RingSends-size a b xs moved
AnySends-size (Device a) (Device b) xs moved = RingSends-size a b xs moved
AnySends-size (Plain a) (Driver b) xs moved = absurd moved
AnySends-size (Plain a) (Device b) xs moved = absurd moved
AnySends-size (Driver a) (Plain b) xs moved = absurd moved
AnySends-size (Driver a) (Device b) xs moved = absurd moved
AnySends-size (Device a) (Plain b) xs moved = absurd moved
AnySends-size (Device a) (Driver b) xs moved = absurd moved
