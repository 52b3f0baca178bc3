-- The numbers of the buffers in which a domain puts frames to a peer over a ring.
-- Source: docs/FORMATS.md, "Ring lines". Of the buffers that are free, at first all, a put uses the first. Those that come back are free
-- again behind the others, in the order in which the peer gave them back. Which these are is known by the places of their frames, counted
-- from 0 among those that were put.
use Rattle.std.specs.Prelude.{ℕ, Bool, nat_lt, List, [], ◌∷◌, ◌++◌, length, map, take, drop, slice_get, Option, None, Some}
use Rattle.std.specs.List.{list_all, range_with_len}
use Rattle.board_model.specs.RingImage.{Offer}

-- a frame of so many bytes is put, or so many buffers come back
pub data Sending : Type 0 where
  puts : ℕ → Sending
  comes_back : ℕ → Sending

-- the numbers of the buffers of all frames that were put, each with the frame's length; the numbers of the free buffers; and the places of the
-- frames whose buffers the peer gives back and that did not come back yet
pub record Numbers : Type 0 where
  pub used : List Offer
  pub free : List ℕ
  pub given : List ℕ

abbrev pub at_start : ℕ → List ℕ → Numbers
at_start size given = record { used = []; free = range_with_len 0 size; given = given }

-- the number of the buffer of the frame at a place
abbrev pub number_in : Option Offer → ℕ
number_in None = 0
number_in (Some e) = e.0

abbrev pub number_at : List Offer → ℕ → ℕ
number_at used place = number_in (slice_get used place)

-- the first of the free buffers, if there is one, with a frame of so many bytes
abbrev pub put_in : List ℕ → ℕ → List Offer
put_in [] bytes = []
put_in (n ∷ ns) bytes = (n, bytes) ∷ []

abbrev pub after_sending : Numbers → Sending → Numbers
after_sending n (puts bytes) = record n { used = n.used ++ put_in n.free bytes; free = drop 1 n.free }
after_sending n (comes_back count) = record n { free = n.free ++ map (number_at n.used) (take count n.given); given = drop count n.given }

abbrev pub after_all : Numbers → List Sending → Numbers
after_all n [] = n
after_all n (e ∷ es) = after_all (after_sending n e) es

-- the buffers that come back are those of frames that were put
abbrev pub are_put : Numbers → ℕ → Bool
are_put n count = list_all (λ place. nat_lt place (length n.used)) (take count n.given)
