-- What the driver and the device of a ring write into it, and its image, by the buffers of the frames that were put over it and by the places of
-- those that were given back.
-- Source: VIRTIO 1.2, section 2.7; docs/FORMATS.md, "Ring lines". In queue 1 the driver puts, and the device gives back with length 0. In queue
-- 0 the driver first offers all buffers and then each that it gives back, with the length of a buffer, and the device puts.
use Rattle.std.specs.Prelude.{ℕ, List, ◌++◌, ◌==◌, map, if◌then◌else◌}
use Rattle.std.specs.List.{range_with_len}
use Rattle.mc_base.specs.Limits.{buffer_size}
use Rattle.board_model.specs.RingImage.{Offer, start_image, driver_writes, device_writes, all_written}
use Rattle.ring_numbers.specs.SenderNumbers.{number_at}

-- the buffers that are given back, each with this length
abbrev pub given_with : ℕ → List Offer → List ℕ → List Offer
given_with bytes used given = map (λ place. (number_at used place, bytes)) given

abbrev pub all_with : ℕ → ℕ → List Offer
all_with bytes size = map (λ n. (n, bytes)) (range_with_len 0 size)

abbrev pub offered : ℕ → ℕ → List Offer → List ℕ → List Offer
offered size queue used given = if queue == 0 then all_with buffer_size size ++ given_with buffer_size used given else used

abbrev pub returned : ℕ → List Offer → List ℕ → List Offer
returned queue used given = if queue == 0 then used else given_with 0 used given

abbrev pub image_left : ℕ → ℕ → List Offer → List ℕ → List ℕ
image_left size queue used given = all_written (start_image size queue) (driver_writes size (offered size queue used given) ++ device_writes size (returned queue used given))
