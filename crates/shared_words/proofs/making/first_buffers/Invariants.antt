use Rattle.std.proofs.Common.{◌≡◌, ◌≤◌, map, vec_capacity}
use Rattle.shared_words.specs.Slots.{numbers_from}
use Rattle.shared_words.specs.Start.{new_buffer}
use Rattle.shared_words.proofs.making.first_buffers.Given as goal

abbrev pub invariant-loop-id : goal.invariant-loop-id
invariant-loop-id l = record { items : l.buffers.items ≡ map (new_buffer l.length) (numbers_from 0 l.id); room : l.size ≤ vec_capacity l.buffers }
