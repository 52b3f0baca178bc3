-- The open part of a peer ends, and its buffers are given back: what the parts of a domain keep, and the state after it.
use Rattle.std.proofs.Common.{◌≡◌, List, Some, refl, arith}
use Rattle.mc_base.specs.declared.request.Slot.{Slot}
use Rattle.buffer_book.specs.Book.{Book}
use Rattle.domain_parts.specs.declared.parts.OpenPart.{OpenPart}
use Rattle.domain_parts.specs.GivingBack.{AreOutAt, GivesBack}
use Rattle.domain_parts.specs.InBook.{frames_at, open_parts}
use Rattle.domain_parts.specs.InPlaces.{AreOpen, IsOpenAs, slots_of}
use Rattle.domain_parts.specs.InRequests.{handed_slots}
use Rattle.domain_parts.specs.Parts.{Parts, Sound, plain, state_of}
use Rattle.domain_parts.specs.Peers.{held_in, peers_in}
use Rattle.domain_parts.specs.Records.{Records, all_waiting, part_open, part_slots, without_part_of}
use Rattle.domain_parts.specs.Steps.{done, part_ended}
use Rattle.domain_parts.specs.Table.{PartRead}
use Rattle.domain_parts.proofs.GivingLemmas.{leaves-out, some-lane, sound-given}
use Rattle.domain_parts.proofs.PartLists.{all-left, open-more, without-apart}
use Rattle.domain_parts.proofs.Placed.{HasMore}
use Rattle.domain_parts.proofs.Receiving.{given-read}
use Rattle.domain_parts.proofs.Slots.{open-has}
use Rattle.domain_parts.proofs.Stepping.{Any, gives-seen}

module _ (p : Parts) (sound : Sound p) (o : OpenPart) (found : part_open p.records o.slot.peer ≡ Some o) where
  abbrev s : Slot
  s = o.slot

  abbrev pub ended_records : Records
  ended_records = without_part_of p.records s.peer

  pub are-open : AreOpen p.book p.records.parts
  are-open = (some-lane plain p.book p.records p.requests p.table p.peers sound).1.parts

  pub ended-more : HasMore s (slots_of ended_records p.requests) (slots_of p.records p.requests)
  ended-more = open-has s (part_slots ended_records.parts) (part_slots p.records.parts) (all_waiting p.records.endpoints) (handed_slots p.requests.standing) (open-more s.peer p.records.parts o are-open.apart found)

  pub ended-opens : (b : Book) → AreOpen b p.records.parts → AreOpen b ended_records.parts
  ended-opens b are = record { each = all-left (IsOpenAs b) s.peer p.records.parts are.each; apart = without-apart s.peer p.records.parts are.apart }

  pub ended-out : AreOutAt plain s.peer (frames_at p.book s) p.peers
  ended-out = leaves-out plain p.book p.records p.requests p.table p.peers sound ended_records p.requests s refl (ended-opens p.book) ended-more (omega arith)

  ended-gives : GivesBack Any plain s.peer (frames_at p.book s) p.peers (done (part_ended s (frames_at p.book s)) p).peers
  ended-gives = gives-seen s.peer (frames_at p.book s) p.peers sound.peers.rising ended-out

  pub part_ended-keeps : Sound (done (part_ended s (frames_at p.book s)) p)
  part_ended-keeps =
      sound-given Any plain p.book p.records ended_records p.requests p.requests p.table s p.peers (done (part_ended s (frames_at p.book s)) p).peers ended-gives
      (record { number = refl; given = refl; room = refl; live = refl }) refl (ended-opens p.book) ended-more (omega arith) sound.receives sound

  -- the parts that are left are read as before, and nothing else changes
  abbrev pub left_open : List PartRead
  left_open = open_parts p.book ended_records.parts

  pub part_ended-is : state_of (done (part_ended s (frames_at p.book s)) p) ≡ record (state_of p) { peers = peers_in plain left_open p.table p.peers; held = held_in left_open }
  part_ended-is =
      given-read Any (λ l. tt) plain p.book p.records ended_records p.requests p.requests p.table s p.peers (done (part_ended s (frames_at p.book s)) p).peers ended-gives ended-more sound.places refl refl refl
