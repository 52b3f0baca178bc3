use Rattle.std.proofs.Common.{◌≡◌, ◌&&◌, Bool, false, List, ℕ, sym, ap, ◌∙◌, ne_eqb}
use Rattle.std.specs.Prelude.{◌==◌, not, is_none, slice_index}
use Rattle.mc_base.specs.Frame.{destination_of, payload_of}
use Rattle.mc_base.specs.FaultRow.{first_fault}
use Rattle.mc_base.specs.LetterFaults.{fields_in, letter_faults}
use Rattle.board_model.specs.Messages.{ends_item}
use Rattle.board_numbers.proofs.CarryLemmas.{sound-carries}
use Rattle.board_numbers.proofs.counts.carries_message.Goals as goal

pub returns-then-frame-ne-NAME_SERVICE_ADDRESS : goal.returns-then-frame-ne-NAME_SERVICE_ADDRESS
returns-then-frame-ne-NAME_SERVICE_ADDRESS c =
    let frame = c.args.frame.now in
    let read = c.in-Ok.ensures.sound in
    let other : (destination_of frame == 53) ≡ false = ne_eqb (destination_of frame) 53 (λ e. c.if-frame-ne-NAME_SERVICE_ADDRESS.true (read.destination ∙ e)) in
    c.ends_message.ensures
    ∙ ap (λ (p : List ℕ). is_none (first_fault (letter_faults p)) && (slice_index p 2 == 1 && ends_item (fields_in p))) read.content
    ∙ sym (ap (λ (b : Bool). not b && (is_none (first_fault (letter_faults (payload_of frame))) && (slice_index (payload_of frame) 2 == 1 && ends_item (fields_in (payload_of frame))))) other)
    ∙ sym (sound-carries frame c.in-Ok.ensures.fault)
