-- Which frames carry messages, fault by fault.
use Rattle.std.proofs.Common.{◌≡◌, ◌<◌, ◌+◌, ◌-◌, ◌^◌, ◌&&◌, Bool, true, false, cond, List, ℕ, suc, [], ◌∷◌, ◌++◌, length, Option, Some, None, option_map, refl, ap, ap₂, ◌∙◌, arith}
use Rattle.std.specs.Prelude.{◌==◌, not, is_none, slice_index}
use Rattle.mc_base.specs.Limits.{name_service_address}
use Rattle.mc_base.specs.Frame.{destination_of, payload_of, frame_faults}
use Rattle.mc_base.specs.FaultRow.{FaultRow, first, first_fault, widened}
use Rattle.mc_base.specs.Bytes.{number_at}
use Rattle.mc_base.specs.Letter.{Carrier, of_message, of_packet, PlainLetter, msg, connect, accept, reject, recv_open, send_open, packet, scalar, send_close, recv_close, spelling, piece, piece_spelling, Saying, whole, in_part, saying_text, CanBeSaid, IsSaying}
use Rattle.mc_base.specs.LetterFaults.{fields_in, letter_faults}
use Rattle.mc_base.specs.Announcement.{announcement_faults}
use Rattle.mc_base.specs.Fault.{fault, payload_faults}
use Rattle.mc_base.specs.declared.fault.Fault.TheVariants as fault_of
use Rattle.mc_base.proofs.FaultRows.{first_fault-widened}
use Rattle.mc_base.proofs.Readings.{number_twice}
use Rattle.board_model.specs.Messages.{carries_message, ends_item}
use Rattle.board_numbers.specs.Items.{ends_so}

-- where no row stands, the first fault is one behind
first-behind : {F : Type 0} (rows more : List (FaultRow F)) → first_fault rows ≡ None → first_fault (rows ++ more) ≡ first_fault more
first-behind [] more none = refl
first-behind (r ∷ rows) more none = go r.stands (first-behind rows more) none
  where
    go : (b : Bool) → (first_fault rows ≡ None → first_fault (rows ++ more) ≡ first_fault more) → option_map (λ x. x.fault) (cond b (Some r) (first rows)) ≡ None → option_map (λ x. x.fault) (cond b (Some r) (first (rows ++ more))) ≡ first_fault more
    go true rest some = absurd cc
    go false rest none = rest none

-- a frame without a fault of its own has those of its payload
sound : (frame : List ℕ) → first_fault (frame_faults frame) ≡ None → fault frame ≡ first_fault (payload_faults (destination_of frame) (payload_of frame))
sound frame none =
    first-behind (widened fault_of.Frame (frame_faults frame)) (payload_faults (destination_of frame) (payload_of frame)) (first_fault-widened fault_of.Frame (frame_faults frame) ∙ ap (option_map fault_of.Frame) none)

none_wider : {F G : Type 0} (f : F → G) (o : Option F) → is_none (option_map f o) ≡ is_none o
none_wider f None = refl
none_wider f (Some x) = refl

and_false : (x : Bool) → (x && false) ≡ false
and_false true = refl
and_false false = refl

-- an announcement carries none, and a letter carries one where it is sound and a message, or the last part of one
pub sound-carries : (frame : List ℕ) → first_fault (frame_faults frame) ≡ None → carries_message frame ≡ (not (destination_of frame == name_service_address) && (is_none (first_fault (letter_faults (payload_of frame))) && (slice_index (payload_of frame) 2 == 1 && ends_item (fields_in (payload_of frame)))))
sound-carries frame none = go (destination_of frame == name_service_address) refl
  where
    go : (b : Bool) → (destination_of frame == name_service_address) ≡ b → carries_message frame ≡ (not b && (is_none (first_fault (letter_faults (payload_of frame))) && (slice_index (payload_of frame) 2 == 1 && ends_item (fields_in (payload_of frame)))))
    go true at = ap (λ c. is_none (fault frame) && ((not c && slice_index (payload_of frame) 2 == 1) && ends_item (fields_in (payload_of frame)))) at ∙ and_false (is_none (fault frame))
    go false at =
        let letters : payload_faults (destination_of frame) (payload_of frame) ≡ widened fault_of.Letter (letter_faults (payload_of frame))
        = ap (λ c. cond c (widened fault_of.Ns (announcement_faults (payload_of frame))) (widened fault_of.Letter (letter_faults (payload_of frame)))) at in
        let faults : is_none (fault frame) ≡ is_none (first_fault (letter_faults (payload_of frame)))
        = ap is_none (sound frame none ∙ ap first_fault letters ∙ first_fault-widened fault_of.Letter (letter_faults (payload_of frame))) ∙ none_wider fault_of.Letter (first_fault (letter_faults (payload_of frame))) in
        ap (λ c. is_none (fault frame) && ((not c && slice_index (payload_of frame) 2 == 1) && ends_item (fields_in (payload_of frame)))) at ∙ ap (λ n. n && (slice_index (payload_of frame) 2 == 1 && ends_item (fields_in (payload_of frame)))) faults

-- ---- whether a payload says something whole, or its last part

ends-whole : (l : PlainLetter) → ends_item (fields_in (spelling l)) ≡ true
ends-whole (msg priority bytes) = refl
ends-whole (connect channel kind) = refl
ends-whole (accept channel) = refl
ends-whole (reject channel reason) = refl
ends-whole (recv_open channel) = refl
ends-whole (send_open channel) = refl
ends-whole (packet channel bytes) = refl
ends-whole (scalar channel bits value) = refl
ends-whole (send_close channel) = refl
ends-whole (recv_close channel) = refl

-- a content whose first four bytes are these two numbers
ends-from : (total offset : ℕ) (bytes content : List ℕ) → number_at 0 2 content ≡ total → number_at 2 2 content ≡ offset → length content ≡ suc (suc (suc (suc (length bytes)))) → (number_at 2 2 content + (length content - 4) == number_at 0 2 content) ≡ (offset + length bytes == total)
ends-from total offset bytes content first second size = ap₂ (λ x y. x == y) (ap₂ (λ x y. x + y) second (omega (arith, size))) first

ends-part : (k : Carrier) (total offset : ℕ) (bytes : List ℕ) → total < 2 ^ 16 → offset < 2 ^ 16 → ends_item (fields_in (piece_spelling (piece k total offset bytes))) ≡ (offset + length bytes == total)
ends-part (of_message priority) total offset bytes small smaller =
    let numbers = number_twice total offset bytes small smaller in
    let content = (fields_in (piece_spelling (piece (of_message priority) total offset bytes))).content in
    ends-from total offset bytes content numbers.0 numbers.1 refl
ends-part (of_packet channel) total offset bytes small smaller =
    let numbers = number_twice total offset bytes small smaller in
    let content = (fields_in (piece_spelling (piece (of_packet channel) total offset bytes))).content in
    ends-from total offset bytes content numbers.0 numbers.1 refl

pub ends-said : (payload : List ℕ) (s : Saying) → IsSaying payload s → ends_item (fields_in payload) ≡ ends_so s
ends-said payload s said = ap (λ (p : List ℕ). ends_item (fields_in p)) said.bytes ∙ go s said.lawful
  where
    go : (s : Saying) → CanBeSaid s → ends_item (fields_in (saying_text s)) ≡ ends_so s
    go (whole l) lawful = ends-whole l
    go (in_part p) lawful = let within = lawful.within in let most = lawful.most in ends-part p.carrier p.total p.offset p.content (omega arith) (omega arith)
