-- A visit whose looks show all that stands on the lanes is the visit of the serial run.
use Rattle.std.proofs.Common.{◌≡◌, ℕ, min, List, [], ◌∷◌, ◌++◌, length, take, Option, None, refl, sym, ap, ap₂, ◌∙◌}
use Rattle.std.proofs.Math.Seq.{take-append_seam}
use Rattle.std.proofs.lemmas.List.{length-map}
use Rattle.mc_base.specs.Limits.{turn_limit}
use Rattle.mc_base.specs.declared.fate.Fate.{Fate}
use Rattle.board_model.specs.Journal.{Visit, Taken, taken}
use Rattle.board_model.specs.State.{DomainState, Peer, peer_of}
use Rattle.board_model.specs.Deeds.{takes, after_deed}
use Rattle.board_model.specs.Turn.{IsVisit}
use Rattle.board_model.specs.Serial.{dealt, due_to, visit_of}
use Rattle.board_model.specs.Loads.{Load, returned_on, frames_due, frames_seen, visit_to}
use Rattle.board_model.proofs.VisitLooks.{HaveWords, after_looks, visit-words}
use Rattle.board_model.proofs.WholeTakes.{frames_of}

-- frames with the words of their rows are dealt with by these rows
words_dealt : (s : DomainState) (peer : ℕ) (ts : List Taken) → HaveWords s peer ts → ts ≡ dealt s peer (frames_of ts)
words_dealt s peer [] words = refl
words_dealt s peer (t ∷ ts) words =
    ap₂ (λ (f : Fate) (us : List Taken). taken t.frame f ∷ us) (sym words.0) (words_dealt (after_deed s (takes peer None t.frame t.fate)) peer ts words.1)

-- what becomes of its frames follows from the frames
visit-dealt : (s : DomainState) (v : Visit) → HaveWords (after_looks s v) v.peer v.takes → v ≡ visit_of s v.peer v.back v.owed v.see (frames_of v.takes)
visit-dealt s v words = ap (λ (ts : List Taken). record v { takes = ts }) (words_dealt (after_looks s v) v.peer v.takes words)

-- the visit puts the owed frames that the buffers allow which came back
pub owed-due : (s : DomainState) (loads : List Load) (v : Visit) → IsVisit s v → v.back ≡ returned_on loads s.number v.peer → v.owed ≡ frames_due s loads v.peer
owed-due s loads v h back =
    h.puts_due ∙ ap (λ (o : Option Peer). due_to s.number o v.back) (sym h.known) ∙ ap (due_to s.number (peer_of s v.peer)) back

-- the frames that it takes are the first of those that it sees
pub visit-is : (s : DomainState) (loads : List Load) (v : Visit) (rest : List (List ℕ)) → IsVisit s v → v.back ≡ returned_on loads s.number v.peer → v.see ≡ length (frames_seen s loads v.peer) → frames_seen s loads v.peer ≡ frames_of v.takes ++ rest → v ≡ visit_to s loads v.peer
visit-is s loads v rest h back see first =
    let seen = frames_seen s loads v.peer in
    let many : length (frames_of v.takes) ≡ min turn_limit (length seen) = length-map v.takes (λ (t : Taken). t.frame) ∙ h.takes_first ∙ ap (min turn_limit) see in
    let taken : frames_of v.takes ≡ take (min turn_limit (length seen)) seen
    = sym (take-append_seam (frames_of v.takes) rest) ∙ ap (take (length (frames_of v.takes))) (sym first) ∙ ap (λ (k : ℕ). take k seen) many in
    visit-dealt s v (visit-words s v h.may)
    ∙ ap (λ (b : ℕ). visit_of s v.peer b v.owed v.see (frames_of v.takes)) back
    ∙ ap (λ (fs : List (List ℕ)). visit_of s v.peer (returned_on loads s.number v.peer) fs v.see (frames_of v.takes)) (owed-due s loads v h back)
    ∙ ap (λ (n : ℕ). visit_of s v.peer (returned_on loads s.number v.peer) (frames_due s loads v.peer) n (frames_of v.takes)) see
    ∙ ap (visit_of s v.peer (returned_on loads s.number v.peer) (frames_due s loads v.peer) (length seen)) taken
