-- The first fault of a frame, and its place.
use Rattle.std.proofs.Common.{◌≡◌, ℕ, Bool, true, false, ◌==◌, List, [], ◌∷◌, length, Option, Some, None, refl, ap, ◌∙◌, subst}
use Rattle.std.specs.Prelude.{option_map, if◌then◌else◌}
use Rattle.std.specs.List.{AllByRecursion}
use Rattle.mc_base.specs.Limits.{name_service_address}
use Rattle.mc_base.specs.Frame.{destination_of, payload_of}
use Rattle.mc_base.specs.Fault.{faults}
use Rattle.mc_base.specs.FaultRow.{FaultRow, first, first_fault, widened}
use Rattle.mc_base.specs.LetterFaults.{letter_faults}
use Rattle.mc_base.specs.Announcement.{announcement_faults}
use Rattle.mc_base.specs.declared.fault.Fault.{Fault}
use Rattle.mc_base.specs.declared.fault.Fault.TheVariants as fault_of
use Rattle.board_model.specs.Dealing.{fault_word}
use Rattle.board_model.specs.Words.{fate_text}
use Rattle.scenario_cli.specs.WrongText.{wrong_line}
use Rattle.scenario_cli.specs.FrameText.{fault_line, frame_wrong}
use Rattle.scenario_cli.specs.Places.{place_in}

-- a row of the tables has the place that is told of its fault
abbrev IsPlaced : ℕ → FaultRow Fault → Type 0
IsPlaced size r = r.place ≡ place_in r.fault size

payload_placed : (size : ℕ) (names : Bool) (payload : List ℕ) → AllByRecursion (IsPlaced size) (if names then widened fault_of.Ns (announcement_faults payload) else widened fault_of.Letter (letter_faults payload))
payload_placed size true payload = (refl, (refl, (refl, tt)))
payload_placed size false payload = (refl, (refl, (refl, (refl, (refl, (refl, (refl, tt)))))))

-- each row does
all_placed : (frame : List ℕ) → AllByRecursion (IsPlaced (length frame)) (faults frame)
all_placed frame = (refl, (refl, (refl, payload_placed (length frame) (destination_of frame == name_service_address) (payload_of frame))))

here_or_later : (P : FaultRow Fault → Type 0) (stands : Bool) (x : FaultRow Fault) (later : Option (FaultRow Fault)) → P x → ((r : FaultRow Fault) → later ≡ Some r → P r) → (r : FaultRow Fault) → (if stands then Some x else later) ≡ Some r → P r
here_or_later P true x later here rest r is = subst P (cc is) here
here_or_later P false x later here rest r is = rest r is

first_has : (P : FaultRow Fault → Type 0) (rows : List (FaultRow Fault)) → AllByRecursion P rows → (r : FaultRow Fault) → first rows ≡ Some r → P r
first_has P [] all r is = absurd cc
first_has P (x ∷ rows) all r is = here_or_later P x.stands x (first rows) all.0 (first_has P rows all.1) r is

line_of_row : (size : ℕ) (o : Option (FaultRow Fault)) (e : Fault) → ((r : FaultRow Fault) → o ≡ Some r → IsPlaced size r) → option_map (λ r. r.fault) o ≡ Some e → option_map fault_line o ≡ Some (wrong_line (place_in e size) (fate_text (fault_word e)))
line_of_row size None e placed is = absurd cc
line_of_row size (Some r) e placed is =
    let same : r.fault ≡ e = cc is in
    ap (λ n. Some (wrong_line n (fate_text (fault_word r.fault)))) (placed r refl) ∙ ap (λ (f : Fault). Some (wrong_line (place_in f size) (fate_text (fault_word f)))) same

-- the line of the first fault
pub wrong_of : (frame : List ℕ) (e : Fault) → first_fault (faults frame) ≡ Some e → frame_wrong frame ≡ Some (wrong_line (place_in e (length frame)) (fate_text (fault_word e)))
wrong_of frame e is = line_of_row (length frame) (first (faults frame)) e (first_has (IsPlaced (length frame)) (faults frame) (all_placed frame)) is

no_row : (o : Option (FaultRow Fault)) → option_map (λ r. r.fault) o ≡ None → option_map fault_line o ≡ None
no_row None is = refl
no_row (Some r) is = absurd cc

-- there is none where no fault is
pub nothing_wrong : (frame : List ℕ) → first_fault (faults frame) ≡ None → frame_wrong frame ≡ None
nothing_wrong frame is = no_row (first (faults frame)) is
