-- The lines of a load board, each as a line that may be told after those above it: it fits the form of its call, the label that it tells
-- is new, and the label that it names is told above it.
use Rattle.std.proofs.Common.{◌≡◌, ℕ, zero, suc, ◌≤◌, ◌<◌, ◌^◌, Bool, true, false, not, ◌&&◌, ◌||◌, List, [], ◌∷◌, length, Some, refl, ap, arith, length-append, inl, inr}
use Rattle.std.specs.Prelude.{codes, decimal, nat_le, option_map}
use Rattle.std.specs.List.{list_all, AllByRecursion}
use Rattle.std.proofs.lemmas.Bool.{and_parts, and_from, le-leb}
use Rattle.mc_base.specs.Limits.{try_limit}
use Rattle.mc_base.specs.declared.channel.Kind.TheVariants.{Packet}
use Rattle.board_model.specs.declared.scenario.Call.TheVariants.{Create, Lookup, Connect, OpenSend, OpenRecv, PktSend, PktRecv, Release, CloseSend, CloseRecv}
use Rattle.board_model.specs.declared.scenario.CallLine.{CallLine}
use Rattle.board_model.specs.declared.form.Callee.{Callee}
use Rattle.board_model.specs.declared.form.Callee.TheVariants as callee
use Rattle.board_model.specs.Scenario.{label_in}
use Rattle.board_model.specs.Grammar.{spaced, line_of, argument_texts, form_words, call_words, caller_text, call_text, IsLawfulName}
use Rattle.board_model.specs.FileWords.{is_digit, is_letter_byte, is_label_byte, is_label}
use Rattle.board_model.specs.Forms.{Values, form, label_of, told_fits, tries_fit, arguments_labels, gives_request, gives_packet}
use Rattle.board_model.specs.LineReasons.{is_domain, is_told, is_told_of, tells_wrong_label, names_wrong_label, puts_sound}
use Rattle.board_model.specs.MadeLines.{once, tried, labelled, labelled_tried, waited, packet_label}
use Rattle.board_model.specs.LoadBoard.{far_end, packet_bytes, ring_board}
use Rattle.board_model.proofs.LawfulForms.{AreFit, call_with}
use Rattle.board_model.proofs.LawfulRanges.{TriesFit}
use Rattle.board_model.proofs.WordDecimals.{decimal-digits}
use Rattle.scenario_lang.proofs.Options.{cases_bool}
use Rattle.scenario_lang.proofs.SpacedLemmas.{room, length-spaced}
use Rattle.scenario_lang.proofs.PlainLemmas.{decimal-few}
use Rattle.scenario_lang.proofs.NameWordLemmas.{name-plain}
use Rattle.scenario_lang.proofs.ByteWordLemmas.{hex-short}
use Rattle.scenario_lang.proofs.CanonicalCallLines.{FitsHere, line_words, caller_plain}

-- a line that may be told after these, on the ring, and is short
pub record CanTell (above : List CallLine) (k : CallLine) : Type 0 where
  pub callee : Callee
  pub arguments : Values (form callee).arguments
  pub fits : FitsHere (ring_board above) k callee arguments
  pub few : length (call_text k) ≤ 200

-- ---- what all lines share

ring_told : (above : List CallLine) (d : ℕ) → d ≤ 3 → is_domain (ring_board above) d ≡ true
ring_told above zero small = refl
ring_told above (suc zero) small = refl
ring_told above (suc (suc zero)) small = refl
ring_told above (suc (suc (suc zero))) small = refl
ring_told above (suc (suc (suc (suc d)))) small = absurd (omega (arith, small))

pub line-few : (words : List (List ℕ)) → room words ≤ 199 → length (line_of words) ≤ 200
line-few words few = omega (arith, length-append (spaced words) (10 ∷ []), length-spaced words, few)

caller_few : (k : CallLine) → k.domain ≤ 3 → k.node ≤ 15 → length (caller_text k) ≤ 21
caller_few k small node = (caller_plain k (omega (arith, small)) node).few

far_lawful : (d : ℕ) → d ≤ 3 → IsLawfulName (far_end d)
far_lawful d small = (omega (arith, small), omega arith, omega arith)

limit_few : length (decimal try_limit) ≤ 10
limit_few = decimal-few try_limit (omega arith)

-- a line of one of the domains, with arguments that fit its form and no label out of place
line-can : (above : List CallLine) (k : CallLine) (c : Callee) (arguments : Values (form c).arguments) → k.domain ≤ 3 → k.node ≤ 15 → call_words k.call ≡ form_words c arguments → call_with c arguments ≡ k.call → puts_sound k.call ≡ false → TriesFit k.tries
    → tries_fit (form c).tried (option_map decimal k.tries) ≡ true
    → AreFit (form c).arguments 0 arguments
    → told_fits (form c).labelled (label_in k) ≡ true
    → (tells_wrong_label (ring_board above) (form c).labelled k.domain (label_in k) || names_wrong_label (ring_board above) k.domain (arguments_labels (form c).arguments (argument_texts (form c).arguments arguments))) ≡ false
    → room (line_words k) ≤ 199
    → CanTell above k
line-can above k c arguments small node says makes faulty tries tried_right fit label_fits label_right few = record {
  callee = c;
  arguments = arguments;
  fits = record {
    says = says;
    makes = makes;
    told_domain = ring_told above k.domain small;
    domain_fits = omega (arith, small);
    node_fits = node;
    tries_within = tries;
    tried_right = tried_right;
    arguments_fit = fit;
    label_fits = label_fits;
    label_right = label_right;
    frame_faulty = faulty;
  };
  few = line-few (line_words k) few;
}

tries_most : TriesFit (Some try_limit)
tries_most = (omega arith, omega arith)

-- ---- lines without a label

pub create-can : (above : List CallLine) (d port : ℕ) → d ≤ 3 → port < 2 ^ 16 → CanTell above (once d (Create port))
create-can above d port small fits =
    let k : CallLine = once d (Create port) in
    line-can above k callee.Create (port, tt) small (omega arith) refl refl refl tt refl (fits, tt) refl refl (omega (arith, caller_few k small (omega arith), decimal-few port (omega (arith, fits))))

pub open_recv-can : (above : List CallLine) (d : ℕ) → d ≤ 3 → CanTell above (tried d (OpenRecv 2 Packet))
open_recv-can above d small =
    let k : CallLine = tried d (OpenRecv 2 Packet) in
    line-can above k callee.OpenRecv (2, (Packet, tt)) small (omega arith) refl refl refl tries_most refl (omega arith, (tt, tt)) refl refl (omega (arith, caller_few k small (omega arith), limit_few, decimal-few 2 (omega arith)))

pub open_send-can : (above : List CallLine) (d : ℕ) → d ≤ 3 → CanTell above (tried d (OpenSend 1 Packet))
open_send-can above d small =
    let k : CallLine = tried d (OpenSend 1 Packet) in
    line-can above k callee.OpenSend (1, (Packet, tt)) small (omega arith) refl refl refl tries_most refl (omega arith, (tt, tt)) refl refl (omega (arith, caller_few k small (omega arith), limit_few, decimal-few 1 (omega arith)))

pub send-can : (above : List CallLine) (d : ℕ) (bytes : List ℕ) → d ≤ 3 → length bytes ≤ 4 → AllByRecursion (λ b. b < 256) bytes → CanTell above (tried d (PktSend 1 bytes))
send-can above d bytes small short fit =
    let k : CallLine = tried d (PktSend 1 bytes) in
    line-can above k callee.PktSend (1, (bytes, tt)) small (omega arith) refl refl refl tries_most refl (omega arith, ((omega (arith, short), fit), tt)) refl refl
    (omega (arith, caller_few k small (omega arith), limit_few, decimal-few 1 (omega arith), hex-short bytes, short))

pub close_send-can : (above : List CallLine) (d : ℕ) → d ≤ 3 → CanTell above (tried d (CloseSend 1))
close_send-can above d small =
    let k : CallLine = tried d (CloseSend 1) in
    line-can above k callee.CloseSend (1, tt) small (omega arith) refl refl refl tries_most refl (omega arith, tt) refl refl (omega (arith, caller_few k small (omega arith), limit_few, decimal-few 1 (omega arith)))

pub close_recv-can : (above : List CallLine) (d : ℕ) → d ≤ 3 → CanTell above (tried d (CloseRecv 2))
close_recv-can above d small =
    let k : CallLine = tried d (CloseRecv 2) in
    line-can above k callee.CloseRecv (2, tt) small (omega arith) refl refl refl tries_most refl (omega arith, tt) refl refl (omega (arith, caller_few k small (omega arith), limit_few, decimal-few 2 (omega arith)))

-- ---- lines that tell a label, which is new

pub lookup-can : (above : List CallLine) (d : ℕ) → d ≤ 3 → is_told (ring_board above) d (codes "a") ≡ false → CanTell above (labelled d (codes "a") (Lookup (far_end d)))
lookup-can above d small fresh =
    let k : CallLine = labelled d (codes "a") (Lookup (far_end d)) in
    let far = far_lawful d small in
    line-can above k callee.Lookup (far_end d, tt) small (omega arith) refl refl refl tt refl (far, tt) refl (ap (λ (b : Bool). b || false) fresh) (omega (arith, caller_few k small (omega arith), (name-plain (far_end d) far).few))

pub connect-can : (above : List CallLine) (d : ℕ) → d ≤ 3 → is_told (ring_board above) d (codes "c") ≡ false → CanTell above (labelled_tried d (codes "c") (Connect 1 (far_end d) Packet))
connect-can above d small fresh =
    let k : CallLine = labelled_tried d (codes "c") (Connect 1 (far_end d) Packet) in
    let far = far_lawful d small in
    line-can above k callee.Connect (1, (far_end d, (Packet, tt))) small (omega arith) refl refl refl tries_most refl (omega arith, (far, (tt, tt))) refl (ap (λ (b : Bool). b || false) fresh)
    (omega (arith, caller_few k small (omega arith), limit_few, decimal-few 1 (omega arith), (name-plain (far_end d) far).few))

pub receive-can : (above : List CallLine) (d : ℕ) (label : List ℕ) → d ≤ 3 → is_label label ≡ true → length label ≤ 16 → is_told (ring_board above) d label ≡ false → CanTell above (labelled_tried d label (PktRecv 2))
receive-can above d label small is short fresh =
    let k : CallLine = labelled_tried d label (PktRecv 2) in
    line-can above k callee.PktRecv (2, tt) small (omega arith) refl refl refl tries_most refl (omega arith, tt) is (ap (λ (b : Bool). b || false) fresh)
    (omega (arith, caller_few k small (omega arith), limit_few, decimal-few 2 (omega arith), short))

-- ---- lines that name a label, which is told above

pub wait-can : (above : List CallLine) (d : ℕ) (label : List ℕ) → d ≤ 3 → is_label label ≡ true → length label ≤ 16 → is_told_of gives_request (ring_board above) d label ≡ true → CanTell above (waited d label)
wait-can above d label small is short told =
    let k : CallLine = waited d label in
    line-can above k callee.Wait (label_of label, (try_limit, tt)) small (omega arith) refl refl refl tt refl (is, (omega arith, tt)) refl (ap (λ (b : Bool). not b || false) told)
    (omega (arith, caller_few k small (omega arith), limit_few, short))

pub release-can : (above : List CallLine) (d : ℕ) (label : List ℕ) → d ≤ 3 → is_label label ≡ true → length label ≤ 16 → is_told_of gives_packet (ring_board above) d label ≡ true → CanTell above (once d (Release (label_of label)))
release-can above d label small is short told =
    let k : CallLine = once d (Release (label_of label)) in
    line-can above k callee.Release (label_of label, tt) small (omega arith) refl refl refl tt refl (is, tt) refl (ap (λ (b : Bool). not b || false) told) (omega (arith, caller_few k small (omega arith), short))

-- ---- labels and bytes of packets

digit_label : (b : ℕ) → is_digit b ≡ true → is_label_byte b ≡ true
digit_label b digit = elim (cases_bool (is_letter_byte b)) [
  | inl letter ↦ rw letter refl
  | inr other ↦ rw (other, digit) refl
]

digits_label : (ds : List ℕ) → list_all is_digit ds ≡ true → list_all is_label_byte ds ≡ true
digits_label [] all = refl
digits_label (d ∷ ds) all =
    let parts = and_parts (is_digit d) (list_all is_digit ds) all in
    and_from (is_label_byte d) (list_all is_label_byte ds) (digit_label d parts.0) (digits_label ds parts.1)

pub packet_label-is : (k : ℕ) → k < 2 ^ 32 → is_label (packet_label k) ≡ true
packet_label-is k small =
    let short : nat_le (length (decimal k)) 15 ≡ true = le-leb (length (decimal k)) 15 (omega (arith, decimal-few k small)) in
    and_from (is_letter_byte 112 && nat_le (length (decimal k)) 15) (list_all is_label_byte (decimal k)) (and_from (is_letter_byte 112) (nat_le (length (decimal k)) 15) refl short)
    (digits_label (decimal k) (decimal-digits k (omega (arith, small))))

pub packet_label-few : (k : ℕ) → k < 2 ^ 32 → length (packet_label k) ≤ 16
packet_label-few k small = omega (arith, decimal-few k small)

pub packet_bytes-fit : (k : ℕ) → AllByRecursion (λ b. b < 256) (packet_bytes k)
packet_bytes-fit k = (omega arith, (omega arith, (omega arith, (omega arith, tt))))
