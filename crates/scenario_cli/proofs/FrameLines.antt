-- The line of a frame, piece by piece, and what is told of a text.
use Rattle.std.proofs.Common.{◌≡◌, ℕ, Bool, true, false, List, [], ◌∷◌, ◌++◌, Option, Some, None, refl, sym, ap, subst, ◌∙◌, append_assoc}
use Rattle.std.specs.Prelude.{codes, decimal, IsSome, if◌then◌else◌}
use Rattle.mc_base.specs.Letter.{PlainLetter, msg, connect, accept, reject, recv_open, send_open, packet, scalar, send_close, recv_close, Carrier, of_message, of_packet, Saying, whole, in_part}
use Rattle.mc_base.specs.Text.{hex_text}
use Rattle.board_model.specs.Grammar.{spaced}
use Rattle.scenario_cli.specs.Hex.{hex_fault, bytes_spelled}
use Rattle.scenario_cli.specs.WrongText.{wrong_line}
use Rattle.scenario_cli.specs.FrameText.{right_line, letter_words, carrier_words, saying_words, announcement_words, frame_wrong, wrong_by, wrong_in, IsFrameText, TellsRight}

-- the word and the addresses before the words of the content
abbrev pub addresses : ℕ → ℕ → List ℕ
addresses src dst = codes "right " ++ (decimal src ++ (32 ∷ (decimal dst ++ (32 ∷ []))))

letter_line : (src dst : ℕ) (l : PlainLetter) → right_line src dst (letter_words l) ≡ addresses src dst ++ (spaced (letter_words l) ++ (10 ∷ []))
letter_line src dst (msg priority bytes) = simp append_assoc
letter_line src dst (connect channel kind) = simp append_assoc
letter_line src dst (accept channel) = simp append_assoc
letter_line src dst (reject channel reason) = simp append_assoc
letter_line src dst (recv_open channel) = simp append_assoc
letter_line src dst (send_open channel) = simp append_assoc
letter_line src dst (packet channel bytes) = simp append_assoc
letter_line src dst (scalar channel bits value) = simp append_assoc
letter_line src dst (send_close channel) = simp append_assoc
letter_line src dst (recv_close channel) = simp append_assoc

pub saying_line : (src dst : ℕ) (s : Saying) → right_line src dst (saying_words s) ≡ addresses src dst ++ (spaced (saying_words s) ++ (10 ∷ []))
saying_line src dst (whole l) = letter_line src dst l
saying_line src dst (in_part p) = go p.carrier
  where
    go : (k : Carrier) → right_line src dst (carrier_words k ++ decimal p.total ∷ decimal p.offset ∷ hex_text p.content ∷ []) ≡ addresses src dst ++ (spaced (carrier_words k ++ decimal p.total ∷ decimal p.offset ∷ hex_text p.content ∷ []) ++ (10 ∷ []))
    go (of_message priority) = simp append_assoc
    go (of_packet channel) = simp append_assoc

pub announcement_line : (src dst : ℕ) (name : List ℕ) (address : ℕ) (create : Bool) → right_line src dst (announcement_words name address create) ≡ addresses src dst ++ (spaced (announcement_words name address create) ++ (10 ∷ []))
announcement_line src dst name address true = simp append_assoc
announcement_line src dst name address false = simp append_assoc

-- the first two words together, and then the others
pub name_words : (name : List ℕ) (address : ℕ) (create : Bool) → spaced (announcement_words name address create) ≡ (if create then codes "name create " else codes "name destroy ") ++ (name ++ (32 ∷ decimal address))
name_words name address true = refl
name_words name address false = refl

-- where the text spells bytes, what is wrong with them is wrong with the text
pub spelled_wrong : (text bytes : List ℕ) → hex_fault text ≡ None → bytes ≡ bytes_spelled text → wrong_in text ≡ frame_wrong bytes
spelled_wrong text bytes none spelled = ap (λ (o : Option ℕ). wrong_by o (bytes_spelled text)) none ∙ ap frame_wrong (sym spelled)

pub hex_wrong : (text : List ℕ) (place : ℕ) → hex_fault text ≡ Some place → wrong_in text ≡ Some (wrong_line place (codes "hex"))
hex_wrong text place is = ap (λ (o : Option ℕ). wrong_by o (bytes_spelled text)) is

pub tells_right : (text bytes due : List ℕ) → hex_fault text ≡ None → bytes ≡ bytes_spelled text → frame_wrong bytes ≡ None → IsFrameText bytes due → TellsRight text due
tells_right text bytes due none spelled sound told = record { sound = spelled_wrong text bytes none spelled ∙ sound; told = rw (← spelled) told }

-- a text is a sound frame or none, and not both
pub some_wrong : (text : List ℕ) → wrong_in text ≡ None → IsSome (wrong_in text) → ⊥
some_wrong text none some = subst (λ o. IsSome o → ⊥) (sym none) (λ k. cc k) some

pub none_wrong : (text line : List ℕ) → wrong_in text ≡ Some line → wrong_in text ≡ None → ⊥
none_wrong text line some none = let both : Some line ≡ None = sym some ∙ none in absurd cc
