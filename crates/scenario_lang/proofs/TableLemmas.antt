-- Tests that each row of the table of calls passes, and what any list of arguments is written as.
use Rattle.std.proofs.Common.{Bor, ◌≡◌, ℕ, zero, suc, drop, get_or, ◌+◌, ◌-◌, ◌*◌, ◌≤◌, ◌<◌, ◌^◌, Bool, true, false, List, [], ◌∷◌, ◌++◌, length, Option, Some, None, refl, ap, ◌∙◌, arith}
use Rattle.std.specs.Prelude.{decimal, codes, bytes_eq, is_some, unwrap_or}
use Rattle.std.specs.List.{list_all}
use Rattle.std.proofs.Math.Nat.{pow-le-pow_right}
use Rattle.std.proofs.lemmas.Bool.{and_from}
use Rattle.std.proofs.lemmas.List.Folds.{list_all-append}
use Rattle.arrayvec.specs.ArrayVec.{ArrayVec}
use Rattle.mc_base.specs.Limits.{asked_limit, longest_frame, try_limit}
use Rattle.mc_base.specs.Text.{hex_text}
use Rattle.mc_base.specs.Letter.{bytes_of_bits}
use Rattle.mc_base.specs.declared.channel.Kind.{Kind}
use Rattle.mc_base.specs.declared.channel.Kind.TheVariants as kind
use Rattle.mc_base.specs.declared.channel.Bits.{Bits}
use Rattle.mc_base.specs.declared.channel.Bits.TheVariants.{B8, B16, B32, B64}
use Rattle.board_model.specs.declared.form.ArgumentKind.{ArgumentKind}
use Rattle.board_model.specs.declared.form.ArgumentKind.TheVariants.{Port, Name, Priority, Content, Maximum, ChannelKind, ScalarBits, ScalarValue, RequestLabel, RequestLabels, PacketLabel, Limit, PeerDomain, RawFrame}
use Rattle.board_model.specs.declared.form.Callee.{Callee}
use Rattle.board_model.specs.declared.form.Callee.TheVariants as callee
use Rattle.board_model.specs.Grammar.{argument_text, argument_texts}
use Rattle.board_model.specs.FileWords.{numeral, is_admitted, is_number, number_of, content, are_bytes}
use Rattle.board_model.specs.Forms.{Value, bits_told, bits_of, are_three, argument_fits, name_numerals, argument_numerals, argument_contents, NamedLabel, argument_labels, value, Values, form, callee_among, callee_of, told_at, tries_at, arguments_fit, arguments_numerals, arguments_contents, arguments_labels, values}
use Rattle.board_model.specs.LineReasons.{is_empty}
use Rattle.board_model.proofs.LawfulForms.{IsFit, AreFit}
use Rattle.scenario_lang.specs.Reading.{seen}
use Rattle.scenario_lang.proofs.Options.{both_hold}
use Rattle.board_model.proofs.WordDecimals.{number_of-decimal, number-decimal, is_number-decimal}
use Rattle.scenario_lang.proofs.SpacedLemmas.{is_word, room}
use Rattle.scenario_lang.proofs.PlainLemmas.{IsPlain, decimal-plain, decimal_plain_64, label-plain}
use Rattle.scenario_lang.proofs.GroupLemmas.{group-plain, group-fits, group-back, group-same}
use Rattle.scenario_lang.proofs.NameWordLemmas.{name-plain, name-parts, name-read, name-numbers}
use Rattle.scenario_lang.proofs.ByteWordLemmas.{hex-plain, are_bytes-hex, are_bytes-within, bytes-hex}

-- ---- rows

-- bytes are the last argument, so that all numbers are read before them
abbrev pub content_ends : List ArgumentKind → Bool
content_ends [] = true
content_ends (Content ∷ ks) = is_empty ks
content_ends (RawFrame ∷ ks) = is_empty ks
content_ends (k ∷ ks) = content_ends ks

-- the most bytes that an argument is written with
abbrev pub widest : ArgumentKind → ℕ
widest Port = 10
widest Name = 32
widest Priority = 10
widest Content = 18000
widest Maximum = 10
widest ChannelKind = 6
widest ScalarBits = 10
widest ScalarValue = 20
widest RequestLabel = 16
widest RequestLabels = 135
widest PacketLabel = 16
widest Limit = 10
widest PeerDomain = 10
widest RawFrame = 18000

-- and the arguments of a form, each with a blank
abbrev pub all_widest : List ArgumentKind → ℕ
all_widest [] = 0
all_widest (k ∷ ks) = widest k + 1 + all_widest ks

pub record IsPlainRow (c : Callee) : Type 0 where
  pub seen : is_word (form c).word ≡ true
  pub no_try : bytes_eq (form c).word (codes "try") ≡ false
  pub named : callee_of (form c).word ≡ Some c
  pub few : length (form c).word + 1 + all_widest (form c).arguments ≤ 18100
  pub ends : content_ends (form c).arguments ≡ true

pub row_plain : (c : Callee) → IsPlainRow c
row_plain callee.Create = record { seen = refl; no_try = refl; named = refl; few = omega arith; ends = refl }
row_plain callee.Delete = record { seen = refl; no_try = refl; named = refl; few = omega arith; ends = refl }
row_plain callee.Lookup = record { seen = refl; no_try = refl; named = refl; few = omega arith; ends = refl }
row_plain callee.MsgSend = record { seen = refl; no_try = refl; named = refl; few = omega arith; ends = refl }
row_plain callee.MsgRecv = record { seen = refl; no_try = refl; named = refl; few = omega arith; ends = refl }
row_plain callee.MsgRecvI = record { seen = refl; no_try = refl; named = refl; few = omega arith; ends = refl }
row_plain callee.MsgAvailable = record { seen = refl; no_try = refl; named = refl; few = omega arith; ends = refl }
row_plain callee.Connect = record { seen = refl; no_try = refl; named = refl; few = omega arith; ends = refl }
row_plain callee.OpenSend = record { seen = refl; no_try = refl; named = refl; few = omega arith; ends = refl }
row_plain callee.OpenRecv = record { seen = refl; no_try = refl; named = refl; few = omega arith; ends = refl }
row_plain callee.PktSend = record { seen = refl; no_try = refl; named = refl; few = omega arith; ends = refl }
row_plain callee.PktRecv = record { seen = refl; no_try = refl; named = refl; few = omega arith; ends = refl }
row_plain callee.PktRecvI = record { seen = refl; no_try = refl; named = refl; few = omega arith; ends = refl }
row_plain callee.Release = record { seen = refl; no_try = refl; named = refl; few = omega arith; ends = refl }
row_plain callee.SclSend = record { seen = refl; no_try = refl; named = refl; few = omega arith; ends = refl }
row_plain callee.SclRecv = record { seen = refl; no_try = refl; named = refl; few = omega arith; ends = refl }
row_plain callee.CloseSend = record { seen = refl; no_try = refl; named = refl; few = omega arith; ends = refl }
row_plain callee.CloseRecv = record { seen = refl; no_try = refl; named = refl; few = omega arith; ends = refl }
row_plain callee.Test = record { seen = refl; no_try = refl; named = refl; few = omega arith; ends = refl }
row_plain callee.Wait = record { seen = refl; no_try = refl; named = refl; few = omega arith; ends = refl }
row_plain callee.WaitAny = record { seen = refl; no_try = refl; named = refl; few = omega arith; ends = refl }
row_plain callee.Cancel = record { seen = refl; no_try = refl; named = refl; few = omega arith; ends = refl }
row_plain callee.Raw = record { seen = refl; no_try = refl; named = refl; few = omega arith; ends = refl }
row_plain callee.Turn = record { seen = refl; no_try = refl; named = refl; few = omega arith; ends = refl }

-- ---- an argument as a word

-- the text of an argument is a word of its kind, and says that argument
pub record IsTextOf (kind : ArgumentKind) (bits : ℕ) (v : Value kind) : Type 0 where
  pub plain : IsPlain (widest kind) (argument_text kind v)
  pub fits : argument_fits kind (argument_text kind v) ≡ true
  pub numbers : list_all is_number (argument_numerals kind bits (argument_text kind v)) ≡ true
  pub bytes : list_all are_bytes (argument_contents kind (argument_text kind v)) ≡ true
  pub back : value kind (argument_text kind v) ≡ v

one_number : (most n : ℕ) → n ≤ most → n < 2 ^ 64 → list_all is_number (numeral 0 most (decimal n) ∷ []) ≡ true
one_number most n fits small = and_from (is_number (numeral 0 most (decimal n))) true (is_number-decimal 0 most n (omega arith) fits small) refl

kind_text_of : (bits : ℕ) (k : Kind) → IsTextOf ChannelKind bits k
kind_text_of bits kind.Packet = record { plain = record { is = refl; no_sign = refl; few = omega arith }; fits = refl; numbers = refl; bytes = refl; back = refl }
kind_text_of bits kind.Scalar = record { plain = record { is = refl; no_sign = refl; few = omega arith }; fits = refl; numbers = refl; bytes = refl; back = refl }

bits_small : (b : Bits) → 8 * bytes_of_bits b < 2 ^ 32
bits_small B8 = omega arith
bits_small B16 = omega arith
bits_small B32 = omega arith
bits_small B64 = omega arith

bits_back : (b : Bits) → bits_of (8 * bytes_of_bits b) ≡ Some b
bits_back B8 = refl
bits_back B16 = refl
bits_back B32 = refl
bits_back B64 = refl

bits_text_of : (bits : ℕ) (b : Bits) → IsTextOf ScalarBits bits b
bits_text_of bits b =
    let n : ℕ = 8 * bytes_of_bits b in
    let brief : n < 2 ^ 32 = bits_small b in
    let small : n < 2 ^ 64 = omega (arith, brief) in
    let one : is_admitted (λ m. is_some (bits_of m)) (number_of (decimal n)) ≡ true = ap (λ (o : Option ℕ). is_admitted (λ m. is_some (bits_of m)) o) (number_of-decimal n small) ∙ ap (λ (o : Option Bits). is_some o) (bits_back b) in
    record {
      plain = decimal-plain n brief;
      fits = refl;
      numbers = and_from (is_admitted (λ m. is_some (bits_of m)) (number_of (decimal n))) true one refl;
      bytes = refl;
      back = ap (λ (m : ℕ). unwrap_or (bits_of m) B64) (number-decimal n small) ∙ ap (λ (o : Option Bits). unwrap_or o B64) (bits_back b);
    }

-- a number of 64 bits at most
below_64 : (bits n : ℕ) → n < 2 ^ bits → bits ≤ 64 → n < 2 ^ 64
below_64 bits n below few = let all : 2 ^ bits ≤ 2 ^ 64 = pow-le-pow_right (omega arith) few in omega (arith, below, all)

text_of : (kind : ArgumentKind) (bits : ℕ) (v : Value kind) → IsFit kind bits v → IsTextOf kind bits v
text_of Port bits n h = record { plain = decimal-plain n (omega (arith, h)); fits = refl; numbers = one_number 65535 n (omega (arith, h)) (omega (arith, h)); bytes = refl; back = number-decimal n (omega (arith, h)) }
text_of Name bits n h = record {
  plain = name-plain n h;
  fits = ap are_three (name-parts n h);
  numbers = ap (λ (ps : List (List ℕ)). list_all is_number (name_numerals ps)) (name-parts n h) ∙ name-numbers n h;
  bytes = refl;
  back = name-read n h;
}
text_of Priority bits n h = record { plain = decimal-plain n (omega (arith, h)); fits = refl; numbers = one_number 3 n h (omega (arith, h)); bytes = refl; back = number-decimal n (omega (arith, h)) }
text_of Content bits bs h = record {
  plain = hex-plain bs h.1 h.0;
  fits = refl;
  numbers = refl;
  bytes = and_from (are_bytes (content 0 asked_limit (hex_text bs))) true (are_bytes-hex bs h.1 h.0) refl;
  back = bytes-hex bs h.1;
}
text_of Maximum bits n h = record { plain = decimal-plain n (omega (arith, h)); fits = refl; numbers = one_number asked_limit n h (omega (arith, h)); bytes = refl; back = number-decimal n (omega (arith, h)) }
text_of ChannelKind bits k h = kind_text_of bits k
text_of ScalarBits bits b h = bits_text_of bits b
text_of ScalarValue bits n h =
    let below = h.0 in
    let most = below_64 bits n h.0 h.1 in
    record { plain = decimal_plain_64 n most; fits = refl; numbers = one_number (2 ^ bits - 1) n (omega (arith, below)) most; bytes = refl; back = number-decimal n most }
text_of RequestLabel bits l h = record { plain = label-plain l.items h; fits = h; numbers = refl; bytes = refl; back = refl }
text_of RequestLabels bits ls h = record {
  plain = group-plain ls.items h;
  fits = group-fits ls.items h;
  numbers = refl;
  bytes = refl;
  back = ap (λ (xs : List (ArrayVec ℕ)). record { items = xs }) (group-back ls.items h);
}
text_of PacketLabel bits l h = record { plain = label-plain l.items h; fits = h; numbers = refl; bytes = refl; back = refl }
text_of Limit bits n h = record { plain = decimal-plain n (omega (arith, h)); fits = refl; numbers = one_number try_limit n h (omega (arith, h)); bytes = refl; back = number-decimal n (omega (arith, h)) }
text_of PeerDomain bits n h = record { plain = decimal-plain n (omega (arith, h)); fits = refl; numbers = one_number 7 n h (omega (arith, h)); bytes = refl; back = number-decimal n (omega (arith, h)) }
text_of RawFrame bits bs h =
    let few : length bs ≤ longest_frame = h.1 in
    record {
      plain = hex-plain bs h.2 (omega (arith, few));
      fits = refl;
      numbers = refl;
      bytes = and_from (are_bytes (content 1 longest_frame (hex_text bs))) true (are_bytes-within 1 longest_frame bs h.2 h.0 few) refl;
      back = bytes-hex bs h.2;
    }

-- ---- arguments as words

pub record AreTextsOf (ks : List ArgumentKind) (bits : ℕ) (vs : Values ks) : Type 0 where
  pub seen : list_all is_word (argument_texts ks vs) ≡ true
  pub few : room (argument_texts ks vs) ≤ all_widest ks
  pub fit : arguments_fit ks (argument_texts ks vs) ≡ true
  pub numbers : list_all is_number (arguments_numerals ks bits (argument_texts ks vs)) ≡ true
  pub contents : list_all are_bytes (arguments_contents ks (argument_texts ks vs)) ≡ true
  pub back : values ks (argument_texts ks vs) ≡ vs

pub texts-of : (ks : List ArgumentKind) (bits : ℕ) (vs : Values ks) → AreFit ks bits vs → AreTextsOf ks bits vs
texts-of [] bits vs h = record { seen = refl; few = omega arith; fit = refl; numbers = refl; contents = refl; back = refl }
texts-of (k ∷ ks) bits vs h =
    let t : List ℕ = argument_text k vs.0 in
    let ts : List (List ℕ) = argument_texts ks vs.1 in
    let first = text_of k bits vs.0 h.0 in
    let rest = texts-of ks (bits_told k vs.0) vs.1 h.1 in
    let told : list_all is_number (arguments_numerals ks (bits_told k (value k t)) ts) ≡ true = ap (λ (v : Value k). list_all is_number (arguments_numerals ks (bits_told k v) ts)) first.back ∙ rest.numbers in
    record {
      seen = and_from (is_word t) (list_all is_word ts) first.plain.is rest.seen;
      few = omega (arith, first.plain.few, rest.few);
      fit = and_from (argument_fits k t) (arguments_fit ks ts) first.fits rest.fit;
      numbers =
          list_all-append is_number (argument_numerals k bits t) (arguments_numerals ks (bits_told k (value k t)) ts)
          ∙ and_from (list_all is_number (argument_numerals k bits t)) (list_all is_number (arguments_numerals ks (bits_told k (value k t)) ts)) first.numbers told;
      contents =
          list_all-append are_bytes (argument_contents k t) (arguments_contents ks ts)
          ∙ and_from (list_all are_bytes (argument_contents k t)) (list_all are_bytes (arguments_contents ks ts)) first.bytes rest.contents;
      back = ap (λ (v : Value k). let p : Values (k ∷ ks) = (v, values ks ts) in p) first.back ∙ ap (λ (v : Values ks). let p : Values (k ∷ ks) = (vs.0, v) in p) rest.back;
    }

-- no argument is the sign of a label
pub no_label-before : (word : List ℕ) (ks : List ArgumentKind) (bits : ℕ) (vs : Values ks) → AreFit ks bits vs → told_at (word ∷ argument_texts ks vs) ≡ (None, word ∷ argument_texts ks vs)
no_label-before word [] bits vs h = refl
no_label-before word (k ∷ ks) bits vs h = let other = (text_of k bits vs.0 h.0).plain.no_sign in rw other refl

-- and another word than that of tries is none
pub no_tries-before : (word : List ℕ) (words : List (List ℕ)) → bytes_eq word (codes "try") ≡ false → tries_at (word ∷ words) ≡ (None, word ∷ words)
no_tries-before word [] other = refl
no_tries-before word (w ∷ ws) other = rw other refl

-- ---- the labels that are named

same_label : (k : ArgumentKind) (w : List ℕ) → argument_labels k (argument_text k (value k w)) ≡ argument_labels k w
same_label Port w = refl
same_label Name w = refl
same_label Priority w = refl
same_label Content w = refl
same_label Maximum w = refl
same_label ChannelKind w = refl
same_label ScalarBits w = refl
same_label ScalarValue w = refl
same_label RequestLabel w = refl
same_label RequestLabels w = ap (argument_labels RequestLabels) (group-same w)
same_label PacketLabel w = refl
same_label Limit w = refl
same_label PeerDomain w = refl
same_label RawFrame w = refl

pub same_labels : (ks : List ArgumentKind) (ws : List (List ℕ)) → arguments_fit ks ws ≡ true → arguments_labels ks (argument_texts ks (values ks ws)) ≡ arguments_labels ks ws
same_labels [] ws fit = refl
same_labels (k ∷ ks) [] fit = absurd cc
same_labels (k ∷ ks) (w ∷ ws) fit =
    ap (λ (ls : List NamedLabel). ls ++ arguments_labels ks (argument_texts ks (values ks ws))) (same_label k w)
    ∙ ap (λ (ls : List NamedLabel). argument_labels k w ++ ls) (same_labels ks ws (both_hold (argument_fits k w) (arguments_fit ks ws) fit).1)

-- ---- lists that are not as long as one another

pub too_few : (ks : List ArgumentKind) (ws : List (Bor (List ℕ))) → 1 ≤ length ks → length ws ≡ 0 → (false ≡ arguments_fit ks (seen ws)) × ([] ≡ arguments_labels ks (seen ws))
too_few [] ws some none = absurd (omega (arith, some))
too_few (k ∷ ks) [] some none = (refl, refl)
too_few (k ∷ ks) (w ∷ ws) some none = absurd (omega (arith, none))

-- ---- the search for a word

-- a call of another word is passed over
pub among_next : (cs : List Callee) (i : ℕ) (word : List ℕ) (none : Callee) → i < length cs → bytes_eq word (form (get_or cs i none)).word ≡ false → callee_among (drop i cs) word ≡ callee_among (drop (i + 1) cs) word
among_next [] i word none within other = absurd (omega (arith, within))
among_next (c ∷ cs) zero word none within other = rw other refl
among_next (c ∷ cs) (suc i) word none within other =
    let more : suc i + 1 ≡ suc (i + 1) = omega arith in
    rw more (among_next cs i word none (omega (arith, within)) other)
