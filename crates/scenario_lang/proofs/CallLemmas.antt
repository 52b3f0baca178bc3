-- What the readers tell of the arguments of a call is what the table of reasons says.
use Rattle.std.proofs.Common.{◌≡◌, ℕ, true, ◌&&◌, List, [], ◌∷◌, length, refl, ◌∙◌, Option, Some, None, inl, inr}
use Rattle.std.specs.Prelude.{not, Result, Ok, Err, unwrap_or, if◌then◌else◌}
use Rattle.std.specs.List.{list_all}
use Rattle.std.proofs.lemmas.List.Folds.{list_all-append}
use Rattle.mc_base.specs.Limits.{asked_limit, longest_frame}
use Rattle.board_model.specs.declared.form.ArgumentKind.{ArgumentKind}
use Rattle.board_model.specs.declared.form.ArgumentKind.TheVariants.{Port, Name, Priority, Content, Maximum, ChannelKind, ScalarBits, ScalarValue, RequestLabel, RequestLabels, PacketLabel, Limit, PeerDomain, RawFrame}
use Rattle.board_model.specs.declared.form.Callee.{Callee}
use Rattle.board_model.specs.declared.form.Callee.TheVariants as callee
use Rattle.board_model.specs.declared.reason.LineReason.{LineReason}
use Rattle.board_model.specs.declared.reason.LineReason.TheVariants.{Form, Number, Bytes}
use Rattle.board_model.specs.FileLines.{parts_at}
use Rattle.board_model.specs.FileWords.{Numeral, numeral, is_number, is_within, content, are_within, are_bytes, bytes_of}
use Rattle.board_model.specs.FileWords.{Content as Bytes_word}
use Rattle.board_model.specs.Forms.{Value, bits_told, are_three, argument_fits, name_numerals, argument_numerals, argument_contents, name_from, value, Makes, made, form, arguments_fit, arguments_numerals, arguments_contents, values, call_made}
use Rattle.scenario_lang.specs.Fronts.{three_parts}
use Rattle.scenario_lang.specs.Reading.{◌>>=◌, or_form, number_in, some_bytes, few_bytes, bytes_in, name_at, value_in, argument_in, call_from, call_by, call_in}
use Rattle.scenario_lang.proofs.Options.{cases_bool, both_hold}
use Rattle.scenario_lang.proofs.TableLemmas.{content_ends, row_plain}

-- ---- words

name_checked : (parts : List (List ℕ)) →
    (or_form (three_parts parts) >>= λ p. number_in (numeral 0 7 p.0) >>= λ d. number_in (numeral 0 15 p.1) >>= λ n. number_in (numeral 0 65535 p.2) >>= λ q. Ok (record { domain = d; node = n; port = q }))
    ≡ (if not (are_three parts) then Err Form else if not (list_all is_number (name_numerals parts)) then Err Number else Ok (name_from parts))
name_checked [] = refl
name_checked (d ∷ []) = refl
name_checked (d ∷ n ∷ []) = refl
name_checked (d ∷ n ∷ p ∷ []) = elim (cases_bool (is_number (numeral 0 7 d))) [
  | inr bad ↦ rw bad refl
  | inl one ↦ elim (cases_bool (is_number (numeral 0 15 n))) [
    | inr bad ↦ rw (one, bad) refl
    | inl two ↦ elim (cases_bool (is_number (numeral 0 65535 p))) [ inl h ↦ rw (one, two, h) refl | inr h ↦ rw (one, two, h) refl ]
  ]
]
name_checked (d ∷ n ∷ p ∷ q ∷ qs) = refl

pub name_value : (word : List ℕ) → name_at word ≡ value_in Name 0 word
unfolding name_at
name_value word = name_checked (parts_at 58 word)

few_checked : (least most : ℕ) (o : Option (List ℕ)) → (some_bytes o >>= few_bytes least most) ≡ (if not (are_within least most o && true) then Err Bytes else Ok (unwrap_or o []))
few_checked least most None = refl
few_checked least most (Some bs) = elim (cases_bool (is_within least most (length bs))) [ inl h ↦ rw h refl | inr h ↦ rw h refl ]

pub bytes_value : (word : List ℕ) → bytes_in 0 asked_limit word ≡ value_in Content 0 word
bytes_value word = few_checked 0 asked_limit (bytes_of word)

pub frame_value : (word : List ℕ) → bytes_in 1 longest_frame word ≡ value_in RawFrame 0 word
frame_value word = few_checked 1 longest_frame (bytes_of word)

-- ---- arguments

-- a value whose words are all numbers and bytes, or the first reason
abbrev pub checked : {A : Type 0} → List Numeral → List Bytes_word → A → Result A LineReason
checked ns cs x = if list_all is_number ns then (if list_all are_bytes cs then Ok x else Err Bytes) else Err Number

-- an argument without bytes before others
plain_step : (k : ArgumentKind) (ks : List ArgumentKind) (bits : ℕ) (w : List ℕ) (ws : List (List ℕ)) (makes : Value k → Makes ks) → argument_contents k w ≡ [] → argument_fits k w ≡ true →
    call_from ks (bits_told k (value k w)) ws (makes (value k w)) ≡ checked (arguments_numerals ks (bits_told k (value k w)) ws) (arguments_contents ks ws) (made ks (makes (value k w)) (values ks ws)) →
    call_from (k ∷ ks) bits (w ∷ ws) makes ≡ checked (arguments_numerals (k ∷ ks) bits (w ∷ ws)) (arguments_contents (k ∷ ks) (w ∷ ws)) (made (k ∷ ks) makes (values (k ∷ ks) (w ∷ ws)))
unfolding argument_in
plain_step k ks bits w ws makes none fit rest =
    let both = list_all-append is_number (argument_numerals k bits w) (arguments_numerals ks (bits_told k (value k w)) ws) in
    elim (cases_bool (list_all is_number (argument_numerals k bits w))) [
      | inl right ↦ rw (fit, none, right, both, right) rest
      | inr wrong ↦ rw (fit, wrong, both, wrong) refl
    ]

call_from-checked : (ks : List ArgumentKind) (bits : ℕ) (ws : List (List ℕ)) (makes : Makes ks) → arguments_fit ks ws ≡ true → content_ends ks ≡ true → call_from ks bits ws makes ≡ checked (arguments_numerals ks bits ws) (arguments_contents ks ws) (made ks makes (values ks ws))
unfolding argument_in
call_from-checked [] bits [] makes fit ends = refl
call_from-checked [] bits (w ∷ ws) makes fit ends = absurd cc
call_from-checked (k ∷ ks) bits [] makes fit ends = absurd cc
call_from-checked (Content ∷ []) bits (w ∷ []) makes fit ends = elim (cases_bool (are_bytes (content 0 asked_limit w))) [ inl h ↦ rw h refl | inr h ↦ rw h refl ]
call_from-checked (Content ∷ []) bits (w ∷ v ∷ vs) makes fit ends = absurd cc
call_from-checked (Content ∷ k ∷ ks) bits (w ∷ ws) makes fit ends = absurd cc
call_from-checked (RawFrame ∷ []) bits (w ∷ []) makes fit ends = elim (cases_bool (are_bytes (content 1 longest_frame w))) [ inl h ↦ rw h refl | inr h ↦ rw h refl ]
call_from-checked (RawFrame ∷ []) bits (w ∷ v ∷ vs) makes fit ends = absurd cc
call_from-checked (RawFrame ∷ k ∷ ks) bits (w ∷ ws) makes fit ends = absurd cc
call_from-checked (Port ∷ ks) bits (w ∷ ws) makes fit ends = plain_step Port ks bits w ws makes refl refl (call_from-checked ks 0 ws (makes (value Port w)) fit ends)
call_from-checked (Name ∷ ks) bits (w ∷ ws) makes fit ends =
    let h = both_hold (argument_fits Name w) (arguments_fit ks ws) fit in
    plain_step Name ks bits w ws makes refl h.0 (call_from-checked ks 0 ws (makes (value Name w)) h.1 ends)
call_from-checked (Priority ∷ ks) bits (w ∷ ws) makes fit ends = plain_step Priority ks bits w ws makes refl refl (call_from-checked ks 0 ws (makes (value Priority w)) fit ends)
call_from-checked (Maximum ∷ ks) bits (w ∷ ws) makes fit ends = plain_step Maximum ks bits w ws makes refl refl (call_from-checked ks 0 ws (makes (value Maximum w)) fit ends)
call_from-checked (ChannelKind ∷ ks) bits (w ∷ ws) makes fit ends =
    let h = both_hold (argument_fits ChannelKind w) (arguments_fit ks ws) fit in
    plain_step ChannelKind ks bits w ws makes refl h.0 (call_from-checked ks 0 ws (makes (value ChannelKind w)) h.1 ends)
call_from-checked (ScalarBits ∷ ks) bits (w ∷ ws) makes fit ends = plain_step ScalarBits ks bits w ws makes refl refl (call_from-checked ks (bits_told ScalarBits (value ScalarBits w)) ws (makes (value ScalarBits w)) fit ends)
call_from-checked (ScalarValue ∷ ks) bits (w ∷ ws) makes fit ends = plain_step ScalarValue ks bits w ws makes refl refl (call_from-checked ks 0 ws (makes (value ScalarValue w)) fit ends)
call_from-checked (RequestLabel ∷ ks) bits (w ∷ ws) makes fit ends =
    let h = both_hold (argument_fits RequestLabel w) (arguments_fit ks ws) fit in
    plain_step RequestLabel ks bits w ws makes refl h.0 (call_from-checked ks 0 ws (makes (value RequestLabel w)) h.1 ends)
call_from-checked (RequestLabels ∷ ks) bits (w ∷ ws) makes fit ends =
    let h = both_hold (argument_fits RequestLabels w) (arguments_fit ks ws) fit in
    plain_step RequestLabels ks bits w ws makes refl h.0 (call_from-checked ks 0 ws (makes (value RequestLabels w)) h.1 ends)
call_from-checked (PacketLabel ∷ ks) bits (w ∷ ws) makes fit ends =
    let h = both_hold (argument_fits PacketLabel w) (arguments_fit ks ws) fit in
    plain_step PacketLabel ks bits w ws makes refl h.0 (call_from-checked ks 0 ws (makes (value PacketLabel w)) h.1 ends)
call_from-checked (Limit ∷ ks) bits (w ∷ ws) makes fit ends = plain_step Limit ks bits w ws makes refl refl (call_from-checked ks 0 ws (makes (value Limit w)) fit ends)
call_from-checked (PeerDomain ∷ ks) bits (w ∷ ws) makes fit ends = plain_step PeerDomain ks bits w ws makes refl refl (call_from-checked ks 0 ws (makes (value PeerDomain w)) fit ends)

pub call_by-row : (c : Callee) (words : List (List ℕ)) → call_in c words ≡ call_by c words
call_by-row callee.Create words = refl
call_by-row callee.Delete words = refl
call_by-row callee.Lookup words = refl
call_by-row callee.MsgSend words = refl
call_by-row callee.MsgRecv words = refl
call_by-row callee.MsgRecvI words = refl
call_by-row callee.MsgAvailable words = refl
call_by-row callee.Connect words = refl
call_by-row callee.OpenSend words = refl
call_by-row callee.OpenRecv words = refl
call_by-row callee.PktSend words = refl
call_by-row callee.PktRecv words = refl
call_by-row callee.PktRecvI words = refl
call_by-row callee.Release words = refl
call_by-row callee.SclSend words = refl
call_by-row callee.SclRecv words = refl
call_by-row callee.CloseSend words = refl
call_by-row callee.CloseRecv words = refl
call_by-row callee.Test words = refl
call_by-row callee.Wait words = refl
call_by-row callee.WaitAny words = refl
call_by-row callee.Cancel words = refl
call_by-row callee.Raw words = refl
call_by-row callee.Turn words = refl

pub call-checked : (c : Callee) (words : List (List ℕ)) → arguments_fit (form c).arguments words ≡ true → call_in c words ≡ checked (arguments_numerals (form c).arguments 0 words) (arguments_contents (form c).arguments words) (call_made c words)
call-checked c words fit = call_by-row c words ∙ call_from-checked (form c).arguments 0 words (form c).makes fit (row_plain c).ends
