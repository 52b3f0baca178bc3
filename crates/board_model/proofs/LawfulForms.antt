-- The words of a call that fit its form and pass as numbers and bytes tell a call whose arguments are in their ranges.
use Rattle.std.proofs.Common.{◌≡◌, ℕ, ◌-◌, ◌*◌, ◌≤◌, ◌<◌, ◌^◌, true, ◌&&◌, List, [], ◌∷◌, length, refl, ap, ◌∙◌, arith, map, cond, Bool, false}
use Rattle.std.specs.List.{AllByRecursion, list_all}
use Rattle.std.proofs.lemmas.Bool.{and_parts}
use Rattle.arrayvec.specs.ArrayVec.{ArrayVec}
use Rattle.mc_base.specs.Limits.{asked_limit, longest_frame, try_limit}
use Rattle.mc_base.specs.Letter.{bytes_of_bits}
use Rattle.mc_base.specs.declared.channel.Bits.{Bits}
use Rattle.mc_base.specs.declared.channel.Bits.TheVariants.{B8, B16, B32, B64}
use Rattle.std.specs.Prelude.{nat_le, ◌==◌}
use Rattle.std.proofs.lemmas.Bool.Decides.{nat_tests}
use Rattle.std.proofs.lemmas.List.{length-map}
use Rattle.board_model.specs.declared.scenario.Call.{Call}
use Rattle.board_model.specs.declared.form.ArgumentKind.{ArgumentKind}
use Rattle.board_model.specs.declared.form.ArgumentKind.TheVariants.{Port, Name, Priority, Content, Maximum, ChannelKind, ScalarBits, ScalarValue, RequestLabel, RequestLabels, PacketLabel, Limit, PeerDomain, RawFrame}
use Rattle.board_model.specs.declared.form.Callee.{Callee}
use Rattle.board_model.specs.declared.form.Callee.TheVariants as callee
use Rattle.board_model.specs.Grammar.{IsLawfulName, form_words, call_words}
use Rattle.board_model.specs.LinkedBoard.{HasFitArguments}
use Rattle.board_model.specs.FileWords.{numeral, is_number, number, content, are_bytes, is_label}
use Rattle.board_model.specs.FileLines.{parts_at, onto_first}
use Rattle.board_model.specs.Forms.{Value, bits_told, are_three, argument_fits, name_numerals, argument_numerals, argument_contents, name_from, value, Values, made, form, arguments_fit, arguments_numerals, arguments_contents, values, call_made, are_labels, group_limit, label_of}
use Rattle.std.proofs.Math.Nat.{pow-le-pow_right}
use Rattle.board_model.proofs.LawfulTests.{all-both}
use Rattle.board_model.proofs.LawfulWords.{number_fits, bytes_below, bytes_few}

-- ---- kinds of arguments

-- an argument in its range, where the one before it tells so many bits
-- one to eight labels
pub record IsGroup (labels : List (ArrayVec ℕ)) : Type 0 where
  pub some : 1 ≤ length labels
  pub few : length labels ≤ group_limit
  pub are_labels : list_all is_label (map (λ l. l.items) labels) ≡ true

abbrev pub IsFit : (kind : ArgumentKind) → (bits : ℕ) → Value kind → Type 0
IsFit Port bits n = n < 2 ^ 16
IsFit Name bits n = IsLawfulName n
IsFit Priority bits n = n ≤ 3
IsFit Content bits bs = (length bs ≤ asked_limit) × AllByRecursion (λ b. b < 256) bs
IsFit Maximum bits n = n ≤ asked_limit
IsFit ChannelKind bits kind = Unit {0}
IsFit ScalarBits bits value = Unit {0}
IsFit ScalarValue bits n = (n < 2 ^ bits) × (bits ≤ 64)
IsFit RequestLabel bits label = is_label label.items ≡ true
IsFit RequestLabels bits labels = IsGroup labels.items
IsFit Limit bits n = n ≤ try_limit
IsFit PacketLabel bits label = is_label label.items ≡ true
IsFit PeerDomain bits n = n ≤ 7
IsFit RawFrame bits bs = (1 ≤ length bs) × (length bs ≤ longest_frame) × AllByRecursion (λ b. b < 256) bs

abbrev pub AreFit : (kinds : List ArgumentKind) → (bits : ℕ) → Values kinds → Type 0
AreFit [] bits arguments = Unit {0}
AreFit (k ∷ ks) bits arguments = IsFit k bits arguments.0 × AreFit ks (bits_told k arguments.0) arguments.1

one_number : (least most : ℕ) (word : List ℕ) → (is_number (numeral least most word) && true) ≡ true → number word ≤ most
one_number least most word e = (number_fits least most word (and_parts (is_number (numeral least most word)) true e).0).1

name_fits : (parts : List (List ℕ)) → are_three parts ≡ true → list_all is_number (name_numerals parts) ≡ true → IsLawfulName (name_from parts)
name_fits [] three all = absurd cc
name_fits (d ∷ []) three all = absurd cc
name_fits (d ∷ n ∷ []) three all = absurd cc
name_fits (d ∷ n ∷ p ∷ []) three all =
    let first = and_parts (is_number (numeral 0 7 d)) (is_number (numeral 0 15 n) && (is_number (numeral 0 65535 p) && true)) all in
    let second = and_parts (is_number (numeral 0 15 n)) (is_number (numeral 0 65535 p) && true) first.1 in
    ((number_fits 0 7 d first.0).1, (number_fits 0 15 n second.0).1, omega (arith, one_number 0 65535 p second.1))
name_fits (d ∷ n ∷ p ∷ q ∷ qs) three all = absurd cc

-- scalars have 64 bits at most
few_bits : (bits : Bits) → 8 * bytes_of_bits bits ≤ 64
few_bits B8 = omega arith
few_bits B16 = omega arith
few_bits B32 = omega arith
few_bits B64 = omega arith

told_few : (kind : ArgumentKind) (v : Value kind) → bits_told kind v ≤ 64
told_few ScalarBits bits = few_bits bits
told_few Port v = omega arith
told_few Name v = omega arith
told_few Priority v = omega arith
told_few Content v = omega arith
told_few Maximum v = omega arith
told_few ChannelKind v = omega arith
told_few ScalarValue v = omega arith
told_few RequestLabel v = omega arith
told_few RequestLabels v = omega arith
told_few Limit v = omega arith
told_few PacketLabel v = omega arith
told_few PeerDomain v = omega arith
told_few RawFrame v = omega arith

value_below : (bits n : ℕ) → n ≤ 2 ^ bits - 1 → n < 2 ^ bits
value_below bits n le = let least : 0 ≤ bits = omega arith in let some : 2 ^ 0 ≤ 2 ^ bits = pow-le-pow_right (omega arith) least in omega (arith, le, some)

some_first : (b : ℕ) (parts : List (List ℕ)) → 1 ≤ length (onto_first b parts)
some_first b [] = omega arith
some_first b (p ∷ ps) = omega arith

some_if : (b : Bool) (xs ys : List (List ℕ)) → 1 ≤ length ys → 1 ≤ length (cond b ([] ∷ xs) ys)
some_if true xs ys some = omega arith
some_if false xs ys some = some

some_parts : (c : ℕ) (word : List ℕ) → 1 ≤ length (parts_at c word)
some_parts c [] = omega arith
some_parts c (b ∷ bs) = some_if (b == c) (parts_at c bs) (onto_first b (parts_at c bs)) (some_first b (parts_at c bs))

pub spelled_back : (parts : List (List ℕ)) → map (λ (l : ArrayVec ℕ). l.items) (map label_of parts) ≡ parts
spelled_back [] = refl
spelled_back (p ∷ ps) = ap (λ (qs : List (List ℕ)). p ∷ qs) (spelled_back ps)

group_fits : (parts : List (List ℕ)) → 1 ≤ length parts → are_labels parts ≡ true → IsGroup (map label_of parts)
group_fits parts some fit =
    let both = and_parts (list_all is_label parts) (nat_le (length parts) group_limit) fit in
    let few : nat_le (length parts) group_limit ≡ true = both.1 in
    let le : length parts ≤ group_limit = grind (arith, nat_tests) in
    record {
      some = omega (arith, some, length-map parts label_of);
      few = omega (arith, le, length-map parts label_of);
      are_labels = ap (list_all is_label) (spelled_back parts) ∙ both.0;
    }

kind_fits : (kind : ArgumentKind) (bits : ℕ) (word : List ℕ) → bits ≤ 64 → argument_fits kind word ≡ true → list_all is_number (argument_numerals kind bits word) ≡ true → list_all are_bytes (argument_contents kind word) ≡ true → IsFit kind bits (value kind word)
kind_fits Port bits word few fit numbers bytes = omega (arith, one_number 0 65535 word numbers)
kind_fits Name bits word few fit numbers bytes = name_fits (parts_at 58 word) fit numbers
kind_fits Priority bits word few fit numbers bytes = one_number 0 3 word numbers
kind_fits Content bits word few fit numbers bytes = ((bytes_few 0 asked_limit word (and_parts (are_bytes (content 0 asked_limit word)) true bytes).0).1, bytes_below word)
kind_fits Maximum bits word few fit numbers bytes = one_number 0 asked_limit word numbers
kind_fits ChannelKind bits word few fit numbers bytes = tt
kind_fits ScalarBits bits word few fit numbers bytes = tt
kind_fits ScalarValue bits word few fit numbers bytes = (value_below bits (number word) (one_number 0 (2 ^ bits - 1) word numbers), few)
kind_fits RequestLabel bits word few fit numbers bytes = fit
kind_fits RequestLabels bits word few fit numbers bytes = group_fits (parts_at 44 word) (some_parts 44 word) fit
kind_fits Limit bits word few fit numbers bytes = one_number 0 try_limit word numbers
kind_fits PacketLabel bits word few fit numbers bytes = fit
kind_fits PeerDomain bits word few fit numbers bytes = one_number 0 7 word numbers
kind_fits RawFrame bits word few fit numbers bytes = let within = bytes_few 1 longest_frame word (and_parts (are_bytes (content 1 longest_frame word)) true bytes).0 in (within.0, within.1, bytes_below word)

pub values-fit : (kinds : List ArgumentKind) (bits : ℕ) (words : List (List ℕ)) → bits ≤ 64 → arguments_fit kinds words ≡ true → list_all is_number (arguments_numerals kinds bits words) ≡ true → list_all are_bytes (arguments_contents kinds words) ≡ true → AreFit kinds bits (values kinds words)
values-fit [] bits words few fit numbers bytes = tt
values-fit (k ∷ ks) bits [] few fit numbers bytes = absurd cc
values-fit (k ∷ ks) bits (w ∷ ws) few fit numbers bytes =
    let next : ℕ = bits_told k (value k w) in
    let forms = and_parts (argument_fits k w) (arguments_fit ks ws) fit in
    let ranges = all-both is_number (argument_numerals k bits w) (arguments_numerals ks next ws) numbers in
    let contents = all-both are_bytes (argument_contents k w) (arguments_contents ks ws) bytes in
    (kind_fits k bits w few forms.0 ranges.0 contents.0, values-fit ks next ws (told_few k (value k w)) forms.1 ranges.1 contents.1)

-- ---- the table

abbrev pub call_with : (c : Callee) → Values (form c).arguments → Call
call_with c arguments = made (form c).arguments (form c).makes arguments

-- a call is written as the row that makes it, with the arguments of which it is made
pub words-made : (c : Callee) (arguments : Values (form c).arguments) → call_words (call_with c arguments) ≡ form_words c arguments
words-made callee.Create arguments = refl
words-made callee.Delete arguments = refl
words-made callee.Lookup arguments = refl
words-made callee.MsgSend arguments = refl
words-made callee.MsgRecv arguments = refl
words-made callee.MsgRecvI arguments = refl
words-made callee.MsgAvailable arguments = refl
words-made callee.Connect arguments = refl
words-made callee.OpenSend arguments = refl
words-made callee.OpenRecv arguments = refl
words-made callee.PktSend arguments = refl
words-made callee.PktRecv arguments = refl
words-made callee.PktRecvI arguments = refl
words-made callee.Release arguments = refl
words-made callee.SclSend arguments = refl
words-made callee.SclRecv arguments = refl
words-made callee.CloseSend arguments = refl
words-made callee.CloseRecv arguments = refl
words-made callee.Test arguments = refl
words-made callee.Wait arguments = refl
words-made callee.WaitAny arguments = refl
words-made callee.Cancel arguments = refl
words-made callee.Raw arguments = refl
words-made callee.Turn arguments = refl

has_fit : (c : Callee) (arguments : Values (form c).arguments) → AreFit (form c).arguments 0 arguments → HasFitArguments (call_with c arguments)
has_fit callee.Create arguments h = h.0
has_fit callee.Delete arguments h = h.0
has_fit callee.Lookup arguments h = h.0
has_fit callee.MsgSend arguments h = (h.0, h.1.0, h.1.1.0, h.1.1.1.0.0, h.1.1.1.0.1)
has_fit callee.MsgRecv arguments h = (h.0, h.1.0)
has_fit callee.MsgRecvI arguments h = (h.0, h.1.0)
has_fit callee.MsgAvailable arguments h = h.0
has_fit callee.Connect arguments h = (h.0, h.1.0)
has_fit callee.OpenSend arguments h = h.0
has_fit callee.OpenRecv arguments h = h.0
has_fit callee.PktSend arguments h = (h.0, h.1.0.0, h.1.0.1)
has_fit callee.PktRecv arguments h = h.0
has_fit callee.PktRecvI arguments h = h.0
has_fit callee.Release arguments h = tt
has_fit callee.SclSend arguments h = (h.0, h.1.1.0.0)
has_fit callee.SclRecv arguments h = h.0
has_fit callee.CloseSend arguments h = h.0
has_fit callee.CloseRecv arguments h = h.0
has_fit callee.Test arguments h = tt
has_fit callee.Wait arguments h = h.1.0
has_fit callee.WaitAny arguments h = (h.0.some, h.0.few, h.1.0)
has_fit callee.Cancel arguments h = tt
has_fit callee.Raw arguments h = (h.0, h.1.0.0, h.1.0.1, h.1.0.2)
has_fit callee.Turn arguments h = tt

pub call-fits : (c : Callee) (words : List (List ℕ)) → arguments_fit (form c).arguments words ≡ true → list_all is_number (arguments_numerals (form c).arguments 0 words) ≡ true → list_all are_bytes (arguments_contents (form c).arguments words) ≡ true → HasFitArguments (call_made c words)
call-fits c words fit numbers bytes = has_fit c (values (form c).arguments words) (values-fit (form c).arguments 0 words (omega arith) fit numbers bytes)
