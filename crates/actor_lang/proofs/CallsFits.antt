-- Numbered calls that are told are fit for a board.
use Rattle.std.proofs.Common.{◌≡◌, ℕ, ◌≤◌, true, List, [], ◌∷◌, Option, Some, None, refl, sym, ap, subst, ◌∙◌, arith, inl, inr}
use Rattle.std.specs.Prelude.{Result, Ok, Err}
use Rattle.std.proofs.lemmas.Bool.{cases_Bool}
use Rattle.std.proofs.lemmas.List.Elements.{All-from_recursion}
use Rattle.mc_base.specs.Limits.{last_domain}
use Rattle.board_model.specs.FileWords.{numeral}
use Rattle.board_model.specs.LineReasons.{is_link_size}
use Rattle.board_model.proofs.LawfulWords.{number_fits}
use Rattle.call_logs.specs.declared.numbered.NumberedCall.{NumberedCall}
use Rattle.call_logs.specs.CallsBoard.{IsCall}
use Rattle.actor_lang.specs.declared.fault.InputReason.{InputReason}
use Rattle.actor_lang.specs.declared.fault.InputReason.TheVariants.{Many}
use Rattle.actor_lang.specs.declared.calls.CallsHead.{CallsHead}
use Rattle.actor_lang.specs.InputLines.{input_lines, words_in}
use Rattle.actor_lang.specs.InputNumbers.{number_in, ring_size}
use Rattle.actor_lang.specs.InputFaults.{RefusedInput, ◌>>=◌, at_line, or_form, first_and_others, told_from, is_past}
use Rattle.actor_lang.specs.CallsInput.{NumberedCalls, calls_words, head_of, calls_numbers, calls_head, last_cell, greatest_amount, call_words, call_of, call_numbers, call_in, unless_past, call_line, with_calls, calls_behind, calls_of_lines, calls_told, AreFitCalls}
use Rattle.actor_lang.proofs.FitLemmas.{size_fits, number_is, near, AreFit, lines_fit}

-- ---- the first line

record IsFitHead (h : CallsHead) : Type 0 where
  some_clients : 1 ≤ h.clients
  few_clients : h.clients ≤ last_domain
  size : is_link_size h.size ≡ true
  wide : 4 ≤ h.size
  some_repeat : 1 ≤ h.repeat
  few_repeat : h.repeat ≤ 4

numbers_fit : (a b c : List ℕ) (h : CallsHead) → calls_numbers (a, b, c) ≡ Ok h → IsFitHead h
numbers_fit a b c h is = go (number_in (numeral 1 last_domain a)) (number_in (ring_size 4 b)) (number_in (numeral 1 4 c)) refl refl refl is
  where
    go : (x y z : Option ℕ) → number_in (numeral 1 last_domain a) ≡ x → number_in (ring_size 4 b) ≡ y → number_in (numeral 1 4 c) ≡ z → head_of x y z ≡ Ok h → IsFitHead h
    go None y z p q r e = absurd cc
    go (Some n) None z p q r e = absurd cc
    go (Some n) (Some m) None p q r e = absurd cc
    go (Some n) (Some m) (Some k) p q r e =
        let clients = number_is (numeral 1 last_domain a) n p in
        let size = number_is (ring_size 4 b) m q in
        let repeat = number_is (numeral 1 4 c) k r in
        let within = number_fits 1 last_domain a clients.0 in
        let right = size_fits 4 b size.0 in
        let often = number_fits 1 4 c repeat.0 in
        let made : CallsHead = record { clients = n; size = m; repeat = k } in
        let same : made ≡ h = cc in
        subst IsFitHead same
        (record {
          some_clients = omega (arith, within.0, clients.1);
          few_clients = omega (arith, within.1, clients.1);
          size = ap is_link_size (sym size.1) ∙ right.1;
          wide = omega (arith, right.0, size.1);
          some_repeat = omega (arith, often.0, repeat.1);
          few_repeat = omega (arith, often.1, repeat.1);
        })

head_fits : (o : Option (List ℕ × List ℕ × List ℕ)) (h : CallsHead) → (or_form o >>= calls_numbers) ≡ Ok h → IsFitHead h
head_fits None h is = absurd cc
head_fits (Some w) h is = numbers_fit w.0 w.1 w.2 h is

-- ---- a call

call_numbers-fit : (clients : ℕ) (a b c : List ℕ) (call : NumberedCall) → call_numbers clients (a, b, c) ≡ Ok call → IsCall clients call
call_numbers-fit clients a b c call is = go (number_in (numeral 1 clients a)) (number_in (numeral 0 last_cell b)) (number_in (numeral 0 greatest_amount c)) refl refl refl is
  where
    go : (x y z : Option ℕ) → number_in (numeral 1 clients a) ≡ x → number_in (numeral 0 last_cell b) ≡ y → number_in (numeral 0 greatest_amount c) ≡ z → call_of x y z ≡ Ok call → IsCall clients call
    go None y z p q r e = absurd cc
    go (Some n) None z p q r e = absurd cc
    go (Some n) (Some m) None p q r e = absurd cc
    go (Some n) (Some m) (Some k) p q r e =
        let client = number_is (numeral 1 clients a) n p in
        let cell = number_is (numeral 0 last_cell b) m q in
        let amount = number_is (numeral 0 greatest_amount c) k r in
        let one = number_fits 1 clients a client.0 in
        let two = number_fits 0 last_cell b cell.0 in
        let three = number_fits 0 greatest_amount c amount.0 in
        let made : NumberedCall = record { client = n; cell = m; amount = k } in
        let same : made ≡ call = cc in
        subst (IsCall clients) same
        (record {
          some_client = omega (arith, one.0, client.1);
          its_client = omega (arith, one.1, client.1);
          cell = omega (arith, two.1, cell.1);
          amount = omega (arith, three.1, amount.1);
        })

call_fits : (clients : ℕ) (o : Option (List ℕ × List ℕ × List ℕ)) (call : NumberedCall) → (or_form o >>= call_numbers clients) ≡ Ok call → IsCall clients call
call_fits clients None call is = absurd cc
call_fits clients (Some w) call is = call_numbers-fit clients w.0 w.1 w.2 call is

unless_past-fits : (clients n : ℕ) (r : Result NumberedCall InputReason) (call : NumberedCall) → ((x : NumberedCall) → r ≡ Ok x → IsCall clients x) → (r >>= unless_past n) ≡ Ok call → IsCall clients call × (n ≤ 100001)
unless_past-fits clients n (Err reason) call fit is = absurd cc
unless_past-fits clients n (Ok x) call fit is = elim (cases_Bool (is_past n)) [
  | inl holds ↦ let e : ◌≡◌ {A = Result NumberedCall InputReason} (Err Many) (Ok call) = rw holds at is in absurd cc
  | inr fails ↦ let e : ◌≡◌ {A = Result NumberedCall InputReason} (Ok x) (Ok call) = rw fails at is in let same : x ≡ call = cc in (subst (IsCall clients) same (fit x refl), near n fails)
]

call_line-fits : (clients n : ℕ) (line : List ℕ) (call : NumberedCall) → call_line clients n line ≡ Ok call → IsCall clients call × (n ≤ 100001)
call_line-fits clients n line call is = unless_past-fits clients n (call_in clients line) call (λ x e. call_fits clients (call_words (words_in line)) x e) is

-- ---- the text

with_fit : (h : CallsHead) (t : Result (List NumberedCall) RefusedInput) (c : NumberedCalls) → IsFitHead h → ((calls : List NumberedCall) → t ≡ Ok calls → AreFit (IsCall h.clients) 2 calls) → (t >>= with_calls h) ≡ Ok c → AreFitCalls c
with_fit h (Err e) c fit calls is = absurd cc
with_fit h (Ok xs) c fit calls is =
    let all = calls xs refl in
    let made : NumberedCalls = record { clients = h.clients; size = h.size; repeat = h.repeat; calls = xs } in
    let same : made ≡ c = cc in
    subst AreFitCalls same
    (record {
      some_clients = fit.some_clients;
      few_clients = fit.few_clients;
      size = fit.size;
      wide = fit.wide;
      some_repeat = fit.some_repeat;
      few_repeat = fit.few_repeat;
      few = omega (arith, all.1);
      calls = All-from_recursion (IsCall h.clients) xs all.0;
    })

behind_fits : (lines : List (List ℕ)) (hr : Result CallsHead InputReason) (c : NumberedCalls) → ((h : CallsHead) → hr ≡ Ok h → IsFitHead h) → (at_line 1 hr >>= calls_behind lines) ≡ Ok c → AreFitCalls c
behind_fits lines (Err reason) c fit is = absurd cc
behind_fits lines (Ok h) c fit is = with_fit h (told_from (call_line h.clients) 2 lines) c (fit h refl) (λ xs e. lines_fit (IsCall h.clients) (call_line h.clients) 2 lines xs (call_line-fits h.clients) (omega arith) e) is

text_fits : (lines : List (List ℕ)) (c : NumberedCalls) → (first_and_others lines >>= calls_of_lines) ≡ Ok c → AreFitCalls c
text_fits [] c is = absurd cc
text_fits (line ∷ lines) c is = behind_fits lines (calls_head line) c (λ h e. head_fits (calls_words (words_in line)) h e) is

pub calls_fit : (text : List ℕ) (c : NumberedCalls) → calls_told text ≡ Ok c → AreFitCalls c
calls_fit text c is = text_fits (input_lines text) c is
