-- A relay that is told is fit for a board.
use Rattle.std.proofs.Common.{◌≡◌, ℕ, ◌≤◌, length, true, List, [], ◌∷◌, Option, Some, None, refl, sym, ap, subst, ◌∙◌, arith, inl, inr}
use Rattle.std.specs.Prelude.{nat_le, Result, Ok, Err}
use Rattle.std.proofs.lemmas.Bool.{cases_Bool, and_parts, leb-true}
use Rattle.std.proofs.lemmas.List.Elements.{All-from_recursion}
use Rattle.mc_base.specs.Limits.{last_domain, item_size}
use Rattle.mc_base.specs.Pieces.{frames_of_size}
use Rattle.board_model.specs.FileWords.{numeral, bytes_of}
use Rattle.board_model.specs.LineReasons.{is_link_size}
use Rattle.board_model.proofs.LawfulWords.{number_fits}
use Rattle.actor_lang.specs.declared.fault.InputReason.{InputReason}
use Rattle.actor_lang.specs.declared.fault.InputReason.TheVariants.{Many, Bytes}
use Rattle.actor_lang.specs.declared.relay.RelayHead.{RelayHead}
use Rattle.actor_lang.specs.InputLines.{input_lines, words_in}
use Rattle.actor_lang.specs.InputNumbers.{number_in, ring_size}
use Rattle.actor_lang.specs.InputFaults.{RefusedInput, ◌>>=◌, at_line, or_form, first_and_others, told_from, is_past}
use Rattle.actor_lang.specs.RelayInput.{Relay, relay_words, head_of, relay_numbers, relay_head, fits_ring, fitting, packet_in, packet_line, with_packets, packets_behind, relay_of_lines, relay_told, IsFitRelay}
use Rattle.actor_lang.proofs.FitLemmas.{size_fits, number_is, near, AreFit, lines_fit}

-- ---- the first line

record IsFitHead (h : RelayHead) : Type 0 where
  some_hops : 1 ≤ h.hops
  few_hops : h.hops ≤ last_domain
  size : is_link_size h.size ≡ true

numbers_fit : (a b : List ℕ) (h : RelayHead) → relay_numbers (a, b) ≡ Ok h → IsFitHead h
numbers_fit a b h is = go (number_in (numeral 1 last_domain a)) (number_in (ring_size 2 b)) refl refl is
  where
    go : (x y : Option ℕ) → number_in (numeral 1 last_domain a) ≡ x → number_in (ring_size 2 b) ≡ y → head_of x y ≡ Ok h → IsFitHead h
    go None y p q e = absurd cc
    go (Some n) None p q e = absurd cc
    go (Some n) (Some m) p q e =
        let hops = number_is (numeral 1 last_domain a) n p in
        let size = number_is (ring_size 2 b) m q in
        let within = number_fits 1 last_domain a hops.0 in
        let right = size_fits 2 b size.0 in
        let made : RelayHead = record { hops = n; size = m } in
        let same : made ≡ h = cc in
        subst IsFitHead same (record { some_hops = omega (arith, within.0, hops.1); few_hops = omega (arith, within.1, hops.1); size = ap is_link_size (sym size.1) ∙ right.1 })

head_fits : (o : Option (List ℕ × List ℕ)) (h : RelayHead) → (or_form o >>= relay_numbers) ≡ Ok h → IsFitHead h
head_fits None h is = absurd cc
head_fits (Some w) h is = numbers_fit w.0 w.1 h is

-- ---- packets

fitting_fits : (size : ℕ) (o : Option (List ℕ)) (p : List ℕ) → fitting size o ≡ Ok p → length p ≤ item_size
fitting_fits size None p is = absurd cc
fitting_fits size (Some q) p is = elim (cases_Bool (fits_ring size (length q))) [
  | inl holds ↦
      let e : ◌≡◌ {A = Result (List ℕ) InputReason} (Ok q) (Ok p) = rw holds at is in
      let same : q ≡ p = cc in
      let parts = and_parts (nat_le (length q) item_size) (nat_le (frames_of_size (length q)) size) holds in
      subst (λ (t : List ℕ). length t ≤ item_size) same (leb-true (length q) item_size parts.0)
  | inr fails ↦ let e : ◌≡◌ {A = Result (List ℕ) InputReason} (Err Bytes) (Ok p) = rw fails at is in absurd cc
]

packet_fits : (size : ℕ) (line p : List ℕ) → packet_in size line ≡ Ok p → length p ≤ item_size
packet_fits size [] p is = absurd cc
packet_fits size (b ∷ bs) p is = fitting_fits size (bytes_of (b ∷ bs)) p is

packet_line-fits : (size n : ℕ) (line p : List ℕ) → packet_line size n line ≡ Ok p → (length p ≤ item_size) × (n ≤ 100001)
packet_line-fits size n line p is = elim (cases_Bool (is_past n)) [
  | inl holds ↦ let e : ◌≡◌ {A = Result (List ℕ) InputReason} (Err Many) (Ok p) = rw holds at is in absurd cc
  | inr fails ↦ let e : packet_in size line ≡ Ok p = rw fails at is in (packet_fits size line p e, near n fails)
]

-- ---- the text

with_fit : (h : RelayHead) (t : Result (List (List ℕ)) RefusedInput) (r : Relay) → IsFitHead h → ((ps : List (List ℕ)) → t ≡ Ok ps → AreFit (λ (packet : List ℕ). length packet ≤ item_size) 2 ps) → (t >>= with_packets h) ≡ Ok r → IsFitRelay r
with_fit h (Err e) r fit packets is = absurd cc
with_fit h (Ok ps) r fit packets is =
    let all = packets ps refl in
    let made : Relay = record { hops = h.hops; size = h.size; packets = ps } in
    let same : made ≡ r = cc in
    subst IsFitRelay same (record { some_hops = fit.some_hops; few_hops = fit.few_hops; size = fit.size; few = omega (arith, all.1); packets = All-from_recursion (λ (packet : List ℕ). length packet ≤ item_size) ps all.0 })

behind_fits : (lines : List (List ℕ)) (hr : Result RelayHead InputReason) (r : Relay) → ((h : RelayHead) → hr ≡ Ok h → IsFitHead h) → (at_line 1 hr >>= packets_behind lines) ≡ Ok r → IsFitRelay r
behind_fits lines (Err reason) r fit is = absurd cc
behind_fits lines (Ok h) r fit is = with_fit h (told_from (packet_line h.size) 2 lines) r (fit h refl) (λ ps e. lines_fit (λ (packet : List ℕ). length packet ≤ item_size) (packet_line h.size) 2 lines ps (packet_line-fits h.size) (omega arith) e) is

text_fits : (lines : List (List ℕ)) (r : Relay) → (first_and_others lines >>= relay_of_lines) ≡ Ok r → IsFitRelay r
text_fits [] r is = absurd cc
text_fits (line ∷ lines) r is = behind_fits lines (relay_head line) r (λ h e. head_fits (relay_words (words_in line)) h e) is

-- what is told of a text is fit for a board
pub relay_fits : (text : List ℕ) (r : Relay) → relay_told text ≡ Ok r → IsFitRelay r
relay_fits text r is = text_fits (input_lines text) r is
