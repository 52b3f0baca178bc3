-- The lines of a report that name a journal, a number or a ring have their forms, where their numbers are in range.
use Rattle.std.proofs.Common.{◌≡◌, ℕ, ◌+◌, ◌*◌, ◌/◌, ◌%◌, ◌^◌, ◌<◌, ◌≤◌, Bool, true, false, cond, List, [], ◌∷◌, length, map, bytes_eq, refl, ap, ◌∙◌, arith, eq-eqb}
use Rattle.std.specs.Prelude.{codes, decimal, nat_lt, nat_le, not, ◌==◌, ◌&&◌}
use Rattle.std.specs.List.{AllByRecursion, list_all}
use Rattle.std.proofs.lemmas.Bool.{and_from, or_right}
use Rattle.std.proofs.lemmas.Bool.Decides.{nat_tests}
use Rattle.mc_base.specs.Text.{hex_digit, hex_digits}
use Rattle.board_model.specs.declared.scenario.DomainLine.{DomainLine}
use Rattle.board_model.specs.declared.scenario.LinkLine.{LinkLine}
use Rattle.board_model.specs.declared.totals.ChannelTotals.{ChannelTotals}
use Rattle.board_model.specs.declared.totals.LanePlaces.{LanePlaces}
use Rattle.board_model.specs.declared.totals.Totals.{Totals}
use Rattle.board_model.specs.Grammar.{spaced, line_of}
use Rattle.board_model.specs.Numerals.{is_other}
use Rattle.board_model.specs.Report.{Mode, serial, threads, heading, ending, totals_words, channel_text, messages_text, places_text}
use Rattle.board_model.proofs.WordDecimals.{is_number-decimal}
use Rattle.mc_journal.specs.EntryText.{AreBytes}
use Rattle.mc_journal.proofs.Cuts.{cut-found}
use Rattle.ring_numbers.specs.RingTexts.{ring_text}
use Rattle.report_text.specs.ReportLines.{FormWord, word, number, bytes, is_small_digit, is_form_word, are_cut, are_form_words, is_line_of, has_form, exactly, small, count, long, heading_form, journal_form, channel_form, messages_form, lane_form, ring_form, ending_form}
use Rattle.report_text.proofs.KindsTold.{decimal-other}
use Rattle.report_text.proofs.LinesTold.{hex-alone}
use Rattle.report_text.proofs.UnendedWords.{HaveNone, spaced-none, channel-none, messages-none, places-none, ring-none}
use Rattle.report_laws.proofs.JournalRows.{heading_row, heading-none}

-- ---- words beside the forms that they meet

abbrev Pair : Type 0
Pair = FormWord × List ℕ

abbrev IsMet : Pair → Type 0
IsMet x = (list_all (is_other 32) x.1 ≡ true) × (is_form_word x.0 x.1 ≡ true)

abbrev forms_of : List Pair → List FormWord
forms_of xs = map (λ (x : Pair). x.0) xs

abbrev words_of : List Pair → List (List ℕ)
words_of xs = map (λ (x : Pair). x.1) xs

words-meet : (x : Pair) (xs : List Pair) → AllByRecursion IsMet (x ∷ xs) → are_form_words (forms_of (x ∷ xs)) (spaced (words_of (x ∷ xs))) ≡ true
words-meet x [] met = met.0.1
words-meet x (y ∷ xs) met =
    ap (are_cut (is_form_word x.0) (are_form_words (forms_of (y ∷ xs)))) (cut-found 32 x.1 (spaced (words_of (y ∷ xs))) met.0.0)
    ∙ and_from (is_form_word x.0 x.1) (are_form_words (forms_of (y ∷ xs)) (spaced (words_of (y ∷ xs)))) met.0.1 (words-meet y xs met.1)

line-meets : (x : Pair) (xs : List Pair) → HaveNone (words_of (x ∷ xs)) → AllByRecursion IsMet (x ∷ xs) → has_form (forms_of (x ∷ xs)) (line_of (words_of (x ∷ xs))) ≡ true
line-meets x xs none met = ap (is_line_of (forms_of (x ∷ xs))) (cut-found 10 (spaced (words_of (x ∷ xs))) [] (spaced-none (words_of (x ∷ xs)) none)) ∙ words-meet x xs met

-- ---- numbers

number-met : (least most n : ℕ) → least ≤ n → n ≤ most → most < 2 ^ 64 → IsMet (number least most, decimal n)
number-met least most n low high fits = (decimal-other 32 (omega arith) n, is_number-decimal least most n low high (omega (arith, high, fits)))

exactly-met : (n : ℕ) → n < 2 ^ 64 → IsMet (exactly n, decimal n)
exactly-met n fits = number-met n n n (omega arith) (omega arith) fits

small-met : (n : ℕ) → n < 2 ^ 8 → IsMet (small, decimal n)
small-met n fits = number-met 0 255 n (omega arith) (omega (arith, fits)) (omega arith)

count-met : (n : ℕ) → n < 2 ^ 32 → IsMet (count, decimal n)
count-met n fits = number-met 0 4294967295 n (omega arith) (omega (arith, fits)) (omega arith)

long-met : (n : ℕ) → n < 2 ^ 64 → IsMet (long, decimal n)
long-met n fits = number-met 0 18446744073709551615 n (omega arith) (omega (arith, fits)) (omega arith)

-- ---- bytes

digit-small : (d : ℕ) → d < 16 → is_small_digit (hex_digit d) ≡ true
digit-small d fits = go (nat_lt d 10) refl
  where
    go : (b : Bool) → nat_lt d 10 ≡ b → is_small_digit (cond b (48 + d) (87 + d)) ≡ true
    go true is =
        let low : nat_le 48 (48 + d) ≡ true = grind (arith, nat_tests) in
        let high : nat_le (48 + d) 57 ≡ true = grind (arith, nat_tests) in
        rw (low, high) refl
    go false is =
        let low : nat_le 97 (87 + d) ≡ true = grind (arith, nat_tests) in
        let high : nat_le (87 + d) 102 ≡ true = grind (arith, nat_tests) in
        or_right (nat_le 48 (87 + d) && nat_le (87 + d) 57) (nat_le 97 (87 + d) && nat_le (87 + d) 102) (and_from (nat_le 97 (87 + d)) (nat_le (87 + d) 102) low high)

digits-small : (bs : List ℕ) → AreBytes bs → list_all is_small_digit (hex_digits bs) ≡ true
digits-small [] fits = refl
digits-small (b ∷ bs) fits =
    let byte : b < 256 = fits.0 in
    and_from (is_small_digit (hex_digit (b / 16))) (list_all is_small_digit (hex_digit (b % 16) ∷ hex_digits bs)) (digit-small (b / 16) (omega (arith, byte)))
    (and_from (is_small_digit (hex_digit (b % 16))) (list_all is_small_digit (hex_digits bs)) (digit-small (b % 16) (omega arith)) (digits-small bs fits.1))

digits-length : (bs : List ℕ) → length (hex_digits bs) ≡ 2 * length bs
digits-length [] = refl
digits-length (b ∷ bs) = omega (arith, digits-length bs)

digits-alone : (bs : List ℕ) → 1 ≤ length bs → list_all (is_other 32) (hex_digits bs) ≡ true
digits-alone [] some = refl
digits-alone (b ∷ bs) some = hex-alone (b ∷ bs)

bytes-met : (bs : List ℕ) → 1 ≤ length bs → AreBytes bs → IsMet (bytes, hex_digits bs)
bytes-met bs some fits =
    let many = digits-length bs in
    let not_none : (length (hex_digits bs) == 0) ≡ false = grind (arith, nat_tests) in
    let halves : length (hex_digits bs) % 2 ≡ 0 = omega (arith, many) in
    let even : (length (hex_digits bs) % 2 == 0) ≡ true = eq-eqb (length (hex_digits bs) % 2) 0 halves in (
      digits-alone bs some,
      or_right (bytes_eq (hex_digits bs) (codes "-")) (not (length (hex_digits bs) == 0) && (length (hex_digits bs) % 2 == 0 && list_all is_small_digit (hex_digits bs)))
          (and_from (not (length (hex_digits bs) == 0)) (length (hex_digits bs) % 2 == 0 && list_all is_small_digit (hex_digits bs)) (ap not not_none)
          (and_from (length (hex_digits bs) % 2 == 0) (list_all is_small_digit (hex_digits bs)) even (digits-small bs fits))),
    )

-- ---- lines

pub heading-meets : (mode : Mode) → has_form (heading_form mode) (heading mode) ≡ true
heading-meets serial = refl
heading-meets threads = refl

pub ending-meets : has_form ending_form ending ≡ true
ending-meets = refl

pub journal-meets : (d : DomainLine) → d.domain < 2 ^ 64 → has_form (journal_form d.domain) (heading_row d) ≡ true
journal-meets d fits = line-meets (word (codes "journal"), codes "journal") ((exactly d.domain, decimal d.domain) ∷ []) (heading-none d) ((refl, refl), (exactly-met d.domain fits, tt))

-- the numbers of items or messages are in the range of a u64
pub record AreFew (t : Totals) : Type 0 where
  pub accepted : t.accepted < 2 ^ 64
  pub taken : t.taken < 2 ^ 64
  pub dropped : t.dropped < 2 ^ 64
  pub queued : t.queued < 2 ^ 64
  pub ring : t.ring < 2 ^ 64

totals_pairs : Totals → List Pair
totals_pairs t = (word (codes "accepted"), codes "accepted") ∷ (long, decimal t.accepted) ∷ (word (codes "taken"), codes "taken") ∷ (long, decimal t.taken) ∷ (word (codes "dropped"), codes "dropped") ∷ (long, decimal t.dropped) ∷ (word (codes "queued"), codes "queued") ∷ (long, decimal t.queued) ∷ (word (codes "ring"), codes "ring") ∷ (long, decimal t.ring) ∷ []

totals-met : (t : Totals) → AreFew t → AllByRecursion IsMet (totals_pairs t)
unfolding totals_pairs
totals-met t few = ((refl, refl), (long-met t.accepted few.accepted, ((refl, refl), (long-met t.taken few.taken, ((refl, refl), (long-met t.dropped few.dropped, ((refl, refl), (long-met t.queued few.queued, ((refl, refl), (long-met t.ring few.ring, tt))))))))))

pub channel-meets : (c : ChannelTotals) → c.owner < 2 ^ 8 → c.number < 2 ^ 32 → AreFew c.totals → has_form channel_form (channel_text c) ≡ true
unfolding totals_pairs
channel-meets c owner numbered few =
    line-meets (word (codes "channel"), codes "channel") ((small, decimal c.owner) ∷ (count, decimal c.number) ∷ totals_pairs c.totals) (channel-none c) ((refl, refl), (small-met c.owner owner, (count-met c.number numbered, totals-met c.totals few)))

pub messages-meet : (t : Totals) → AreFew t → has_form messages_form (messages_text t) ≡ true
unfolding totals_pairs
messages-meet t few = line-meets (word (codes "messages"), codes "messages") (totals_pairs t) (messages-none t) ((refl, refl), totals-met t few)

-- the line of the messages is none of a channel
pub messages-other : (t : Totals) → has_form channel_form (messages_text t) ≡ false
messages-other t = ap (is_line_of channel_form) (cut-found 10 (spaced (codes "messages" ∷ totals_words t)) [] (spaced-none (codes "messages" ∷ totals_words t) (messages-none t)))

pub record AreCounts (p : LanePlaces) : Type 0 where
  pub from : p.from < 2 ^ 64
  pub to : p.to < 2 ^ 64
  pub free : p.free < 2 ^ 32
  pub ring : p.ring < 2 ^ 32
  pub queue : p.queue < 2 ^ 32
  pub lent : p.lent < 2 ^ 32

pub places-meet : (p : LanePlaces) → AreCounts p → has_form (lane_form p.from p.to) (places_text p) ≡ true
places-meet p few =
    line-meets (word (codes "lane"), codes "lane")
    ((exactly p.from, decimal p.from) ∷ (exactly p.to, decimal p.to) ∷ (word (codes "free"), codes "free") ∷ (count, decimal p.free) ∷ (word (codes "ring"), codes "ring") ∷ (count, decimal p.ring) ∷ (word (codes "queue"), codes "queue") ∷ (count, decimal p.queue) ∷ (word (codes "lent"), codes "lent") ∷ (count, decimal p.lent) ∷ [])
    (places-none p)
    ((refl, refl), (exactly-met p.from few.from, (exactly-met p.to few.to, ((refl, refl), (count-met p.free few.free, ((refl, refl), (count-met p.ring few.ring, ((refl, refl), (count-met p.queue few.queue, ((refl, refl), (count-met p.lent few.lent, tt)))))))))))

pub ring-meets : (l : LinkLine) (queue : ℕ) (image : List ℕ) → l.driver < 2 ^ 64 → l.device < 2 ^ 64 → queue < 2 ^ 64 → 1 ≤ length image → AreBytes image → has_form (ring_form l queue) (ring_text l queue image) ≡ true
ring-meets l queue image driver device queues some fits =
    line-meets (word (codes "ring"), codes "ring") ((exactly l.driver, decimal l.driver) ∷ (exactly l.device, decimal l.device) ∷ (exactly queue, decimal queue) ∷ (bytes, hex_digits image) ∷ []) (ring-none l queue image)
    ((refl, refl), (exactly-met l.driver driver, (exactly-met l.device device, (exactly-met queue queues, (bytes-met image some fits, tt)))))
