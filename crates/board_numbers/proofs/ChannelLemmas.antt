-- The channels of a board that ran, domain by domain: what the domains count of their items.
use Rattle.std.proofs.Common.{◌≡◌, ℕ, zero, suc, ◌+◌, ◌-◌, ◌<◌, ◌^◌, cond, List, [], ◌∷◌, ◌++◌, length, map, take, flat_map, sum_by, get_or, find, Option, None, Some, option_map, slice_get, refl, sym, ap, ap₂, ◌∙◌, arith, subst, add-one, append_assoc, append-nil}
use Rattle.std.specs.Prelude.{◌==◌, count_by}
use Rattle.std.specs.List.{AllByRecursion}
use Rattle.std.proofs.lemmas.Option.{slice_get-map}
use Rattle.std.proofs.lemmas.List.Sums.{sum_by-cons}
use Rattle.board_model.specs.declared.scenario.Scenario.{Scenario}
use Rattle.board_model.specs.declared.totals.ChannelTotals.{ChannelTotals}
use Rattle.board_model.specs.declared.totals.Totals.{Totals}
use Rattle.board_model.specs.LinkedBoard.{IsLinkedBoard}
use Rattle.board_model.specs.Journal.{Line, joined}
use Rattle.board_model.specs.State.{DomainState, queue_in}
use Rattle.board_model.specs.Step.{RunState}
use Rattle.board_model.specs.Run.{left_by}
use Rattle.board_model.specs.Board.{DomainJournal}
use Rattle.board_model.specs.Channels.{items_accepted, items_taken, items_dropped, items_queued, items_in_ring}
use Rattle.board_model.specs.JournalDeeds.{left_in}
use Rattle.board_model.specs.SerialRun.{Station, journal_left}
use Rattle.board_model.specs.Totals.{item_totals, numbers_to, totals_of_channel, totals_of_owner}
use Rattle.board_model.proofs.HonestBoard.{OnBoard, each_on_board}
use Rattle.board_model.proofs.MessageAlls.{all-at}
use Rattle.board_model.proofs.MessageOnce.{total}
use Rattle.board_numbers.specs.EndedDomains.{Ended, EndsAs, EndAs}
use Rattle.board_numbers.specs.Items.{is_item_put, is_item_taken, is_item_lost}
use Rattle.board_numbers.specs.ItemCounts.{ItemsFit, IsOneOf, sent_at, brought_at, dropped_at, queued_at}
use Rattle.board_numbers.specs.Tallied.{RanBoard}
use Rattle.board_numbers.proofs.ClosedLines.{closed_in}
use Rattle.board_numbers.proofs.ItemBoard.{ItemsCounted, items-counted, put_by}
use Rattle.board_numbers.proofs.ItemQueues.{hears, queue-ended}

-- of the stations before a place, and of the next one
pub joined_next : (f : DomainJournal → List ChannelTotals) (ts : List Station) (i : ℕ) (t : Station) → slice_get ts i ≡ Some t → flat_map f (take (suc i) (map journal_left ts)) ≡ flat_map f (take i (map journal_left ts)) ++ f (journal_left t)
joined_next f [] i t at = absurd cc
joined_next f (x ∷ ts) zero t at = let same : x ≡ t = cc in append-nil (f (journal_left x)) ∙ ap (λ (y : Station). f (journal_left y)) same
joined_next f (x ∷ ts) (suc i) t at = ap (λ (cs : List ChannelTotals). f (journal_left x) ++ cs) (joined_next f ts i t at) ∙ sym (append_assoc (f (journal_left x)) (flat_map f (take i (map journal_left ts))) (f (journal_left t)))

-- ---- stations

abbrev IsLeft : Scenario → Station → Type 0
IsLeft s t = t.run ≡ left_by s t.line t.entries

pub ended-length : (ts : List Station) (es : List Ended) → EndAs ts es → length ts ≡ length es
ended-length [] [] ends = refl
ended-length [] (e ∷ es) ends = absurd ends
ended-length (t ∷ ts) [] ends = absurd ends
ended-length (t ∷ ts) (e ∷ es) ends = omega (arith, ended-length ts es ends.1)

pub ended-at : (ts : List Station) (es : List Ended) → EndAs ts es → (i : ℕ) (e : Ended) → slice_get es i ≡ Some e → (t : Station) × (slice_get ts i ≡ Some t) × EndsAs t e
ended-at [] [] ends i e at = absurd cc
ended-at [] (x ∷ es) ends i e at = absurd ends
ended-at (t ∷ ts) [] ends i e at = absurd ends
ended-at (t ∷ ts) (x ∷ es) ends zero e at = let same : x ≡ e = cc in (t, refl, subst (EndsAs t) same ends.0)
ended-at (t ∷ ts) (x ∷ es) ends (suc i) e at = ended-at ts es ends.1 i e at

-- the one at a place is one of them
read_at : (xs : List Ended) (k : ℕ) (x : Ended) → k < length xs → x ≡ get_or xs k x → slice_get xs k ≡ Some x
read_at [] k x less is = absurd (omega (arith, less))
read_at (y ∷ ys) zero x less is = ap (λ z. Some z) (sym is)
read_at (y ∷ ys) (suc k) x less is = read_at ys k x (omega (arith, less)) is

pub is-one : (es : List Ended) (i : ℕ) (e : Ended) → i < length es → e ≡ get_or es i e → IsOneOf e.number es
is-one es i e within read = (i, e, read_at es i e within read, refl)

ended_sum : (s : Scenario) (g : Ended → ℕ) (f : DomainJournal → ℕ) → ((t : Station) (e : Ended) → IsLeft s t → EndsAs t e → g e ≡ f (journal_left t)) →
    (ts : List Station) (es : List Ended) → AllByRecursion (IsLeft s) ts → EndAs ts es → sum_by g es ≡ total f (map journal_left ts)
ended_sum s g f same [] [] left ends = refl
ended_sum s g f same [] (e ∷ es) left ends = absurd ends
ended_sum s g f same (t ∷ ts) [] left ends = absurd ends
ended_sum s g f same (t ∷ ts) (e ∷ es) left ends = omega (arith, sum_by-cons g e es, same t e left.0 ends.0, ended_sum s g f same ts es left.1 ends.1)

-- what the domains count of a channel
pub record ItemSums (s : Scenario) (js : List DomainJournal) (es : List Ended) (owner n : ℕ) : Type 0 where
  pub sent : sum_by (sent_at owner n) es ≡ length (items_accepted s js owner n)
  pub brought : sum_by (brought_at owner n) es ≡ length (items_taken s js owner n) + length (items_dropped s js owner n) + length (items_queued s js owner n)
  pub dropped : sum_by (dropped_at owner n) es ≡ length (items_dropped s js owner n)
  pub queued : sum_by (queued_at owner n) es ≡ length (items_queued s js owner n)
  pub all : length (items_accepted s js owner n) ≡ length (items_taken s js owner n) + length (items_dropped s js owner n) + length (items_queued s js owner n) + length (items_in_ring s js owner n)
  pub few : length (items_accepted s js owner n) < 2 ^ 64

module _ (s : Scenario) (board : IsLinkedBoard s) (ts : List Station) (ran : RanBoard s ts) (es : List Ended) (ends : EndAs ts es) where
  abbrev js : List DomainJournal
  js = map journal_left ts

  sums_of : (owner n : ℕ) → ItemsCounted s js board ran.run n owner → ItemSums s js es owner n
  sums_of owner n counted = record {
    sent =
        ended_sum s (sent_at owner n) (put_by s js board ran.run n owner) (λ t e left is. ap₂ (λ (d : ℕ) (ls : List Line). cond (d == owner) (count_by (is_item_put n) ls) 0) is.number is.told) ts es ran.led ends
        ∙ sym counted.accepts;
    brought =
        ended_sum s (brought_at owner n) (λ j. count_by (is_item_taken owner n) (joined j.entries)) (λ t e left is. ap (count_by (is_item_taken owner n)) is.told) ts es ran.led ends
        ∙ counted.brings;
    dropped =
        ended_sum s (dropped_at owner n) (λ j. count_by (is_item_lost owner n) (joined j.entries) + closed_in owner n (joined j.entries)) (λ t e left is. ap (λ (ls : List Line). count_by (is_item_lost owner n) ls + closed_in owner n ls) is.told) ts es ran.led ends
        ∙ sym counted.drops_some;
    queued =
        ended_sum s (queued_at owner n) (λ j. length (queue_in (find (hears owner n) (left_by s j.line j.entries).state.endpoints)))
        (λ t e left is. sym (queue-ended owner n e.state) ∙ ap (λ (x : DomainState). length (queue_in (find (hears owner n) x.endpoints))) (is.state ∙ ap (λ (r : RunState). r.state) left)) ts es ran.led ends
        ∙ sym counted.queues;
    all = counted.all;
    few = counted.few;
  }

  pub item-sums : (owner : ℕ) → IsOneOf owner es → (n : ℕ) → ItemSums s js es owner n
  item-sums owner one n =
      let there = ended-at ts es ends one.0 one.1 one.2 in
      let t = there.0 in
      let counted = items-counted s js board ran.run n one.0 (journal_left t) (slice_get-map journal_left ts one.0 ∙ ap (option_map journal_left) there.1) in
      sums_of owner n (subst (ItemsCounted s js board ran.run n) (sym there.2.number ∙ one.3) counted)

  pub items-fit : (owner : ℕ) → IsOneOf owner es → ItemsFit owner es
  items-fit owner one = record {
    sent = λ n. let k = item-sums owner one n in omega (arith, k.sent, k.few);
    brought = λ n. let k = item-sums owner one n in omega (arith, k.brought, k.all, k.few);
    dropped = λ n. let k = item-sums owner one n in omega (arith, k.dropped, k.all, k.few);
    queued = λ n. let k = item-sums owner one n in omega (arith, k.queued, k.all, k.few);
  }

  -- how many channels a domain numbered
  pub given-at : (i : ℕ) (t : Station) (e : Ended) → slice_get ts i ≡ Some t → EndsAs t e → e.state.channels_given ≡ (left_in s (journal_left t)).channels_given
  given-at i t e at is =
      let on = all-at (OnBoard s js board ran.run) js i (journal_left t) (each_on_board s js board ran.run) (slice_get-map journal_left ts i ∙ ap (option_map journal_left) at) in
      ap (λ (x : DomainState). x.channels_given) is.state
      ∙ ap (λ (r : RunState). r.state.channels_given) (all-at (λ (x : Station). x.run ≡ left_by s x.line x.entries) ts i t ran.led at)
      ∙ ap (λ (x : DomainState). x.channels_given) on.told.state

  -- all channels that a domain numbered
  pub owner-channels : (i : ℕ) (e : Ended) (t : Station) (many : ℕ) → i < length es → e ≡ get_or es i e → slice_get ts i ≡ Some t → many ≡ e.state.channels_given → map (totals_of_channel s js e.number) (numbers_to many) ≡ totals_of_owner s js (journal_left t)
  owner-channels i e t many within read at given =
      let there = ended-at ts es ends i e (read_at es i e within read) in
      let same : there.0 ≡ t = some_same there.0 t (sym there.1 ∙ at) in
      let is : EndsAs t e = subst (λ x. EndsAs x e) same there.2 in
      ap₂ (λ (d k : ℕ). map (totals_of_channel s js d) (numbers_to k)) is.number (given ∙ given-at i t e at is)
    where
      some_same : (a b : Station) → Some a ≡ Some b → a ≡ b
      some_same a b e = cc

-- the totals by these numbers
pub totals-by : (s : Scenario) (js : List DomainJournal) (es : List Ended) (owner n a b d q : ℕ) → ItemSums s js es owner n → a ≡ sum_by (sent_at owner n) es → b ≡ sum_by (brought_at owner n) es → d ≡ sum_by (dropped_at owner n) es → q ≡ sum_by (queued_at owner n) es →
    ◌≡◌ {A = Totals} (record { accepted = a; taken = a - d - q - (a - b); dropped = d; queued = q; ring = a - b }) (item_totals s js owner n)
totals-by s js es owner n a b d q k is_a is_b is_d is_q =
    let accepted : a ≡ length (items_accepted s js owner n) = is_a ∙ k.sent in
    let dropped : d ≡ length (items_dropped s js owner n) = is_d ∙ k.dropped in
    let queued : q ≡ length (items_queued s js owner n) = is_q ∙ k.queued in
    let ring : a - b ≡ length (items_in_ring s js owner n) = omega (arith, is_a, is_b, k.sent, k.brought, k.all) in
    let taken : a - d - q - (a - b) ≡ length (items_taken s js owner n) = omega (arith, ring, accepted, dropped, queued, k.all) in
    cc

-- the channels of one domain more
pub channels-more : (s : Scenario) (ts : List Station) (es : List Ended) → EndAs ts es → (i : ℕ) (old new : List ChannelTotals) → i < length ts → old ≡ flat_map (totals_of_owner s (map journal_left ts)) (take i (map journal_left ts)) → ((t : Station) → slice_get ts i ≡ Some t → new ≡ old ++ totals_of_owner s (map journal_left ts) (journal_left t)) → new ≡ flat_map (totals_of_owner s (map journal_left ts)) (take (i + 1) (map journal_left ts))
channels-more s ts es ends i old new within so more = go (slice_get ts i) refl
  where
    go : (o : Option Station) → slice_get ts i ≡ o → new ≡ flat_map (totals_of_owner s (map journal_left ts)) (take (i + 1) (map journal_left ts))
    go (Some t) at =
        more t at ∙ ap (λ cs. cs ++ totals_of_owner s (map journal_left ts) (journal_left t)) so
        ∙ sym (ap (λ k. flat_map (totals_of_owner s (map journal_left ts)) (take k (map journal_left ts))) (add-one i) ∙ joined_next (totals_of_owner s (map journal_left ts)) ts i t at)
    go None at = absurd (past ts i within at)
      where
        past : (xs : List Station) (k : ℕ) → k < length xs → slice_get xs k ≡ None → ⊥
        past [] k less none = absurd (omega (arith, less))
        past (x ∷ xs) zero less none = absurd cc
        past (x ∷ xs) (suc k) less none = past xs k (omega (arith, less)) none
