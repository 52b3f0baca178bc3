-- The numbers of all tallies are those of the messages of the run.
use Rattle.std.proofs.Common.{◌≡◌, ℕ, ◌+◌, ◌-◌, ◌<◌, ◌≤◌, ◌^◌, true, List, [], ◌∷◌, length, map, sum_by, refl, sym, ap, ap₂, ◌∙◌, arith}
use Rattle.std.specs.List.{AllByRecursion}
use Rattle.std.proofs.lemmas.List.Sums.{sum_by-cons}
use Rattle.board_model.specs.declared.totals.Totals.{Totals}
use Rattle.board_model.specs.declared.scenario.Scenario.{Scenario}
use Rattle.board_model.specs.LinkedBoard.{IsLinkedBoard}
use Rattle.board_model.specs.Step.{RunState}
use Rattle.board_model.specs.Run.{left_by}
use Rattle.board_model.specs.Board.{DomainJournal}
use Rattle.board_model.specs.Totals.{totals}
use Rattle.board_model.specs.Messages.{accepted, messages_queued, messages_in_ring}
use Rattle.board_model.specs.Drops.{dropped}
use Rattle.board_model.specs.Takings.{messages_taken}
use Rattle.board_model.specs.SerialRun.{Station, journal_left}
use Rattle.board_model.proofs.ListsCounts.{count-every}
use Rattle.board_model.proofs.MessageOnce.{total}
use Rattle.board_model.proofs.KeptBoard.{no-message-lost}
use Rattle.board_model.proofs.KeptFew.{accepted-few}
use Rattle.board_model.proofs.KeptNumbers.{sent, came, lost, numbers-told}
use Rattle.board_numbers.specs.declared.tally.Tally.{Tally}
use Rattle.board_numbers.specs.Tallied.{IsTally, AreTallies, RanBoard}
use Rattle.board_numbers.proofs.QueueLemmas.{queued_apart, messages-apart}

-- ---- sums

abbrev IsLeft : Scenario → Station → Type 0
IsLeft s t = t.run ≡ left_by s t.line t.entries

tallied : (s : Scenario) (g : Tally → ℕ) (f : DomainJournal → ℕ) → ((t : Station) (y : Tally) → IsLeft s t → IsTally s t y → g y ≡ f (journal_left t)) →
    (ts : List Station) (ys : List Tally) → AllByRecursion (IsLeft s) ts → AreTallies s ts ys → sum_by g ys ≡ total f (map journal_left ts)
tallied s g f same [] [] left all = refl
tallied s g f same [] (y ∷ ys) left all = absurd all
tallied s g f same (t ∷ ts) [] left all = absurd all
tallied s g f same (t ∷ ts) (y ∷ ys) left all = omega (arith, sum_by-cons g y ys, same t y left.0 all.0, tallied s g f same ts ys left.1 all.1)

-- ---- the numbers of messages

-- what tallies add up to
pub record Sums (s : Scenario) (js : List DomainJournal) (ys : List Tally) : Type 0 where
  pub accepts : sum_by (λ y. y.counts.sent) ys ≡ length (accepted s js)
  pub brings : sum_by (λ y. y.counts.brought) ys ≤ sum_by (λ y. y.counts.sent) ys
  pub in_ring : sum_by (λ y. y.counts.sent) ys - sum_by (λ y. y.counts.brought) ys ≡ length (messages_in_ring s js)
  pub drops_some : sum_by (λ y. y.counts.lost + y.deleted) ys ≡ length (dropped s js)
  pub queues : sum_by (λ y. y.held.queued) ys ≡ length (messages_queued s js)
  pub all : length (accepted s js) ≡ length (messages_taken s js) + length (dropped s js) + length (messages_queued s js) + length (messages_in_ring s js)
  pub few : length (accepted s js) < 2 ^ 32

pub sums : (s : Scenario) (ys : List Tally) → IsLinkedBoard s → (ts : List Station) → RanBoard s ts → AreTallies s ts ys → Sums s (map journal_left ts) ys
sums s ys board ts ran tallies =
    let js = map journal_left ts in
    let left = ran.led in
    let told = numbers-told s js board ran.run in
    let sends : sum_by (λ (y : Tally). y.counts.sent) ys ≡ total sent js = tallied s (λ y. y.counts.sent) sent (λ t y at is. is.counts.sent) ts ys left tallies in
    let brings : sum_by (λ (y : Tally). y.counts.brought) ys ≡ total came js = tallied s (λ y. y.counts.brought) came (λ t y at is. is.counts.brought) ts ys left tallies in
    let losts : sum_by (λ (y : Tally). y.counts.lost + y.deleted) ys ≡ total (lost s) js
    = tallied s (λ y. y.counts.lost + y.deleted) (lost s) (λ t y at is. omega (arith, is.counts.lost, is.deleted)) ts ys left tallies in
    let queues : sum_by (λ (y : Tally). y.held.queued) ys ≡ total (λ j. queued_apart (left_by s j.line j.entries).state) js
    = tallied s (λ y. y.held.queued) (λ j. queued_apart (left_by s j.line j.entries).state)
    (λ t y at is. is.held.queued ∙ ap (λ (r : RunState). queued_apart r.state) at) ts ys left tallies in
    record {
      accepts = sends ∙ sym told.accepts;
      brings = omega (arith, sends, brings, told.brings);
      in_ring = omega (arith, sends, brings, told.in_ring);
      drops_some = losts ∙ sym told.drops_some;
      queues = queues ∙ messages-apart s js board ran.run;
      all = omega (arith, no-message-lost s js board ran.run (λ m. true), count-every (accepted s js), count-every (messages_taken s js), count-every (dropped s js), count-every (messages_queued s js), count-every (messages_in_ring s js));
      few = omega (arith, accepted-few s js board ran.run, board.lines_few);
    }

-- the totals that these numbers are
pub totals-are : (s : Scenario) (js : List DomainJournal) (ys : List Tally) → Sums s js ys → (sent_all brought_all dropped_all queued_all taken ring : ℕ) →
    sent_all ≡ sum_by (λ y. y.counts.sent) ys → brought_all ≡ sum_by (λ y. y.counts.brought) ys → dropped_all ≡ sum_by (λ y. y.counts.lost + y.deleted) ys → queued_all ≡ sum_by (λ y. y.held.queued) ys →
    ring ≡ sent_all - brought_all → taken ≡ sent_all - dropped_all - queued_all - ring →
    ◌≡◌ {A = Totals} (record { accepted = sent_all; taken = taken; dropped = dropped_all; queued = queued_all; ring = ring }) (totals s js)
totals-are s js ys h sent_all brought_all dropped_all queued_all taken ring e1 e2 e3 e4 e5 e6 =
    let a1 : sent_all ≡ length (accepted s js) = e1 ∙ h.accepts in
    let a2 : dropped_all ≡ length (dropped s js) = e3 ∙ h.drops_some in
    let a3 : queued_all ≡ length (messages_queued s js) = e4 ∙ h.queues in
    let a4 : ring ≡ length (messages_in_ring s js) = e5 ∙ ap₂ (λ (n m : ℕ). n - m) e1 e2 ∙ h.in_ring in
    let a5 : taken ≡ length (messages_taken s js) = omega (arith, e6, a1, a2, a3, a4, h.all) in
    cc

-- the sums are small, and what was accepted is the greatest
pub record SmallSums (ys : List Tally) : Type 0 where
  pub sent : sum_by (λ y. y.counts.sent) ys < 2 ^ 64
  pub brought : sum_by (λ y. y.counts.brought) ys < 2 ^ 64
  pub dropped : sum_by (λ y. y.counts.lost + y.deleted) ys < 2 ^ 64
  pub queued : sum_by (λ y. y.held.queued) ys < 2 ^ 64
  pub brings : sum_by (λ y. y.counts.brought) ys ≤ sum_by (λ y. y.counts.sent) ys
  pub rest : sum_by (λ y. y.counts.lost + y.deleted) ys + sum_by (λ y. y.held.queued) ys + (sum_by (λ y. y.counts.sent) ys - sum_by (λ y. y.counts.brought) ys) ≤ sum_by (λ y. y.counts.sent) ys

pub small : (s : Scenario) (js : List DomainJournal) (ys : List Tally) → Sums s js ys → SmallSums ys
small s js ys h =
    let all = h.all in
    let few = h.few in
    let sent : sum_by (λ (y : Tally). y.counts.sent) ys < 2 ^ 32 = omega (arith, few, h.accepts) in
    let brings = h.brings in
    let dropped_few : sum_by (λ (y : Tally). y.counts.lost + y.deleted) ys < 2 ^ 32 = omega (arith, few, all, h.drops_some) in
    let queued_few : sum_by (λ (y : Tally). y.held.queued) ys < 2 ^ 32 = omega (arith, few, all, h.queues) in
    record {
      sent = omega (arith, sent);
      brought = omega (arith, sent, brings);
      dropped = omega (arith, dropped_few);
      queued = omega (arith, queued_few);
      brings = brings;
      rest = omega (arith, all, h.accepts, h.drops_some, h.queues, h.in_ring);
    }
