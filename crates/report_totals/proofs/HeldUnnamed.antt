-- What a domain holds is counted alike with the names of frames and without them.
use Rattle.std.proofs.Common.{◌^◌, ◌<◌, Some, sym, ap, subst, ◌∙◌}
use Rattle.board_model.specs.State.{DomainState}
use Rattle.board_model.specs.Unnamed.{unnamed}
use Rattle.board_numbers.specs.Tallied.{AreHeld}
use Rattle.board_numbers.specs.declared.tally.HeldBuffers.{HeldBuffers}
use Rattle.board_model.proofs.UnnamedCounts.{messages-unnamed}
use Rattle.report_totals.specs.SmallRuns.{HoldsFew}
use Rattle.board_model.proofs.UnnamedCounts.{lent-unnamed, queued-unnamed}

pub few-named : (s : DomainState) → HoldsFew (unnamed s) → HoldsFew s
few-named s few = record {
  messages = subst (λ n. n < 2 ^ 32) (messages-unnamed s.endpoints) few.messages;
  queued = λ n some. subst (λ k. k < 2 ^ 32) (queued-unnamed n s) (few.queued n some);
  lent = λ n some. subst (λ k. k < 2 ^ 32) (lent-unnamed n s) (few.lent n some);
}

pub held-unnamed-are : (s : DomainState) (h : HeldBuffers) → AreHeld s h → AreHeld (unnamed s) h
held-unnamed-are s h held = record {
  queued = held.queued ∙ sym (messages-unnamed s.endpoints);
  places = λ n small some. held.places n small some ∙ ap Some (λ i. record { queue = sym (queued-unnamed n s) i; lent = sym (lent-unnamed n s) i });
}
