use Rattle.std.proofs.Common.{◌≡◌, ◌⊎◌, inl, inr, ◌∙◌, ap, ℕ, length, refl, subst, sym}
use Rattle.mc_base.specs.declared.refusal.Refusal.{Refusal}
use Rattle.mc_base.specs.declared.refusal.Refusal.TheVariants.{NotConnected, ChanDirection, ChanType, ChanClosed, AlreadyOpen, NotOpen}
use Rattle.board_model.specs.State.{DomainState, queue_at}
use Rattle.board_model.specs.DomainCall.{DomainCall}
use Rattle.board_model.specs.Answer.{channel_at, end_call, here, holds, holds_at_end}
use Rattle.report_replay.specs.PlainCalls.{plain_call}
use Rattle.report_replay.proofs.state.State.holds.Goals as goal

-- a word of a channel's end holds there
at_end : (s : DomainState) (node : ℕ) (call : DomainCall) (word : Refusal)
    → (word ≡ NotConnected) ⊎ ((word ≡ ChanDirection) ⊎ ((word ≡ ChanType) ⊎ ((word ≡ ChanClosed) ⊎ ((word ≡ AlreadyOpen) ⊎ (word ≡ NotOpen)))))
    → holds_at_end (end_call (length (queue_at s (here node call))) call) (channel_at s (here node call)) word ≡ holds s node call word
at_end s node call word is = go is
  where
    same : Refusal → Type 0
    same w = holds_at_end (end_call (length (queue_at s (here node call))) call) (channel_at s (here node call)) w ≡ holds s node call w

    go : (word ≡ NotConnected) ⊎ ((word ≡ ChanDirection) ⊎ ((word ≡ ChanType) ⊎ ((word ≡ ChanClosed) ⊎ ((word ≡ AlreadyOpen) ⊎ (word ≡ NotOpen))))) → same word
    go (inl e) = subst same (sym e) refl
    go (inr (inl e)) = subst same (sym e) refl
    go (inr (inr (inl e))) = subst same (sym e) refl
    go (inr (inr (inr (inl e)))) = subst same (sym e) refl
    go (inr (inr (inr (inr (inl e))))) = subst same (sym e) refl
    go (inr (inr (inr (inr (inr e))))) = subst same (sym e) refl

pub returns-in-NotConnected : goal.returns-in-NotConnected
returns-in-NotConnected c =
    let s = c.args.self.now in
    let call = plain_call c.args.call.now in
    let word = c.args.word in
    c.end_refuses.ensures
    ∙ ap (λ h. holds_at_end (end_call (length (queue_at s h)) call) (channel_at s h) word) c.here-here.ensures
    ∙ at_end s c.args.node call word c.in-NotConnected.is
