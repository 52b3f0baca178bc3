use Rattle.std.proofs.Common.{◌≡◌, ◌∙◌, ℕ, List, Some, None, ap, cond, sym, refl, false, true, rules}
use Rattle.std.specs.Prelude.{nat_lt, length, ◌||◌}
use Rattle.mc_base.specs.Letter.{msg}
use Rattle.mc_base.specs.Limits.{item_size}
use Rattle.mc_base.specs.declared.refusal.Refusal.TheVariants.{MsgSize, NoBuffer}
use Rattle.board_model.specs.Answer.{Post, has_channel, lacks_buffers, passes_lane, post, puts_of, refusal, success_puts}
use Rattle.board_model.specs.DomainCall.{DomainCall, send_from}
use Rattle.board_model.specs.State.{DomainState, endpoint_at}
use Rattle.domain_parts.specs.Parts.{state_of}
use Rattle.domain_parts.proofs.Calling.{nothing-noted}
use Rattle.domain_parts.proofs.Channels.{send-puts, send-words}
use Rattle.domain_parts.proofs.Meaning.{send-means}
use Rattle.domain_parts.proofs.Posting.{posted-place, sent-acts, sent-told}
use Rattle.domain_parts.proofs.Stepping.{acts-refused}
use Rattle.domain_parts.proofs.holdings.Holdings.put_message.Given.{Over}
use Rattle.domain_parts.proofs.holdings.Holdings.put_message.Goals as goal

-- ---- it is too long for its lane, or for any

module _ (g : Over) (c : goal.Then-is_too_long g) where
  abbrev long_call : DomainCall
  long_call = send_from c.args.from.port c.args.to c.args.priority c.args.bytes.now

  abbrev old : DomainState
  old = state_of c.args.self.now.parts

  long_has : has_channel (endpoint_at old c.args.from) ≡ false
  long_has = search rules

  long_frames : success_puts old c.args.from.node long_call ≡ puts_of (post c.args.to.domain c.address_at-source.result c.in-Some-address_of.destination (msg c.args.priority c.args.bytes.now))
  long_frames = send-puts old c.args.from.node c.args.from.port c.args.to c.args.priority c.args.bytes.now c.address_at-source.result c.in-Some-address_of.destination c.address_at-source.ensures c.in-Some-address_of.ensures

  too_long : refusal old c.args.from.node long_call ≡ Some MsgSize
  too_long =
      send-words old c.args.from.node c.args.from.port c.args.to c.args.priority c.args.bytes.now c.in-Some.place c.in-Some-address_of.destination true (sym c.in-Some.ensures.place) long_has (sym c.in-Some-address_of.ensures)
      (ap (λ (ps : List (ℕ × List ℕ)). nat_lt item_size (length c.args.bytes.now) || passes_lane old ps) long_frames ∙ sym c.is_too_long.ensures ∙ c.if-is_too_long.true)

pub returns-then-is_too_long-clause-acts : goal.returns-then-is_too_long-clause-acts
returns-then-is_too_long-clause-acts g c = acts-refused g.P.PeerLane.Moved c.args.from.node (long_call g c) c.args.self.now c.args.self.now MsgSize (too_long g c) refl

pub returns-then-is_too_long-clause-told : goal.returns-then-is_too_long-clause-told
returns-then-is_too_long-clause-told g c = nothing-noted (old g c) c.args.from.node (long_call g c) MsgSize c.args.journal.now.lines (too_long g c)

-- ---- its lane has buffers, or lacks them

module _ (g : Over) (c : goal.After-put_item g) where
  abbrev call : DomainCall
  call = send_from c.args.from.port c.args.to c.args.priority c.args.bytes.now

  abbrev sends : Post
  sends = post c.args.to.domain c.address_at-source.result c.in-Some-address_of.destination (msg c.args.priority c.args.bytes.now)

  has : has_channel (endpoint_at (state_of c.args.self.now.parts) c.args.from) ≡ false
  has = search rules

  frames : success_puts (state_of c.args.self.now.parts) c.args.from.node call ≡ puts_of sends
  frames = send-puts (state_of c.args.self.now.parts) c.args.from.node c.args.from.port c.args.to c.args.priority c.args.bytes.now c.address_at-source.result c.in-Some-address_of.destination c.address_at-source.ensures c.in-Some-address_of.ensures

  word : refusal (state_of c.args.self.now.parts) c.args.from.node call ≡ cond (lacks_buffers (state_of c.args.self.now.parts) (success_puts (state_of c.args.self.now.parts) c.args.from.node call)) (Some NoBuffer) None
  word =
      send-words (state_of c.args.self.now.parts) c.args.from.node c.args.from.port c.args.to c.args.priority c.args.bytes.now c.in-Some.place c.in-Some-address_of.destination false (sym c.in-Some.ensures.place) has (sym c.in-Some-address_of.ensures)
      (ap (λ (ps : List (ℕ × List ℕ)). nat_lt item_size (length c.args.bytes.now) || passes_lane (state_of c.args.self.now.parts) ps) frames ∙ sym c.is_too_long.ensures ∙ c.if-is_too_long.false)

pub returns-clause-acts : goal.returns-clause-acts
returns-clause-acts g c =
    let old = c.args.self.now in
    sent-acts g.P.PeerLane.Moved c.args.from.node (call g c) (sends g c) old c.put_item.new.self (word g c) (frames g c) refl refl
    (λ enough.
    let at = posted-place old.parts (sends g c) enough in
    send-means old.parts c.in-Some.ensures.sound c.args.from.node c.args.from.port c.args.to c.args.priority c.args.bytes.now c.address_at-source.result c.in-Some-address_of.destination at.0 at.1 (frames g c))
    c.put_item.result c.put_item.ensures.full c.put_item.ensures.word c.put_item.ensures.stays c.put_item.ensures.did

pub returns-clause-told : goal.returns-clause-told
returns-clause-told g c = sent-told (state_of c.args.self.now.parts) c.args.from.node (call g c) (sends g c) (word g c) (frames g c) c.args.journal.now.lines c.put_item.new.journal.lines c.put_item.result c.put_item.ensures.full c.put_item.ensures.silent c.put_item.ensures.told
