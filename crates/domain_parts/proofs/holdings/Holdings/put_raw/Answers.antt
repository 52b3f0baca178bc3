use Rattle.std.proofs.Common.{◌≡◌, ◌<◌, ◌∙◌, ℕ, true, false, List, ap, sym, refl, subst, map, None, rules}
use Rattle.std.specs.Prelude.{is_none, is_some}
use Rattle.mc_base.specs.Fault.{fault}
use Rattle.mc_base.specs.declared.refusal.Refusal.TheVariants.{LinkInvalid, NoBuffer, RawSound}
use Rattle.board_model.specs.Answer.{refusal}
use Rattle.board_model.specs.DomainCall.{raw_to}
use Rattle.board_model.specs.Journal.{agrees, noted_all}
use Rattle.board_model.specs.Serial.{put_entry}
use Rattle.board_model.specs.State.{place_of_peer}
use Rattle.domain_parts.specs.Parts.{state_of}
use Rattle.domain_parts.proofs.Calling.{nothing-noted, puts-done}
use Rattle.domain_parts.proofs.Meaning.{raw-means}
use Rattle.domain_parts.proofs.RawWords.{raw-done, raw-far, raw-full, raw-sound}
use Rattle.domain_parts.proofs.Steps.{free-place, not-zero}
use Rattle.domain_parts.proofs.Stepping.{acts-done, acts-refused}
use Rattle.domain_parts.proofs.holdings.Holdings.put_raw.Given.{Over}
use Rattle.domain_parts.proofs.holdings.Holdings.put_raw.Goals as goal

-- ---- it is refused

pub returns-then-not-has_peer-clause-acts : goal.returns-then-not-has_peer-clause-acts
returns-then-not-has_peer-clause-acts g c =
    let old = c.args.self.now in
    acts-refused g.P.PeerLane.Moved 0 (raw_to c.args.peer c.args.frame.now) old old LinkInvalid (raw-far (state_of old.parts) 0 c.args.peer c.args.frame.now (sym c.has_peer.ensures.peer ∙ c.if-not-has_peer.true)) refl

pub returns-then-not-has_peer-clause-told : goal.returns-then-not-has_peer-clause-told
returns-then-not-has_peer-clause-told g c =
    let s = state_of c.args.self.now.parts in
    nothing-noted s 0 (raw_to c.args.peer c.args.frame.now) LinkInvalid c.args.journal.now.lines (raw-far s 0 c.args.peer c.args.frame.now (sym c.has_peer.ensures.peer ∙ c.if-not-has_peer.true))

pub returns-then-is_none-clause-acts : goal.returns-then-is_none-clause-acts
returns-then-is_none-clause-acts g c =
    let old = c.args.self.now in
    let sound : is_none (fault c.args.frame.now) ≡ true = search rules in
    acts-refused g.P.PeerLane.Moved 0 (raw_to c.args.peer c.args.frame.now) old old RawSound (raw-sound (state_of old.parts) 0 c.args.peer c.args.frame.now (sym c.has_peer.ensures.peer ∙ c.if-not-has_peer.false) sound) refl

pub returns-then-is_none-clause-told : goal.returns-then-is_none-clause-told
returns-then-is_none-clause-told g c =
    let s = state_of c.args.self.now.parts in
    let sound : is_none (fault c.args.frame.now) ≡ true = search rules in
    nothing-noted s 0 (raw_to c.args.peer c.args.frame.now) RawSound c.args.journal.now.lines (raw-sound s 0 c.args.peer c.args.frame.now (sym c.has_peer.ensures.peer ∙ c.if-not-has_peer.false) sound)

pub returns-then-free_to-eq0-clause-acts : goal.returns-then-free_to-eq0-clause-acts
returns-then-free_to-eq0-clause-acts g c =
    let old = c.args.self.now in
    let unsound : is_none (fault c.args.frame.now) ≡ false = search rules in
    acts-refused g.P.PeerLane.Moved 0 (raw_to c.args.peer c.args.frame.now) old old NoBuffer (raw-full (state_of old.parts) 0 c.args.peer c.args.frame.now (sym c.has_peer.ensures.peer ∙ c.if-not-has_peer.false) unsound (sym c.free_to.ensures ∙ c.if-free_to-eq0.true)) refl

pub returns-then-free_to-eq0-clause-told : goal.returns-then-free_to-eq0-clause-told
returns-then-free_to-eq0-clause-told g c =
    let s = state_of c.args.self.now.parts in
    let unsound : is_none (fault c.args.frame.now) ≡ false = search rules in
    nothing-noted s 0 (raw_to c.args.peer c.args.frame.now) NoBuffer c.args.journal.now.lines (raw-full s 0 c.args.peer c.args.frame.now (sym c.has_peer.ensures.peer ∙ c.if-not-has_peer.false) unsound (sym c.free_to.ensures ∙ c.if-free_to-eq0.true))

-- ---- it is put

module _ (g : Over) (c : goal.After-put g) where
  near : is_some (place_of_peer (state_of c.args.self.now.parts) c.args.peer) ≡ true
  near = sym c.has_peer.ensures.peer ∙ c.if-not-has_peer.false

  unsound : is_none (fault c.args.frame.now) ≡ false
  unsound = search rules

  free : 0 < c.free_to.result
  free = not-zero c.free_to.result c.if-free_to-eq0.false

  unrefused : refusal (state_of c.args.self.now.parts) 0 (raw_to c.args.peer c.args.frame.now) ≡ None
  unrefused = raw-done (state_of c.args.self.now.parts) 0 c.args.peer c.args.frame.now near unsound (subst (λ (n : ℕ). 0 < n) c.free_to.ensures free)

pub returns-clause-acts : goal.returns-clause-acts
returns-clause-acts g c =
    let old = c.args.self.now in
    let at = free-place old.parts c.args.peer (subst (λ (n : ℕ). 0 < n) c.free_to.ensures (free g c)) in
    acts-done g.P.PeerLane.Moved 0 (raw_to c.args.peer c.args.frame.now) old c.put.new.self agrees None (unrefused g c) refl
    (record {
      did = c.put.ensures;
      means = raw-means old.parts c.has_peer.ensures.sound 0 c.args.peer c.args.frame.now at.0 at.1;
    })

pub returns-clause-told : goal.returns-clause-told
returns-clause-told g c =
    c.note.ensures.lines
    ∙ ap (λ (ps : List (ℕ × List ℕ)). noted_all c.args.journal.now.lines (map put_entry ps)) (sym (puts-done (state_of c.args.self.now.parts) 0 (raw_to c.args.peer c.args.frame.now) (unrefused g c)))
