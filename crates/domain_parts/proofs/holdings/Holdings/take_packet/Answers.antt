use Rattle.std.proofs.Common.{◌≡◌, ◌<◌, ◌∙◌, ◌∷◌, [], ℕ, false, List, Some, None, ap, arith, sym, refl, rules, subst}
use Rattle.std.specs.Prelude.{Err, option_map, slice_get, ◌==◌}
use Rattle.mc_base.specs.declared.request.PacketId.{PacketId}
use Rattle.board_model.specs.Choice.{oldest}
use Rattle.board_model.specs.DomainCall.{lend_at}
use Rattle.message_queue.specs.Queue.{Waiting}
use Rattle.packet_channel.specs.End.{end_of}
use Rattle.domain_parts.specs.Calls.{gives_whole, lent}
use Rattle.domain_parts.specs.CallSteps.{Acts}
use Rattle.domain_parts.specs.DomainView.{packet_lent_as, place_of_packet_id}
use Rattle.domain_parts.specs.Parts.{Parts, shown, state_of}
use Rattle.domain_parts.specs.Records.{slots_at, waiting_in}
use Rattle.domain_parts.specs.Steps.{Did, Step, next_lent, oldest_lent, done}
use Rattle.domain_parts.proofs.LendingMeaning.{lend-answer, lend-means, lend-steps}
use Rattle.domain_parts.proofs.PacketWords.{lend-done, lend-refused}
use Rattle.domain_parts.proofs.Steps.{first-there, queue-long}
use Rattle.domain_parts.proofs.Stepping.{acts-done, acts-refused}
use Rattle.domain_parts.proofs.Unnaming.{lent-gives}
use Rattle.domain_parts.proofs.holdings.Holdings.take_packet.Given.{Over}
use Rattle.domain_parts.proofs.holdings.Holdings.take_packet.Goals as goal

pub returns-in_err-may_recv-clause-acts : goal.returns-in_err-may_recv-clause-acts
returns-in_err-may_recv-clause-acts g c =
    let old = c.args.self.now in
    let M = g.P.PeerLane.Moved in
    let call = lend_at c.args.at.port in
    let word = c.in_err-may_recv.field-0.0 in
    let refused = lend-refused (state_of old.parts) c.args.at c.in-Some.place (end_of c.in-Some-channel_at.channel) (sym c.in-Some.ensures.place) (sym c.in-Some-channel_at.ensures.there) c.count_at.result c.count_at.ensures.count word (sym c.in_err-may_recv.was ∙ c.may_recv.ensures) in
    let answers : c.from_residual.result ≡ Err word = search rules in
    subst (λ x. Acts M c.args.at.node call old old (lent x (packet_lent_as (shown old))) None) (sym answers)
    (acts-refused M c.args.at.node call old old word refused refl)

not_eq : (n : ℕ) → (n ≡ 0 → ⊥) → (n == 0) ≡ false
not_eq n differs = grind (arith, differs)

some-queued : (n : ℕ) → (n == 0) ≡ false → 0 < n
some-queued n e = grind arith

pub lend_oldest-requires : goal.lend_oldest-requires
lend_oldest-requires g c =
    let old = c.args.self.now in
    let long = queue-long old.parts c.args.at c.in-Some.place (sym c.in-Some.ensures.place) in
    let some = some-queued c.count_at-2.result (not_eq c.count_at-2.result c.if-count_at-eq0.false) in
    record { waits = omega (arith, long, some, c.count_at-2.ensures.count) }

first : (g : Over) (c : goal.After-lend_oldest g) → Some c.lend_oldest.ensures.did.0 ≡ option_map (λ (w : Waiting). w.slot) (oldest (waiting_in (slice_get c.args.self.now.parts.records.endpoints c.in-Some.place)))
first g c = let did = c.lend_oldest.ensures.did in first-there c.args.self.now.parts c.in-Some.place did.0 (slots_at c.lend_oldest.new.self.parts.records c.in-Some.place) did.1

pub returns-clause-acts : goal.returns-clause-acts
returns-clause-acts g c =
    let M = g.P.PeerLane.Moved in
    let old = c.args.self.now in
    let new = c.lend_oldest.new.self in
    let s = state_of old.parts in
    let at = c.args.at in
    let i = c.in-Some.place in
    let there = sym c.in-Some.ensures.place in
    let did = c.lend_oldest.ensures.did in
    let slot = did.0 in
    let sound = c.in-Some.ensures.sound in
    let steps = sym (lend-steps old.parts sound i slot (first g c) at there) in
    let unrefused = lend-done s at i (end_of c.in-Some-channel_at.channel) there (sym c.in-Some-channel_at.ensures.there) c.count_at.result c.count_at.ensures.count (sym c.in_ok-may_recv.was ∙ c.may_recv.ensures)
    (ap (λ (n : ℕ). n == 0) (sym c.count_at-2.ensures.count) ∙ not_eq c.count_at-2.result c.if-count_at-eq0.false) in
    let told = ap (λ (q : Parts). gives_whole (packet_lent_as (shown (record new { parts = q })) c.lend_oldest.result)) did.3.parts in
    let answer =
    told
    ∙ ap (λ (j : PacketId). gives_whole (packet_lent_as (shown (record new { parts = done (oldest_lent i j) old.parts })) j)) did.2
    ∙ (let last = next_lent old.parts.book slot in let lent_to = done (oldest_lent i last) old.parts in lent-gives (state_of lent_to) (place_of_packet_id lent_to.records.lent last))
    ∙ lend-answer old.parts sound i slot (first g c) at there in
    acts-done M at.node (lend_at at.port) old new (gives_whole (packet_lent_as (shown new) c.lend_oldest.result)) None unrefused answer
    (record {
      did = subst (λ (cs : List Step). Did M cs old new) steps (subst (λ (j : PacketId). Did M (oldest_lent i j ∷ []) old new) did.2 did.3);
      means = lend-means old.parts sound i slot (first g c) at there;
    })

pub returns-clause-lent : goal.returns-clause-lent
returns-clause-lent g c = ap (λ (q : Parts). q.records.lent) c.lend_oldest.ensures.did.3.parts
