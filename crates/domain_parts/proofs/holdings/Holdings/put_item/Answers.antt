use Rattle.std.proofs.Common.{◌∙◌, ◌≤◌, ℕ, List, [], ◌∷◌, ap, map, sym, subst, arith, length}
use Rattle.mc_base.specs.Frame.{made}
use Rattle.mc_base.specs.Letter.{FitsFrame, Saying, saying_text}
use Rattle.board_model.specs.Journal.{noted_all}
use Rattle.board_model.specs.Serial.{put_entry}
use Rattle.domain_parts.specs.CallSteps.{putting_all}
use Rattle.domain_parts.specs.Pieces.{carrier_in}
use Rattle.domain_parts.specs.Parts.{state_of}
use Rattle.domain_parts.specs.Steps.{Did, frame_put}
use Rattle.domain_parts.proofs.Cutting.{single-fits, single-short}
use Rattle.domain_parts.proofs.PutItems.{counted-few, counted-needs, counted-puts, frames-fit, frames-lack, one-carries, single-puts}
use Rattle.domain_parts.proofs.holdings.Holdings.put_item.Goals as goal

-- ---- too few buffers are free

pub returns-then-free_to-count-clause-full : goal.returns-then-free_to-count-clause-full
returns-then-free_to-count-clause-full g c = frames-lack c.args.item.now c.frames-count.result c.frames-count.ensures.single c.frames-count.ensures.parts (state_of c.args.self.now.parts) (omega arith)

-- ---- in parts

pub put_parts-requires-clause-needs : goal.put_parts-requires-clause-needs
put_parts-requires-clause-needs g c = counted-needs c.args.item.now c.frames-count.result c.frames-count.ensures.single c.frames-count.ensures.parts (omega arith)

pub put_parts-requires-clause-entry_room : goal.put_parts-requires-clause-entry_room
put_parts-requires-clause-entry_room g c =
    let few = counted-few c.args.item.now c.frames-count.result c.frames-count.ensures.single c.frames-count.ensures.parts (omega arith) c.requires.short in
    let room = c.requires.entry_room in
    omega (arith, few, room)

pub put_parts-requires-clause-byte_room : goal.put_parts-requires-clause-byte_room
put_parts-requires-clause-byte_room g c =
    let few = counted-few c.args.item.now c.frames-count.result c.frames-count.ensures.single c.frames-count.ensures.parts (omega arith) c.requires.short in
    let room = c.requires.byte_room in
    omega (arith, few, room)

pub returns-then-count-gt1-clause-full : goal.returns-then-count-gt1-clause-full
returns-then-count-gt1-clause-full g c = frames-fit c.args.item.now c.frames-count.result c.frames-count.ensures.single c.frames-count.ensures.parts (state_of c.args.self.now.parts) (omega arith)

pub returns-then-count-gt1-clause-did : goal.returns-then-count-gt1-clause-did
returns-then-count-gt1-clause-did g c =
    let same = counted-puts c.args.item.now c.frames-count.result c.frames-count.ensures.single c.frames-count.ensures.parts c.if-count-gt1.true in
    subst (λ (ps : List (ℕ × List ℕ)). Did g.P.PeerLane.Moved (putting_all ps) c.args.self.now c.put_parts.new.self) same c.put_parts.ensures.did

pub returns-then-count-gt1-clause-told : goal.returns-then-count-gt1-clause-told
returns-then-count-gt1-clause-told g c =
    let same = counted-puts c.args.item.now c.frames-count.result c.frames-count.ensures.single c.frames-count.ensures.parts c.if-count-gt1.true in
    c.put_parts.ensures.told ∙ ap (λ (ps : List (ℕ × List ℕ)). noted_all c.args.journal.now.lines (map put_entry ps)) same

pub returns-then-count-gt1-clause-entry_room : goal.returns-then-count-gt1-clause-entry_room
returns-then-count-gt1-clause-entry_room g c =
    let few = counted-few c.args.item.now c.frames-count.result c.frames-count.ensures.single c.frames-count.ensures.parts c.if-count-gt1.true c.requires.short in
    let room = c.put_parts.ensures.entry_room in
    omega (arith, few, room)

pub returns-then-count-gt1-clause-byte_room : goal.returns-then-count-gt1-clause-byte_room
returns-then-count-gt1-clause-byte_room g c =
    let few = counted-few c.args.item.now c.frames-count.result c.frames-count.ensures.single c.frames-count.ensures.parts c.if-count-gt1.true c.requires.short in
    let room = c.put_parts.ensures.byte_room in
    omega (arith, few, room)

-- ---- in one frame

pub put_letter-requires-clause-lawful : goal.put_letter-requires-clause-lawful
put_letter-requires-clause-lawful g c =
    let o = c.args.item.now in
    let short = one-carries o c.frames-count.result c.frames-count.ensures.single c.frames-count.ensures.parts c.if-count-gt1.false in
    subst FitsFrame (sym c.whole-letter.ensures) (single-fits (carrier_in o.carrier) o.bytes.now c.requires.carrier short)

pub put_letter-requires-clause-short : goal.put_letter-requires-clause-short
put_letter-requires-clause-short g c =
    let o = c.args.item.now in
    let short = one-carries o c.frames-count.result c.frames-count.ensures.single c.frames-count.ensures.parts c.if-count-gt1.false in
    subst (λ (s : Saying). length (saying_text s) ≤ 496) (sym c.whole-letter.ensures) (single-short (carrier_in o.carrier) o.bytes.now short)

pub returns-clause-full : goal.returns-clause-full
returns-clause-full g c = frames-fit c.args.item.now c.frames-count.result c.frames-count.ensures.single c.frames-count.ensures.parts (state_of c.args.self.now.parts) (omega arith)

pub returns-clause-did : goal.returns-clause-did
returns-clause-did g c =
    let o = c.args.item.now in
    let M = g.P.PeerLane.Moved in
    let short = one-carries o c.frames-count.result c.frames-count.ensures.single c.frames-count.ensures.parts c.if-count-gt1.false in
    subst (λ (ps : List (ℕ × List ℕ)). Did M (putting_all ps) c.args.self.now c.put_letter.new.self) (single-puts o short)
    (subst (λ (s : Saying). Did M (frame_put o.peer (made o.source o.destination (saying_text s)) ∷ []) c.args.self.now c.put_letter.new.self) c.whole-letter.ensures c.put_letter.ensures.did)

pub returns-clause-told : goal.returns-clause-told
returns-clause-told g c =
    let o = c.args.item.now in
    let lines = c.args.journal.now.lines in
    let short = one-carries o c.frames-count.result c.frames-count.ensures.single c.frames-count.ensures.parts c.if-count-gt1.false in
    c.put_letter.ensures.told
    ∙ ap (λ (s : Saying). noted_all lines (put_entry (o.peer, made o.source o.destination (saying_text s)) ∷ [])) c.whole-letter.ensures
    ∙ ap (λ (ps : List (ℕ × List ℕ)). noted_all lines (map put_entry ps)) (single-puts o short)
