use Rattle.std.proofs.Common.{◌<◌, ◌∙◌, ℕ, List, map, ap, sym, subst}
use Rattle.std.specs.Prelude.{sum_by}
use Rattle.buffer_book.specs.Book.{AllDiffer, opening_book}
use Rattle.endpoint_table.specs.Table.{opening_table}
use Rattle.domain_parts.specs.Ends.{ends_seen}
use Rattle.domain_parts.specs.AllMoved.{ends_of}
use Rattle.domain_parts.specs.Opened.{sizes_opened}
use Rattle.domain_parts.specs.Records.{opening_records, Records}
use Rattle.domain_parts.proofs.Stepping.{sound-seen, state-seen}
use Rattle.domain_parts.proofs.Opening.{ends-opening, parts-sound, parts-state, room-fits, sizes-apart}
use Rattle.board_model.specs.Unnamed.{unnamed}
use Rattle.domain_parts.proofs.holdings.opening.Holdings+Ends+S+R.open.Goals as goal

pub buffers_in-requires : goal.buffers_in-requires
buffers_in-requires g c =
    let sizes = c.deref-3.ensures.value ∙ c.in_ok-sizes.ensures ∙ ap (sizes_opened c.args.number c.args.pool) c.deref-2.ensures.value in
    subst (λ (xs : List (ℕ × ℕ)). sum_by (λ (x : ℕ × ℕ). x.1) xs < 4294967296) (sym sizes)
    (room-fits g.S.SendEnd.size g.S.SendEnd.free g.R.RecvEnd.size g.R.RecvEnd.shown g.R.RecvEnd.out c.args.number c.args.nodes c.args.pool c.args.links.items c.requires.number c.requires.pool c.requires.peers c.requires.open)

pub new-requires-2 : goal.new-requires-2
new-requires-2 g c =
    let sizes = c.deref-5.ensures.value ∙ c.in_ok-sizes.ensures ∙ ap (sizes_opened c.args.number c.args.pool) c.deref-2.ensures.value in
    subst (λ (xs : List (ℕ × ℕ)). AllDiffer (map (λ (x : ℕ × ℕ). x.0) xs)) (sym sizes) (sizes-apart c.args.number c.args.pool c.args.links.items c.requires.peers)

pub invariant_of-result : goal.invariant_of-result
invariant_of-result g c =
    let sizes = c.in_ok-sizes.ensures ∙ ap (sizes_opened c.args.number c.args.pool) c.deref-2.ensures.value in
    let linked = c.in_ok-linked.ensures ∙ ap (map (λ l. l.peer)) c.deref.ensures.value in
    let room = c.buffers_in.ensures ∙ ap (sum_by (λ (x : ℕ × ℕ). x.1)) (c.deref-3.ensures.value ∙ sizes) in
    sound-seen (ends_seen g.S.SendEnd.size g.S.SendEnd.free g.R.RecvEnd.size g.R.RecvEnd.shown g.R.RecvEnd.out) c.in_ok-new-2.field-0 c.in_ok-open.field-0 c.in_ok-new-3.field-0 c.in_ok-new.field-0 c.in_ok-peers_of.field-0.items
    (parts-sound g.S.SendEnd.size g.S.SendEnd.free g.R.RecvEnd.size g.R.RecvEnd.shown g.R.RecvEnd.out c.args.number c.args.nodes c.args.pool c.args.links.items c.requires.number c.requires.pool c.requires.peers c.requires.open
    c.in_ok-new-2.field-0 c.in_ok-open.field-0 c.in_ok-new-3.field-0 c.in_ok-new.field-0 c.in_ok-peers_of.field-0.items
    (c.in_ok-new-2.ensures ∙ ap opening_book (c.deref-5.ensures.value ∙ sizes))
    (c.in_ok-open.ensures ∙ ap (opening_records c.args.number) room)
    c.in_ok-new-3.ensures
    (c.in_ok-new.ensures ∙ ap (opening_table c.args.number c.args.nodes) (c.deref-4.ensures.value ∙ linked))
    c.in_ok-peers_of.ensures)

pub returns-clause-numbered : goal.returns-clause-numbered
returns-clause-numbered g c =
    let sizes = c.in_ok-sizes.ensures ∙ ap (sizes_opened c.args.number c.args.pool) c.deref-2.ensures.value in
    let linked = c.in_ok-linked.ensures ∙ ap (map (λ l. l.peer)) c.deref.ensures.value in
    let room = c.buffers_in.ensures ∙ ap (sum_by (λ (x : ℕ × ℕ). x.1)) (c.deref-3.ensures.value ∙ sizes) in
    sym (state-seen (ends_seen g.S.SendEnd.size g.S.SendEnd.free g.R.RecvEnd.size g.R.RecvEnd.shown g.R.RecvEnd.out) c.in_ok-new-2.field-0 c.in_ok-open.field-0 c.in_ok-new-3.field-0 c.in_ok-new.field-0 c.in_ok-peers_of.field-0.items)
    ∙ parts-state g.S.SendEnd.size g.S.SendEnd.free g.R.RecvEnd.size g.R.RecvEnd.shown g.R.RecvEnd.out c.args.number c.args.nodes c.args.pool c.args.links.items c.requires.number c.requires.pool c.requires.peers c.requires.open
    c.in_ok-new-2.field-0 c.in_ok-open.field-0 c.in_ok-new-3.field-0 c.in_ok-new.field-0 c.in_ok-peers_of.field-0.items
    (c.in_ok-new-2.ensures ∙ ap opening_book (c.deref-5.ensures.value ∙ sizes))
    (c.in_ok-open.ensures ∙ ap (opening_records c.args.number) room)
    c.in_ok-new-3.ensures
    (c.in_ok-new.ensures ∙ ap (opening_table c.args.number c.args.nodes) (c.deref-4.ensures.value ∙ linked))
    c.in_ok-peers_of.ensures

-- nothing is there that has a name
pub returns-clause-state : goal.returns-clause-state
returns-clause-state g c = ap unnamed (returns-clause-numbered g c)

pub returns-clause-ends : goal.returns-clause-ends
returns-clause-ends g c =
    ap ends_of c.in_ok-peers_of.ensures
    ∙ ends-opening g.S.SendEnd.size g.S.SendEnd.free g.R.RecvEnd.size g.R.RecvEnd.shown g.R.RecvEnd.out c.args.number c.args.nodes c.args.pool c.args.links.items c.requires.number c.requires.pool c.requires.peers c.requires.open

pub returns-clause-packets : goal.returns-clause-packets
returns-clause-packets g c = ap (λ (r : Records). r.lent) c.in_ok-open.ensures
