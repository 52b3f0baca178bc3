use Rattle.std.proofs.Common.{◌≡◌, ◌<◌, ◌∙◌, ℕ, true, false, List, Option, Some, None, ap, length, sym, refl, subst}
use Rattle.std.specs.Prelude.{IfSome, IsNone, option_and_then, option_map, slice_get}
use Rattle.board_model.specs.State.{LentPacket, packet_at_place}
use Rattle.buffer_book.specs.Book.{Item, Kept, content, count_of, frame_at, lent_as}
use Rattle.domain_parts.specs.declared.holdings.Holdings.TheInside.{Inside}
use Rattle.domain_parts.specs.DomainView.{packet_lent_as, pieces_lent_as, place_of_packet_id}
use Rattle.domain_parts.specs.Parts.{Holding, Parts, parts_in, shown, state_of}
use Rattle.domain_parts.proofs.Unnaming.{lent-content, none-lent}
use Rattle.domain_parts.proofs.LentPieces.{content-are, content_now, none-there, piece-is, pieces-are, pieces-many, pieces_now}
use Rattle.domain_parts.proofs.holdings.Holdings.packet_piece.Given.{Over}
use Rattle.domain_parts.proofs.holdings.Holdings.packet_piece.Goals as goal

abbrev p : (g : Over) → Inside g.row.P.Denot → Parts
p g d = parts_in g.P.PeerLane.seen d.book d.endpoints d.requests d.table d.peers.items

-- the item that has a piece
item-of : {A : Type 0} (f : Item → Option A) (o : Option Item) (x : A) → Some x ≡ option_and_then f o → (i : Item) × (o ≡ Some i)
item-of f None x is = absurd cc
item-of f (Some i) x is = (i, refl)

no-item : (o : Option Item) → IsNone o → o ≡ None
no-item None none = refl
no-item (Some i) none = absurd cc

-- a packet with bytes is there
not-none : (o : Option LentPacket) (xs : List ℕ) → option_map (λ (x : LentPacket). x.item.content) o ≡ Some xs → IsNone o → false ≡ true
not-none None xs is none = absurd cc
not-none (Some x) xs is none = absurd cc

-- where nothing is lent under the id, no packet is
nothing : (g : Over) (c : goal.In-Err g) → packet_at_place (state_of (p g c.self.inside)) (place_of_packet_id c.self.inside.endpoints.lent c.args.id) ≡ None
nothing g c = ap (packet_at_place (state_of (p g c.self.inside))) (none-there (p g c.self.inside) c.self.invariant c.args.id (no-item (lent_as c.self.inside.book c.args.id) (c.in-Err.ensures.refused.0 refl)))

pub returns-in-Err-clause-refused : goal.returns-in-Err-clause-refused
returns-in-Err-clause-refused g c =
    let unnamed = none-lent (state_of (p g c.self.inside)) (place_of_packet_id c.self.inside.endpoints.lent c.args.id) (nothing g c) in
    (λ e. subst (λ (x : Holding g.row.P.Denot). IsNone (packet_lent_as (shown x) c.args.id)) c.self.view_is (subst IsNone (sym unnamed) refl), λ none. refl)

-- the item that is lent
lent : (g : Over) (c : goal.In-Ok g) → (i : Item) × (lent_as c.self.inside.book c.args.id ≡ Some i)
lent g c = told-of (frame_at c.self.inside.book c.args.id.peer c.args.n) (lent_as c.self.inside.book c.args.id) c.in-Ok.bytes.now c.in-Ok.ensures.content
  where
    told-of : (f : Item → Option Kept) (o : Option Item) (xs : List ℕ) → Some xs ≡ option_map content (option_and_then f o) → (i : Item) × (o ≡ Some i)
    told-of f None xs is = absurd cc
    told-of f (Some i) xs is = (i, refl)

-- the packet has its bytes
bytes : (g : Over) (c : goal.In-Ok g) → option_map (λ (x : LentPacket). x.item.content) (packet_lent_as (shown c.args.self.now) c.args.id) ≡ content_now (p g c.self.inside) c.self.invariant c.args.id
bytes g c =
    sym (ap (λ (x : Holding g.row.P.Denot). option_map (λ (y : LentPacket). y.item.content) (packet_lent_as (shown x) c.args.id)) c.self.view_is)
    ∙ lent-content (state_of (p g c.self.inside)) (place_of_packet_id c.self.inside.endpoints.lent c.args.id)

pub returns-in-Ok-clause-refused : goal.returns-in-Ok-clause-refused
returns-in-Ok-clause-refused g c =
    let i = lent g c in
    (λ e. absurd cc, not-none (packet_lent_as (shown c.args.self.now) c.args.id) _ (bytes g c ∙ content-are (p g c.self.inside) c.self.invariant c.args.id i.0 i.1))

pub returns-in-Ok-clause-bytes : goal.returns-in-Ok-clause-bytes
returns-in-Ok-clause-bytes g c =
    let i = lent g c in
    c.in-Ok.ensures.content
    ∙ ap (λ (o : Option Item). option_map content (option_and_then (frame_at c.self.inside.book c.args.id.peer c.args.n) o)) i.1
    ∙ sym (piece-is (p g c.self.inside) c.self.invariant c.args.id i.0 i.1 c.args.n)
    ∙ ap (λ (x : Holding g.row.P.Denot). option_and_then (λ (ps : List (List ℕ)). slice_get ps c.args.n) (pieces_lent_as (shown x) c.args.id)) c.self.view_is

pub lent_piece-requires : goal.lent_piece-requires
lent_piece-requires g c = by (lent_as c.self.inside.book c.args.id) refl
  where
    by : (o : Option Item) → lent_as c.self.inside.book c.args.id ≡ o → IfSome o (λ (i : Item). c.args.n < count_of i)
    by None is = tt
    by (Some i) is =
        let seen = ap (λ (x : Holding g.row.P.Denot). pieces_lent_as (shown x) c.args.id) c.self.view_is in
        let below : IfSome (pieces_now (p g c.self.inside) c.self.invariant c.args.id) (λ (ps : List (List ℕ)). c.args.n < length ps) = subst (λ (o : Option (List (List ℕ))). IfSome o (λ (ps : List (List ℕ)). c.args.n < length ps)) (sym seen) c.requires.below in
        let many : IfSome (Some _) (λ (ps : List (List ℕ)). c.args.n < length ps) = subst (λ (o : Option (List (List ℕ))). IfSome o (λ (ps : List (List ℕ)). c.args.n < length ps)) (pieces-are (p g c.self.inside) c.self.invariant c.args.id i is) below in
        subst (λ (k : ℕ). c.args.n < k) (pieces-many (p g c.self.inside) c.self.invariant c.args.id i is) many
