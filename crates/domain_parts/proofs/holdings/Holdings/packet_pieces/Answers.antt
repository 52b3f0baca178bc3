use Rattle.std.proofs.Common.{◌≡◌, ◌≤◌, ◌∙◌, ℕ, true, false, List, Option, Some, None, ap, length, sym, refl, subst}
use Rattle.std.specs.Prelude.{IfSome, IsNone, option_and_then, option_map, slice_get}
use Rattle.board_model.specs.State.{LentPacket, packet_at_place}
use Rattle.buffer_book.specs.Book.{Item, count_of, lent_as}
use Rattle.domain_parts.specs.declared.holdings.Holdings.TheInside.{Inside}
use Rattle.domain_parts.specs.DomainView.{content_by, packet_lent_as, pieces_lent_as, place_of_packet_id}
use Rattle.domain_parts.specs.InBook.{contents_of}
use Rattle.domain_parts.specs.Parts.{Holding, Parts, parts_in, shown, state_of}
use Rattle.domain_parts.proofs.Unnaming.{lent-content, none-lent}
use Rattle.domain_parts.proofs.LentPieces.{content-are, content_now, none-there, pieces-are, pieces-many, pieces_now, short-is}
use Rattle.domain_parts.proofs.holdings.Holdings.packet_pieces.Given.{Over}
use Rattle.domain_parts.proofs.holdings.Holdings.packet_pieces.Goals as goal
use Rattle.mc_base.specs.Limits.{item_size}

abbrev p : (g : Over) → Inside g.row.P.Denot → Parts
p g d = parts_in g.P.PeerLane.seen d.book d.endpoints d.requests d.table d.peers.items

-- the item that has a piece
item-of : {A : Type 0} (f : Item → Option A) (o : Option Item) (x : A) → Some x ≡ option_and_then f o → (i : Item) × (o ≡ Some i)
item-of f None x is = absurd cc
item-of f (Some i) x is = (i, refl)

no-item : (o : Option Item) → IsNone o → o ≡ None
no-item None none = refl
no-item (Some i) none = absurd cc

-- a packet with bytes is there
not-none : (o : Option LentPacket) (xs : List ℕ) → option_map (λ (x : LentPacket). x.item.content) o ≡ Some xs → IsNone o → false ≡ true
not-none None xs is none = absurd cc
not-none (Some x) xs is none = absurd cc

-- where nothing is lent under the id, no packet is
nothing : (g : Over) (c : goal.In-Err g) → packet_at_place (state_of (p g c.self.inside)) (place_of_packet_id c.self.inside.endpoints.lent c.args.id) ≡ None
nothing g c = ap (packet_at_place (state_of (p g c.self.inside))) (none-there (p g c.self.inside) c.self.invariant c.args.id (no-item (lent_as c.self.inside.book c.args.id) (c.in-Err.ensures.refused.0 refl)))

pub returns-in-Err-clause-refused : goal.returns-in-Err-clause-refused
returns-in-Err-clause-refused g c =
    let unnamed = none-lent (state_of (p g c.self.inside)) (place_of_packet_id c.self.inside.endpoints.lent c.args.id) (nothing g c) in
    (λ e. subst (λ (x : Holding g.row.P.Denot). IsNone (packet_lent_as (shown x) c.args.id)) c.self.view_is (subst IsNone (sym unnamed) refl), λ none. refl)

-- the item that is lent
lent : (g : Over) (c : goal.In-Ok g) → (i : Item) × (lent_as c.self.inside.book c.args.id ≡ Some i)
lent g c = told-of (lent_as c.self.inside.book c.args.id) c.in-Ok.count c.in-Ok.ensures.count
  where
    told-of : (o : Option Item) (n : ℕ) → Some n ≡ option_map count_of o → (i : Item) × (o ≡ Some i)
    told-of None n is = absurd cc
    told-of (Some i) n is = (i, refl)

-- the packet has its bytes
bytes : (g : Over) (c : goal.In-Ok g) → option_map (λ (x : LentPacket). x.item.content) (packet_lent_as (shown c.args.self.now) c.args.id) ≡ content_now (p g c.self.inside) c.self.invariant c.args.id
bytes g c =
    sym (ap (λ (x : Holding g.row.P.Denot). option_map (λ (y : LentPacket). y.item.content) (packet_lent_as (shown x) c.args.id)) c.self.view_is)
    ∙ lent-content (state_of (p g c.self.inside)) (place_of_packet_id c.self.inside.endpoints.lent c.args.id)

pub returns-in-Ok-clause-refused : goal.returns-in-Ok-clause-refused
returns-in-Ok-clause-refused g c =
    let i = lent g c in
    (λ e. absurd cc, not-none (packet_lent_as (shown c.args.self.now) c.args.id) _ (bytes g c ∙ content-are (p g c.self.inside) c.self.invariant c.args.id i.0 i.1))

-- what is seen of its pieces
seen : (g : Over) (c : goal.In-Ok g) → pieces_now (p g c.self.inside) c.self.invariant c.args.id ≡ pieces_lent_as (shown c.args.self.now) c.args.id
seen g c = ap (λ (x : Holding g.row.P.Denot). pieces_lent_as (shown x) c.args.id) c.self.view_is

pub returns-in-Ok-clause-count : goal.returns-in-Ok-clause-count
returns-in-Ok-clause-count g c =
    let i = lent g c in
    c.in-Ok.ensures.count
    ∙ ap (option_map count_of) i.1
    ∙ ap (λ (n : ℕ). Some n) (sym (pieces-many (p g c.self.inside) c.self.invariant c.args.id i.0 i.1))
    ∙ ap (option_map (λ (ps : List (List ℕ)). length ps)) (sym (pieces-are (p g c.self.inside) c.self.invariant c.args.id i.0 i.1) ∙ seen g c)

pub returns-in-Ok-clause-whole : goal.returns-in-Ok-clause-whole
returns-in-Ok-clause-whole g c =
    let i = lent g c in
    ap content_by (sym (seen g c) ∙ pieces-are (p g c.self.inside) c.self.invariant c.args.id i.0 i.1)
    ∙ sym (bytes g c ∙ content-are (p g c.self.inside) c.self.invariant c.args.id i.0 i.1)

if-short : (o : Option LentPacket) (xs : List ℕ) → option_map (λ (x : LentPacket). x.item.content) o ≡ Some xs → length xs ≤ item_size → IfSome o (λ (x : LentPacket). length x.item.content ≤ item_size)
if-short None xs is short = tt
if-short (Some x) xs is short = let same : x.item.content ≡ xs = cc in subst (λ (ys : List ℕ). length ys ≤ item_size) (sym same) short

pub returns-in-Ok-clause-short : goal.returns-in-Ok-clause-short
returns-in-Ok-clause-short g c =
    let i = lent g c in
    if-short (packet_lent_as (shown c.args.self.now) c.args.id) _ (bytes g c ∙ content-are (p g c.self.inside) c.self.invariant c.args.id i.0 i.1) (short-is (p g c.self.inside) c.self.invariant c.args.id i.0 i.1)

-- no packet is lent under the id, as contracts see it
none-seen : (g : Over) (c : goal.In-Err g) → packet_lent_as (shown c.args.self.now) c.args.id ≡ None
none-seen g c =
    sym (ap (λ (x : Holding g.row.P.Denot). packet_lent_as (shown x) c.args.id) c.self.view_is)
    ∙ none-lent (state_of (p g c.self.inside)) (place_of_packet_id c.self.inside.endpoints.lent c.args.id) (nothing g c)

pub returns-in-Err-clause-whole : goal.returns-in-Err-clause-whole
returns-in-Err-clause-whole g c =
    let none = none-there (p g c.self.inside) c.self.invariant c.args.id (no-item (lent_as c.self.inside.book c.args.id) (c.in-Err.ensures.refused.0 refl)) in
    ap content_by (sym (ap (λ (x : Holding g.row.P.Denot). pieces_lent_as (shown x) c.args.id) c.self.view_is) ∙ ap (λ (o : Option ℕ). option_and_then (λ (i : ℕ). slice_get (contents_of c.self.inside.book c.self.inside.endpoints.lent) i) o) none)
    ∙ sym (ap (option_map (λ (x : LentPacket). x.item.content)) (none-seen g c))

pub returns-in-Err-clause-short : goal.returns-in-Err-clause-short
returns-in-Err-clause-short g c = subst (λ (o : Option LentPacket). IfSome o (λ (x : LentPacket). length x.item.content ≤ item_size)) (sym (none-seen g c)) tt
