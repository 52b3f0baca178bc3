-- What the parts of a domain keep.
-- Source: the code of the domain.
use Rattle.std.specs.Prelude.{◌≡◌, ◌≤◌, ◌<◌, ◌+◌, ℕ, List, [], ◌∷◌, length, is_some, true, Contains}
use Rattle.std.specs.List.{AllByRecursion}
use Rattle.mc_base.specs.Limits.{creation_limit, last_domain, link_limit}
use Rattle.buffer_book.specs.Book.{Book, shelf_of}
use Rattle.request_set.specs.Requests.{Requests}
use Rattle.endpoint_table.specs.Table as endpoint_table
use Rattle.domain_parts.specs.LaneSeen.{LaneSeen}
use Rattle.domain_parts.specs.declared.peer.Peer.{Peer}
use Rattle.domain_parts.specs.Out.{Out, out_of}
use Rattle.domain_parts.specs.Records.{Records}
use Rattle.domain_parts.specs.InRequests.{AreReceives}
use Rattle.domain_parts.specs.InPlaces.{AreInPlaces}
use Rattle.domain_parts.specs.AllMoved.{numbers_of}
use Rattle.domain_parts.specs.Tied.{AreTied}

-- each number is less than all that follow it
abbrev pub AreRising : List ℕ → Type 0
AreRising [] = Unit {0}
AreRising (n ∷ ns) = AllByRecursion (λ m. n < m) ns × AreRising ns

-- the buffers that are out of the lane from a peer
abbrev pub out_at : {L : Type 0} → (L → LaneSeen) → Peer L → Out
out_at v p = out_of (v p.ends).size_from (v p.ends).out

-- how many buffers are out of all lanes, and how many the lanes from all peers have
abbrev pub outs_count : {L : Type 0} → (L → LaneSeen) → List (Peer L) → ℕ
outs_count v [] = 0
outs_count v (p ∷ ps) = length (v p.ends).out + outs_count v ps

abbrev pub buffers_count : {L : Type 0} → (L → LaneSeen) → List (Peer L) → ℕ
buffers_count v [] = 0
buffers_count v (p ∷ ps) = (v p.ends).size_from + buffers_count v ps

-- both lanes of a peer have one size, which a ring may have at most
pub record IsSized {L : Type 0} (v : L → LaneSeen) (p : Peer L) : Type 0 where
  pub same : (v p.ends).size_to ≡ (v p.ends).size_from
  pub fits : (v p.ends).size_from ≤ link_limit

-- the peers stand in rising number, the domain itself among them
pub record ArePeers {L : Type 0} (v : L → LaneSeen) (number : ℕ) (ps : List (Peer L)) : Type 0 where
  pub rising : AreRising (numbers_of ps)
  pub few : AllByRecursion (λ n. n ≤ last_domain) (numbers_of ps)
  pub own : Contains (numbers_of ps) number
  pub sizes : AllByRecursion (IsSized v) ps

-- the book, the endpoints, the requests, the records in use and the peers
pub record AreSound {L : Type 0} (v : L → LaneSeen) (b : Book) (r : Records) (q : Requests) (t : endpoint_table.Table) (ps : List (Peer L)) : Type 0 where
  pub peers : ArePeers v r.number ps
  -- each buffer that is out is in one item, and each item in one place
  pub places : AllByRecursion (λ p. AreInPlaces p.number r q b (out_at v p)) ps
  -- the book knows no other peers
  pub shelves : (n : ℕ) → is_some (shelf_of b n) ≡ true → Contains (numbers_of ps) n
  pub room : buffers_count v ps ≤ r.room
  pub receives : AreReceives q
  pub tied : AreTied r t (numbers_of ps)
  pub given : r.given ≤ creation_limit
