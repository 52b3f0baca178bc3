-- The state of a sound domain: endpoints have addresses of their own.
use Rattle.std.proofs.Common.{◌≡◌, ℕ, ◌+◌, ◌<◌, false, List, [], ◌∷◌, map, subst, arith}
use Rattle.std.specs.List.{AllByRecursion}
use Rattle.std.proofs.lemmas.Bool.{ne_eqb}
use Rattle.mc_base.specs.Limits.{first_address}
use Rattle.board_model.specs.State as state
use Rattle.board_model.specs.State.{DomainState, is_owed_end}
use Rattle.board_model.proofs.MessageAlls.{all-filter}
use Rattle.board_model.proofs.StateEnds.{EndsApart, Ends}
use Rattle.buffer_book.specs.Book.{Book}
use Rattle.endpoint_table.specs.InTable.{IsRising}
use Rattle.endpoint_table.specs.Table.{Table}
use Rattle.endpoint_table.specs.declared.record.Record.{Record}
use Rattle.request_set.specs.Requests.{Requests}
use Rattle.domain_parts.specs.LaneSeen.{LaneSeen}
use Rattle.domain_parts.specs.declared.endpoints.Endpoint.{Endpoint}
use Rattle.domain_parts.specs.declared.peer.Peer.{Peer}
use Rattle.domain_parts.specs.InBook.{endpoints_in}
use Rattle.domain_parts.specs.Peers.{state_in}
use Rattle.domain_parts.specs.Records.{Records}
use Rattle.domain_parts.specs.Sound.{AreSound}
use Rattle.domain_parts.specs.Tied.{live_record}
use Rattle.endpoint_table.proofs.RecordLemmas.{rising-filter}

apart_of : (b : Book) (es : List Endpoint) → IsRising (map live_record es) → EndsApart (endpoints_in b es)
apart_of b [] rising = tt
apart_of b (e ∷ es) rising = (differ es rising.0, apart_of b es rising.1)
  where
    differ : (fs : List Endpoint) → AllByRecursion (λ later. e.address < later.address) (map live_record fs) → AllByRecursion (λ (f : state.Endpoint). state.has_address_of e.address f ≡ false) (endpoints_in b fs)
    differ [] later = tt
    differ (f ∷ fs) later = (ne_eqb f.address e.address (λ same. absurd (omega (arith, later.0, same))), differ fs later.1)

below_of : (b : Book) (bound : ℕ) (es : List Endpoint) → AllByRecursion (λ (x : Record). x.address < bound) (map live_record es) → AllByRecursion (λ (e : state.Endpoint). e.address < bound) (endpoints_in b es)
below_of b bound [] all = tt
below_of b bound (e ∷ es) all = (all.0, below_of b bound es all.1)

module _ {L : Type 0} (v : L → LaneSeen) (b : Book) (r : Records) (q : Requests) (t : Table) (ps : List (Peer L)) (sound : AreSound v b r q t ps) where
  pub ends-of : Ends (state_in v b r q t ps)
  ends-of = record {
    apart = apart_of b r.endpoints (subst IsRising sound.tied.live (rising-filter (λ x. x.live) t.records sound.tied.rising));
    below =
        below_of b (first_address + t.given) r.endpoints
        (subst (AllByRecursion (λ (x : Record). x.address < first_address + t.given)) sound.tied.live (all-filter (λ (x : Record). x.address < first_address + t.given) (λ x. x.live) t.records sound.tied.below));
  }
